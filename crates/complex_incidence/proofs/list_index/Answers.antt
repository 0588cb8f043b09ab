-- `complex_incidence::list_index` meets its contract: the cells, then their corners by vertex, and then the index of these cells (proofs/Steps). Assumes nothing.
use mathlib.Core.Path.{sym, subst}
use Prim.Native.Nat.{ℕ, ◌+◌, ◌*◌}
use Rattle.complex.specs.Cells.{cells_of}
use Rattle.skeleton.proofs.Steps.{making}
use Rattle.complex_incidence.specs.Work.{Sorting}
use Rattle.complex_incidence.specs.Work.{Handed}
use Rattle.complex_incidence.proofs.Steps.{sorting, handing}
use Rattle.complex_incidence.proofs.list_index.Goals as goal

pub cells-m-requires : goal.cells-m-requires
cells-m-requires c = making c.args.d c.args.words.now c.args.keys.now c.args.rows.now c.args.spare.now c.args.counts.now c.requires

pub by_vertex-requires : goal.by_vertex-requires
by_vertex-requires c =
    let q = c.cells-m in
    subst (λ (z : ℕ). Sorting (c.cells-m.result * (c.args.d + 1)) (z + 1) c.cells-m.new.keys c.cells-m.new.rows c.cells-m.new.spare c.cells-m.new.counts) (sym (c.largest.ensures))
    (sorting c.args.d c.args.words.now c.args.keys.now c.args.rows.now c.args.spare.now c.args.counts.now c.requires c.cells-m.result c.cells-m.new.keys c.cells-m.new.rows c.cells-m.new.spare c.cells-m.new.counts c.cells-m.auto.keys c.cells-m.auto.rows c.cells-m.auto.spare c.cells-m.auto.counts c.cells-m.ensures)

pub returns : goal.returns
returns c =
    let q = c.cells-m in
    let b = c.by_vertex in
    let h = c.hand_index in
    subst (λ (z : ℕ). Handed (cells_of c.args.d c.args.words.now) (z + 1) c.hand_index.result c.args.touching.now c.hand_index.new.touching c.args.starts.now c.hand_index.new.starts) (c.largest.ensures)
    (c.hand_index.ensures (cells_of c.args.d c.args.words.now) (handing c.args.d c.args.words.now c.args.keys.now c.args.rows.now c.args.spare.now c.args.counts.now c.requires c.cells-m.result c.cells-m.new.keys c.cells-m.new.rows c.cells-m.new.spare c.cells-m.new.counts c.cells-m.auto.keys c.cells-m.auto.rows c.cells-m.auto.spare c.cells-m.auto.counts c.cells-m.ensures _ c.by_vertex.new.keys c.by_vertex.ensures.1))
