-- `grid_mesh::crowded` meets its contract: a grid that is not tangled has no facet in three cells (proofs/Seven), and elsewhere the table of mates tells. Assumes nothing.
use mathlib.Core.Path.{sym, ◌∙◌}
use native.Mathlib.Omega.{arith}
use borrow.Author.Tests.{not-true, not-false}
use Rattle.grid_mesh.proofs.Steps.{corners-few, corners-are, finding, meeting, mates-crowded, mates-free}
use Rattle.grid_mesh.proofs.Told.{not-tangled}
use Rattle.grid_mesh.proofs.crowded.Goals as goal

pub returns-then-not-tangled : goal.returns-then-not-tangled
returns-then-not-tangled c = not-tangled c.args.grid c.requires.taken (sym c.tangled.ensures ∙ c.if-not-tangled.true)

pub cells-m-requires : goal.cells-m-requires
cells-m-requires c = finding c.args.grid c.args.keys.now c.args.rows.now c.args.spare.now c.args.counts.now c.requires

pub cells-requires : goal.cells-requires
cells-requires c = c.requires.taken

pub overflow_mul-len : goal.overflow_mul-len
overflow_mul-len c = omega (arith, corners-few c.args.grid c.requires.taken, corners-are c.args.grid c.requires.taken _ c.cells.ensures)

pub mates-requires : goal.mates-requires
mates-requires c = let q = c.cells-m in meeting c.args.grid c.args.keys.now c.args.rows.now c.args.spare.now c.args.counts.now c.requires c.cells-m.result c.cells-m.new.keys c.cells-m.new.rows c.cells-m.new.spare c.cells-m.new.counts c.cells-m.auto.keys c.cells-m.auto.rows c.cells-m.auto.spare c.cells-m.auto.counts c.cells-m.ensures.made _ (corners-are c.args.grid c.requires.taken _ c.cells.ensures)

pub returns : goal.returns
returns c = let q = c.cells-m in let x = c.mates in
    record {
      yes = λ e. mates-crowded c.args.grid c.args.keys.now c.args.rows.now c.args.spare.now c.args.counts.now c.requires c.cells-m.result c.cells-m.new.keys c.cells-m.new.rows c.cells-m.new.spare c.cells-m.new.counts c.cells-m.auto.keys c.cells-m.auto.rows c.cells-m.auto.spare c.cells-m.auto.counts c.cells-m.ensures.made (c.mates.ensures.crowd (not-true _ e));
      no = λ e. mates-free c.args.grid c.args.keys.now c.args.rows.now c.args.spare.now c.args.counts.now c.requires c.cells-m.result c.cells-m.new.keys c.cells-m.new.rows c.cells-m.new.spare c.cells-m.new.counts c.cells-m.auto.keys c.cells-m.auto.rows c.cells-m.auto.spare c.cells-m.auto.counts c.cells-m.ensures.made c.mates.new.rows (c.mates.ensures.all (not-false _ e));
    }
