-- `grid_words::vertices` meets its contract. The invariant: the vertices of the first v points are written. Assumes nothing.
use mathlib.Core.Path.{refl, sym, ◌∙◌}
use Prim.Native.Nat.{◌<◌}
use native.Mathlib.Omega.{arith}
use native.Mathlib.Nat.{le_refl}
use Rattle.lists.proofs.Laws.{store, copied}
use Rattle.lists.proofs.Tables.{length-tab, get_or-tab}
use Rattle.quotient.specs.Points.{points_of}
use Rattle.quotient.specs.Reduce.{vertex_of}
use Rattle.quotient.proofs.Crossings.{crossing-vertex}
use Rattle.grid_words.specs.Work.{vertex_table}
use Rattle.grid_words.proofs.Corners.{points-few}
use Rattle.grid_words.proofs.vertices.Goals as goal

pub loop-v-init : goal.loop-v-init
loop-v-init c = refl

pub overflow_cast-v : goal.overflow_cast-v
overflow_cast-v c = omega (arith, c.requires.1, points-few c.args.grid c.requires.0 c.args.grid.d (le_refl c.args.grid.d), c.loop-v-test.true, c.loop-v.auto.table)

pub crossed-c-requires : goal.crossed-c-requires
crossed-c-requires c = c.requires.0

pub loop-v-preserved : goal.loop-v-preserved
loop-v-preserved c = let g = c.args.grid in
    let h : c.loop-v.v < points_of g = omega (arith, c.requires.1, c.loop-v-test.true, c.loop-v.auto.table) in
    let e = crossing-vertex g c.loop-v.v c.crossed-c.result c.crossed-c.ensures ∙ sym (get_or-tab (points_of g) (vertex_of g) c.loop-v.v 0 h) in
    rw (c.loop-v.invariant, e) (store (vertex_table g) c.args.table.now c.loop-v.v (omega (arith, length-tab (points_of g) (vertex_of g))) (omega (arith, c.requires.1)))

pub returns : goal.returns
returns c = let g = c.args.grid in
    c.loop-v.invariant ∙ copied (vertex_table g) c.args.table.now c.loop-v.v (omega (arith, length-tab (points_of g) (vertex_of g), c.requires.1, c.loop-v.auto.table, c.loop-v-test.false)) (omega (arith, c.loop-v.auto.table, c.loop-v-test.false))
