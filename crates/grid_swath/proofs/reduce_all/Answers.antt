-- `grid_swath::reduce_all` meets its contract. The loop's invariant: the first i points are reduced. Assumes nothing.
use mathlib.Core.Path.{refl, ap, ◌∙◌}
use native.Mathlib.Omega.{arith}
use lib.ListN.{set}
use lib.ListN.{drop_of_length-le}
use lib.Seq.{take_all}
use mathlib.Core.List.{append-nil}
use Rattle.quotient.specs.Reduce.{vertex_of}
use Rattle.quotient.proofs.Crossings.{crossing-vertex}
use Rattle.grid_swath.proofs.Steps.{turn}
use Rattle.grid_swath.proofs.reduce_all.Goals as goal

pub loop-i-init : goal.loop-i-init
loop-i-init c = refl

pub crossed-c-requires : goal.crossed-c-requires
crossed-c-requires c = c.requires.0

pub bounds-glued-i : goal.bounds-glued-i
bounds-glued-i c =
    omega (arith, c.requires.1, c.loop-i.auto.glued, c.loop-i-test.true)

pub loop-i-preserved : goal.loop-i-preserved
loop-i-preserved c =
    ap (set c.loop-i.glued c.loop-i.i) (crossing-vertex _ _ _ c.crossed-c.ensures)
    ∙ turn (vertex_of c.args.grid) c.args.points.now c.args.glued.now c.loop-i.glued c.loop-i.i c.loop-i-test.true (omega (arith, c.requires.1, c.loop-i-test.true)) c.loop-i.invariant

pub returns : goal.returns
returns c =
    c.loop-i.invariant
    ∙ simp (take_all c.loop-i.i c.args.points.now c.loop-i-test.false, drop_of_length-le c.args.glued.now {i = c.loop-i.i} (omega (arith, c.requires.1, c.loop-i-test.false)), append-nil)
