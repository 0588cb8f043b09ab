-- `complex_incidence::write_starts` meets its contract. The invariant: the starts of the first v vertices are written, and i, a place of the order, has not passed the start of
-- the next; in the inner loop i rises until it is there. Assumes nothing.
use mathlib.Core.Path.{◌≡◌, ap, ◌∙◌}
use mathlib.Core.List.{List}
use Prim.Native.Nat.{ℕ, ◌+◌}
use native.Mathlib.Omega.{arith}
use lib.ListN.{set}
use Rattle.complex_incidence.specs.Work.{corners_below}
use Rattle.complex_incidence.proofs.Corners.{tab-put}
use Rattle.complex_incidence.proofs.Steps.{at_most, at-rises, step-yes, step-no}
use Rattle.complex_incidence.proofs.write_starts.Goals as goal

pub loop-i-preserved : goal.loop-i-preserved
loop-i-preserved c =
    step-yes c.args.vertices c.args.long c.args.corners.now c.args.order.now c.requires.0 c.loop-v.v c.loop-i.i _ (omega arith) c.is_below.ensures c.loop-i-test.true

pub overflow_cast-starts : goal.overflow_cast-starts
overflow_cast-starts c = omega (arith, c.loop-i.invariant, at_most c.args.vertices c.args.long c.args.corners.now c.args.order.now c.requires.0 c.loop-v.v (omega arith), c.requires.0.few)

pub loop-v-preserved : goal.loop-v-preserved
loop-v-preserved c =
    let t = step-no c.args.vertices c.args.long c.args.corners.now c.args.order.now c.requires.0 c.loop-v.v c.loop-i.i _ (omega arith) c.loop-i.invariant c.is_below.ensures c.loop-i-test.false in
    (omega (arith, t, at-rises c.args.vertices c.args.long c.args.corners.now c.args.order.now c.requires.0 c.loop-v.v), ap (λ (z : List ℕ). set z c.loop-v.v c.loop-i.i) c.loop-v.invariant.1 ∙ tab-put (corners_below c.args.corners.now c.args.long) c.args.starts.now c.loop-v.v c.loop-i.i t (omega (arith, c.requires.1)))

pub returns : goal.returns
returns c = let e : c.loop-v.v ≡ c.args.vertices + 1 = omega arith in rw e at c.loop-v.invariant.1
