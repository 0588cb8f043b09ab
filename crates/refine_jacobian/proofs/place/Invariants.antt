-- `refine_jacobian::place` meets its contract. The loop's invariant: v does not stand among the first i.
use mathlib.Core.Path.{◌≡◌}
use Prim.Native.Nat.{◌+◌, ◌-◌, ◌≤◌}
use lib.ListN.{length, drop}
use Rattle.refine_jacobian.specs.WorkWeights.{place_of}
use Rattle.refine_jacobian.proofs.place.Given as goal

abbrev pub invariant-loop-i : goal.invariant-loop-i
invariant-loop-i l = place_of l.word l.v ≡ l.i + place_of (drop l.i l.word) l.v
