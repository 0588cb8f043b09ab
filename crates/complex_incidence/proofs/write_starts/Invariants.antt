-- `complex_incidence::write_starts` meets its contract. The invariant: the starts of the first v vertices are written, and i, a place of the order, has not passed the start of
-- the next; in the inner loop i rises until it is there. Assumes nothing.
use mathlib.Core.Path.{◌≡◌}
use mathlib.Core.List.{◌++◌}
use Prim.Native.Nat.{◌-◌, ◌≤◌}
use lib.ListN.{drop}
use Rattle.lists.specs.Tables.{tab}
use Rattle.complex_incidence.specs.Work.{corners_below}
use Rattle.complex_incidence.proofs.write_starts.Given as goal

abbrev pub invariant-loop-v : goal.invariant-loop-v
invariant-loop-v l = (l.i ≤ corners_below l.corners l.long l.v) × (l.starts ≡ tab l.v (corners_below l.corners l.long) ++ drop l.v l.initial.starts)

abbrev pub invariant-loop-i : goal.invariant-loop-i
invariant-loop-i l = l.i ≤ corners_below l.corners l.long l.v

abbrev pub decreases-loop-i : goal.decreases-loop-i
decreases-loop-i l = l.long - l.i
