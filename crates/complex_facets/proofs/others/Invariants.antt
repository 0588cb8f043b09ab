-- `complex_facets::others` meets its contract. The loop's invariant: the mates of the first i classes' first rows are stored. Assumes nothing.
use mathlib.Core.Path.{◌≡◌}
use Prim.Native.Nat.{ℕ, ◌<◌}
use lib.ListN.{get_or}
use Rattle.complex_facets.proofs.others.Given as goal

abbrev pub invariant-loop-i : goal.invariant-loop-i
invariant-loop-i l = (j : ℕ) → j < l.i → get_or l.to j 0 ≡ get_or l.mates (get_or l.reps j 0) 0
