-- `refine_jacobian::places` meets its contract. The loop's invariant: the first j places are found.
use mathlib.Core.Path.{◌≡◌}
use Prim.Native.Nat.{ℕ, ◌-◌, ◌≤◌, ◌<◌}
use lib.ListN.{length, get_or}
use Rattle.refusal.specs.Limits.{row_most}
use Rattle.refine_jacobian.specs.WorkWeights.{place_of}
use Rattle.refine_jacobian.proofs.places.Given as goal

abbrev pub invariant-loop-j : goal.invariant-loop-j
invariant-loop-j l = (length l.to ≡ row_most) × ((k : ℕ) → k < l.j → get_or l.to k 0 ≡ place_of l.word (get_or l.list k 0))
