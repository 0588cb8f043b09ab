-- `ordering::agreement::same_without` meets its contract. The loop's invariant: what is left from i and from j on decides. Assumes nothing.
use mathlib.Core.Path.{◌≡◌}
use Prim.Native.Nat.{◌+◌, ◌-◌, ◌≤◌}
use lib.ListN.{length}
use Rattle.lists.specs.Words.{same_word, without}
use Rattle.ordering.proofs.Without.{From}
use Rattle.ordering.proofs.agreement.same_without.Given as goal

abbrev pub invariant-loop-i : goal.invariant-loop-i
invariant-loop-i l = (l.i ≤ length l.w) × (l.j ≤ length l.u) × (same_word (without l.v l.w) (without l.t l.u) ≡ From l.w l.v l.u l.t l.i l.j)

abbrev pub decreases-loop-i : goal.decreases-loop-i
decreases-loop-i l = (length l.w - l.i) + (length l.u - l.j)
