-- Handing signs out, one at a time. Assumes nothing.
use mathlib.Core.List.{List, [], ◌∷◌, ◌++◌, append-nil}
use mathlib.Core.Path.{◌≡◌, refl, ap}
use Prim.Native.Nat.{ℕ, zero, suc, ◌+◌, ◌<◌}
use native.Mathlib.Numerals.{add-one}
use native.Mathlib.Nat.{le_refl}
use native.Mathlib.Omega.{arith}
use lib.IntN.{ℤ}
use mir.Val.{to_z, of_z}
use mir.Syntax.{w32}
use lib.ListN.{length, get_or, take, drop, set, drop_of_length-le}
use Rattle.orientation_signs.specs.WorkFound.{mark_number, handed_out}

hand-suc : (marks : List ℕ) (signs : List ℤ) (i : ℕ) → i < length marks → i < length signs → set (handed_out (take i marks) ++ drop i signs) i (mark_number (get_or marks i 0)) ≡ handed_out (take (suc i) marks) ++ drop (suc i) signs
hand-suc [] signs i h k = absurd (omega arith)
hand-suc (x ∷ xs) [] i h k = absurd (omega arith)
hand-suc (x ∷ xs) (y ∷ ys) zero h k = refl
hand-suc (x ∷ xs) (y ∷ ys) (suc i) h k = ap (λ (l : List ℤ). mark_number x ∷ l) (hand-suc xs ys i (omega arith) (omega arith))

pub hand-more : (marks : List ℕ) (signs : List ℤ) (i : ℕ) → i < length marks → i < length signs → set (handed_out (take i marks) ++ drop i signs) i (mark_number (get_or marks i 0)) ≡ handed_out (take (i + 1) marks) ++ drop (i + 1) signs
hand-more marks signs i h k = rw add-one (hand-suc marks signs i h k)

pub hand-done : (marks : List ℕ) (signs : List ℤ) (i : ℕ) → i ≡ length signs → handed_out (take i marks) ++ drop i signs ≡ handed_out (take (length signs) marks)
hand-done marks signs i e = rw (e, drop_of_length-le signs (le_refl (length signs))) (append-nil (handed_out (take (length signs) marks)))

-- a sign is stored as it is
pub stored : (n : ℕ) → to_z w32 (of_z w32 (mark_number n)) ≡ mark_number n
stored zero = refl
stored (suc zero) = refl
stored (suc (suc n)) = refl
