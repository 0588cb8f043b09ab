-- A list written from the front: one more element, with what was there behind it. Assumes nothing.
use mathlib.Core.List.{List, [], ◌∷◌, ◌++◌}
use mathlib.Core.Path.{◌≡◌, sym, ap, ◌∙◌}
use Prim.Native.Nat.{ℕ, suc, ◌+◌, ◌<◌}
use native.Mathlib.Numerals.{add-one}
use native.Mathlib.Omega.{arith}
use lib.ListN.{length, get_or, take, drop, set}
use lib.Seq.{take-suc, drop-cons, set_at, append_snoc, length-take-le}

pub take_more : (xs : List ℕ) (i : ℕ) → i < length xs → take (i + 1) xs ≡ take i xs ++ (get_or xs i 0 ∷ [])
take_more xs i h = rw add-one (take-suc xs i 0 h)

pub put : (p d : List ℕ) (i a : ℕ) → length p ≡ i → i < length d → set (p ++ drop i d) i a ≡ (p ++ (a ∷ [])) ++ drop (i + 1) d
put p d i a e h = rw (drop-cons d i 0, add-one i) (set_at p (get_or d i 0) (drop (suc i) d) a i e ∙ sym (append_snoc p a (drop (suc i) d)))

pub put_copy : (s d : List ℕ) (i : ℕ) → i < length s → i < length d → set (take i s ++ drop i d) i (get_or s i 0) ≡ take (i + 1) s ++ drop (i + 1) d
put_copy s d i hs hd = put (take i s) d i (get_or s i 0) (length-take-le i s (omega arith)) hd ∙ ap (λ (l : List ℕ). l ++ drop (i + 1) d) (sym (take_more s i hs))
