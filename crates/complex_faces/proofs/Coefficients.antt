-- A coefficient of the boundary operator is an alternating sum over the coface's facets. Assumes nothing.
use mathlib.Core.List.{List, [], ◌∷◌, ◌++◌}
use mathlib.Core.Path.{◌≡◌, refl, sym, ap, ◌∙◌}
use mathlib.Core.Bool.{Bool, true, false, ◌&&◌}
use mathlib.Core.Logic.{⊎_elim}
use Prim.Native.Nat.{ℕ, zero, suc, ◌<◌, ◌≤◌}
use native.Mathlib.Nat.{eq-or-lt_of_le}
use native.Mathlib.Decide.{dec_lt}
use native.Mathlib.Omega.{arith}
use lib.Dec.{eqb}
use borrow.Author.Tests.{eq-eqb, ne_eqb}
use lib.ListN.{length, get_or, get_or-eq_default}
use lib.IntN.{ℤ, pos, neg_ℤ, ◌+ℤ◌, +ℤ_idr, +ℤ_idl, +ℤ_assoc}
use Rattle.multiindex.specs.Sign.{Sign, plus, minus, opposite, induced, sign_number}
use Rattle.complex.specs.Facets.{facet_at}
use Rattle.complex_faces.specs.Entries.{Entry, number_of, entry_at, entries_at, entries_below, or_zero, coef, sum_of}
use Rattle.complex_faces.proofs.Alternating.{alternating, turned, by-places}

coef-append : (xs ys : List Entry) (f c : ℕ) → coef (xs ++ ys) f c ≡ coef xs f c +ℤ coef ys f c
unfolding coef
coef-append [] ys f c = sym (+ℤ_idl (coef ys f c))
coef-append (e ∷ xs) ys f c =
    ap (λ (z : ℤ). or_zero (eqb e.face f && eqb e.coface c) e.sign +ℤ z) (coef-append xs ys f c)
    ∙ sym (+ℤ_assoc (or_zero (eqb e.face f && eqb e.coface c) e.sign) (coef xs f c) (coef ys f c))

-- 1 where the word is face number f
abbrev pub is_face : List (List ℕ) → ℕ → List ℕ → ℤ
is_face faces f u = or_zero (eqb (number_of faces u) f) (pos 1)

opposite-number : (s : Sign) → sign_number (opposite s) ≡ neg_ℤ (sign_number s)
opposite-number plus = refl
opposite-number minus = refl

-- the induced sign, where the test holds, is 1 there, negated once for each position
turned-sign : (i : ℕ) (t : Bool) → or_zero t (sign_number (induced i)) ≡ turned i (or_zero t (pos 1))
turned-sign zero t = refl
turned-sign (suc i) true = opposite-number (induced i) ∙ ap neg_ℤ (turned-sign i true)
turned-sign (suc i) false = ap neg_ℤ (turned-sign i false)

both_yes : (a b : Bool) → b ≡ true → (a && b) ≡ a
both_yes true b e = e
both_yes false b e = refl

both-no : (a b : Bool) → b ≡ false → (a && b) ≡ false
both-no true b e = e
both-no false b e = refl

module _ (faces : List (List ℕ)) (f : ℕ) where
  at_own : (c : ℕ) (w : List ℕ) (n : ℕ) → coef (entries_at faces c w n) f c ≡ sum_of n (λ i. turned i (is_face faces f (facet_at w i)))
  unfolding coef entries_at
  at_own c w zero = refl
  at_own c w (suc n) =
      coef-append (entries_at faces c w n) (entry_at faces c w n ∷ []) f c
      ∙ ap (λ (z : ℤ). z +ℤ coef (entry_at faces c w n ∷ []) f c) (at_own c w n)
      ∙ ap (λ (z : ℤ). sum_of n (λ i. turned i (is_face faces f (facet_at w i))) +ℤ z)
      (+ℤ_idr (or_zero (eqb (number_of faces (facet_at w n)) f && eqb c c) (sign_number (induced n)))
      ∙ ap (λ (t : Bool). or_zero t (sign_number (induced n))) (both_yes (eqb (number_of faces (facet_at w n)) f) (eqb c c) (eq-eqb c c refl))
      ∙ turned-sign n (eqb (number_of faces (facet_at w n)) f))

  at_other : (b c : ℕ) (w : List ℕ) (n : ℕ) → (b ≡ c → ⊥) → coef (entries_at faces b w n) f c ≡ pos 0
  unfolding coef entries_at
  at_other b c w zero h = refl
  at_other b c w (suc n) h =
      coef-append (entries_at faces b w n) (entry_at faces b w n ∷ []) f c
      ∙ ap (λ (z : ℤ). z +ℤ coef (entry_at faces b w n ∷ []) f c) (at_other b c w n h)
      ∙ ap (λ (z : ℤ). pos 0 +ℤ z)
      (+ℤ_idr (or_zero (eqb (number_of faces (facet_at w n)) f && eqb b c) (sign_number (induced n)))
      ∙ ap (λ (t : Bool). or_zero t (sign_number (induced n))) (both-no (eqb (number_of faces (facet_at w n)) f) (eqb b c) (ne_eqb b c h)))

  module _ (cofaces : List (List ℕ)) where
    below_none : (n c : ℕ) → n ≤ c → coef (entries_below faces cofaces n) f c ≡ pos 0
    unfolding coef entries_below
    below_none zero c h = refl
    below_none (suc n) c h =
        coef-append (entries_below faces cofaces n) (entries_at faces n (get_or cofaces n []) (length (get_or cofaces n []))) f c
        ∙ ap (λ (z : ℤ). z +ℤ coef (entries_at faces n (get_or cofaces n []) (length (get_or cofaces n []))) f c) (below_none n c (omega arith))
        ∙ ap (λ (z : ℤ). pos 0 +ℤ z) (at_other n c (get_or cofaces n []) (length (get_or cofaces n [])) (λ e. omega arith))

    below-some : (n c : ℕ) → c < n → coef (entries_below faces cofaces n) f c ≡ alternating (is_face faces f) (get_or cofaces c [])
    unfolding entries_below
    below-some zero c h = absurd (omega arith)
    below-some (suc n) c h =
        coef-append (entries_below faces cofaces n) (entries_at faces n (get_or cofaces n []) (length (get_or cofaces n []))) f c
        ∙ ⊎_elim
        (λ (e : c ≡ n).
        ap (λ (z : ℤ). z +ℤ coef (entries_at faces n (get_or cofaces n []) (length (get_or cofaces n []))) f c) (below_none n c (omega arith))
        ∙ +ℤ_idl (coef (entries_at faces n (get_or cofaces n []) (length (get_or cofaces n []))) f c)
        ∙ ap (λ (z : ℕ). coef (entries_at faces n (get_or cofaces n []) (length (get_or cofaces n []))) f z) e
        ∙ at_own n (get_or cofaces n []) (length (get_or cofaces n []))
        ∙ by-places (is_face faces f) (get_or cofaces n [])
        ∙ ap (λ (z : ℕ). alternating (is_face faces f) (get_or cofaces z [])) (sym e))
        (λ (l : c < n).
        ap (λ (z : ℤ). coef (entries_below faces cofaces n) f c +ℤ z) (at_other n c (get_or cofaces n []) (length (get_or cofaces n [])) (λ e. omega arith))
        ∙ +ℤ_idr (coef (entries_below faces cofaces n) f c)
        ∙ below-some n c l)
        (eq-or-lt_of_le (omega arith))

    pub coefficient : (c : ℕ) → coef (entries_below faces cofaces (length cofaces)) f c ≡ alternating (is_face faces f) (get_or cofaces c [])
    coefficient c =
        elim (dec_lt c (length cofaces)) [
          | yes h ↦ below-some (length cofaces) c h
          | no h ↦ below_none (length cofaces) c (omega arith) ∙ sym (ap (alternating (is_face faces f)) (get_or-eq_default cofaces [] (omega arith)))
        ]
