-- The alternating sum of a function over a word's facets, taken twice, is zero: in each pair of dropped positions the one or the other goes first, with opposite signs.
-- Assumes nothing.
use mathlib.Core.List.{List, [], ◌∷◌}
use mathlib.Core.Path.{◌≡◌, refl, sym, ap, ◌∙◌}
use Prim.Native.Nat.{ℕ, zero, suc, ◌<◌}
use native.Mathlib.Omega.{arith}
use lib.ListN.{length}
use lib.IntN.{ℤ, pos, neg_ℤ, ◌+ℤ◌, ◌*ℤ◌, neg_ℤ-+ℤ, +ℤ_idr, +ℤ_invr, *ℤ-zero}
use Rattle.complex.specs.Facets.{facet_at}
use Rattle.complex_faces.specs.Entries.{sum_of}
use Rattle.complex_faces.proofs.Whole.{four, sum-times, times-neg, sum-neg, sum-front}

-- g of the word without position 0, minus g of it without position 1, and so on
abbrev pub alternating : (List ℕ → ℤ) → List ℕ → ℤ
alternating g [] = pos 0
alternating g (x ∷ w) = g w +ℤ neg_ℤ (alternating (λ u. g (x ∷ u)) w)

pub alt-ext : (g h : List ℕ → ℤ) (w : List ℕ) → ((i : ℕ) → i < length w → g (facet_at w i) ≡ h (facet_at w i)) → alternating g w ≡ alternating h w
alt-ext g h [] e = refl
alt-ext g h (x ∷ w) e =
    ap (λ (z : ℤ). z +ℤ neg_ℤ (alternating (λ u. g (x ∷ u)) w)) (e 0 (omega arith))
    ∙ ap (λ (z : ℤ). h w +ℤ neg_ℤ z) (alt-ext (λ u. g (x ∷ u)) (λ u. h (x ∷ u)) w (λ i l. e (suc i) (omega arith)))

pub alt-zero : (w : List ℕ) → alternating (λ u. pos 0) w ≡ pos 0
alt-zero [] = refl
alt-zero (x ∷ w) = ap (λ (z : ℤ). pos 0 +ℤ neg_ℤ z) (alt-zero w)

pub alt-add : (g h : List ℕ → ℤ) (w : List ℕ) → alternating (λ u. g u +ℤ h u) w ≡ alternating g w +ℤ alternating h w
alt-add g h [] = refl
alt-add g h (x ∷ w) =
    ap (λ (z : ℤ). (g w +ℤ h w) +ℤ neg_ℤ z) (alt-add (λ u. g (x ∷ u)) (λ u. h (x ∷ u)) w)
    ∙ ap (λ (z : ℤ). (g w +ℤ h w) +ℤ z) (neg_ℤ-+ℤ (alternating (λ u. g (x ∷ u)) w) (alternating (λ u. h (x ∷ u)) w))
    ∙ four (g w) (h w) (neg_ℤ (alternating (λ u. g (x ∷ u)) w)) (neg_ℤ (alternating (λ u. h (x ∷ u)) w))

pub alt-neg : (g : List ℕ → ℤ) (w : List ℕ) → alternating (λ u. neg_ℤ (g u)) w ≡ neg_ℤ (alternating g w)
alt-neg g [] = refl
alt-neg g (x ∷ w) =
    ap (λ (z : ℤ). neg_ℤ (g w) +ℤ neg_ℤ z) (alt-neg (λ u. g (x ∷ u)) w) ∙ sym (neg_ℤ-+ℤ (g w) (neg_ℤ (alternating (λ u. g (x ∷ u)) w)))

pub alt-times : (a : ℤ) (g : List ℕ → ℤ) (w : List ℕ) → a *ℤ alternating g w ≡ alternating (λ u. a *ℤ g u) w
alt-times a g [] = *ℤ-zero a
alt-times a g (x ∷ w) =
    sum-times a (g w) (neg_ℤ (alternating (λ u. g (x ∷ u)) w))
    ∙ ap (λ (z : ℤ). a *ℤ g w +ℤ z) (times-neg a (alternating (λ u. g (x ∷ u)) w))
    ∙ ap (λ (z : ℤ). a *ℤ g w +ℤ neg_ℤ z) (alt-times a (λ u. g (x ∷ u)) w)

pub alt-sum : (n : ℕ) (g : ℕ → List ℕ → ℤ) (w : List ℕ) → sum_of n (λ m. alternating (g m) w) ≡ alternating (λ u. sum_of n (λ m. g m u)) w
alt-sum zero g w = sym (alt-zero w)
alt-sum (suc n) g w = ap (λ (z : ℤ). z +ℤ alternating (g n) w) (alt-sum n g w) ∙ sym (alt-add (λ u. sum_of n (λ m. g m u)) (g n) w)

pub alt-twice : (g : List ℕ → ℤ) (w : List ℕ) → alternating (λ u. alternating g u) w ≡ pos 0
alt-twice g [] = refl
alt-twice g (x ∷ w) =
    ap (λ (z : ℤ). alternating g w +ℤ neg_ℤ z)
    (alt-add g (λ u. neg_ℤ (alternating (λ v. g (x ∷ v)) u)) w
    ∙ ap (λ (z : ℤ). alternating g w +ℤ z) (alt-neg (λ u. alternating (λ v. g (x ∷ v)) u) w ∙ ap neg_ℤ (alt-twice (λ v. g (x ∷ v)) w))
    ∙ +ℤ_idr (alternating g w))
    ∙ +ℤ_invr (alternating g w)

-- n times negated
abbrev pub turned : ℕ → ℤ → ℤ
turned zero x = x
turned (suc n) x = neg_ℤ (turned n x)

-- the same sum, by positions
pub by-places : (g : List ℕ → ℤ) (w : List ℕ) → sum_of (length w) (λ i. turned i (g (facet_at w i))) ≡ alternating g w
by-places g [] = refl
by-places g (x ∷ w) =
    sum-front (length w) (λ i. turned i (g (facet_at (x ∷ w) i)))
    ∙ ap (λ (z : ℤ). g w +ℤ z) (sum-neg (length w) (λ i. turned i (g (x ∷ facet_at w i))) ∙ ap neg_ℤ (by-places (λ u. g (x ∷ u)) w))
