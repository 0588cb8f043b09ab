-- A point read from the front: whether it qualifies, and its weights, one coordinate at a time. Assumes nothing.
use mathlib.Core.Path.{◌≡◌, refl, sym, ap, ◌∙◌}
use mathlib.Core.Bool.{Bool, true, false, ◌&&◌}
use mathlib.Core.List.{List, [], ◌∷◌}
use Prim.Native.Nat.{ℕ, zero, suc, ◌+◌, ◌-◌, ◌≤◌, ◌<◌}
use native.Mathlib.Numerals.{add-one}
use native.Mathlib.Nat.{not-suc-le-zero, le_of_suc-le-suc, le_trans}
use lib.Dec.{leb}
use lib.ListN.{length, get_or, drop, drop_of_length-le}
use lib.Seq.{drop-cons}
use borrow.Author.Tests.{leb-true, le-leb, lt-leb}
use Rattle.multiindex.proofs.Tables.{first_of, second-of}
use Rattle.refine_lattice.specs.Lattice.{weights}
use Rattle.refine_lattice.specs.Children.{qualifies}

pub and-true : (a : Bool) → (a && true) ≡ a
and-true true = refl
and-true false = refl

-- the coordinates from place j on, below `top`
module _ (top : ℕ) (s : List ℕ) (j : ℕ) (h : j < length s) where
  cons : drop j s ≡ get_or s j 0 ∷ drop (j + 1) s
  cons = drop-cons s j 0 h ∙ ap (λ (n : ℕ). get_or s j 0 ∷ drop n s) (sym (add-one j))

  qualifies-step : qualifies top (drop j s) ≡ (leb (get_or s j 0) top && qualifies (get_or s j 0) (drop (j + 1) s))
  qualifies-step = ap (qualifies top) cons

  pub too-high : top < get_or s j 0 → qualifies top (drop j s) ≡ false
  too-high l = qualifies-step ∙ ap (λ (b : Bool). b && qualifies (get_or s j 0) (drop (j + 1) s)) (lt-leb (get_or s j 0) top l)

  pub goes_on : get_or s j 0 ≤ top → qualifies top (drop j s) ≡ qualifies (get_or s j 0) (drop (j + 1) s)
  goes_on l = qualifies-step ∙ ap (λ (b : Bool). b && qualifies (get_or s j 0) (drop (j + 1) s)) (le-leb (get_or s j 0) top l)

  pub not-above : qualifies top (drop j s) ≡ true → get_or s j 0 ≤ top
  not-above q = leb-true (get_or s j 0) top (first_of (leb (get_or s j 0) top) (qualifies (get_or s j 0) (drop (j + 1) s)) (sym qualifies-step ∙ q))

  pub weights-step : weights top (drop j s) ≡ (top - get_or s j 0) ∷ weights (get_or s j 0) (drop (j + 1) s)
  weights-step = ap (weights top) cons

pub qualifies-end : (top : ℕ) (s : List ℕ) (j : ℕ) → length s ≤ j → qualifies top (drop j s) ≡ true
qualifies-end top s j h = ap (qualifies top) (drop_of_length-le s {i = j} h)

pub weights-end : (top : ℕ) (s : List ℕ) (j : ℕ) → length s ≤ j → weights top (drop j s) ≡ top ∷ []
weights-end top s j h = ap (weights top) (drop_of_length-le s {i = j} h)

-- no coordinate of a point that qualifies is above R
pub below-R : (R : ℕ) (s : List ℕ) → qualifies R s ≡ true → (j : ℕ) → j < length s → get_or s j 0 ≤ R
below-R R [] q j h = absurd (not-suc-le-zero h)
below-R R (x ∷ s) q zero h = leb-true x R (first_of (leb x R) (qualifies x s) q)
below-R R (x ∷ s) q (suc j) h =
    le_trans (below-R x s (second-of (leb x R) (qualifies x s) q) j (le_of_suc-le-suc h)) (leb-true x R (first_of (leb x R) (qualifies x s) q))
