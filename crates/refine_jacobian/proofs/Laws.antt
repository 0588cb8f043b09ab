-- A list written from the front by a function on its places, and the search for a vertex's place. Assumes nothing.
use mathlib.Core.Bool.{Bool, true, false, cond}
use mathlib.Core.List.{List, [], ◌∷◌, ◌++◌, map}
use mathlib.Core.Path.{◌≡◌, refl, sym, ap, ◌∙◌, subst}
use Prim.Native.Nat.{ℕ, zero, suc, ◌+◌, ◌-◌, ◌*◌, ◌/◌, ◌%◌, ◌≤◌, ◌<◌}
use native.Mathlib.Nat.{suc-mul, mul-le-mul, mul-le-mul_right, mod-lt, div-lt_iff_lt-mul}
use native.Mathlib.Decide.{dec_lt}
use native.Mathlib.Numerals.{add-one}
use native.Mathlib.Omega.{arith}
use lib.Dec.{eqb, ltb}
use lib.IntN.{ℤ, pos, negsuc, ◌-ℤ◌}
use lib.Signed.{mag}
use mir.Syntax.{w32}
use mir.Val.{SFits, to_z, of_z}
use mir.Facts.{to_z_pos, to_z-of_z}
use lib.ListN.{length, get_or, drop, set, drop_of_length-le}
use lib.Seq.{drop-cons, set_at, append_snoc, get_or-set_same, get_or-set_other}
use borrow.Author.Tests.{eq-eqb, ne_eqb, le-ltb, lt-ltb}
use Rattle.refusal.specs.Limits.{most_dimension, row_most}
use Rattle.lists.specs.Words.{found_at}
use Rattle.lists.specs.Tables.{tab}
use Rattle.lists.proofs.Tables.{length-tab}
use Rattle.refine_jacobian.specs.WorkWeights.{place_of, weight_of, entry_at, Placed, Seated}

module _ {A : Type 0} where
  snoc-tab : (n : ℕ) (f : ℕ → A) → tab (suc n) f ≡ tab n f ++ (f n ∷ [])
  snoc-tab zero f = refl
  snoc-tab (suc n) f = ap {B = List A} (λ r. f zero ∷ r) (snoc-tab n (λ k. f (suc k)))

  append-nil : (l : List A) → l ++ [] ≡ l
  append-nil [] = refl
  append-nil (x ∷ l) = ap {B = List A} (λ t. x ∷ t) (append-nil l)

  -- one more
  pub tab-store : (f : ℕ → A) (to : List A) (e : ℕ) (v : A) → v ≡ f e → e < length to → set (tab e f ++ drop e to) e v ≡ tab (e + 1) f ++ drop (e + 1) to
  tab-store f to e v h l =
      ap (λ (r : List A). set (tab e f ++ r) e v) (drop-cons to e v l)
      ∙ set_at (tab e f) (get_or to e v) (drop (suc e) to) v e (length-tab e f)
      ∙ sym (append_snoc (tab e f) v (drop (suc e) to))
      ∙ ap (λ (x : A). (tab e f ++ (x ∷ [])) ++ drop (suc e) to) h
      ∙ ap (λ (r : List A). r ++ drop (suc e) to) (sym (snoc-tab e f))
      ∙ ap (λ (n : ℕ). tab n f ++ drop n to) (sym (add-one e))

  -- all of them
  pub tab-full : (f : ℕ → A) (to : List A) (n e : ℕ) → e ≡ n → length to ≡ n → tab e f ++ drop e to ≡ tab n f
  tab-full f to n e h l =
      ap (λ (k : ℕ). tab k f ++ drop k to) h ∙ ap (λ (r : List A). tab n f ++ r) (drop_of_length-le to {i = n} (omega arith)) ∙ append-nil (tab n f)

pub tab-map : {A : Type 0} (f : ℕ → A) (l : List ℕ) → tab (length l) (λ j. f (get_or l j 0)) ≡ map f l
tab-map f [] = refl
tab-map {A} f (x ∷ l) = ap {B = List A} (λ r. f x ∷ r) (tab-map f l)

-- ---- a vertex's place
place-step : (w : List ℕ) (v i : ℕ) → i < length w → place_of (drop i w) v ≡ found_at (eqb (get_or w i 0) v) (place_of (drop (i + 1) w) v)
unfolding place_of
place-step w v i h = rw add-one (ap (λ (l : List ℕ). place_of l v) (drop-cons w i 0 h))

pub place-hit : (w : List ℕ) (v i : ℕ) → i < length w → get_or w i 0 ≡ v → place_of (drop i w) v ≡ 0
unfolding found_at
place-hit w v i h e = place-step w v i h ∙ ap (λ (b : Bool). found_at b (place_of (drop (i + 1) w) v)) (eq-eqb (get_or w i 0) v e)

pub place-miss : (w : List ℕ) (v i : ℕ) → i < length w → (get_or w i 0 ≡ v → ⊥) → place_of (drop i w) v ≡ suc (place_of (drop (i + 1) w) v)
unfolding found_at
place-miss w v i h e = place-step w v i h ∙ ap (λ (b : Bool). found_at b (place_of (drop (i + 1) w) v)) (ne_eqb (get_or w i 0) v e)

pub place_end : (w : List ℕ) (v i : ℕ) → length w ≤ i → place_of (drop i w) v ≡ 0
unfolding place_of
place_end w v i h = ap (λ (l : List ℕ). place_of l v) (drop_of_length-le w h)

-- ---- the corners' weights
pub corner-in : (a b n m : ℕ) → a < n → b < m → a * m + b < n * m
corner-in a b n m h k = omega (arith, mul-le-mul_right m h, suc-mul a m)

-- an entry's column and row
pub some-column : (d e : ℕ) → e < d * d → 0 < d
some-column zero e h = absurd (omega arith)
some-column (suc d) e h = omega arith

pub column-in : (d e : ℕ) → e < d * d → e / d < d
column-in d e h = (div-lt_iff_lt-mul (some-column d e h)).1 h

pub row_in : (d e : ℕ) → e < d * d → e % d < d
row_in d e h = mod-lt e (some-column d e h)

-- ---- places found once
pub placed-more : (f : ℕ → ℕ) (to : List ℕ) (j v : ℕ) → j < length to → v ≡ f j → ((k : ℕ) → k < j → get_or to k 0 ≡ f k) → (k : ℕ) → k < j + 1 → get_or (set to j v) k 0 ≡ f k
placed-more f to j v l e h k b =
    elim (dec_lt k j) [
      | yes i ↦ get_or-set_other to j k v 0 (λ q. omega (arith, q)) ∙ h k i
      | no i ↦
          let q : k ≡ j = omega arith in
          ap (λ (x : ℕ). get_or (set to j v) x 0) q ∙ get_or-set_same to j v 0 l ∙ e ∙ ap f (sym q)
    ]

module _ (d : ℕ) (corners seats slots : List ℕ) (p : Placed d corners seats slots) where
  -- the place of a weight, as the code writes it
  pub place_in : (j l : ℕ) → j ≤ d → l ≤ d → get_or seats j 0 * (d + 1) + get_or slots l 0 < length corners
  place_in j l h k =
      omega (
        arith,
        corner-in (get_or seats j 0) (get_or slots l 0) (d + 1) (d + 1) (omega (arith, p.seat j h)) (omega (arith, p.slot l k)),
        ap (λ (x : ℕ). x * x) (add-one d),
        p.corners_long,
      )

  pub place-low : (j l : ℕ) → j ≤ d → l ≤ d → get_or seats j 0 * (d + 1) + get_or slots l 0 < row_most * row_most
  place-low j l h k =
      let a : get_or seats j 0 ≤ most_dimension = omega (arith, p.seat j h, p.dim) in
      let b : d + 1 ≤ row_most = omega (arith, p.dim) in
      omega (arith, mul-le-mul a b, p.slot l k, p.dim)

  pub place-small : (j l : ℕ) → j ≤ d → l ≤ d → get_or corners (get_or seats j 0 * (d + 1) + get_or slots l 0) 0 < 2147483648
  place-small j l h k = p.small (get_or seats j 0 * (d + 1) + get_or slots l 0) (place_in j l h k)

pub place_is : (d : ℕ) (corners seats slots : List ℕ) (j j' l : ℕ) → j ≡ j' → get_or corners (get_or seats j 0 * (d + 1) + get_or slots (l + 1) 0) 0 ≡ entry_at d corners seats slots j' (suc l)
place_is d corners seats slots j j' l e =
    ap (λ (x : ℕ). get_or corners (get_or seats x 0 * (d + 1) + get_or slots (l + 1) 0) 0) e
    ∙ ap (λ (n : ℕ). get_or corners (get_or seats j' 0 * n + get_or slots (l + 1) 0) 0) (add-one d)
    ∙ ap (λ (x : ℕ). get_or corners (get_or seats j' 0 * suc d + get_or slots x 0) 0) (add-one l)

module _ (d : ℕ) (corners names word parent cell seats slots : List ℕ) (s : Seated d corners names word parent cell)
    (at_Names : (j : ℕ) → j < length cell → get_or seats j 0 ≡ place_of names (get_or cell j 0))
    (at-word : (l : ℕ) → l < length parent → get_or slots l 0 ≡ place_of word (get_or parent l 0)) where
  pub seats-placed : Placed d corners seats slots
  seats-placed = record {
    dim = s.dim;
    corners_long = s.corners_long;
    small = s.small;
    seat = λ j h. omega (arith, at_Names j (omega (arith, s.cell_long)), s.named j h);
    slot = λ l h. omega (arith, at-word l (omega (arith, s.parent_long)), s.worded l h);
  }

  pub entry-weight : (j l : ℕ) → j ≤ d → l ≤ d → entry_at d corners seats slots j l ≡ weight_of corners names word (get_or cell j 0) (get_or parent l 0)
  entry-weight j l h k =
      ap (λ (x : ℕ). get_or corners (x * suc d + get_or slots l 0) 0) (at_Names j (omega (arith, s.cell_long)))
      ∙ ap (λ (y : ℕ). get_or corners (place_of names (get_or cell j 0) * suc d + y) 0) (at-word l (omega (arith, s.parent_long)))
      ∙ ap (λ (n : ℕ). get_or corners (place_of names (get_or cell j 0) * n + place_of word (get_or parent l 0)) 0) (sym s.word_long)

-- an entry of the nine: within the d·d, and past them
pub entry_in : {A : Type 0} (d e : ℕ) (x z : A) → e < d * d → x ≡ cond (ltb e (d * d)) x z
entry_in {A} d e x z h = sym (ap (λ (b : Bool). cond b x z) (lt-ltb e (d * d) h))

pub entry_past : {A : Type 0} (d e : ℕ) (x z : A) → d * d ≤ e → z ≡ cond (ltb e (d * d)) x z
entry_past {A} d e x z h = sym (ap (λ (b : Bool). cond b x z) (le-ltb e (d * d) h))

-- ---- a step between two small weights, as a signed number
step_small : (a b : ℕ) → a < 2147483648 → b < 2147483648 → mag (pos a -ℤ pos b) < 2147483648
step_small a zero h k = omega arith
step_small a (suc b) h k = go (ltb a (suc b))
  where
    go : (t : Bool) → mag (cond t (negsuc (suc b - suc a)) (pos (a - suc b))) < 2147483648
    go true = omega arith
    go false = omega arith

pub one-fits : (a : ℕ) → a < 2147483648 → SFits w32 (pos a)
one-fits a h = record { sfits = h }

pub step_fits : (a b : ℕ) → a < 2147483648 → b < 2147483648 → SFits w32 (to_z w32 a -ℤ to_z w32 b)
step_fits a b h k = subst (λ (x : ℤ). SFits w32 (x -ℤ to_z w32 b)) (sym (to_z_pos w32 h)) (subst (λ (y : ℤ). SFits w32 (pos a -ℤ y)) (sym (to_z_pos w32 k)) (record { sfits = step_small a b h k }))

pub step-stored : (a b : ℕ) → a < 2147483648 → b < 2147483648 → to_z w32 (of_z w32 (to_z w32 a -ℤ to_z w32 b)) ≡ pos a -ℤ pos b
step-stored a b h k = to_z-of_z (step_fits a b h k) ∙ ap (λ (x : ℤ). x -ℤ to_z w32 b) (to_z_pos w32 h) ∙ ap (λ (y : ℤ). pos a -ℤ y) (to_z_pos w32 k)
