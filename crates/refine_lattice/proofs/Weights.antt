-- Weights are differences of coordinates, and a blend of weights by weights takes a coordinate where the child's own lattice has it.
-- Assumes nothing.
use mathlib.Core.Path.{◌≡◌, refl, sym, ap, ◌∙◌, subst}
use mathlib.Core.List.{List, [], ◌∷◌, map}
use Prim.Native.Nat.{ℕ, zero, suc, ◌+◌, ◌*◌, ◌-◌, ◌≤◌, ◌<◌, suc-le-suc}
use native.Mathlib.Decide.{dec_lt}
use native.Mathlib.Omega.{arith}
use lib.ListN.{length, get_or, get_or-eq_default}
use Rattle.lists.specs.Tables.{tab}
use Rattle.refine_lattice.specs.Lattice.{Falls, weights, dot, blend}
use Rattle.lists.proofs.Tables.{length-tab, get_or-tab, tab-ext, map-tab, list-tab}
use Rattle.refine_lattice.proofs.Tab.{step}
use Rattle.refine_lattice.proofs.Codes.{Code, corner, corners, falls-corner}

pub weights-at : (R : ℕ) (s : List ℕ) (j : ℕ) → get_or (weights R s) j 0 ≡ get_or (R ∷ s) j 0 - get_or s j 0
weights-at R [] zero = omega arith
weights-at R [] (suc j) = omega arith
weights-at R (x ∷ s) zero = refl
weights-at R (x ∷ s) (suc j) = weights-at x s j

pub length-weights : (R : ℕ) (s : List ℕ) → length (weights R s) ≡ suc (length s)
length-weights R [] = refl
length-weights R (x ∷ s) = ap suc (length-weights x s)

pub part : (b x c y : ℕ) → x ≤ b → y ≡ x * c → (b - x) * c + y ≡ b * c
part b x c y h e =
    let f : (b - x) + x ≡ b = omega arith in
    go (b - x) f
  where
    go : (z : ℕ) → z + x ≡ b → z * c + y ≡ b * c
    go z g = omega (arith, ap (λ (n : ℕ). n * c) g)

pub dot-const : (b : ℕ) (s : List ℕ) (c : ℕ) → Falls b s → dot (weights b s) (tab (suc (length s)) (λ i. c)) ≡ b * c
dot-const b [] c h = omega arith
dot-const b (x ∷ s) c h = part b x c (dot (weights x s) (tab (suc (length s)) (λ i. c))) h.0 (dot-const x s c h.1)

dot-step : (b : ℕ) (s : List ℕ) (c t : ℕ) → Falls b s → dot (weights b s) (tab (suc (length s)) (λ i. c + step t i)) ≡ b * c + get_or s t 0
dot-step b [] c t h = omega arith
dot-step b (x ∷ s) c zero h =
    omega (arith, part b x c (x * c) h.0 refl, dot-const x s (c + 1) h.1)
dot-step b (x ∷ s) c (suc t) h =
    omega (arith, part b x c (x * c) h.0 refl, dot-step x s c t h.1)

scaled : (u x y z : ℕ) → x + y ≡ z → u * x + u * y ≡ u * z
scaled u x y z e = omega (arith, ap (λ (n : ℕ). u * n) e)

dot-sub : (us : List ℕ) (n : ℕ) (f g : ℕ → ℕ) → ((i : ℕ) → i < n → g i ≤ f i)
    → dot us (tab n (λ i. f i - g i)) + dot us (tab n g) ≡ dot us (tab n f)
dot-sub [] n f g h = omega arith
dot-sub (u ∷ us) zero f g h = omega arith
dot-sub (u ∷ us) (suc n) f g h =
    omega (
      arith,
      scaled u (f 0 - g 0) (g 0) (f 0) (omega (arith, h 0 (omega arith))),
      dot-sub us n (λ i. f (suc i)) (λ i. g (suc i)) (λ i l. h (suc i) (suc-le-suc l)),
    )

pub past : (n : ℕ) (f : ℕ → ℕ) (j : ℕ) → n ≤ j → get_or (tab n f) j 0 ≡ 0
past n f j h = get_or-eq_default (tab n f) 0 (omega (arith, length-tab n f))

pub falls-next : (R : ℕ) (s : List ℕ) → Falls R s → (j : ℕ) → get_or s j 0 ≤ get_or (R ∷ s) j 0
falls-next R [] h j = omega arith
falls-next R (x ∷ s) h zero = h.0
falls-next R (x ∷ s) h (suc j) = falls-next x s h.1 j

-- a child of the cell by a, its code; and a child of that child by b, its code
module _ (d a b : ℕ) (base t base' t' : ℕ → ℕ) (c : Code d a base t) (c' : Code d b base' t') where
  -- the base and the times of the child's child in the lattice by a * b
  abbrev pub Base : ℕ → ℕ
  Base j = b * base j + base' (t j)

  abbrev pub Time : ℕ → ℕ
  Time j = t' (t j)

  module _ (k : ℕ) where
    abbrev us : List ℕ
    us = weights b (corner d base' t' k)

    long : length (corner d base' t' k) ≡ d
    long = length-tab d (λ j. base' j + step (t' j) k)

    const-by : (z : ℕ) → dot us (tab (suc d) (λ i. z)) ≡ b * z
    const-by z =
        subst (λ (n : ℕ). dot us (tab (suc n) (λ i. z)) ≡ b * z) long
        (dot-const b (corner d base' t' k) z (falls-corner d b base' t' c' k))

    step_by : (z τ : ℕ) → τ < d → dot us (tab (suc d) (λ i. z + step τ i)) ≡ b * z + (base' τ + step (t' τ) k)
    step_by z τ h =
        subst (λ (n : ℕ). dot us (tab (suc n) (λ i. z + step τ i)) ≡ b * z + get_or (corner d base' t' k) τ 0) long
        (dot-step b (corner d base' t' k) z τ (falls-corner d b base' t' c' k))
        ∙ ap (λ (y : ℕ). b * z + y) (get_or-tab d (λ j. base' j + step (t' j) k) τ 0 h)

    inside : (j : ℕ) → j < d → dot us (tab (suc d) (λ i. get_or (corner d base t i) j 0)) ≡ get_or (corner d Base Time k) j 0
    inside j h =
        ap (dot us)
        (tab-ext (suc d) (λ i. get_or (corner d base t i) j 0) (λ i. base j + step (t j) i) (λ i l. get_or-tab d (λ m. base m + step (t m) i) j 0 h))
        ∙ step_by (base j) (t j) (c.perm.below j h)
        ∙ omega (arith, get_or-tab d (λ m. Base m + step (Time m) k) j 0 h)

    outside : (j : ℕ) → d ≤ j → dot us (tab (suc d) (λ i. get_or (corner d base t i) j 0)) ≡ get_or (corner d Base Time k) j 0
    outside j h =
        ap (dot us) (tab-ext (suc d) (λ i. get_or (corner d base t i) j 0) (λ i. 0) (λ i l. past d (λ m. base m + step (t m) i) j h))
        ∙ const-by 0
        ∙ omega (arith, past d (λ m. Base m + step (Time m) k) j h)

    -- (3) the coordinates: each sits at b times its base plus that of its step in the child's own lattice
    coordinate : (j : ℕ) → dot us (tab (suc d) (λ i. get_or (corner d base t i) j 0)) ≡ get_or (corner d Base Time k) j 0
    coordinate j = elim (dec_lt j d) [ yes h ↦ inside j h | no h ↦ outside j (omega arith) ]

    above : (j : ℕ) → dot us (tab (suc d) (λ i. get_or (a ∷ corner d base t i) j 0)) ≡ get_or (a * b ∷ corner d Base Time k) j 0
    above zero = const-by a ∙ omega arith
    above (suc j) = coordinate j

    -- (6) the weights over the cell's vertices
    weight : (j : ℕ) → dot us (tab (suc d) (λ i. get_or (weights a (corner d base t i)) j 0)) ≡ get_or (weights (a * b) (corner d Base Time k)) j 0
    weight j =
        ap (dot us)
        (tab-ext (suc d) (λ i. get_or (weights a (corner d base t i)) j 0) (λ i. get_or (a ∷ corner d base t i) j 0 - get_or (corner d base t i) j 0)
        (λ i l. weights-at a (corner d base t i) j))
        ∙ omega (
          arith,
          dot-sub us (suc d) (λ i. get_or (a ∷ corner d base t i) j 0) (λ i. get_or (corner d base t i) j 0)
              (λ i l. falls-next a (corner d base t i) (falls-corner d a base t c i) j),
          above j,
          coordinate j,
          weights-at (a * b) (corner d Base Time k) j,
        )

    pub rows : tab (suc d) (λ j. dot us (tab (suc d) (λ i. get_or (weights a (corner d base t i)) j 0))) ≡ weights (a * b) (corner d Base Time k)
    rows =
        tab-ext (suc d)
        (λ j. dot us (tab (suc d) (λ i. get_or (weights a (corner d base t i)) j 0)))
        (λ j. get_or (weights (a * b) (corner d Base Time k)) j 0)
        (λ j l. weight j)
        ∙ sym
        (list-tab (suc d) (weights (a * b) (corner d Base Time k)) (λ j. get_or (weights (a * b) (corner d Base Time k)) j 0) 0
        (length-weights (a * b) (corner d Base Time k) ∙ ap suc (length-tab d (λ j. Base j + step (Time j) k)))
        (λ i h. refl))

    column : (j : ℕ) → map (λ w. get_or w j 0) (map (weights a) (corners d base t)) ≡ tab (suc d) (λ i. get_or (weights a (corner d base t i)) j 0)
    column j =
        ap (map (λ w. get_or w j 0)) (map-tab (weights a) (suc d) (corner d base t))
        ∙ map-tab (λ w. get_or w j 0) (suc d) (λ i. weights a (corner d base t i))

    blend-corner : blend d us (map (weights a) (corners d base t)) ≡ weights (a * b) (corner d Base Time k)
    blend-corner =
        tab-ext (suc d)
        (λ j. dot us (map (λ w. get_or w j 0) (map (weights a) (corners d base t))))
        (λ j. dot us (tab (suc d) (λ i. get_or (weights a (corner d base t i)) j 0)))
        (λ j l. ap (dot us) (column j))
        ∙ rows

  -- (5) the words agree, corner by corner
  pub blend-word :
      map (λ s. blend d (weights b s) (map (weights a) (corners d base t))) (corners d base' t') ≡ map (weights (a * b)) (corners d Base Time)
  blend-word =
      map-tab (λ s. blend d (weights b s) (map (weights a) (corners d base t))) (suc d) (corner d base' t')
      ∙ tab-ext (suc d)
      (λ k. blend d (weights b (corner d base' t' k)) (map (weights a) (corners d base t)))
      (λ k. weights (a * b) (corner d Base Time k))
      (λ k h. blend-corner k)
      ∙ sym (map-tab (weights (a * b)) (suc d) (corner d Base Time))
