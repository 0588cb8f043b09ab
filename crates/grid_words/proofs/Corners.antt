-- The corners of a cell: each is one step further than the one before it, and all are corners of one box. Assumes nothing.
use Rattle.refusal.specs.Says.{fine}
use mathlib.Core.Path.{◌≡◌, refl, sym, ap, subst, ◌∙◌}
use mathlib.Core.Bool.{Bool, true, false, cond}
use mathlib.Core.Logic.{⊎_elim}
use mathlib.Core.List.{List, [], ◌∷◌}
use Prim.Native.Nat.{ℕ, zero, suc, ◌+◌, ◌-◌, ◌*◌, ◌/◌, ◌%◌, ◌≤◌, ◌<◌, suc-le-suc}
use native.Mathlib.Nat.{mod-lt, mul-suc, one-mul, mul_comm, mul_assoc, le_trans, mul-le-mul_left, mul-le-mul_right, le_refl, le_of_suc-le-suc, div-div-eq-div-mul}
use native.Mathlib.Numerals.{add-one}
use native.Mathlib.Omega.{arith}
use lib.Dec.{eqb, ltb}
use lib.ListN.{length, get_or, take}
use borrow.Author.Tests.{eqb-true, ltb-true, ltb-false}
use Rattle.refusal.specs.Limits.{most_cells}
use Rattle.lists.specs.Words.{same}
use Rattle.multiindex.specs.Permutation.{orders, order_of}
use Rattle.multiindex.proofs.Tables.{all_below, at-below}
use Rattle.lists.proofs.Words.{same-yes, same-no}
use Rattle.quotient.specs.declared.Grid.{Grid}
use Rattle.quotient.specs.Fold.{product, factorial}
use Rattle.quotient.specs.Shape.{cells_on, points_on, closed_at, closed_floor, open_floor, check_of, cell_count}
use Rattle.quotient.specs.Reduce.{coord_at, vertex_of}
use Rattle.quotient.specs.Points.{from_digits, points_of, point_of, InBox}
use Rattle.quotient.proofs.Laws.{lt-or-eq, product-mono, product-pos, product-step, place}
use Rattle.quotient.proofs.Taken.{taken-high, taken-cells, enough}
use Rattle.quotient.proofs.Radix.{number_same, point-lt, coord-of-point}
use Rattle.quotient.proofs.Boxes.{corners, box-one}
use Rattle.grid_words.specs.Cells.{boxes_of, box_at, step_along, met}
use Rattle.grid_words.specs.WorkNumbered.{stride_of, each_box, order_at, corner_of}

-- ---- one step along an axis
step-before : (f c : ℕ → ℕ) (a k : ℕ) → k ≤ a → from_digits f (step_along a c) k ≡ from_digits f c k
step-before f c a k h = number_same f (step_along a c) c k (λ i l. let z : same a i ≡ 0 = same-no a i (λ e. omega arith) in omega arith)

pub step_after : (f c : ℕ → ℕ) (a k : ℕ) → a < k → from_digits f (step_along a c) k ≡ from_digits f c k + product f a
unfolding from_digits product
step_after f c a zero h = omega arith
step_after f c a (suc k) h =
    ⊎_elim
    (λ (l : a < k).
    let z : same a k ≡ 0 = same-no a k (λ e. omega arith) in
    let e : c k + same a k ≡ c k = omega arith in
    rw e (omega (arith, step_after f c a k l)))
    (λ (l : a ≡ k).
    let z : same a k ≡ 1 = same-yes a k l in
    let e : c k + same a k ≡ suc (c k) = omega arith in
    let p : product f a ≡ product f k = ap (product f) l in
    rw e (omega (arith, p, step-before f c a k (omega arith), mul-suc (product f k) (c k))))
    (lt-or-eq a k h)

-- how often axis k stands in an order
abbrev pub times_in : ℕ → List ℕ → ℕ
times_in k [] = 0
times_in k (a ∷ os) = same a k + times_in k os

pub times-take : (k : ℕ) (os : List ℕ) (i j : ℕ) → i ≤ j → times_in k (take i os) ≤ times_in k (take j os)
times-take k [] zero zero h = omega arith
times-take k [] zero (suc j) h = omega arith
times-take k [] (suc i) zero h = omega arith
times-take k [] (suc i) (suc j) h = omega arith
times-take k (a ∷ os) zero j h = omega arith
times-take k (a ∷ os) (suc i) zero h = omega arith
times-take k (a ∷ os) (suc i) (suc j) h = omega (arith, times-take k os i j (le_of_suc-le-suc h))

pub times-all : (k : ℕ) (os : List ℕ) (j : ℕ) → times_in k (take j os) ≤ times_in k os
times-all k [] zero = omega arith
times-all k [] (suc j) = omega arith
times-all k (a ∷ os) zero = omega arith
times-all k (a ∷ os) (suc j) = omega (arith, times-all k os j)

module _ (g : Grid) where
  met-first : (c : ℕ → ℕ) (os : List ℕ) → get_or (met g c os) 0 0 ≡ point_of g c
  unfolding met
  met-first c [] = refl
  met-first c (a ∷ os) = refl

  pub met-length : (c : ℕ → ℕ) (os : List ℕ) → length (met g c os) ≡ suc (length os)
  unfolding met
  met-length c [] = refl
  met-length c (a ∷ os) = ap suc (met-length (step_along a c) os)

  -- each corner is a step along the next axis further than the one before it
  pub met-step : (c : ℕ → ℕ) (os : List ℕ) (i : ℕ) → i < length os → get_or os i 0 < g.d → get_or (met g c os) (suc i) 0 ≡ get_or (met g c os) i 0 + stride_of g (get_or os i 0)
  unfolding met
  met-step c [] i h l = absurd (let w : ⊥ = omega arith in w)
  met-step c (a ∷ os) zero h l = met-first (step_along a c) os ∙ step_after (points_on g) c a g.d l
  met-step c (a ∷ os) (suc i) h l = met-step (step_along a c) os i (le_of_suc-le-suc h) l

  -- corner j has one more on each axis among the first j of the order
  pub met_at : (c : ℕ → ℕ) (os : List ℕ) (j : ℕ) → j ≤ length os → get_or (met g c os) j 0 ≡ point_of g (λ k. c k + times_in k (take j os))
  unfolding met
  met_at c [] zero h = number_same (points_on g) c (λ k. c k + 0) g.d (λ k l. omega arith)
  met_at c [] (suc j) h = absurd (let w : ⊥ = omega arith in w)
  met_at c (a ∷ os) zero h = number_same (points_on g) c (λ k. c k + 0) g.d (λ k l. omega arith)
  met_at c (a ∷ os) (suc j) h =
      met_at (step_along a c) os j (le_of_suc-le-suc h)
      ∙ number_same (points_on g) (λ k. c k + same a k + times_in k (take j os)) (λ k. c k + (same a k + times_in k (take j os))) g.d (λ k l. omega arith)

-- ---- the orders of up to three axes: computed tests
pub few-orders : (d : ℕ) → d ≤ 3 → length (orders d) < 7
few-orders d h = ltb-true (length (orders d)) 7 (at-below 4 (λ d. ltb (length (orders d)) 7) refl d (suc-le-suc h))

pub some-order : (d : ℕ) → d ≤ 3 → 0 < length (orders d)
some-order d h = ltb-true 0 (length (orders d)) (at-below 4 (λ d. ltb 0 (length (orders d))) refl d (suc-le-suc h))

pub orders-factorial : (d : ℕ) → d ≤ 3 → length (orders d) ≡ factorial d
unfolding product
orders-factorial d h = eqb-true (length (orders d)) (factorial d) (at-below 4 (λ d. eqb (length (orders d)) (factorial d)) refl d (suc-le-suc h))

pub order_long : (d t : ℕ) → d ≤ 3 → t < length (orders d) → length (order_of d t) ≡ d
order_long d t h l =
    eqb-true (length (order_of d t)) d
    (at-below (length (orders d)) (λ t. eqb (length (order_of d t)) d) (at-below 4 (λ d. all_below (length (orders d)) (λ t. eqb (length (order_of d t)) d)) refl d (suc-le-suc h)) t l)

pub order_below : (d t i : ℕ) → d ≤ 3 → t < length (orders d) → i < d → get_or (order_of d t) i 0 < d
order_below d t i h l m =
    ltb-true (get_or (order_of d t) i 0) d
    (at-below d (λ i. ltb (get_or (order_of d t) i 0) d)
    (at-below (length (orders d)) (λ t. all_below d (λ i. ltb (get_or (order_of d t) i 0) d)) (at-below 4 (λ d. all_below (length (orders d)) (λ t. all_below d (λ i. ltb (get_or (order_of d t) i 0) d))) refl d (suc-le-suc h)) t l) i m)

pub order-once : (d t k : ℕ) → d ≤ 3 → t < length (orders d) → k < d → times_in k (order_of d t) ≡ 1
order-once d t k h l m =
    eqb-true (times_in k (order_of d t)) 1
    (at-below d (λ k. eqb (times_in k (order_of d t)) 1)
    (at-below (length (orders d)) (λ t. all_below d (λ k. eqb (times_in k (order_of d t)) 1)) (at-below 4 (λ d. all_below (length (orders d)) (λ t. all_below d (λ k. eqb (times_in k (order_of d t)) 1))) refl d (suc-le-suc h)) t l) k m)

-- 2 * 2 * .. * 2
abbrev doubled : ℕ → ℕ
doubled zero = 1
doubled (suc k) = 2 * doubled k

-- ---- a grid that is taken
module _ (g : Grid) (taken : check_of g ≡ fine) where
  pub dim : g.d ≤ 3
  dim = taken-high g taken

  pub some-cell : (k : ℕ) → k < g.d → 1 ≤ cells_on g k
  some-cell k l = by_kind (closed_at g k) (cells_on g k) (ltb-false _ _ (enough g taken k l))
    where
      by_kind : (b : Bool) (n : ℕ) → cond b closed_floor open_floor ≤ n → 1 ≤ n
      by_kind true n h = omega arith
      by_kind false n h = h

  pub boxes-few : boxes_of g ≤ most_cells
  boxes-few =
      let s : 1 ≤ factorial g.d = rw (orders-factorial g.d dim) at (some-order g.d dim) in
      let m : 1 * boxes_of g ≤ factorial g.d * boxes_of g = mul-le-mul_right (boxes_of g) s in
      let c : cell_count g ≤ most_cells = taken-cells g taken in
      omega (arith, one-mul (boxes_of g))

  pub boxes-some : 1 ≤ boxes_of g
  unfolding product
  boxes-some = product-mono (cells_on g) g.d 0 (omega arith) some-cell

  pub boxes-part : (k : ℕ) → k ≤ g.d → product (cells_on g) k ≤ most_cells
  boxes-part k h = le_trans (product-mono (cells_on g) g.d k h some-cell) boxes-few

  points-twice : (k : ℕ) → k ≤ g.d → product (points_on g) k ≤ doubled k * product (cells_on g) k
  unfolding product
  points-twice zero h = omega arith
  points-twice (suc k) h =
      let n = cells_on g k in
      let P = product (points_on g) k in
      let C = product (cells_on g) k in
      let r : P ≤ doubled k * C = points-twice k (omega arith) in
      let s : 1 ≤ n = some-cell k (omega arith) in
      let a : P * (n + 1) ≤ P * (2 * n) = mul-le-mul_left P (omega arith) in
      let b : P * (2 * n) ≤ doubled k * C * (2 * n) = mul-le-mul_right (2 * n) r in
      let e : doubled k * C * (2 * n) ≡ doubled (suc k) * (C * n) = regroup (doubled k) C n in
      le_trans a (subst (λ (x : ℕ). P * (2 * n) ≤ x) e b)
    where
      regroup : (p c n : ℕ) → p * c * (2 * n) ≡ 2 * p * (c * n)
      regroup p c n = rw (mul_assoc p c (2 * n), ← (mul_assoc c 2 n), mul_comm c 2, mul_assoc 2 c n, ← (mul_assoc p 2 (c * n)), mul_comm p 2)

  pow-few : (k : ℕ) → k ≤ 3 → doubled k ≤ 8
  pow-few zero h = omega arith
  pow-few (suc zero) h = omega arith
  pow-few (suc (suc zero)) h = omega arith
  pow-few (suc (suc (suc zero))) h = omega arith
  pow-few (suc (suc (suc (suc k)))) h = omega arith

  -- there are not many points
  pub points-few : (k : ℕ) → k ≤ g.d → product (points_on g) k ≤ 32768
  points-few k h =
      let a : doubled k * product (cells_on g) k ≤ 8 * product (cells_on g) k = mul-le-mul_right (product (cells_on g) k) (pow-few k (omega (arith, dim))) in
      omega (arith, points-twice k h, boxes-part k h)

  pub box-lt : (b k : ℕ) → k < g.d → box_at g b k < cells_on g k
  box-lt b k l = mod-lt (b / product (cells_on g) k) (some-cell k l)

  -- ---- cell x
  module _ (x : ℕ) where
    pub turn-lt : each_box g - 1 - x % each_box g < each_box g
    turn-lt = let s : 0 < each_box g = some-order g.d dim in omega arith

    order-length : length (order_at g x) ≡ g.d
    order-length = order_long g.d (each_box g - 1 - x % each_box g) dim turn-lt

    -- coordinates of corner j
    abbrev pub at : ℕ → ℕ → ℕ
    at j k = box_at g (x / each_box g) k + times_in k (take j (order_at g x))

    pub corner-point : (j : ℕ) → j ≤ g.d → corner_of g x j ≡ point_of g (at j)
    corner-point j h = met_at g (box_at g (x / each_box g)) (order_at g x) j (omega (arith, order-length))

    pub corner-step : (i : ℕ) → i < g.d → corner_of g x (suc i) ≡ corner_of g x i + stride_of g (get_or (order_at g x) i 0)
    corner-step i h = met-step g (box_at g (x / each_box g)) (order_at g x) i (omega (arith, order-length)) (order_below g.d (each_box g - 1 - x % each_box g) i dim turn-lt h)

    at-le : (j k : ℕ) → k < g.d → at j k ≤ cells_on g k
    at-le j k l =
        omega (arith, box-lt (x / each_box g) k l, times-all k (order_at g x) j, order-once g.d (each_box g - 1 - x % each_box g) k dim turn-lt l)

    pub corner-coord : (j k : ℕ) → j ≤ g.d → k < g.d → coord_at g (corner_of g x j) k ≡ at j k
    corner-coord j k h l = ap (λ (p : ℕ). coord_at g p k) (corner-point j h) ∙ coord-of-point g (at j) (λ i m. at-le j i m) k l

    pub corner-lt : (j : ℕ) → j ≤ g.d → corner_of g x j < points_of g
    corner-lt j h = rw (corner-point j h) (point-lt g (at j) (λ k l. at-le j k l))

    pub in-box : (i j : ℕ) → i ≤ j → j ≤ g.d → InBox g (corner_of g x i) (corner_of g x j)
    in-box i j h l =
        rw (corner-point i (le_trans h l), corner-point j l)
        (corners g (at i) (at j)
        (λ k m.
        let a = times-take k (order_at g x) i j h in
        let b = times-all k (order_at g x) j in
        let o = order-once g.d (each_box g - 1 - x % each_box g) k dim turn-lt m in
        (omega arith, omega arith, at-le j k m)))

    -- the corners rise
    pub corner-next : (i : ℕ) → i < g.d → corner_of g x i < corner_of g x (suc i)
    corner-next i h =
        let s : 1 ≤ stride_of g (get_or (order_at g x) i 0) = product-pos (points_on g) (get_or (order_at g x) i 0) (λ k. omega arith) in
        omega (arith, corner-step i h)

    pub corner-rises : (i j : ℕ) → i < j → j ≤ g.d → corner_of g x i < corner_of g x j
    corner-rises i zero h l = omega arith
    corner-rises i (suc j) h l =
        ⊎_elim
        (λ (m : i < j). omega (arith, corner-rises i j m (omega arith), corner-next j l))
        (λ (m : i ≡ j). rw m (corner-next j l))
        (lt-or-eq i j h)

    -- and have different vertices
    pub corners-apart : (i j : ℕ) → i < j → j ≤ g.d → vertex_of g (corner_of g x i) ≡ vertex_of g (corner_of g x j) → ⊥
    corners-apart i j h l e =
        let q : corner_of g x i ≡ corner_of g x j = box-one g taken (corner_of g x i) (corner_of g x j) (in-box i j (omega arith) l) e in
        omega (arith, corner-rises i j h l)

-- ---- turns of the loops over the axes
module _ (g : Grid) (taken : check_of g ≡ fine) where
  pub boxes-turn : (k p n : ℕ) → k < g.d → p ≡ product (cells_on g) k → n ≡ cells_on g k → (p * n ≡ product (cells_on g) (k + 1)) × (p * n ≤ most_cells)
  boxes-turn k p n h hp hn =
      let e : p * n ≡ product (cells_on g) (k + 1) = product-step (cells_on g) k p n hp hn in
      (e, rw e (boxes-part g taken (k + 1) (omega arith)))

  pub stride-turn : (k s p : ℕ) → k < g.d → s ≡ product (points_on g) k → p ≡ points_on g k → (s * p ≡ product (points_on g) (k + 1)) × (s * p ≤ 32768)
  stride-turn k s p h hs hp =
      let e : s * p ≡ product (points_on g) (k + 1) = product-step (points_on g) k s p hs hp in
      (e, rw e (points-few g taken (k + 1) (omega arith)))

  -- what one axis more adds to the number of a box's origin
  pub origin-more : (b k s x rest n : ℕ) → s ≡ product (points_on g) k → x ≡ from_digits (points_on g) (box_at g b) k → rest ≡ b / product (cells_on g) k → n ≡ cells_on g k →
      (x + s * (rest % n) ≡ from_digits (points_on g) (box_at g b) (k + 1)) × (rest / n ≡ b / product (cells_on g) (k + 1))
  unfolding from_digits product
  origin-more b k s x rest n hs hx hr hn =
      (rw (hs, hx, hr, hn, add-one k), rw (hr, hn, add-one k) (div-div-eq-div-mul b (product (cells_on g) k) (cells_on g k)))

  pub origin-room : (k s x rest n p : ℕ) → k < g.d → s ≡ product (points_on g) k → x < s → n ≡ cells_on g k → p ≡ points_on g k → (x + s * (rest % n) < s * p) × (s * p ≤ 32768)
  origin-room k s x rest n p h hs hx hn hp =
      let m : rest % n < n = mod-lt rest (rw hn (some-cell g taken k h)) in
      (place x s (rest % n) p hx (omega arith), (stride-turn k s p h hs hp).1)

-- ---- turns of the loop over the corners of cell x, where n is the number of cells a box has
module _ (g : Grid) (taken : check_of g ≡ fine) (x n : ℕ) (e : n ≡ each_box g) where
  pub corner-zero : (v : ℕ) → v ≡ point_of g (box_at g (x / n)) → v ≡ corner_of g x 0
  corner-zero v h = h ∙ ap (λ (m : ℕ). point_of g (box_at g (x / m))) e ∙ sym (met-first g (box_at g (x / each_box g)) (order_at g x))

  pub some_turn : 0 < n
  some_turn = rw e (some-order g.d (dim g taken))

  pub turn_below : n - 1 - x % n < length (orders g.d)
  turn_below = omega (arith, some_turn, e)

  pub corner-axis : (i a : ℕ) → i < g.d → a ≡ get_or (order_of g.d (n - 1 - x % n)) i 0 → a < g.d
  corner-axis i a h q = rw q (order_below g.d (n - 1 - x % n) i (dim g taken) turn_below h)

  pub corner-turn : (i a s v : ℕ) → i < g.d → a ≡ get_or (order_of g.d (n - 1 - x % n)) i 0 → s ≡ stride_of g a → v ≡ corner_of g x i → (v + s ≡ corner_of g x (i + 1)) × (v + s < 32768)
  corner-turn i a s v h q hs hv =
      let r : a ≡ get_or (order_at g x) i 0 = q ∙ ap (λ (m : ℕ). get_or (order_of g.d (m - 1 - x % m)) i 0) e in
      let t : s ≡ stride_of g (get_or (order_at g x) i 0) = hs ∙ ap (stride_of g) r in
      let w : v + s ≡ corner_of g x (suc i) = omega (arith, corner-step g taken x i h) in
      (rw (add-one i) w, omega (arith, corner-lt g taken x (suc i) h, points-few g taken g.d (le_refl g.d)))

-- as many cells as orders, in each box
module _ (g : Grid) (taken : check_of g ≡ fine) where
  pub cells-product : (n b : ℕ) → n ≡ each_box g → b ≡ boxes_of g → n * b ≡ cell_count g
  cells-product n b hn hb = rw (hn, hb, orders-factorial g.d (dim g taken))
