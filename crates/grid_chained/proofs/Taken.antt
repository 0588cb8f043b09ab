-- What is known of a grid that is taken in this mode: `shape_of g ≡ fine`. It has at most as many points as its words have corners, so all its numbers are small. Assumes nothing.
use Rattle.refusal.specs.declared.Refusal.{Refusal}
use Rattle.refusal.specs.declared.Refusal.TheVariants.{BadDimension, BadReflection, ShortAxis, TooManyCells, TooManyVertices}
use Rattle.refusal.specs.contracts.RefusalPartialEq.TheImpl.{eq-value}
use Rattle.refusal.specs.Says.{Answer, fine}
use Rattle.std.specs.Result.{result_eq}
use mathlib.Core.Logic.{◌⊎◌, inl, inr, ⊎_elim}
use Rattle.std.specs.Prelude.{Err}
use mathlib.Core.Path.{◌≡◌, refl, sym, ap, subst, ◌∙◌}
use mathlib.Core.Bool.{Bool, true, false, cond}
use Prim.Native.Nat.{ℕ, zero, suc, ◌+◌, ◌*◌, ◌≤◌, ◌<◌}
use native.Mathlib.Nat.{mul_comm, mul_assoc, mul-one, mul-suc, mul-le-mul_left, mul-le-mul_right, le_trans, le_refl}
use native.Mathlib.Numerals.{add-one}
use native.Mathlib.Omega.{arith}
use lib.Dec.{ltb}
use borrow.Author.Tests.{ltb-false}
use Rattle.refusal.specs.Refuse.{refuse}
use Rattle.refusal.specs.Limits.{most_dimension, most_cells, most_vertices, most_corners}
use Rattle.refusal.proofs.Chain.{fine-refused, refused-same, refuse-fine}
use Rattle.quotient.specs.declared.Grid.{Grid}
use Rattle.quotient.specs.Fold.{product}
use Rattle.quotient.specs.Shape.{cells_on, closed_at, closed_floor, open_floor, points_on, falls_short, bad_reflection, short_axis, cell_count, vertices_of, check_of}
use Rattle.quotient.specs.Points.{from_digits, points_of}
use Rattle.lists.proofs.Words.{first-full}
use Rattle.quotient.proofs.Laws.{product-mono, product-more, product-step, place}
use Rattle.grid_chained.specs.Shape.{shape_of, need_of}

-- ---- the first mode's check without its last test

-- the answer without 6, as `==` tells it
abbrev pub without_six : (Unit {0} → Unit {0} → Bool) → Answer → Answer
without_six same a = cond (result_eq same eq-value.it a (Err TooManyVertices)) fine a

without-chain : (same : Unit {0} → Unit {0} → Bool) (a b c d e f : Bool) (m n : ℕ) →
    without_six same (refuse a BadDimension (refuse b BadDimension (refuse c (BadReflection m) (refuse d (ShortAxis n) (refuse e TooManyCells (refuse f TooManyVertices fine))))))
    ≡ refuse a BadDimension (refuse b BadDimension (refuse c (BadReflection m) (refuse d (ShortAxis n) (refuse e TooManyCells fine))))
without-chain same true b c d e f m n = refl
without-chain same false true c d e f m n = refl
without-chain same false false true d e f m n = refl
without-chain same false false false true e f m n = refl
without-chain same false false false false true f m n = refl
without-chain same false false false false false true m n = refl
without-chain same false false false false false false m n = refl

pub without-six : (same : Unit {0} → Unit {0} → Bool) (g : Grid) → without_six same (check_of g) ≡ shape_of g
unfolding check_of shape_of
without-six same g =
    without-chain same (ltb g.d 1) (ltb most_dimension g.d) (ltb (bad_reflection g) g.d) (ltb (short_axis g) g.d) (ltb most_cells (cell_count g)) (ltb most_vertices (vertices_of g)) (bad_reflection g) (short_axis g)

-- every refusal but 6 stands
six_or-chain : (a b c d e f : Bool) (m n : ℕ) (why : Refusal) →
    refuse a BadDimension (refuse b BadDimension (refuse c (BadReflection m) (refuse d (ShortAxis n) (refuse e TooManyCells (refuse f TooManyVertices fine))))) ≡ Err why →
    (why ≡ TooManyVertices) ⊎ (Err why ≡ refuse a BadDimension (refuse b BadDimension (refuse c (BadReflection m) (refuse d (ShortAxis n) (refuse e TooManyCells fine)))))
six_or-chain true b c d e f m n why q = inr (sym q)
six_or-chain false true c d e f m n why q = inr (sym q)
six_or-chain false false true d e f m n why q = inr (sym q)
six_or-chain false false false true e f m n why q = inr (sym q)
six_or-chain false false false false true f m n why q = inr (sym q)
six_or-chain false false false false false true m n why q = inl (sym (refused-same TooManyVertices why q))
six_or-chain false false false false false false m n why q = absurd (fine-refused why (sym q))

module _ (g : Grid) where
  pub shape-fine : check_of g ≡ fine → fine ≡ shape_of g
  shape-fine e = sym (ap (without_six (λ x y. true)) e) ∙ without-six (λ x y. true) g

  pub shape-six : (why : Refusal) → check_of g ≡ Err why → why ≡ TooManyVertices → fine ≡ shape_of g
  shape-six why e h = sym (ap (without_six (λ x y. true)) (e ∙ ap Err h)) ∙ without-six (λ x y. true) g

  pub six_or-shape : (why : Refusal) → check_of g ≡ Err why → (why ≡ TooManyVertices) ⊎ (Err why ≡ shape_of g)
  unfolding check_of shape_of
  six_or-shape why e =
      six_or-chain (ltb g.d 1) (ltb most_dimension g.d) (ltb (bad_reflection g) g.d) (ltb (short_axis g) g.d) (ltb most_cells (cell_count g)) (ltb most_vertices (vertices_of g)) (bad_reflection g) (short_axis g) why e

  pub shape-other : (why : Refusal) → check_of g ≡ Err why → (why ≡ TooManyVertices → ⊥) → Err why ≡ shape_of g
  shape-other why e n = ⊎_elim (λ h. absurd (n h)) (λ x. x) (six_or-shape why e)

  -- what `==` tells of the check decides what is said
  module _ (same : Unit {0} → Unit {0} → Bool) (a : Answer) (q : a ≡ check_of g) where
    pub said-six : true ≡ result_eq same eq-value.it a (Err TooManyVertices) → fine ≡ shape_of g
    said-six h = ap (λ (b : Bool). cond b fine a) h ∙ ap (without_six same) q ∙ without-six same g

    pub said-other : false ≡ result_eq same eq-value.it a (Err TooManyVertices) → a ≡ shape_of g
    said-other h = ap (λ (b : Bool). cond b fine a) h ∙ ap (without_six same) q ∙ without-six same g

-- ---- numbers

pub regroup : (F P n k : ℕ) → F * P * (n * k) ≡ F * k * (P * n)
regroup F P n k = rw (mul_comm n k, mul_assoc F P (k * n), ← (mul_assoc P k n), mul_comm P k, mul_assoc k P n, ← (mul_assoc F k (P * n)))

grows : (P F C n k : ℕ) → P ≤ F * C → 1 ≤ n → P * (n + 1) ≤ F * suc (suc k) * (C * n)
grows P F C n k h l =
    let a : P * (n + 1) ≤ F * C * (n + 1) = mul-le-mul_right (n + 1) h in
    let x : n * suc (suc k) ≡ n * suc k + n = mul-suc n (suc k) in
    let y : n * suc k ≡ n * k + n = mul-suc n k in
    let b : F * C * (n + 1) ≤ F * C * (n * suc (suc k)) = mul-le-mul_left (F * C) (omega arith) in
    let e : F * C * (n * suc (suc k)) ≡ F * suc (suc k) * (C * n) = regroup F C n (suc (suc k)) in
    omega arith

module _ (g : Grid) (taken : shape_of g ≡ fine) where
  tests : (ltb g.d 1 ≡ false) × (ltb most_dimension g.d ≡ false) × (ltb (bad_reflection g) g.d ≡ false) × (ltb (short_axis g) g.d ≡ false) × (ltb most_cells (cell_count g) ≡ false)
  unfolding shape_of
  tests =
      let p5 : Answer = refuse (ltb most_cells (cell_count g)) TooManyCells fine in
      let p4 : Answer = refuse (ltb (short_axis g) g.d) (ShortAxis (short_axis g)) p5 in
      let p3 : Answer = refuse (ltb (bad_reflection g) g.d) (BadReflection (bad_reflection g)) p4 in
      let p2 : Answer = refuse (ltb most_dimension g.d) BadDimension p3 in
      let e1 = refuse-fine (ltb g.d 1) _ p2 taken in
      let e2 = refuse-fine (ltb most_dimension g.d) _ p3 e1.1 in
      let e3 = refuse-fine (ltb (bad_reflection g) g.d) _ p4 e2.1 in
      let e4 = refuse-fine (ltb (short_axis g) g.d) _ p5 e3.1 in
      let e5 = refuse-fine (ltb most_cells (cell_count g)) _ fine e4.1 in
      (e1.0, e2.0, e3.0, e4.0, e5.0)

  pub high : g.d ≤ most_dimension
  high = ltb-false _ _ tests.1

  pub few_cells : cell_count g ≤ most_cells
  few_cells = ltb-false _ _ tests.4

  pub some-cell : (k : ℕ) → k < g.d → 1 ≤ cells_on g k
  some-cell k l =
      by_kind (closed_at g k) (cells_on g k)
      (ltb-false _ _ (first-full (falls_short g) g.d (ltb-false _ _ tests.3) k l))
    where
      by_kind : (b : Bool) (n : ℕ) → cond b closed_floor open_floor ≤ n → 1 ≤ n
      by_kind true n h = omega arith
      by_kind false n h = h

  -- the cells of the first k axes alone are no more
  cells-part : (k : ℕ) → k ≤ g.d → product suc k * product (cells_on g) k ≤ most_cells
  cells-part k h =
      let a : product suc k ≤ product suc g.d = product-mono suc g.d k h (λ i l. omega arith) in
      let b : product (cells_on g) k ≤ product (cells_on g) g.d = product-mono (cells_on g) g.d k h some-cell in
      let x : product suc k * product (cells_on g) k ≤ product suc g.d * product (cells_on g) k = mul-le-mul_right (product (cells_on g) k) a in
      let y : product suc g.d * product (cells_on g) k ≤ product suc g.d * product (cells_on g) g.d = mul-le-mul_left (product suc g.d) b in
      le_trans x (le_trans y few_cells)

  pub cells-turn : (k p n : ℕ) → k < g.d → p ≡ product suc k * product (cells_on g) k → n ≡ cells_on g k →
      (p * n * (k + 1) ≡ product suc (k + 1) * product (cells_on g) (k + 1)) × (p * n * (k + 1) ≤ most_cells) × (p * n ≤ most_cells)
  cells-turn k p n h hp hn =
      let e : p * n * (k + 1) ≡ product suc (k + 1) * product (cells_on g) (k + 1) =
      mul_assoc p n (k + 1) ∙ rw (hp, hn, product-more suc k, product-more (cells_on g) k, add-one k) (regroup (product suc k) (product (cells_on g) k) (cells_on g k) (suc k)) in
      let u : k + 1 ≤ g.d = omega arith in
      let m : p * n * (k + 1) ≤ most_cells = rw e (cells-part (k + 1) u) in
      let o : p * n * 1 ≤ p * n * (k + 1) = mul-le-mul_left (p * n) (omega arith) in
      let q : p * n * 1 ≡ p * n = mul-one (p * n) in
      (e, m, omega arith)

  -- no more points than corners of the words
  pub points-part : (k : ℕ) → k ≤ g.d → product (points_on g) k ≤ product suc (suc k) * product (cells_on g) k
  unfolding product
  points-part zero h = omega arith
  points-part (suc k) h =
      let u : k ≤ g.d = omega arith in
      let v : k < g.d = omega arith in
      grows (product (points_on g) k) (product suc (suc k)) (product (cells_on g) k) (cells_on g k) k (points-part k u) (some-cell k v)

  corners-are : product suc (suc g.d) * product (cells_on g) g.d ≡ need_of g
  unfolding product
  corners-are =
      mul_assoc (product suc g.d) (suc g.d) (product (cells_on g) g.d) ∙ rw (mul_comm (suc g.d) (product (cells_on g) g.d)) (sym (mul_assoc (product suc g.d) (product (cells_on g) g.d) (suc g.d)))

  pub points-need : points_of g ≤ need_of g
  points-need = le_trans (points-part g.d (le_refl g.d)) (subst (λ (x : ℕ). product suc (suc g.d) * product (cells_on g) g.d ≤ x) corners-are (le_refl (product suc (suc g.d) * product (cells_on g) g.d)))

  -- all these numbers are small
  pub few-corners : need_of g ≤ most_corners
  few-corners =
      let a : cell_count g * suc g.d ≤ most_cells * suc g.d = mul-le-mul_right (suc g.d) few_cells in
      let h : g.d ≤ most_dimension = high in
      let w : suc g.d ≤ suc most_dimension = omega arith in
      le_trans a (mul-le-mul_left most_cells w)

  pub few-points : points_of g ≤ most_corners
  few-points = le_trans points-need few-corners

  pub points-turn : (k p n : ℕ) → k < g.d → p ≡ product (points_on g) k → n ≡ points_on g k → (p * n ≡ product (points_on g) (k + 1)) × (p * n ≤ most_corners)
  points-turn k p n h hp hn =
      let e : p * n ≡ product (points_on g) (k + 1) = product-step (points_on g) k p n hp hn in
      (e, rw e (le_trans (product-mono (points_on g) g.d (k + 1) (omega arith) (λ i l. omega arith)) few-points))

  -- one coordinate more of the point with coordinates f
  pub digit-turn : (f : ℕ → ℕ) (k s x t p : ℕ) → k < g.d → s ≡ product (points_on g) k → x ≡ from_digits (points_on g) f k → x < s → t ≡ f k → t ≤ cells_on g k → p ≡ points_on g k →
      (x + s * t ≡ from_digits (points_on g) f (k + 1)) × (x + s * t < s * p) × (s * p ≤ most_corners) × (s * t ≤ most_corners)
  unfolding from_digits
  digit-turn f k s x t p h hs hx l ht m hp =
      let n : t < p = omega arith in
      let q : x + s * t < s * p = place x s t p l n in
      let r : s * p ≤ most_corners = (points-turn k s p h hs hp).1 in
      (rw (hs, hx, ht, add-one k), q, r, omega arith)
