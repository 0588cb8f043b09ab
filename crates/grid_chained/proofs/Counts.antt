-- Refusal 6 in both modes. A grid with a closed axis has no more vertices than cells, so 6 is met in the first mode only where no axis is closed; then nothing is
-- glued in either mode. So a grid whose classes are few enough is taken by the first mode too, and on untangled grids both counts are equal. Assumes nothing.
use Rattle.refusal.specs.declared.Refusal.TheVariants.{BadDimension, BadReflection, ShortAxis, TooManyCells, TooManyVertices}
use Rattle.refusal.specs.Says.{fine}
use mathlib.Core.Path.{◌≡◌, refl, sym, ap, subst, ◌∙◌}
use mathlib.Core.Bool.{Bool, true, false, cond, false≢true}
use mathlib.Core.Logic.{◌⊎◌, inl, inr, ⊎_elim}
use Prim.Native.Nat.{ℕ, zero, suc, ◌+◌, ◌*◌, ◌≤◌, ◌<◌}
use native.Mathlib.Nat.{mul_comm, mul_assoc, mul-suc, mul-le-mul_left, mul-le-mul_right, le_trans, le_refl, not-suc-le-zero}
use native.Mathlib.Omega.{arith}
use lib.Dec.{ltb}
use borrow.Author.Tests.{eq-eqb, le-ltb}
use Rattle.refusal.specs.Refuse.{refuse}
use Rattle.refusal.specs.Limits.{most_dimension, most_cells, most_vertices}
use Rattle.quotient.specs.declared.Grid.{Grid}
use Rattle.quotient.specs.Fold.{product, count}
use Rattle.quotient.specs.Shape.{cells_on, closed_at, glued_on, points_on, bad_reflection, short_axis, cell_count, vertices_of, check_of}
use Rattle.quotient.specs.Points.{points_of}
use Rattle.quotient.specs.Chain.{Step, Joined, same, on, back, Untangled}
use Rattle.quotient.proofs.Laws.{lt-or-eq}
use Rattle.grid_chained.specs.Classing.{Least, Classing}
use Rattle.grid_chained.specs.Shape.{shape_of}
use Rattle.grid_chained.specs.WorkNumber.{leads, class_by}
use Rattle.grid_chained.proofs.Taken.{some-cell, few_cells, points-part, regroup}
use Rattle.grid_chained.proofs.Unique.{classing-one}
use Rattle.grid_chained.proofs.Numbering.{numbering}
use Rattle.grid_chained.proofs.BothModes.{both-modes}

-- ---- products
product_le : (f h : ℕ → ℕ) (k : ℕ) → ((i : ℕ) → i < k → f i ≤ h i) → product f k ≤ product h k
unfolding product
product_le f h zero e = omega arith
product_le f h (suc k) e =
    let a : product f k ≤ product h k = product_le f h k (λ i l. e i (omega arith)) in
    le_trans (mul-le-mul_right (f k) a) (mul-le-mul_left (product h k) (e k (omega arith)))

product-same : (f h : ℕ → ℕ) (k : ℕ) → ((i : ℕ) → i < k → f i ≡ h i) → product f k ≡ product h k
unfolding product
product-same f h zero e = refl
product-same f h (suc k) e = rw (product-same f h k (λ i l. e i (omega arith)), e k (omega arith))

-- one axis more, past a closed one
widened : (P F C n w k : ℕ) → P ≤ F * C → 1 ≤ n → w ≤ n + 1 → 1 ≤ k → P * w ≤ F * suc k * (C * n)
widened P F C n w k h l u v =
    let a : P * w ≤ F * C * w = mul-le-mul_right w h in
    let x : n * suc k ≡ n * k + n = mul-suc n k in
    let y : n * 1 ≤ n * k = mul-le-mul_left n v in
    let z : n * 1 ≡ n = mul-suc n 0 ∙ (let t : n * 0 + n ≡ n = omega (arith, mul_comm n 0) in t) in
    let s : w ≤ n * suc k = omega arith in
    let b : F * C * w ≤ F * C * (n * suc k) = mul-le-mul_left (F * C) s in
    le_trans a (subst (λ (t : ℕ). F * C * w ≤ t) (regroup F C n (suc k)) b)

module _ (g : Grid) where
  glued-le : (i : ℕ) → glued_on g i ≤ cells_on g i + 1
  glued-le i = by_kind (closed_at g i) (cells_on g i)
    where
      by_kind : (b : Bool) (n : ℕ) → cond b n (n + 1) ≤ n + 1
      by_kind true n = omega arith
      by_kind false n = omega arith

  glued-shut : (i : ℕ) → closed_at g i ≡ true → glued_on g i ≡ cells_on g i
  glued-shut i e = rw e

  glued-open : (i : ℕ) → closed_at g i ≡ false → glued_on g i ≡ points_on g i
  glued-open i e = rw e

  -- ---- a closed axis, or none
  shut-or : (k : ℕ) → ((a : ℕ) × (a < k) × (closed_at g a ≡ true)) ⊎ ((a : ℕ) → a < k → closed_at g a ≡ false)
  shut-or zero = inr (λ a l. absurd (not-suc-le-zero l))
  shut-or (suc k) =
      ⊎_elim
      (λ (w : (a : ℕ) × (a < k) × (closed_at g a ≡ true)). inl (w.0, (let u : w.0 < k = w.1 in omega arith), w.2))
      (λ (f : (a : ℕ) → a < k → closed_at g a ≡ false). by_kind f (closed_at g k) refl)
      (shut-or k)
    where
      by_kind : ((a : ℕ) → a < k → closed_at g a ≡ false) → (b : Bool) → closed_at g k ≡ b → ((a : ℕ) × (a < suc k) × (closed_at g a ≡ true)) ⊎ ((a : ℕ) → a < suc k → closed_at g a ≡ false)
      by_kind f true e = inl (k, omega arith, e)
      by_kind f false e = inr (λ a l. ⊎_elim (λ (m : a < k). f a m) (λ (m : a ≡ k). subst (λ (x : ℕ). closed_at g x ≡ false) (sym m) e) (lt-or-eq a k l))

  -- ---- no closed axis: nothing is glued
  module _ (loose : (a : ℕ) → a < g.d → closed_at g a ≡ false) where
    no_step : (p q : ℕ) → Step g p q → ⊥
    no_step p q s = false≢true (sym (loose s.axis s.within) ∙ s.closed)

    alone : {p q : ℕ} → Joined g p q → p ≡ q
    alone same = refl
    alone (on {q = q} {r = r} j s) = absurd (no_step q r s)
    alone (back {q = q} {r = r} j s) = absurd (no_step r q s)

    own-least : (p : ℕ) → p < points_of g → Least g p p
    own-least p h = record { within = h; chain = same; first = λ r l j. let e : p ≡ r = alone j in omega arith }

    all-lead : (n : ℕ) → count (leads (λ p. p)) n ≡ n
    unfolding count
    all-lead zero = refl
    all-lead (suc n) = rw (eq-eqb n n refl, all-lead n) (omega arith)

    pub open-count : (c : ℕ → ℕ) (m : ℕ) → Classing g c m → m ≡ vertices_of g
    open-count c m k =
        (classing-one g c (class_by (λ p. p)) m (count (leads (λ p. p)) (points_of g)) k (numbering g (λ p. p) own-least)).1
        ∙ all-lead (points_of g) ∙ product-same (points_on g) (glued_on g) g.d (λ i l. sym (glued-open i (loose i l)))

  -- ---- a closed axis: no more vertices than cells
  module _ (taken : shape_of g ≡ fine) where
    glued-part : (k : ℕ) → k ≤ g.d → (a : ℕ) → a < k → closed_at g a ≡ true → product (glued_on g) k ≤ product suc k * product (cells_on g) k
    unfolding product
    glued-part zero u a l e = absurd (not-suc-le-zero l)
    glued-part (suc k) u a l e =
        let v : k ≤ g.d = omega arith in
        let w : k < g.d = omega arith in
        ⊎_elim
        (λ (m : a < k).
        widened (product (glued_on g) k) (product suc k) (product (cells_on g) k) (cells_on g k) (glued_on g k) k (glued-part k v a m e) (some-cell g taken k w) (glued-le k) (omega arith))
        (λ (m : a ≡ k).
        let x : product (glued_on g) k ≤ product suc (suc k) * product (cells_on g) k = le_trans (product_le (glued_on g) (points_on g) k (λ i n. glued-le i)) (points-part g taken k v) in
        let y : glued_on g k ≡ cells_on g k = glued-shut k (subst (λ (z : ℕ). closed_at g z ≡ true) m e) in
        let s : product (glued_on g) k * glued_on g k ≤ product suc (suc k) * product (cells_on g) k * glued_on g k = mul-le-mul_right (glued_on g k) x in
        subst (λ (z : ℕ). product (glued_on g) k * glued_on g k ≤ z) (ap (λ (z : ℕ). product suc (suc k) * product (cells_on g) k * z) y ∙ mul_assoc (product suc (suc k)) (product (cells_on g) k) (cells_on g k)) s)
        (lt-or-eq a k l)

    pub shut-few : (a : ℕ) → a < g.d → closed_at g a ≡ true → vertices_of g ≤ most_vertices
    shut-few a l e = le_trans (glued-part g.d (le_refl g.d) a l e) (few_cells g taken)

    -- ---- the first mode's check
    pub taken-too : vertices_of g ≤ most_vertices → check_of g ≡ fine
    unfolding check_of shape_of
    taken-too l =
        last-test (ltb g.d 1) (ltb most_dimension g.d) (ltb (bad_reflection g) g.d) (ltb (short_axis g) g.d) (ltb most_cells (cell_count g)) (ltb most_vertices (vertices_of g)) (bad_reflection g) (short_axis g) (le-ltb _ _ l) taken
      where
        last-test : (a b c d e f : Bool) (m n : ℕ) → f ≡ false → refuse a BadDimension (refuse b BadDimension (refuse c (BadReflection m) (refuse d (ShortAxis n) (refuse e TooManyCells fine)))) ≡ fine →
            refuse a BadDimension (refuse b BadDimension (refuse c (BadReflection m) (refuse d (ShortAxis n) (refuse e TooManyCells (refuse f TooManyVertices fine))))) ≡ fine
        last-test true b c d e f m n h q = q
        last-test false true c d e f m n h q = q
        last-test false false true d e f m n h q = q
        last-test false false false true e f m n h q = q
        last-test false false false false true f m n h q = q
        last-test false false false false false f m n h q = rw h

    module _ (c : ℕ → ℕ) (m : ℕ) (k : Classing g c m) where
      -- a grid whose classes are few enough is taken by the first mode too
      pub few-taken : m ≤ most_vertices → check_of g ≡ fine
      few-taken l =
          ⊎_elim
          (λ (w : (a : ℕ) × (a < g.d) × (closed_at g a ≡ true)). taken-too (shut-few w.0 w.1 w.2))
          (λ (f : (a : ℕ) → a < g.d → closed_at g a ≡ false). taken-too (let e : m ≡ vertices_of g = open-count f c m k in omega arith))
          (shut-or g.d)

      -- on an untangled grid there are as many classes as vertices, so 6 is met in one mode exactly where it is met in the other
      pub untangled-count : Untangled g → m ≡ vertices_of g
      untangled-count u =
          ⊎_elim
          (λ (w : (a : ℕ) × (a < g.d) × (closed_at g a ≡ true)). (both-modes g (taken-too (shut-few w.0 w.1 w.2)) u c m k).many)
          (λ (f : (a : ℕ) → a < g.d → closed_at g a ≡ false). open-count f c m k)
          (shut-or g.d)
