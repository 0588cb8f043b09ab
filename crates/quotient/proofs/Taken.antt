-- What is known of a grid that is taken: `check_of g ≡ fine`. Assumes nothing.
use Rattle.refusal.specs.declared.Refusal.{Refusal}
use Rattle.refusal.specs.declared.Refusal.TheVariants.{BadDimension, BadReflection, BadSide, ShortAxis, TooManyCells, TooManyVertices}
use Rattle.refusal.specs.Says.{Answer, fine}
use Rattle.std.specs.Prelude.{Err, Ok}
use mathlib.Core.Path.{◌≡◌, refl, sym, subst, ◌∙◌}
use mathlib.Core.Bool.{Bool, true, false, cond}
use mathlib.Core.Logic.{⊎_elim}
use Prim.Native.Nat.{ℕ, zero, suc, ◌+◌, ◌*◌, ◌/◌, ◌%◌, ◌≤◌, ◌<◌}
use native.Mathlib.Nat.{mod-lt, div-one, div-div-eq-div-mul, div-eq_of_lt, div-lt_iff_lt-mul, one-mul, mul-le-mul_right, le_trans}
use native.Mathlib.Omega.{arith}
use lib.Dec.{ltb, leb}
use borrow.Author.Tests.{ltb-false, le-leb, lt-leb}
use Rattle.quotient.specs.declared.Grid.{Grid}
use Rattle.refusal.specs.Refuse.{refuse}
use Rattle.refusal.specs.Limits.{most_dimension, most_cells, most_vertices}
use Rattle.refusal.proofs.Chain.{refuse-fine}
use Rattle.grid_sides.specs.Counts.{first_bad}
use Rattle.quotient.specs.Fold.{product}
use Rattle.quotient.specs.Shape.{closed_floor, open_floor, falls_short, closed_at, cells_on, glued_on, points_on, bad_reflection, short_axis, cell_count, vertices_of, shape_check, check_of, sides_check_of}
use Rattle.quotient.specs.declared.GridVertex.{GridVertex}
use Rattle.quotient.specs.declared.Crossing.{Crossing}
use Rattle.quotient.specs.Reduce.{rest_at, reflected_by, flips_at, folded_at, crossing_of, reduce_of}
use Rattle.lists.proofs.Words.{first-full}
use Rattle.quotient.proofs.Laws.{product-mono, product-pos, product-more, place, lt-or-ge}
use Rattle.quotient.proofs.Points.{coord-le, turn-le}

pub reflected-le : (g : Grid) (v k a : ℕ) → reflected_by g v k a ≤ cells_on g k
unfolding reflected_by
reflected-le g v k zero = coord-le g v k
reflected-le g v k (suc a) = turn-le (flips_at g v a k) (cells_on g k) (reflected_by g v k a) _ (reflected-le g v k a) refl

-- no test from 9 on passed
shape-passed : (b3 b4 b5 b6 : Bool) (m n : ℕ)
    → refuse b3 (BadReflection m) (refuse b4 (ShortAxis n) (refuse b5 TooManyCells (refuse b6 TooManyVertices fine))) ≡ fine
    → (b3 ≡ false) × (b4 ≡ false) × (b5 ≡ false) × (b6 ≡ false)
shape-passed b3 b4 b5 b6 m n e =
    let p6 : Answer = refuse b6 TooManyVertices fine in
    let p5 : Answer = refuse b5 TooManyCells p6 in
    let p4 : Answer = refuse b4 (ShortAxis n) p5 in
    let e3 = refuse-fine b3 _ p4 e in
    let e4 = refuse-fine b4 _ p5 e3.1 in
    let e5 = refuse-fine b5 _ p6 e4.1 in
    let e6 = refuse-fine b6 _ fine e5.1 in
    (e3.0, e4.0, e5.0, e6.0)

-- a grid that is taken with its sides has sides that fit, and is taken
module _ (g : Grid) (taken : sides_check_of g ≡ fine) where
  side-tests : (ltb g.d 1 ≡ false) × (ltb most_dimension g.d ≡ false) × (ltb (first_bad g.sides g.d) g.d ≡ false) × (shape_check g ≡ fine)
  unfolding sides_check_of
  side-tests =
      let b = first_bad g.sides g.d in
      let p3 : Answer = refuse (ltb b g.d) (BadSide b) (shape_check g) in
      let p2 : Answer = refuse (ltb most_dimension g.d) BadDimension p3 in
      let e1 = refuse-fine (ltb g.d 1) _ p2 taken in
      let e2 = refuse-fine (ltb most_dimension g.d) _ p3 e1.1 in
      let e3 = refuse-fine (ltb b g.d) _ (shape_check g) e2.1 in
      (e1.0, e2.0, e3.0, e3.1)

  pub sides-taken : check_of g ≡ fine
  unfolding check_of
  sides-taken = let t = side-tests in rw (t.0, t.1) t.3

  pub sides-fit : g.d ≤ first_bad g.sides g.d
  sides-fit = ltb-false _ _ side-tests.2

module _ (g : Grid) (taken : check_of g ≡ fine) where
  tests : (ltb g.d 1 ≡ false) × (ltb most_dimension g.d ≡ false) × (ltb (bad_reflection g) g.d ≡ false) × (ltb (short_axis g) g.d ≡ false) × (ltb most_cells (cell_count g) ≡ false) × (ltb most_vertices (vertices_of g) ≡ false)
  unfolding check_of
  tests =
      let p2 : Answer = refuse (ltb most_dimension g.d) BadDimension (shape_check g) in
      let e1 = refuse-fine (ltb g.d 1) _ p2 taken in
      let e2 = refuse-fine (ltb most_dimension g.d) _ (shape_check g) e1.1 in
      let e = shape-passed (ltb (bad_reflection g) g.d) (ltb (short_axis g) g.d) (ltb most_cells (cell_count g)) (ltb most_vertices (vertices_of g)) (bad_reflection g) (short_axis g) e2.1 in
      (e1.0, e2.0, e.0, e.1, e.2, e.3)

  pub taken-low : 1 ≤ g.d
  taken-low = ltb-false _ _ tests.0

  pub taken-high : g.d ≤ most_dimension
  taken-high = ltb-false _ _ tests.1

  pub taken-reflections : g.d ≤ bad_reflection g
  taken-reflections = ltb-false _ _ tests.2

  pub taken-cells : cell_count g ≤ most_cells
  taken-cells = ltb-false _ _ tests.4

  pub taken-short : g.d ≤ short_axis g
  taken-short = ltb-false _ _ tests.3

  pub taken-vertices : vertices_of g ≤ most_vertices
  taken-vertices = ltb-false _ _ tests.5

  -- each axis has enough cells
  pub enough : (i : ℕ) → i < g.d → falls_short g i ≡ false
  enough i h = first-full (falls_short g) g.d taken-short i h

  pub glued-pos : (i : ℕ) → i < g.d → 1 ≤ glued_on g i
  glued-pos i h = some-point (closed_at g i) (cells_on g i) (ltb-false _ _ (enough i h))
    where
      some-point : (b : Bool) (n : ℕ) → cond b closed_floor open_floor ≤ n → 1 ≤ cond b n (n + 1)
      some-point true n l = omega arith
      some-point false n l = omega arith

  -- the places up to axis k take no more than all vertices
  pub room : (k : ℕ) → k < g.d → product (glued_on g) k * glued_on g k ≤ most_vertices
  room k h =
      subst (λ (x : ℕ). x ≤ most_vertices) (product-more (glued_on g) k)
      (le_trans (product-mono (glued_on g) g.d (k + 1) (omega arith) glued-pos) taken-vertices)

  -- no axis has more cells than there are vertices
  pub few_cells : (k : ℕ) → k < g.d → cells_on g k ≤ most_vertices
  unfolding product
  few_cells k h =
      let one : 1 ≤ product (glued_on g) k = product-mono (glued_on g) k 0 (omega arith) (λ i l. glued-pos i (omega arith)) in
      le_trans (fewer (closed_at g k) (cells_on g k)) (le_trans (grow (product (glued_on g) k) (glued_on g k) one) (room k h))
    where
      fewer : (b : Bool) (n : ℕ) → n ≤ cond b n (n + 1)
      fewer true n = omega arith
      fewer false n = omega arith

      grow : (p x : ℕ) → 1 ≤ p → x ≤ p * x
      grow p x l = subst (λ (z : ℕ). z ≤ p * x) (one-mul x) (mul-le-mul_right x l)

  -- a coordinate of at most n is within its place once a closed axis has taken it modulo n
  pub within-place : (k c : ℕ) → k < g.d → c ≤ cells_on g k → cond (closed_at g k) (c % cells_on g k) c < glued_on g k
  within-place k c h l = below (closed_at g k) c (cells_on g k) l (ltb-false _ _ (enough k h))
    where
      below : (b : Bool) (c n : ℕ) → c ≤ n → cond b closed_floor open_floor ≤ n → cond b (c % n) c < cond b n (n + 1)
      below true c n l e = mod-lt c (omega arith)
      below false c n l e = omega arith

  pub folded-lt : (v k : ℕ) → k < g.d → folded_at g v k < glued_on g k
  folded-lt v k h = within-place k (reflected_by g v k g.d) h (reflected-le g v k g.d)

-- a digit more stays within the places, which stay within the vertices
pub number-room : (g : Grid) → check_of g ≡ fine → (k s x f p : ℕ) → k < g.d → s ≡ product (glued_on g) k → x < s → f < glued_on g k → p ≡ glued_on g k
    → (x + s * f < s * p) × (s * p ≤ most_vertices)
number-room g taken k s x f p h hs hx hf hp = (place x s f p hx (rw hp hf), rw (hs, hp) (room g taken k h))

-- ---- past the last point
pub rest-is : (g : Grid) (v k : ℕ) → rest_at g v k ≡ v / product (points_on g) k
unfolding rest_at product
rest-is g v zero = sym (div-one v)
rest-is g v (suc k) = rw (rest-is g v k) (div-div-eq-div-mul v (product (points_on g) k) (points_on g k))

points-pos : (g : Grid) (k : ℕ) → 0 < product (points_on g) k
points-pos g k = product-pos (points_on g) k (λ i. omega arith)

pub inside : (g : Grid) (v k : ℕ) → rest_at g v k ≡ 0 → leb (product (points_on g) k) v ≡ false
inside g v k e =
    let z : v / product (points_on g) k ≡ 0 = sym (rest-is g v k) ∙ e in
    let y : v < 1 * product (points_on g) k = (div-lt_iff_lt-mul (points-pos g k)).0 (omega arith) in
    lt-leb _ _ (rw (one-mul (product (points_on g) k)) at y)

pub outside : (g : Grid) (v k : ℕ) → (rest_at g v k ≡ 0 → ⊥) → leb (product (points_on g) k) v ≡ true
outside g v k n =
    ⊎_elim
    (λ (l : v < product (points_on g) k). absurd (n (rest-is g v k ∙ div-eq_of_lt l)))
    (λ (l : product (points_on g) k ≤ v). le-leb _ _ l)
    (lt-or-ge v (product (points_on g) k))

-- ---- the answer
module _ (g : Grid) (v : GridVertex) where
  pub reduced-refused : (why : Refusal) → Err why ≡ check_of g → Err why ≡ reduce_of g v
  unfolding reduce_of
  reduced-refused why e = rw (← e)

  pub reduced-at : (c : Crossing) → fine ≡ check_of g → c ≡ crossing_of g v.0 → Ok c ≡ reduce_of g v
  unfolding reduce_of
  reduced-at c e q = rw (← e, q)
