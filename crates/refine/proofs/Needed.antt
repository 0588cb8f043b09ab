-- The need of a refinement: how it is computed, and that it is small. Assumes nothing.
use mathlib.Core.Path.{◌≡◌, refl, sym, subst}
use Prim.Native.Nat.{ℕ, suc, ◌+◌, ◌*◌, ◌/◌, ◌^◌, ◌≤◌, ◌<◌}
use native.Mathlib.Nat.{mul-le-mul_right, pow-le-pow_left, pow-le-pow_right, le_trans}
use native.Mathlib.Numerals.{add-one}
use native.Mathlib.Omega.{arith}
use native.Mathlib.Decide.{dec_lt}
use borrow.Author.Tests.{lt-ltb, le-ltb}
use Rattle.refusal.specs.Limits.{most_cells, most_refinement, most_dimension, row_most, most_corners, many_corners}
use Rattle.refine.specs.declared.Space.{Space}
use Rattle.refine.specs.Space.{counted, children_room, space_for}

-- ---- R as the need counts it
pub counted_none : (r : ℕ) → r ≡ 0 → 1 ≡ counted r
counted_none r e = rw e refl

pub counted-over : (r : ℕ) → most_refinement < r → 1 ≡ counted r
counted-over r h = rw (lt-ltb 0 r (omega arith), le-ltb r (suc most_refinement) (omega arith)) refl

pub counted-in : (r : ℕ) → 0 < r → r ≤ most_refinement → r ≡ counted r
counted-in r p h = rw (lt-ltb 0 r p, lt-ltb r (suc most_refinement) (omega arith)) refl

pub counted-most : (r : ℕ) → counted r ≤ most_refinement
counted-most r = elim (dec_lt 0 r) [ no h ↦ omega (arith, counted_none r (omega arith)) | yes p ↦ elim (dec_lt most_refinement r) [ yes h ↦ omega (arith, counted-over r h) | no h ↦ omega (arith, counted-in r p (omega arith)) ] ]

-- a power of a refinement number
pub power_small : (d k : ℕ) → d ≤ most_dimension → k ≤ most_refinement → k ^ d ≤ many_corners
power_small d k h l =
    le_trans (pow-le-pow_left l d) (le_trans (pow-le-pow_right {n = most_refinement} (omega arith) {i = d} {j = most_dimension} h) (omega arith))

-- ---- how many children there is room for
pub children-over : (d m r : ℕ) → most_cells < m * counted r ^ d → most_cells ≡ children_room d m r
children-over d m r h = rw (lt-ltb most_cells (m * counted r ^ d) h) refl

pub children-in : (d m r : ℕ) → m * counted r ^ d ≤ most_cells → m * counted r ^ d ≡ children_room d m r
children-in d m r h = rw (le-ltb most_cells (m * counted r ^ d) h) refl

pub children-most : (d m r : ℕ) → children_room d m r ≤ most_cells
children-most d m r = elim (dec_lt most_cells (m * counted r ^ d)) [ yes h ↦ omega (arith, children-over d m r h) | no h ↦ omega (arith, children-in d m r (omega arith)) ]

-- no more children than the limit, and no more than of all words: there is room for them
pub children-fit : (d m w r : ℕ) → 1 ≤ r → r ≤ most_refinement → m ≤ w → m * r ^ d ≤ most_cells → m * r ^ d ≤ children_room d w r
children-fit d m w r p l h c =
    let e : counted r ≡ r = sym (counted-in r p l) in
    let a : m * r ^ d ≤ w * counted r ^ d = subst (λ (x : ℕ). m * r ^ d ≤ w * x ^ d) (sym e) (mul-le-mul_right (r ^ d) h) in
    elim (dec_lt most_cells (w * counted r ^ d)) [ yes k ↦ omega (arith, children-over d w r k) | no k ↦ omega (arith, children-in d w r (omega arith)) ]

-- ---- the need
pub need-is : (d n c k : ℕ) → k ≡ c → ◌≡◌ {A = Space} (record {
  cells = n;
  along = n;
  pattern = k * (d + 1) * (d + 1);
  keys = 4 * n + 2 * row_most * (k * (d + 1));
  rows = n + k * (d + 1);
  spare = n + k * (d + 1);
  counts = n + k * (d + 1) + suc most_refinement;
  sorted = k * (d + 1);
  firsts = k;
  buckets = n + k * (d + 1);
}) (space_for d n c)
need-is d n c k e = rw (e, add-one d) refl

pub room_by : (d n r k : ℕ) → k ≡ children_room d (n / (d + 1)) r → k ≡ children_room d (n / suc d) r
room_by d n r k e = subst (λ (x : ℕ). k ≡ children_room d (n / x) r) (add-one d) e

-- the corners of the children, and so the need, are few
pub corners-few : (d k : ℕ) → d ≤ most_dimension → k ≤ most_cells → k * (d + 1) ≤ most_corners
corners-few d k h l = omega (arith, mul-le-mul_right (d + 1) l)

pub pattern-few : (d k : ℕ) → d ≤ most_dimension → k ≤ most_cells → k * (d + 1) * (d + 1) ≤ most_corners * row_most
pattern-few d k h l = omega (arith, mul-le-mul_right (d + 1) (corners-few d k h l))
