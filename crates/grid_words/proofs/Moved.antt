-- Every box is the first box, moved to its origin: a corner lies as far from its box's origin as the same corner of box 0 lies from point 0. And the origin of the next box in
-- a row of axis 0 is the next point. Assumes nothing.
use Rattle.refusal.specs.Says.{fine}
use mathlib.Core.Path.{◌≡◌, refl, sym, ap, subst, ◌∙◌}
use mathlib.Core.List.{List, ◌++◌}
use Prim.Native.Nat.{ℕ, zero, suc, ◌+◌, ◌-◌, ◌*◌, ◌/◌, ◌%◌, ◌≤◌, ◌<◌}
use native.Mathlib.Nat.{le_of_suc-le-suc, div-eq_of_lt, mod-lt, mod-eq_of_lt, zero-mul, mul-one, one-mul, mul_assoc, mul_comm, mul-zero, suc-mul, mul-le-mul_left, mul-le-mul_right, mul-add, add-mul, le_refl, le_trans, zero-div, zero-mod, div-one, div-div-eq-div-mul, div-add-mod', div-lt_iff_lt-mul, mul-mul-mul_comm, mul_right_comm}
use native.Mathlib.Numerals.{add-one}
use native.Mathlib.Omega.{arith}
use lib.Arith.{digits_div, digits_mod}
use lib.ListN.{length, get_or, take, drop, set, length-set}
use lib.Seq.{length-take-le, take_all}
use Rattle.lists.proofs.Laws.{store, copied, front-part, back-length}
use Rattle.lists.specs.Tables.{tab}
use Rattle.lists.specs.Words.{same}
use Rattle.multiindex.specs.Permutation.{order_of}
use Rattle.lists.proofs.Words.{same-yes, same-no}
use Rattle.lists.proofs.Tables.{length-tab, get_or-tab, tab-ext}
use Rattle.quotient.specs.declared.Grid.{Grid}
use Rattle.quotient.specs.Fold.{product, factorial}
use Rattle.quotient.specs.Shape.{cells_on, points_on, check_of, cell_count}
use Rattle.quotient.specs.Reduce.{coord_at, vertex_of}
use Rattle.quotient.specs.Points.{from_digits, points_of, point_of}
use Rattle.quotient.proofs.Taken.{taken-low}
use Rattle.quotient.proofs.Radix.{number_same}
use Rattle.grid_words.specs.Cells.{boxes_of, box_at, step_along, flat_words}
use Rattle.grid_words.specs.WorkNumbered.{each_box, order_at, corner_of}
use Rattle.grid_words.specs.Work.{vertex_table, reach_long, reach_of, moved_to, moved_by, Moving}
use Rattle.grid_words.proofs.Corners.{few-orders, times_in, step_after, dim, some-cell, some-order, points-few, corner-point, corner-coord, corner-lt, cells-product}
use Rattle.grid_words.proofs.Listed.{flat-words}

-- ---- numbers add digit by digit
pub number-add : (f a b : ℕ → ℕ) (k : ℕ) → from_digits f (λ i. a i + b i) k ≡ from_digits f a k + from_digits f b k
unfolding from_digits
number-add f a b zero = refl
number-add f a b (suc k) = omega (arith, number-add f a b k, mul-add (product f k) (a k) (b k))

pub number-zero : (f c : ℕ → ℕ) (k : ℕ) → ((i : ℕ) → i < k → c i ≡ 0) → from_digits f c k ≡ 0
unfolding from_digits
number-zero f c zero h = refl
number-zero f c (suc k) h = rw (number-zero f c k (λ i l. h i (omega arith)), h k (omega arith), mul-zero (product f k))

module _ (g : Grid) (passed : check_of g ≡ fine) where
  each-some : 0 < each_box g
  each-some = some-order g.d (dim g passed)

  -- box 0 begins at point 0
  box-zero : (k : ℕ) → box_at g 0 k ≡ 0
  box-zero k = rw (zero-div (product (cells_on g) k), zero-mod (cells_on g k))

  -- cells of one place in their boxes have one order
  order_same : (x y : ℕ) → x % each_box g ≡ y % each_box g → order_at g x ≡ order_at g y
  order_same x y e = ap (λ (m : ℕ). order_of g.d (each_box g - 1 - m)) e

  -- ---- a corner of the first box
  pub corner-first : (x j : ℕ) → x < each_box g → j ≤ g.d → corner_of g x j ≡ point_of g (λ k. times_in k (take j (order_at g x)))
  corner-first x j h l =
      let t : ℕ → ℕ = λ k. times_in k (take j (order_at g x)) in
      corner-point g passed x j l
      ∙ number_same (points_on g) (λ k. box_at g (x / each_box g) k + t k) t g.d
      (λ k m. let z : x / each_box g ≡ 0 = div-eq_of_lt h in omega (arith, ap (λ (y : ℕ). box_at g y k) z, box-zero k))

  -- ---- a corner of box b
  pub corner-moved : (b x j : ℕ) → x < each_box g → j ≤ g.d → corner_of g (b * each_box g + x) j ≡ point_of g (box_at g b) + corner_of g x j
  corner-moved b x j h l =
      let n : ℕ = each_box g in
      let q : (b * n + x) / n ≡ b = digits_div b h in
      let r : (b * n + x) % n ≡ x % n = digits_mod b h ∙ sym (mod-eq_of_lt h) in
      let t : ℕ → ℕ = λ k. times_in k (take j (order_at g x)) in
      let here : corner_of g (b * n + x) j ≡ point_of g (λ k. box_at g b k + t k) =
      corner-point g passed (b * n + x) j l
      ∙ ap (λ (m : ℕ). point_of g (λ k. box_at g m k + times_in k (take j (order_at g (b * n + x))))) q
      ∙ ap (λ (os : List ℕ). point_of g (λ k. box_at g b k + times_in k (take j os))) (order_same (b * n + x) x r) in
      here ∙ number-add (points_on g) (box_at g b) t g.d ∙ ap (λ (p : ℕ). point_of g (box_at g b) + p) (sym (corner-first x j h l))

  -- so the steps between two corners are those between the corners of the first box
  pub step-moved : (b x i j k : ℕ) → x < each_box g → i ≤ g.d → j ≤ g.d → k < g.d
      → coord_at g (corner_of g (b * each_box g + x) j) k - coord_at g (corner_of g (b * each_box g + x) i) k ≡ coord_at g (corner_of g x j) k - coord_at g (corner_of g x i) k
  step-moved b x i j k h li lj lk =
      let X : ℕ = b * each_box g + x in
      let o : order_at g X ≡ order_at g x = order_same X x (digits_mod b h ∙ sym (mod-eq_of_lt h)) in
      let tj : times_in k (take j (order_at g X)) ≡ times_in k (take j (order_at g x)) = ap (λ (os : List ℕ). times_in k (take j os)) o in
      let ti : times_in k (take i (order_at g X)) ≡ times_in k (take i (order_at g x)) = ap (λ (os : List ℕ). times_in k (take i os)) o in
      omega (arith, corner-coord g passed X j k lj lk, corner-coord g passed X i k li lk, corner-coord g passed x j k lj lk, corner-coord g passed x i k li lk, tj, ti)

  -- ---- the origin of the next box
  parts_same : (b c : ℕ) → b / cells_on g 0 ≡ c / cells_on g 0 → (k : ℕ) → b / product (cells_on g) (suc k) ≡ c / product (cells_on g) (suc k)
  unfolding product
  parts_same b c e zero = rw (one-mul (cells_on g 0)) e
  parts_same b c e (suc k) =
      sym (div-div-eq-div-mul b (product (cells_on g) (suc k)) (cells_on g (suc k)))
      ∙ ap (λ (x : ℕ). x / cells_on g (suc k)) (parts_same b c e k)
      ∙ div-div-eq-div-mul c (product (cells_on g) (suc k)) (cells_on g (suc k))

  pub origin-next : (q x : ℕ) → suc x < cells_on g 0 → point_of g (box_at g (q * cells_on g 0 + suc x)) ≡ point_of g (box_at g (q * cells_on g 0 + x)) + 1
  unfolding product
  origin-next q x h =
      let n : ℕ = cells_on g 0 in
      let b : ℕ = q * n + x in
      let c : ℕ = q * n + suc x in
      let l : x < n = omega arith in
      number_same (points_on g) (box_at g c) (step_along 0 (box_at g b)) g.d (each q x h)
      ∙ step_after (points_on g) (box_at g b) 0 g.d (taken-low g passed)
    where
      each : (q x : ℕ) → suc x < cells_on g 0 → (k : ℕ) → k < g.d → box_at g (q * cells_on g 0 + suc x) k ≡ box_at g (q * cells_on g 0 + x) k + same 0 k
      each q x h zero m =
          let l : x < cells_on g 0 = omega arith in
          ap (λ (y : ℕ). y % cells_on g 0) (div-one (q * cells_on g 0 + suc x)) ∙ digits_mod q h
          ∙ omega (arith, ap (λ (y : ℕ). y % cells_on g 0) (div-one (q * cells_on g 0 + x)) ∙ digits_mod q l, same-yes 0 0 refl)
      each q x h (suc k) m =
          let l : x < cells_on g 0 = omega arith in
          let e : same 0 (suc k) ≡ 0 = same-no 0 (suc k) (λ z. let w : ⊥ = omega arith in w) in
          ap (λ (y : ℕ). y % cells_on g (suc k)) (parts_same (q * cells_on g 0 + suc x) (q * cells_on g 0 + x) (digits_div q h ∙ sym (digits_div q l)) k)
          ∙ omega arith

-- ---- the loop over all boxes: what is known once the first i numbers are written
pub record Walking (g : Grid) (reach to₀ to : List ℕ) (origin b x r i : ℕ) : Type 0 where
  pub within : i ≤ length to₀
  pub long : length to ≡ length to₀
  pub written : to ≡ take i (moved_by g reach) ++ drop i to₀
  pub begun : origin ≡ point_of g (box_at g b)
  pub place : i ≡ b * length reach + r
  pub inside : r < length reach
  pub rows : ℕ
  pub row : b ≡ rows * cells_on g 0 + x
  pub in-row : x < cells_on g 0

module _ (g : Grid) (table reach to₀ : List ℕ) (m : Moving g table reach to₀) where
  moved-long : length (moved_by g reach) ≡ length to₀
  moved-long = length-tab (boxes_of g * length reach) (moved_to g reach) ∙ sym m.to_long

  pub walking-none : (origin : ℕ) → origin ≡ point_of g (box_at g 0) → Walking g reach to₀ to₀ origin 0 0 0 0
  walking-none origin e =
      record {
        within = omega arith;
        long = refl;
        written = refl;
        begun = e;
        place = omega (arith, zero-mul (length reach));
        inside = m.some;
        rows = 0;
        row = omega (arith, zero-mul (cells_on g 0));
        in-row = some-cell g m.taken 0 (taken-low g m.taken);
      }

  module _ (to : List ℕ) (origin b x r i : ℕ) (w : Walking g reach to₀ to origin b x r i) where
    -- the point that is read
    pub read-in : origin + get_or reach r 0 < points_of g
    read-in = rw w.begun (m.within b r w.inside)

    pub read-few : origin + get_or reach r 0 < 32768
    read-few = omega (arith, read-in, points-few g m.taken g.d (le_refl g.d))

    pub table_long : length table ≡ points_of g
    table_long = ap length m.of_points ∙ length-tab (points_of g) (vertex_of g)

    pub read_at : i < length to → get_or table (origin + get_or reach r 0) 0 ≡ get_or (moved_by g reach) i 0
    read_at h =
        ap (λ (l : List ℕ). get_or l (origin + get_or reach r 0) 0) m.of_points
        ∙ get_or-tab (points_of g) (vertex_of g) (origin + get_or reach r 0) 0 read-in
        ∙ ap (vertex_of g) (ap (λ (p : ℕ). p + get_or reach r 0) w.begun)
        ∙ sym
        (get_or-tab (boxes_of g * length reach) (moved_to g reach) i 0 (omega (arith, w.long, m.to_long))
        ∙ ap (λ (n : ℕ). moved_to g reach n) w.place
        ∙ ap (λ (n : ℕ). vertex_of g (point_of g (box_at g n) + get_or reach ((b * length reach + r) % length reach) 0)) (digits_div b w.inside)
        ∙ ap (λ (n : ℕ). vertex_of g (point_of g (box_at g b) + get_or reach n 0)) (digits_mod b w.inside))

    module _ (h : i < length to) (v : ℕ) (hv : v ≡ get_or table (origin + get_or reach r 0) 0) where
      stored : set to i v ≡ take (i + 1) (moved_by g reach) ++ drop (i + 1) to₀
      stored =
          ap (λ (y : ℕ). set to i y) (hv ∙ read_at h)
          ∙ ap (λ (l : List ℕ). set l i (get_or (moved_by g reach) i 0)) w.written
          ∙ store (moved_by g reach) to₀ i (omega (arith, moved-long, w.long)) (omega (arith, w.long))

      pub walking-more : r + 1 < length reach → Walking g reach to₀ (set to i v) origin b x (r + 1) (i + 1)
      walking-more l =
          record {
            within = omega (arith, w.long);
            long = length-set to i v ∙ w.long;
            written = stored;
            begun = w.begun;
            place = omega (arith, w.place);
            inside = l;
            rows = w.rows;
            row = w.row;
            in-row = w.in-row;
          }

      next_place : length reach ≤ r + 1 → i + 1 ≡ (b + 1) * length reach + 0
      next_place l = omega (arith, w.place, w.inside, suc-mul b (length reach), ap (λ (n : ℕ). n * length reach) (add-one b))

      pub walking-next : length reach ≤ r + 1 → x + 1 < cells_on g 0 → Walking g reach to₀ (set to i v) (origin + 1) (b + 1) (x + 1) 0 (i + 1)
      walking-next l k =
          record {
            within = omega (arith, w.long);
            long = length-set to i v ∙ w.long;
            written = stored;
            begun = next-origin;
            place = next_place l;
            inside = m.some;
            rows = w.rows;
            row = omega (arith, w.row);
            in-row = k;
          }
        where
          next-origin : origin + 1 ≡ point_of g (box_at g (b + 1))
          next-origin =
              ap (λ (p : ℕ). p + 1) (w.begun ∙ ap (λ (n : ℕ). point_of g (box_at g n)) w.row)
              ∙ sym (origin-next g m.taken w.rows x (omega arith))
              ∙ ap (λ (n : ℕ). point_of g (box_at g n)) (let q : w.rows * cells_on g 0 + suc x ≡ b + 1 = omega (arith, w.row) in q)

      pub walking-turn : length reach ≤ r + 1 → cells_on g 0 ≤ x + 1 → (o : ℕ) → o ≡ point_of g (box_at g (b + 1)) → Walking g reach to₀ (set to i v) o (b + 1) 0 0 (i + 1)
      walking-turn l k o e =
          record {
            within = omega (arith, w.long);
            long = length-set to i v ∙ w.long;
            written = stored;
            begun = e;
            place = next_place l;
            inside = m.some;
            rows = w.rows + 1;
            row = omega (arith, w.row, w.in-row, suc-mul w.rows (cells_on g 0), ap (λ (n : ℕ). n * cells_on g 0) (add-one w.rows));
            in-row = some-cell g m.taken 0 (taken-low g m.taken);
          }

    pub walking-done : length to ≤ i → to ≡ moved_by g reach
    walking-done h = w.written ∙ copied (moved_by g reach) to₀ i (omega (arith, moved-long, w.long)) (omega (arith, w.long))

    -- what a turn adds stays small
    pub box-few : b ≤ i
    box-few = omega (arith, w.place, mul-le-mul_left b m.some, mul-one b)

-- ---- the words are the corners of the first box, moved
pub in_cells : (r m n : ℕ) → 0 < n → r < m * n → r / n < m
in_cells r m n h l = (div-lt_iff_lt-mul h).1 l

module _ (g : Grid) (passed : check_of g ≡ fine) where
  pub reach-length : length (reach_of g) ≡ reach_long g
  reach-length = length-tab (reach_long g) _

  pub reach-some : 0 < reach_long g
  reach-some = omega (arith, mul-le-mul_right (suc g.d) (some-order g.d (dim g passed)), one-mul (suc g.d))

  reach-at : (r : ℕ) → r < reach_long g → get_or (reach_of g) r 0 ≡ corner_of g (r / suc g.d) (r % suc g.d)
  reach-at r h = get_or-tab (reach_long g) _ r 0 h

  in-each : (r : ℕ) → r < reach_long g → r / suc g.d < each_box g
  in-each r h = in_cells r (each_box g) (suc g.d) (omega arith) h

  pub reach-within : (b r : ℕ) → r < length (reach_of g) → point_of g (box_at g b) + get_or (reach_of g) r 0 < points_of g
  reach-within b r h =
      let l : r < reach_long g = omega (arith, reach-length) in
      let j : r % suc g.d ≤ g.d = (let z : r % suc g.d < suc g.d = mod-lt r (omega arith) in omega arith) in
      subst (λ (p : ℕ). p < points_of g) (corner-moved g passed b (r / suc g.d) (r % suc g.d) (in-each r l) j ∙ ap (λ (p : ℕ). point_of g (box_at g b) + p) (sym (reach-at r l)))
      (corner-lt g passed (b * each_box g + r / suc g.d) (r % suc g.d) j)

  pub corners-many : boxes_of g * reach_long g ≡ cell_count g * suc g.d
  corners-many = sym (mul_assoc (boxes_of g) (each_box g) (suc g.d)) ∙ ap (λ (n : ℕ). n * suc g.d) (mul_comm (boxes_of g) (each_box g) ∙ cells-product g passed (each_box g) (boxes_of g) refl refl)

  pub words-moved : moved_by g (reach_of g) ≡ flat_words g
  words-moved =
      ap (λ (n : ℕ). tab (boxes_of g * n) (moved_to g (reach_of g))) reach-length
      ∙ ap (λ (n : ℕ). tab n (moved_to g (reach_of g))) corners-many
      ∙ tab-ext (cell_count g * suc g.d) (moved_to g (reach_of g)) (λ i. vertex_of g (corner_of g (i / suc g.d) (i % suc g.d))) each
      ∙ sym (flat-words g passed)
    where
      each : (i : ℕ) → i < cell_count g * suc g.d → moved_to g (reach_of g) i ≡ vertex_of g (corner_of g (i / suc g.d) (i % suc g.d))
      each i h =
          let n : ℕ = suc g.d in
          let e : ℕ = reach_long g in
          let b : ℕ = i / e in
          let r : ℕ = i % e in
          let l : r < e = mod-lt i reach-some in
          let j : r % n < n = mod-lt r (omega arith) in
          let whole : i ≡ (b * each_box g + r / n) * n + r % n = split i in
          let over : i / n ≡ b * each_box g + r / n = ap (λ (y : ℕ). y / n) whole ∙ digits_div (b * each_box g + r / n) j in
          let left : i % n ≡ r % n = ap (λ (y : ℕ). y % n) whole ∙ digits_mod (b * each_box g + r / n) j in
          ap (λ (y : ℕ). vertex_of g (point_of g (box_at g (i / y)) + get_or (reach_of g) (i % y) 0)) reach-length
          ∙ ap (vertex_of g) (ap (λ (p : ℕ). point_of g (box_at g b) + p) (reach-at r l) ∙ sym (corner-moved g passed b (r / n) (r % n) (in-each r l) (omega arith)))
          ∙ ap (λ (y : ℕ). vertex_of g (corner_of g y (r % n))) (sym over)
          ∙ ap (λ (y : ℕ). vertex_of g (corner_of g (i / n) y)) (sym left)
        where
          split : (i : ℕ) → i ≡ (i / reach_long g * each_box g + i % reach_long g / suc g.d) * suc g.d + i % reach_long g % suc g.d
          split i =
              omega
              (arith, div-add-mod' i (reach_long g), div-add-mod' (i % reach_long g) (suc g.d), mul_assoc (i / reach_long g) (each_box g) (suc g.d), add-mul (i / reach_long g * each_box g) (i % reach_long g / suc g.d) (suc g.d))

  -- there are no more points than corners of cells
  points-under : (k : ℕ) → k ≤ g.d → product (points_on g) k ≤ factorial k * suc k * product (cells_on g) k
  unfolding product
  points-under zero h = omega arith
  points-under (suc k) h =
      let n : ℕ = cells_on g k in
      let A : ℕ = factorial k * suc k in
      let C : ℕ = product (cells_on g) k in
      let s : 1 ≤ n = some-cell g passed k (omega arith) in
      let a : product (points_on g) k * (n + 1) ≤ A * C * (n + 1) = mul-le-mul_right (n + 1) (points-under k (omega arith)) in
      let d : suc (suc k) * n ≡ 2 * n + k * n = omega (arith, suc-mul (suc k) n, suc-mul k n) in
      let b : A * C * (n + 1) ≤ A * C * (suc (suc k) * n) = mul-le-mul_left (A * C) (omega (arith, d)) in
      subst (λ (x : ℕ). product (points_on g) k * (n + 1) ≤ x) (mul-mul-mul_comm A C (suc (suc k)) n) (le_trans a b)

  pub points-corners : points_of g ≤ cell_count g * suc g.d
  points-corners = subst (λ (x : ℕ). points_of g ≤ x) (mul_right_comm (factorial g.d) (suc g.d) (boxes_of g)) (points-under g.d (le_refl g.d))

  -- a box has few corners
  pub reach_few : reach_long g ≤ 24
  reach_few = omega (arith, dim g passed, few-orders g.d (dim g passed), mul-le-mul_right (suc g.d) (le_of_suc-le-suc (few-orders g.d (dim g passed))))

-- ---- the lists that are lent
pub front-is : (n : ℕ) (room p x : List ℕ) → n ≤ length room → length p ≡ length (take n room) → p ≡ x → take n (p ++ drop n room) ≡ x
front-is n room p x h e q =
    let l : length p ≡ n = e ∙ length-take-le n room h in
    front-part p (drop n room) 0 n (omega arith) ∙ take_all n p (omega arith) ∙ q

pub front_fits : (n : ℕ) (room p : List ℕ) → n ≤ length room → length p ≡ length (take n room) → n ≤ length (p ++ drop n room)
front_fits n room p h e = omega (arith, back-length n room p e)

pub moving-words : (g : Grid) → check_of g ≡ fine → (table reach to : List ℕ) → table ≡ vertex_table g → reach ≡ reach_of g → length to ≡ cell_count g * suc g.d → Moving g table reach to
moving-words g passed table reach to e f h =
    subst (λ (l : List ℕ). Moving g table l to) (sym f)
    (record {
      taken = passed;
      of_points = e;
      some = omega (arith, reach-length g passed, reach-some g passed);
      within = reach-within g passed;
      to_long = h ∙ sym (corners-many g passed) ∙ ap (λ (n : ℕ). boxes_of g * n) (sym (reach-length g passed));
    })
