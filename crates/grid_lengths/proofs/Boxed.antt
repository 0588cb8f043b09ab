-- The visits of one box are those of every other, moved: what a visit measures depends only on its place in its box, so there are no more values than a box has visits. Assumes nothing.
use Rattle.refusal.specs.Says.{fine}
use mathlib.Core.Path.{◌≡◌, refl, sym, ap, ap₂, subst, ◌∙◌}
use mathlib.Core.Bool.{Bool, true, false, cond, ◌&&◌}
use mathlib.Core.List.{List, ◌++◌}
use Prim.Native.Nat.{ℕ, zero, suc, ◌+◌, ◌-◌, ◌*◌, ◌/◌, ◌%◌, ◌≤◌, ◌<◌, min, max}
use native.Mathlib.Nat.{mod-lt, mod-le, mul_assoc, mul_comm, add-mul, one-mul, mul-one, mul-le-mul_left, mul-le-mul_right, le_trans, le_of_suc-le-suc, div-add-mod', div-div-eq-div-mul}
use native.Mathlib.Omega.{arith}
use lib.Arith.{digits_div, digits_mod, mod-mul}
use lib.Dec.{eqb, leb}
use lib.Ieee.{Float, binary64, add}
use lib.ListN.{length, get_or, take, drop, length-append}
use lib.Seq.{length-take-le, take-append-le, take_all}
use borrow.Author.Tests.{leb-true, eqb-true}
use Rattle.multiindex.proofs.Tables.{at-below}
use Rattle.lists.specs.Tables.{tab}
use Rattle.lists.proofs.Tables.{length-tab, get_or-tab, tab-ext}
use Rattle.grid_sides.specs.declared.Sides.{Sides}
use Rattle.grid_sides.specs.declared.Steps.{Steps}
use Rattle.grid_sides.specs.Counts.{side_of}
use Rattle.grid_sides.specs.Lengths.{square_of, step_of, squares_to}
use Rattle.quotient.specs.declared.Grid.{Grid}
use Rattle.quotient.specs.Shape.{check_of, cell_count}
use Rattle.quotient.specs.Reduce.{coord_at, vertex_of}
use Rattle.quotient.specs.Points.{points_of, point_of}
use Rattle.quotient.proofs.Taken.{taken-low}
use Rattle.grid_words.specs.Cells.{boxes_of, box_at}
use Rattle.grid_words.specs.WorkNumbered.{each_box, corner_of}
use Rattle.grid_words.specs.Work.{vertex_table, moved_to, moved_by, touches_at, Moving}
use Rattle.grid_words.proofs.Corners.{dim, few-orders, some-order, cells-product, corner-lt, corners-apart, boxes-some}
use Rattle.grid_words.proofs.Moved.{corner-moved, step-moved, in_cells, points-corners}
use Rattle.grid_words.proofs.Touched.{untouched}
use Rattle.grid_lengths.specs.Edges.{first_end, second_end, edges_each, visits_of, corner_at, from_at, to_at, spacings_of, steps_of, square_at, same_ends, visits_edge}
use Rattle.grid_lengths.specs.Noted.{end_of, ends_of}
use Rattle.grid_lengths.specs.Work.{visits_each, end_point, end_reach, Valued}
use Rattle.grid_lengths.proofs.Measuring.{some_edges, each-few, end-rise, corner-at, ends-below, cell_in}

-- a cell has no more corners than its edges have ends
ends-most : (d : ℕ) → 1 ≤ d → d ≤ 3 → suc d ≤ edges_each d * 2
ends-most zero l h = absurd (let w : ⊥ = omega arith in w)
ends-most (suc d) l h = leb-true (suc (suc d)) (edges_each (suc d) * 2) (at-below 3 (λ d. leb (suc (suc d)) (edges_each (suc d) * 2)) refl d h)

-- an edge at a has an end a
ends-other : (a b p q : ℕ) → (p ≡ a → ⊥) → (q ≡ a → ⊥) → same_ends a b p q ≡ false
ends-other a b p q f h = go (eqb (min a b) (min p q)) (eqb (max a b) (max p q)) refl refl
  where
    go : (s t : Bool) → eqb (min a b) (min p q) ≡ s → eqb (max a b) (max p q) ≡ t → s && t ≡ false
    go false t e k = refl
    go true false e k = refl
    go true true e k = let x : min a b ≡ min p q = eqb-true (min a b) (min p q) e in let y : max a b ≡ max p q = eqb-true (max a b) (max p q) k in absurd (let w : ⊥ = omega arith in w)

-- ---- a squared length reads the steps along the axes below d
squares-same : (h : Sides) (s t : Steps) (k : ℕ) → ((i : ℕ) → i ≤ k → step_of s i ≡ step_of t i) → squares_to h s k ≡ squares_to h t k
unfolding squares_to
squares-same h s t zero e = ap (λ (n : ℕ). square_of n (side_of h 0)) (e 0 (omega arith))
squares-same h s t (suc k) e =
    ap₂ (λ (x y : Float). add binary64 x y) (squares-same h s t k (λ i l. e i (omega arith))) (ap (λ (n : ℕ). square_of n (side_of h (suc k))) (e (suc k) (omega arith)))

step-at : (g : Grid) (p q i : ℕ) → i < 3 → step_of (steps_of g p q) i ≡ coord_at g q i - coord_at g p i
unfolding step_of
step-at g p q zero h = refl
step-at g p q (suc zero) h = refl
step-at g p q (suc (suc zero)) h = refl
step-at g p q (suc (suc (suc i))) h = absurd (let w : ⊥ = omega arith in w)

module _ (g : Grid) (passed : check_of g ≡ fine) where
  pub each-visits : 0 < visits_each g
  each-visits = omega (arith, mul-le-mul_right (edges_each g.d) (some-order g.d (dim g passed)), one-mul (edges_each g.d), some_edges g passed)

  pub each-visits-few : visits_each g ≤ 36
  each-visits-few =
      omega
      (arith, mul-le-mul_right (edges_each g.d) (le_of_suc-le-suc (few-orders g.d (dim g passed))), each-few g.d (dim g passed))

  -- all boxes together have all visits
  pub visits-boxes : boxes_of g * visits_each g ≡ visits_of g
  visits-boxes = sym (mul_assoc (boxes_of g) (each_box g) (edges_each g.d)) ∙ ap (λ (n : ℕ). n * edges_each g.d) (mul_comm (boxes_of g) (each_box g) ∙ cells-product g passed (each_box g) (boxes_of g) refl refl)

  pub each-visits-most : visits_each g ≤ visits_of g
  each-visits-most =
      subst (λ (n : ℕ). visits_each g ≤ n) visits-boxes
      (subst (λ (n : ℕ). n ≤ boxes_of g * visits_each g) (one-mul (visits_each g)) (mul-le-mul_right (visits_each g) (boxes-some g passed)))

  -- there are no more points than ends of visits
  pub points-ends : points_of g ≤ visits_of g * 2
  points-ends =
      le_trans (points-corners g passed)
      (subst (λ (n : ℕ). cell_count g * suc g.d ≤ n) (sym (mul_assoc (cell_count g) (edges_each g.d) 2)) (mul-le-mul_left (cell_count g) (ends-most g.d (taken-low g passed) (dim g passed))))

  -- ---- visit r is visit r % m of box r / m
  module _ (r : ℕ) (h : r < visits_of g) where
    abbrev box : ℕ
    box = r / visits_each g

    abbrev within : ℕ
    within = r % visits_each g

    abbrev cell : ℕ
    cell = within / edges_each g.d

    abbrev edge : ℕ
    edge = within % edges_each g.d

    edge_in : edge < edges_each g.d
    edge_in = mod-lt within (some_edges g passed)

    whole : r ≡ (box * each_box g + cell) * edges_each g.d + edge
    whole =
        omega
        (arith, div-add-mod' r (visits_each g), div-add-mod' within (edges_each g.d), mul_assoc box (each_box g) (edges_each g.d), add-mul (box * each_box g) cell (edges_each g.d))

    over : r / edges_each g.d ≡ box * each_box g + cell
    over = ap (λ (y : ℕ). y / edges_each g.d) whole ∙ digits_div (box * each_box g + cell) edge_in

    left : r % edges_each g.d ≡ edge
    left = ap (λ (y : ℕ). y % edges_each g.d) whole ∙ digits_mod (box * each_box g + cell) edge_in

    cell-each : cell < each_box g
    cell-each = in_cells within (each_box g) (edges_each g.d) (some_edges g passed) (mod-lt r each-visits)

    within-visits : within < visits_of g
    within-visits = omega (arith, mod-le r (visits_each g))

    -- a corner of its cell, and the same corner in the first box
    corner-here : (j : ℕ) → corner_at g (r / edges_each g.d) j ≡ corner_of g (box * each_box g + cell) j
    corner-here j = corner-at g passed (r / edges_each g.d) j (cell_in g passed r (edges_each g.d) refl h) ∙ ap (λ (x : ℕ). corner_of g x j) over

    corner-first : (j : ℕ) → corner_at g cell j ≡ corner_of g cell j
    corner-first j = corner-at g passed cell j (cell_in g passed within (edges_each g.d) refl within-visits)

    from-here : from_at g r ≡ corner_of g (box * each_box g + cell) (first_end edge)
    from-here = corner-here (first_end (r % edges_each g.d)) ∙ ap (λ (e : ℕ). corner_of g (box * each_box g + cell) (first_end e)) left

    to-here : to_at g r ≡ corner_of g (box * each_box g + cell) (second_end edge)
    to-here = corner-here (second_end (r % edges_each g.d)) ∙ ap (λ (e : ℕ). corner_of g (box * each_box g + cell) (second_end e)) left

    ends_low : (first_end edge ≤ g.d) × (second_end edge ≤ g.d)
    ends_low = ends-below g.d edge (dim g passed) edge_in

    pub from-within : from_at g r < points_of g
    from-within = rw from-here (corner-lt g passed (box * each_box g + cell) (first_end edge) ends_low.0)

    pub to-within : to_at g r < points_of g
    to-within = rw to-here (corner-lt g passed (box * each_box g + cell) (second_end edge) ends_low.1)

    -- its ends have different vertices
    pub ends-apart : vertex_of g (from_at g r) ≡ vertex_of g (to_at g r) → ⊥
    ends-apart e =
        corners-apart g passed (box * each_box g + cell) (first_end edge) (second_end edge) (end-rise edge (omega (arith, edge_in, each-few g.d (dim g passed)))) ends_low.1
        (ap (vertex_of g) (sym from-here) ∙ e ∙ ap (vertex_of g) to-here)

    -- a box of which no corner is a has no visit of an edge at a
    pub visit-skipped : (a b : ℕ) → touches_at g (r / visits_each g) a ≡ false → visits_edge g a b r ≡ false
    visit-skipped a b f =
        ends-other a b (vertex_of g (from_at g r)) (vertex_of g (to_at g r))
        (λ e. untouched g passed box a cell (first_end edge) f cell-each ends_low.0 (ap (vertex_of g) (sym from-here) ∙ e))
        (λ e. untouched g passed box a cell (second_end edge) f cell-each ends_low.1 (ap (vertex_of g) (sym to-here) ∙ e))

    -- what it measures
    pub square-boxed : square_at g r ≡ square_at g (r % visits_each g)
    square-boxed = squares-same (spacings_of g) (steps_of g (from_at g r) (to_at g r)) (steps_of g (from_at g within) (to_at g within)) (g.d - 1) each
      where
        each : (i : ℕ) → i ≤ g.d - 1 → step_of (steps_of g (from_at g r) (to_at g r)) i ≡ step_of (steps_of g (from_at g within) (to_at g within)) i
        each i l =
            let k : i < g.d = omega (arith, taken-low g passed) in
            let m : i < 3 = omega (arith, dim g passed) in
            step-at g (from_at g r) (to_at g r) i m
            ∙ ap₂ (λ (p q : ℕ). coord_at g q i - coord_at g p i) from-here to-here
            ∙ step-moved g passed box cell (first_end edge) (second_end edge) i cell-each ends_low.0 ends_low.1 k
            ∙ ap₂ (λ (p q : ℕ). coord_at g q i - coord_at g p i) (sym (corner-first (first_end edge))) (sym (corner-first (second_end edge)))
            ∙ sym (step-at g (from_at g within) (to_at g within) i m)

    -- the points between which it measures
    pub from-boxed : from_at g r ≡ point_of g (box_at g (r / visits_each g)) + from_at g (r % visits_each g)
    from-boxed = from-here ∙ corner-moved g passed box cell (first_end edge) cell-each ends_low.0 ∙ ap (λ (p : ℕ). point_of g (box_at g box) + p) (sym (corner-first (first_end edge)))

    pub to-boxed : to_at g r ≡ point_of g (box_at g (r / visits_each g)) + to_at g (r % visits_each g)
    to-boxed = to-here ∙ corner-moved g passed box cell (second_end edge) cell-each ends_low.1 ∙ ap (λ (p : ℕ). point_of g (box_at g box) + p) (sym (corner-first (second_end edge)))

  -- ---- the ends of all visits are those of the first box, moved
  pub reach-long : length (end_reach g) ≡ visits_each g * 2
  reach-long = length-tab (visits_each g * 2) (end_point g)

  pub reach-some : 0 < visits_each g * 2
  reach-some = omega (arith, each-visits)

  -- an end of the first box, moved to box b, is a point of the grid
  point-within : (b r : ℕ) → r < visits_each g → (point_of g (box_at g b) + from_at g r < points_of g) × (point_of g (box_at g b) + to_at g r < points_of g)
  point-within b r h =
      let k : ℕ = edges_each g.d in
      let x : r / k < each_box g = in_cells r (each_box g) k (some_edges g passed) h in
      let e : r % k < k = mod-lt r (some_edges g passed) in
      let l = ends-below g.d (r % k) (dim g passed) e in
      let c : r / k < cell_count g = le_trans x each-cells in (
        subst (λ (p : ℕ). p < points_of g) (corner-moved g passed b (r / k) (first_end (r % k)) x l.0 ∙ ap (λ (p : ℕ). point_of g (box_at g b) + p) (sym (corner-at g passed (r / k) (first_end (r % k)) c)))
            (corner-lt g passed (b * each_box g + r / k) (first_end (r % k)) l.0),
        subst (λ (p : ℕ). p < points_of g) (corner-moved g passed b (r / k) (second_end (r % k)) x l.1 ∙ ap (λ (p : ℕ). point_of g (box_at g b) + p) (sym (corner-at g passed (r / k) (second_end (r % k)) c)))
            (corner-lt g passed (b * each_box g + r / k) (second_end (r % k)) l.1),
      )
    where
      each-cells : each_box g ≤ cell_count g
      each-cells =
          subst (λ (n : ℕ). each_box g ≤ n) (cells-product g passed (each_box g) (boxes_of g) refl refl)
          (subst (λ (n : ℕ). n ≤ each_box g * boxes_of g) (mul-one (each_box g)) (mul-le-mul_left (each_box g) (boxes-some g passed)))

  pub reach-within : (b i : ℕ) → i < length (end_reach g) → point_of g (box_at g b) + get_or (end_reach g) i 0 < points_of g
  reach-within b i h =
      let l : i < visits_each g * 2 = omega (arith, reach-long) in
      let p = point-within b (i / 2) (in_cells i (visits_each g) 2 (omega arith) l) in
      subst (λ (q : ℕ). point_of g (box_at g b) + q < points_of g) (sym (get_or-tab (visits_each g * 2) (end_point g) i 0 l)) (by_side (eqb (i % 2) 0) (point_of g (box_at g b)) (from_at g (i / 2)) (to_at g (i / 2)) (points_of g) p.0 p.1)
    where
      by_side : (s : Bool) (o x y n : ℕ) → o + x < n → o + y < n → o + cond s x y < n
      by_side true o x y n a b = a
      by_side false o x y n a b = b

  pub ends-moved : moved_by g (end_reach g) ≡ ends_of g
  ends-moved =
      ap (λ (n : ℕ). tab (boxes_of g * n) (moved_to g (end_reach g))) reach-long
      ∙ ap (λ (n : ℕ). tab n (moved_to g (end_reach g))) (sym (mul_assoc (boxes_of g) (visits_each g) 2) ∙ ap (λ (n : ℕ). n * 2) visits-boxes)
      ∙ tab-ext (visits_of g * 2) (moved_to g (end_reach g)) (end_of g) each
    where
      by_side : (s : Bool) (o x y p q : ℕ) → p ≡ o + x → q ≡ o + y → vertex_of g (o + cond s x y) ≡ cond s (vertex_of g p) (vertex_of g q)
      by_side true o x y p q e f = ap (vertex_of g) (sym e)
      by_side false o x y p q e f = ap (vertex_of g) (sym f)

      each : (i : ℕ) → i < visits_of g * 2 → moved_to g (end_reach g) i ≡ end_of g i
      each i h =
          let m : ℕ = visits_each g in
          let r : ℕ = i / 2 in
          let l : r < visits_of g = in_cells i (visits_of g) 2 (omega arith) h in
          let side : i % 2 < 2 = mod-lt i (omega arith) in
          let up : i / (m * 2) ≡ r / m = ap (λ (n : ℕ). i / n) (mul_comm m 2) ∙ sym (div-div-eq-div-mul i 2 m) in
          let rest : i % (m * 2) ≡ (r % m) * 2 + i % 2 = mod-mul i each-visits (omega arith) in
          let low : i % (m * 2) < m * 2 = mod-lt i reach-some in
          let point : get_or (end_reach g) (i % (m * 2)) 0 ≡ cond (eqb (i % 2) 0) (from_at g (r % m)) (to_at g (r % m)) =
          get_or-tab (m * 2) (end_point g) (i % (m * 2)) 0 low
          ∙ ap₂ (λ (s n : ℕ). cond (eqb s 0) (from_at g n) (to_at g n)) (ap (λ (n : ℕ). n % 2) rest ∙ digits_mod (r % m) side) (ap (λ (n : ℕ). n / 2) rest ∙ digits_div (r % m) side) in
          ap (λ (n : ℕ). vertex_of g (point_of g (box_at g (i / n)) + get_or (end_reach g) (i % n) 0)) reach-long
          ∙ ap₂ (λ (b q : ℕ). vertex_of g (point_of g (box_at g b) + q)) up point
          ∙ by_side (eqb (i % 2) 0) (point_of g (box_at g (r / m))) (from_at g (r % m)) (to_at g (r % m)) (from_at g r) (to_at g r) (from-boxed r l) (to-boxed r l)

-- ---- the lists that are lent
pub moving-ends : (g : Grid) → check_of g ≡ fine → (table reach to : List ℕ) → table ≡ vertex_table g → reach ≡ end_reach g → length to ≡ visits_of g * 2 → Moving g table reach to
moving-ends g passed table reach to e f h =
    subst (λ (l : List ℕ). Moving g table l to) (sym f)
    (record {
      taken = passed;
      of_points = e;
      some = omega (arith, reach-long g passed, reach-some g passed);
      within = reach-within g passed;
      to_long =
          h ∙ ap (λ (n : ℕ). n * 2) (sym (visits-boxes g passed)) ∙ mul_assoc (boxes_of g) (visits_each g) 2 ∙ ap (λ (n : ℕ). boxes_of g * n) (sym (reach-long g passed));
    })

-- the values of the first box are those of all visits
pub valued : (g : Grid) → check_of g ≡ fine → (values : List Float) → values ≡ tab (visits_each g) (square_at g) → Valued g values
valued g passed values e =
    subst (λ (l : List Float). Valued g l) (sym e)
    (record {
      taken = passed;
      some = omega (arith, length-tab (visits_each g) (square_at g), each-visits g passed);
      tells = λ r z h. ap (λ (n : ℕ). get_or (tab (visits_each g) (square_at g)) (r % n) z) (length-tab (visits_each g) (square_at g)) ∙ get_or-tab (visits_each g) (square_at g) (r % visits_each g) z (mod-lt r (each-visits g passed)) ∙ sym (square-boxed g passed r h);
    })

pub point-even : (g : Grid) (i p : ℕ) → eqb (i % 2) 0 ≡ true → p ≡ from_at g (i / 2) → p ≡ end_point g i
point-even g i p e hp = hp ∙ rw e

pub point-odd : (g : Grid) (i p : ℕ) → eqb (i % 2) 0 ≡ false → p ≡ to_at g (i / 2) → p ≡ end_point g i
point-odd g i p e hp = hp ∙ rw e

-- a part of n values that came back stands in front of the rest
pub front-values : (n : ℕ) (room p : List Float) → n ≤ length room → length p ≡ length (take n room) → take n (p ++ drop n room) ≡ p
front-values n room p h e = let l : length p ≡ n = e ∙ length-take-le n room h in take-append-le n p (drop n room) (omega arith) ∙ take_all n p (omega arith)

pub fits-values : (n : ℕ) (room p : List Float) → n ≤ length room → length p ≡ length (take n room) → n ≤ length (p ++ drop n room)
fits-values n room p h e = let l : length p ≡ n = e ∙ length-take-le n room h in omega (arith, length-append p (drop n room))
