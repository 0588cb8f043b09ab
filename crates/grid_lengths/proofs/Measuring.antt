-- The visits of edges: which cell and which corners visit r measures between. Assumes nothing.
use Rattle.refusal.specs.Says.{fine}
use mathlib.Core.Path.{◌≡◌, refl, sym, ap, subst, ◌∙◌}
use mathlib.Core.Bool.{Bool, false}
use mathlib.Core.List.{List, []}
use Prim.Native.Nat.{ℕ, zero, suc, ◌-◌, ◌*◌, ◌/◌, ◌%◌, ◌≤◌, ◌<◌, min, max, suc-le-suc}
use native.Mathlib.Nat.{mod-lt, div-lt_iff_lt-mul, le_refl, mul-le-mul_left}
use native.Mathlib.Omega.{arith}
use lib.Dec.{eqb, ltb, leb}
use lib.Ieee.{Float}
use lib.ListN.{get_or}
use borrow.Author.Tests.{ltb-true, leb-true, eq-eqb, ne_eqb}
use Rattle.multiindex.proofs.Tables.{all_below, at-below}
use Rattle.lists.proofs.Tables.{get_or-tab}
use Rattle.grid_sides.specs.declared.Sides.{Sides}
use Rattle.grid_sides.specs.Counts.{side_of}
use Rattle.grid_sides.specs.Lengths.{spacing_of, length_sq}
use Rattle.quotient.specs.declared.Axis.{Axis}
use Rattle.quotient.specs.declared.Grid.{Grid}
use Rattle.quotient.specs.Shape.{axis_of, cells_on, check_of, cell_count}
use Rattle.quotient.specs.Reduce.{coord_at, vertex_of}
use Rattle.quotient.proofs.Taken.{taken-low, taken-cells}
use Rattle.grid_words.specs.WorkNumbered.{cell_no, corner_of}
use Rattle.grid_words.proofs.Corners.{dim, corner-lt, points-few}
use Rattle.grid_words.proofs.Listed.{listed}
use Rattle.grid_lengths.specs.Edges.{first_end, second_end, edges_each, visits_of, corner_at, from_at, to_at, spacings_of, square_at, same_ends, visits_edge}

-- ---- computed tests over the dimensions
pub each-some : (d : ℕ) → 1 ≤ d → d ≤ 3 → 0 < edges_each d
each-some zero l h = absurd (let w : ⊥ = omega arith in w)
each-some (suc d) l h = ltb-true 0 (edges_each (suc d)) (at-below 3 (λ d. ltb 0 (edges_each (suc d))) refl d h)

pub each-few : (d : ℕ) → d ≤ 3 → edges_each d ≤ 6
each-few d h = leb-true (edges_each d) 6 (at-below 4 (λ d. leb (edges_each d) 6) refl d (suc-le-suc h))

pub ends-below : (d e : ℕ) → d ≤ 3 → e < edges_each d → (first_end e ≤ d) × (second_end e ≤ d)
ends-below d e h l = (
  leb-true (first_end e) d (at-below (edges_each d) (λ e. leb (first_end e) d) (at-below 4 (λ d. all_below (edges_each d) (λ e. leb (first_end e) d)) refl d (suc-le-suc h)) e l),
  leb-true (second_end e) d (at-below (edges_each d) (λ e. leb (second_end e) d) (at-below 4 (λ d. all_below (edges_each d) (λ e. leb (second_end e) d)) refl d (suc-le-suc h)) e l),
)

pub end-small : (e : ℕ) → e < 6 → (first_end e < 4) × (second_end e < 4)
end-small e h = (ltb-true (first_end e) 4 (at-below 6 (λ e. ltb (first_end e) 4) refl e h), ltb-true (second_end e) 4 (at-below 6 (λ e. ltb (second_end e) 4) refl e h))

pub end-rise : (e : ℕ) → e < 6 → first_end e < second_end e
end-rise e h = ltb-true (first_end e) (second_end e) (at-below 6 (λ e. ltb (first_end e) (second_end e)) refl e h)

-- ---- a grid that is taken
module _ (g : Grid) (taken : check_of g ≡ fine) where
  pub some_edges : 0 < edges_each g.d
  some_edges = each-some g.d (taken-low g taken) (dim g taken)

  pub dims : (1 ≤ g.d) × (g.d ≤ 3)
  dims = (taken-low g taken, dim g taken)

  pub visits-few : visits_of g ≤ 24576
  visits-few =
      let a : cell_count g * edges_each g.d ≤ cell_count g * 6 = mul-le-mul_left (cell_count g) (each-few g.d (dim g taken)) in
      omega (arith, taken-cells g taken)

  -- the cells in sorted order, by number
  pub corner-at : (x j : ℕ) → x < cell_count g → corner_at g x j ≡ corner_of g x j
  corner-at x j h = ap (λ (cs : List (List ℕ)). get_or (get_or cs x []) j 0) (listed g taken) ∙ ap (λ (w : List ℕ). get_or w j 0) (get_or-tab (cell_count g) (cell_no g) x [] h)

  module _ (r k : ℕ) (e : k ≡ edges_each g.d) where
    pub place_in : r % k < edges_each g.d
    place_in = subst (λ (n : ℕ). r % n < edges_each g.d) (sym e) (mod-lt r some_edges)

    pub place-few : r % k < 6
    place-few = omega (arith, place_in, each-few g.d (dim g taken))

    pub each-pos : 0 < k
    each-pos = rw e some_edges

    pub cell_in : r < visits_of g → r / k < cell_count g
    cell_in h = subst (λ (n : ℕ). r / n < cell_count g) (sym e) ((div-lt_iff_lt-mul some_edges).1 h)

    pub first-low : (j : ℕ) → j ≡ first_end (r % k) → j ≤ g.d
    first-low j q = rw q (ends-below g.d (r % k) (dim g taken) place_in).0

    pub second-low : (j : ℕ) → j ≡ second_end (r % k) → j ≤ g.d
    second-low j q = rw q (ends-below g.d (r % k) (dim g taken) place_in).1

    pub corner-few : (x j p : ℕ) → j ≤ g.d → p ≡ corner_of g x j → p < 32768
    corner-few x j p h q = rw q (let a : corner_of g x j < _ = corner-lt g taken x j h in omega (arith, points-few g taken g.d (le_refl g.d)))

    pub from_is : r < visits_of g → (j p : ℕ) → j ≡ first_end (r % k) → p ≡ corner_of g (r / k) j → p ≡ from_at g r
    from_is h j p hj hp = hp ∙ ap (corner_of g (r / k)) hj ∙ sym (corner-at (r / k) (first_end (r % k)) (cell_in h)) ∙ ap (λ (n : ℕ). corner_at g (r / n) (first_end (r % n))) e

    pub to_is : r < visits_of g → (j p : ℕ) → j ≡ second_end (r % k) → p ≡ corner_of g (r / k) j → p ≡ to_at g r
    to_is h j p hj hp = hp ∙ ap (corner_of g (r / k)) hj ∙ sym (corner-at (r / k) (second_end (r % k)) (cell_in h)) ∙ ap (λ (n : ℕ). corner_at g (r / n) (second_end (r % n))) e

-- ---- the calls put together
pub spacing-is : (g : Grid) (i : ℕ) (a : Axis) (s x : Float) → a ≡ axis_of g i → s ≡ side_of g.sides i → x ≡ spacing_of s a.count → x ≡ spacing_of (side_of g.sides i) (cells_on g i)
spacing-is g i a s x ha hs hx = hx ∙ ap (λ (t : Float). spacing_of t a.count) hs ∙ ap (λ (t : Axis). spacing_of (side_of g.sides i) t.count) ha

pub same-yes : (a b p q s t u v : ℕ) (r : Bool) → s ≡ min a b → t ≡ min p q → s ≡ t → u ≡ max a b → v ≡ max p q → r ≡ eqb u v → r ≡ same_ends a b p q
same-yes a b p q s t u v r hs ht e hu hv hr = hr ∙ rw (eq-eqb (min a b) (min p q) (sym hs ∙ e ∙ ht), hu, hv)

pub same-no : (a b p q s t : ℕ) → s ≡ min a b → t ≡ min p q → (s ≡ t → ⊥) → false ≡ same_ends a b p q
same-no a b p q s t hs ht n = rw (ne_eqb (min a b) (min p q) (λ e. n (hs ∙ e ∙ sym ht)))

pub visits-is : (g : Grid) (a b r p q v w : ℕ) (x : Bool) → p ≡ from_at g r → q ≡ to_at g r → v ≡ vertex_of g p → w ≡ vertex_of g q → x ≡ same_ends a b v w → x ≡ visits_edge g a b r
visits-is g a b r p q v w x hp hq hv hw hx = hx ∙ rw (hv, hw, hp, hq)

pub square-is : (g : Grid) (r p q a b c : ℕ) (h : Sides) (x : Float) → p ≡ from_at g r → q ≡ to_at g r → a ≡ coord_at g q 0 - coord_at g p 0 → b ≡ coord_at g q 1 - coord_at g p 1 → c ≡ coord_at g q 2 - coord_at g p 2 →
    h ≡ spacings_of g → x ≡ length_sq h (record { first = a; second = b; third = c }) g.d → x ≡ square_at g r
square-is g r p q a b c h x hp hq ha hb hc hh hx = hx ∙ rw (hh, ha, hb, hc, hp, hq)
