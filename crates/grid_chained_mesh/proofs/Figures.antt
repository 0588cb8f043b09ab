-- The words that the promise speaks of, computed: every grid whose classes are few enough has them, and no others; and figures. Assumes nothing.
use Rattle.refusal.specs.declared.Refusal.TheVariants.{CrowdedFacet}
use Rattle.refusal.specs.Says.{Counted, fine}
use Rattle.std.specs.Prelude.{Err}
use mathlib.Core.Path.{◌≡◌, refl, sym, subst, ◌∙◌}
use mathlib.Core.List.{List, [], ◌∷◌}
use Prim.Native.Nat.{ℕ, suc, ◌*◌, ◌/◌, ◌%◌, ◌≤◌, ◌<◌}
use native.Mathlib.Nat.{mod-lt}
use native.Mathlib.Omega.{arith}
use lib.ListN.{length}
use lib.Seq.{ext_get_or}
use lib.IntN.{pos}
use lib.Ieee.{fin}
use mathlib.Core.Bool.{false}
use Rattle.refusal.specs.declared.Room.{Room}
use Rattle.refusal.specs.Lent.{Roomy}
use Rattle.refusal.specs.Call.{Comes, ended}
use Rattle.refusal.proofs.Determined.{comes-one}
use Rattle.refusal.specs.Limits.{most_vertices}
use Rattle.lists.specs.Words.{among, has_repeat, found_at, first_where}
use Rattle.lists.specs.Rows.{cut}
use Rattle.lists.specs.Tables.{tab}
use Rattle.multiindex.specs.Sort.{insert_by, insert, sort_word}
use Rattle.complex.specs.Cells.{in_order, place, placed, comes_before, decides}
use Rattle.complex.specs.Cells as Complex
use Rattle.complex.specs.Facets.{cell_at, facet_at, FacetOf}
use Rattle.lists.proofs.Tables.{length-tab, get_or-tab}
use Rattle.quotient.specs.declared.Glue.{Glue}
use Rattle.quotient.specs.declared.Glue.TheVariants.{Open, Periodic, Twisted}
use Rattle.quotient.specs.declared.Axis.{Axis}
use Rattle.quotient.specs.declared.Grid.{Grid}
use Rattle.quotient.specs.Fold.{product, some, count}
use Rattle.quotient.specs.Shape.{no_axis, axis_of, bad_set, check_of, cell_count}
use Rattle.quotient.specs.Reduce.{rest_at}
use Rattle.quotient.specs.Points.{from_digits, points_of}
use Rattle.grid_words.specs.Cells.{met, grid_cells}
use Rattle.grid_words.specs.WorkNumbered.{corner_of}
use Rattle.grid_words.proofs.Corners.{corner-lt}
use Rattle.grid_mesh.specs.Words.{grid_need}
use Rattle.grid_chained.specs.Shape.{shape_of}
use Rattle.grid_chained.specs.Classing.{at}
use Rattle.grid_chained.specs.WorkTurn.{least_below}
use Rattle.grid_chained.proofs.Counts.{few-taken}
use Rattle.grid_chained.proofs.Numbering.{classing-along}
use Rattle.grid_chained.proofs.There.{class_of, class_count, class-numbers}
use Rattle.grid_chained_words.specs.Words.{flat_by}
use Rattle.grid_chained_words.proofs.Listed.{words_long, words-at}
use Rattle.grid_chained_mesh.specs.Words.{ClassWords, first_twice, Crowd, WordsEnd, crowded}
use Rattle.grid_chained_mesh.proofs.Steps.{words-one}
use Rattle.grid_chained_mesh.proofs.Determined.{ends-one}

module _ (g : Grid) (shape : shape_of g ≡ fine) (few : class_count g ≤ most_vertices) where
  taken : check_of g ≡ fine
  taken = few-taken g shape (class_of g) (class_count g) (class-numbers g) few

  listed : (p : ℕ) → p < points_of g → at (tab (points_of g) (class_of g)) p ≡ class_of g p
  listed p h = get_or-tab (points_of g) (class_of g) p 0 h

  same-words : flat_by g (class_of g) ≡ flat_by g (at (tab (points_of g) (class_of g)))
  same-words =
      ext_get_or 0 (flat_by g (class_of g)) (flat_by g (at (tab (points_of g) (class_of g)))) (words_long g taken (class_of g) ∙ sym (words_long g taken (at (tab (points_of g) (class_of g)))))
      (λ i h.
      let l : i < cell_count g * suc g.d = omega (arith, words_long g taken (class_of g)) in
      let r : i % suc g.d < suc g.d = mod-lt i (omega arith) in
      words-at g taken (class_of g) i l ∙ sym (listed (corner_of g (i / suc g.d) (i % suc g.d)) (corner-lt g taken (i / suc g.d) (i % suc g.d) (omega arith)))
      ∙ sym (words-at g taken (at (tab (points_of g) (class_of g))) i l))

  -- the words are there
  pub words-there : ClassWords g (flat_by g (class_of g))
  words-there =
      record {
        numbers = tab (points_of g) (class_of g);
        many = class_count g;
        classes =
            record {
              long = length-tab (points_of g) (class_of g);
              classing = classing-along g (class_of g) (at (tab (points_of g) (class_of g))) (class_count g) listed (class-numbers g);
            };
        few = few;
        words = same-words;
      }

  -- and there are no others
  pub words_are : (ws : List ℕ) → ClassWords g ws → ws ≡ flat_by g (class_of g)
  words_are ws w = words-one g ws (flat_by g (class_of g)) w words-there

-- ---- figures

abbrev grid : ℕ → Axis → Axis → Axis → Grid
grid d a b c = record { d = d; first = a; second = b; third = c; sides = record { first = fin false 1 (pos 0); second = fin false 1 (pos 0); third = fin false 1 (pos 0) } }

abbrev axis : ℕ → Glue → Axis
axis n g = record { count = n; glue = g }

-- 3 x 1 with axis 0 periodic: document 01's words
abbrev ring : Grid
ring = grid 2 (axis 3 Periodic) (axis 1 Open) no_axis

pub ring-words : flat_by ring (class_of ring) ≡ 0 ∷ 1 ∷ 4 ∷ 0 ∷ 3 ∷ 4 ∷ 1 ∷ 2 ∷ 5 ∷ 1 ∷ 4 ∷ 5 ∷ 2 ∷ 0 ∷ 3 ∷ 2 ∷ 5 ∷ 3 ∷ []
unfolding grid_cells met in_order place placed comes_before decides sort_word insert insert_by from_digits product rest_at axis_of least_below count
ring-words = refl

-- 3 x 1 x 3, axis 0 twisted over 2 and axis 2 over both others: word 1 names a class twice
abbrev solid : Grid
solid = grid 3 (axis 3 (Twisted 4)) (axis 1 Open) (axis 3 (Twisted 3))

pub solid-twice : first_twice solid (flat_by solid (class_of solid)) ≡ 1
unfolding grid_cells met in_order place placed comes_before decides sort_word insert insert_by from_digits product rest_at axis_of least_below count among has_repeat found_at first_where
solid-twice = refl

-- 3 x 3, twisted over each other: 17 cells for 18 words, and the facet 2, 7 in cells 4, 5 and 9
abbrev plane : Grid
plane = grid 2 (axis 3 (Twisted 2)) (axis 3 (Twisted 1)) no_axis

abbrev plane-cells : List (List ℕ)
plane-cells = Complex.cells_of 2 (flat_by plane (class_of plane))

plane-many : length plane-cells ≡ 17
unfolding Complex.cells_of cut grid_cells met in_order place placed comes_before decides sort_word insert insert_by from_digits product rest_at axis_of least_below count
plane-many = refl

plane-first : facet_at (cell_at plane-cells 4) 1 ≡ facet_at (cell_at plane-cells 5) 1
unfolding Complex.cells_of cut grid_cells met in_order place placed comes_before decides sort_word insert insert_by from_digits product rest_at axis_of least_below count
plane-first = refl

plane-second : facet_at (cell_at plane-cells 4) 1 ≡ facet_at (cell_at plane-cells 9) 2
unfolding Complex.cells_of cut grid_cells met in_order place placed comes_before decides sort_word insert insert_by from_digits product rest_at axis_of least_below count
plane-second = refl

plane-facet : (c i : ℕ) → c < 17 → i ≤ 2 → FacetOf 2 plane-cells c i
plane-facet c i h l = record { some = omega arith; cell = subst (λ (n : ℕ). c < n) (sym plane-many) h; place = l }

pub plane-crowd : Crowd plane (flat_by plane (class_of plane))
plane-crowd =
    record {
      cell = 4;
      first = 5;
      second = 9;
      at = 1;
      at_first = 1;
      at_second = 2;
      one = record { this = plane-facet 4 1 (omega arith) (omega arith); that = plane-facet 5 1 (omega arith) (omega arith); apart = λ e. omega arith; one = plane-first };
      other = record { this = plane-facet 4 1 (omega arith) (omega arith); that = plane-facet 9 2 (omega arith) (omega arith); apart = λ e. omega arith; one = plane-second };
      apart = λ e. omega arith;
    }

-- ---- so the call says 7 of that grid, where there is room
plane-shape : shape_of plane ≡ fine
unfolding shape_of axis_of product first_where found_at some bad_set
plane-shape = refl

plane-few : class_count plane ≡ 10
unfolding axis_of product rest_at from_digits least_below count
plane-few = refl

plane-apart : first_twice plane (flat_by plane (class_of plane)) ≡ 18
unfolding grid_cells met in_order place placed comes_before decides sort_word insert insert_by from_digits product rest_at axis_of least_below count among has_repeat found_at first_where
plane-apart = refl

plane-eighteen : cell_count plane ≡ 18
unfolding axis_of product
plane-eighteen = refl

plane-end : (given : ℕ) → WordsEnd plane given (Err CrowdedFacet) []
plane-end given =
    crowded (flat_by plane (class_of plane)) (record { of = words-there plane plane-shape (let e : class_count plane ≡ 10 = plane-few in omega arith); none = omega (arith, plane-apart, plane-eighteen) }) plane-crowd

pub plane-seven : {r : Counted} {h : List ℕ} {u : Room} (given : ℕ) (have : Room) → Roomy (grid_need plane) have → Comes Err [] (shape_of plane) (grid_need plane) have (WordsEnd plane given) r h u → r ≡ Err CrowdedFacet
plane-seven given have room c =
    (comes-one Err [] (shape_of plane) (grid_need plane) have (WordsEnd plane given) (ends-one plane given) c (ended plane-shape room (plane-end given))).0
