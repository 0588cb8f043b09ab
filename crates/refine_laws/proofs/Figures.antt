-- The composition law on a triangle: its premises can be met, and the renaming in numbers. The vertices of the tower have other numbers than those of the single
-- refinement, since births are numbered by first visit: that is why there is a renaming. Assumes nothing.
use mathlib.Core.Path.{◌≡◌, refl, sym, subst}
use mathlib.Core.List.{List, [], ◌∷◌, map}
use Prim.Native.Nat.{ℕ, ◌*◌, ◌<◌, ◌≤◌}
use native.Mathlib.Omega.{arith}
use lib.ListN.{get_or}
use Rattle.lists.specs.Words.{among, has_repeat, largest_of, found_at, first_where}
use Rattle.lists.specs.Rows.{cut, flat}
use Rattle.multiindex.specs.Sort.{insert_by, insert, sort_word}
use Rattle.complex.specs.Cells.{decides, comes_before, placed, place, in_order, cells_of}
use Rattle.complex.specs.Check.{answer_of}
use Rattle.complex.specs.Facets.{Crowded}
use Rattle.ordering_words.specs.Order.{word_if, word_of, by_cell}
use Rattle.refine_lattice.specs.Refine.{vertices}
use Rattle.refine_results.specs.Refined.{refined_cells, refined_words}
use Rattle.refine_results.specs.Results.{Refines}
use Rattle.refine_laws.specs.Composition.{Accepted, Composes, LawSorted}
use Rattle.refine_laws.proofs.Composition.{composition-sorted}

abbrev triangle : List (List ℕ)
triangle = (0 ∷ 1 ∷ 2 ∷ []) ∷ []

one_cell : cells_of 2 (0 ∷ 1 ∷ 2 ∷ []) ≡ triangle
unfolding cells_of cut in_order place placed comes_before decides sort_word insert insert_by
one_cell = refl

accepted : Accepted 2 (0 ∷ 1 ∷ 2 ∷ [])
unfolding answer_of among has_repeat largest_of found_at first_where
accepted = record { fine = refl; uncrowded = subst (λ (cs : List (List ℕ)). Crowded 2 cs → ⊥) (sym one_cell) lonely }
  where
    lonely : Crowded 2 triangle → ⊥
    lonely w =
        let a : w.cell < 1 = w.one.this.cell in
        let b : w.first < 1 = w.one.that.cell in
        w.one.apart (omega arith)

fits : Refines 2 (2 * 2) 3 (cells_of 2 (0 ∷ 1 ∷ 2 ∷ []))
fits = subst (λ (ks : List (List ℕ)). Refines 2 (2 * 2) 3 ks) (sym one_cell) (record { least = omega arith; most = omega arith; few_cells = omega arith; few_vertices = few })
  where
    so-many : vertices 2 4 3 triangle ≡ 15
    so-many = refl

    few : vertices 2 4 3 triangle ≤ 4096
    few = omega (arith, so-many)

-- the premises hold, and so does what follows
pub triangle-composes : Composes 2 2 2 3 triangle (flat (refined_cells 2 2 3 triangle)) (flat (refined_words 2 2 3 triangle))
unfolding LawSorted largest_of
triangle-composes =
    subst (λ (ks : List (List ℕ)). Composes 2 2 2 3 ks (flat (refined_cells 2 2 3 ks)) (flat (refined_words 2 2 3 ks))) one_cell
    (composition-sorted 2 2 2 (0 ∷ 1 ∷ 2 ∷ []) accepted fits)

-- the tower's words, renamed and in colex order, are the words of the single refinement
abbrev renamed : ℕ → ℕ
renamed x = get_or (0 ∷ 1 ∷ 2 ∷ 6 ∷ 10 ∷ 12 ∷ 3 ∷ 4 ∷ 5 ∷ 8 ∷ 7 ∷ 9 ∷ 11 ∷ 13 ∷ 14 ∷ []) x 0

abbrev in-colex : List (List ℕ) → List (List ℕ)
in-colex ws = by_cell ws (in_order 3 ws)

pub triangle-renamed : in-colex (map (map renamed) (refined_words 2 2 6 (refined_words 2 2 3 triangle))) ≡ refined_words 2 4 3 triangle
unfolding in_order place placed comes_before decides sort_word insert insert_by word_if word_of by_cell
triangle-renamed = refl
