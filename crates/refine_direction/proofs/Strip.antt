-- Document 01's periodic band, 3 by 1, with the signs that `orientation` gives it, along its own words, refined by 2: the inherited signs are coherent, and not + at the
-- lowest cell. Assumes nothing.
use mathlib.Core.Bool.{true}
use mathlib.Core.Path.{◌≡◌, refl, sym, subst}
use mathlib.Core.List.{List, [], ◌∷◌, map}
use Prim.Native.Nat.{ℕ, zero, suc, ◌<◌}
use native.Mathlib.Omega.{arith}
use lib.ListN.{length}
use Rattle.lists.specs.Tables.{upto}
use Rattle.lists.specs.Words.{among, has_repeat, largest_of, found_at, first_where}
use Rattle.lists.specs.Rows.{cut, rows}
use Rattle.multiindex.specs.Sign.{Sign, plus, minus}
use Rattle.multiindex.specs.Sort.{insert_by, insert, sort_word}
use Rattle.complex.specs.Cells.{decides, comes_before, placed, place, in_order, cells_of}
use Rattle.complex.specs.Check.{answer_of}
use Rattle.complex.specs.Facets.{cell_at, Crowded}
use Rattle.orientation_signs.specs.Signs.{Coherent}
use Rattle.ordering_words.specs.Order.{word_if, word_of, by_cell, IsOrder, Orders, AgreeOnFacets}
use Rattle.refine_lattice.specs.Refine.{vertices}
use Rattle.refine_results.specs.Refined.{coarse, order_words, refined_cells, visit_of}
use Rattle.refine_results.specs.Results.{Refines, results_of}
use Rattle.refine_laws.specs.Composition.{Accepted}
use Rattle.refine_direction.specs.Direction.{inherited, Inherits, InheritLaw}
use Rattle.refine_direction.proofs.Direction.{inherit}
use Rattle.refine_direction.proofs.Tested.{call, all_fair, all_thin, fair-agrees, fair-coherent, thin-uncrowded}

abbrev given : List ℕ
given = 0 ∷ 1 ∷ 4 ∷ 0 ∷ 3 ∷ 4 ∷ 1 ∷ 2 ∷ 5 ∷ 1 ∷ 4 ∷ 5 ∷ 2 ∷ 0 ∷ 3 ∷ 2 ∷ 5 ∷ 3 ∷ []

abbrev order : List ℕ
order = 0 ∷ 1 ∷ 4 ∷ 0 ∷ 3 ∷ 4 ∷ 1 ∷ 2 ∷ 5 ∷ 1 ∷ 4 ∷ 5 ∷ 2 ∷ 0 ∷ 3 ∷ 2 ∷ 5 ∷ 3 ∷ []

abbrev cells : List (List ℕ)
cells = (0 ∷ 2 ∷ 3 ∷ []) ∷ (0 ∷ 1 ∷ 4 ∷ []) ∷ (0 ∷ 3 ∷ 4 ∷ []) ∷ (1 ∷ 2 ∷ 5 ∷ []) ∷ (2 ∷ 3 ∷ 5 ∷ []) ∷ (1 ∷ 4 ∷ 5 ∷ []) ∷ []

abbrev words : List (List ℕ)
words = (2 ∷ 0 ∷ 3 ∷ []) ∷ (0 ∷ 1 ∷ 4 ∷ []) ∷ (0 ∷ 3 ∷ 4 ∷ []) ∷ (1 ∷ 2 ∷ 5 ∷ []) ∷ (2 ∷ 5 ∷ 3 ∷ []) ∷ (1 ∷ 4 ∷ 5 ∷ []) ∷ []

abbrev σ : ℕ → Sign
σ zero = plus
σ (suc zero) = minus
σ (suc (suc zero)) = plus
σ (suc (suc (suc zero))) = minus
σ (suc (suc (suc (suc zero)))) = minus
σ (suc (suc (suc (suc (suc c))))) = plus

cells_are : cells_of 2 given ≡ cells
unfolding cells_of cut in_order place placed comes_before decides sort_word insert insert_by
cells_are = refl

words_are : order_words 2 given order ≡ words
unfolding cells_of cut in_order place placed comes_before decides sort_word insert insert_by word_if word_of by_cell
words_are = refl

fairly : all_fair 2 cells words σ 6 ≡ true
fairly = refl

thinly : all_thin 2 cells words σ 6 ≡ true
thinly = refl

accepted : Accepted 2 given
unfolding answer_of among has_repeat largest_of found_at first_where
accepted = record { fine = refl; uncrowded = subst (λ (cs : List (List ℕ)). Crowded 2 cs → ⊥) (sym cells_are) (thin-uncrowded 2 cells words σ thinly) }

in_order_lem : IsOrder cells (rows 3 order)
unfolding cut sort_word insert insert_by word_if word_of
in_order_lem = record { many = refl; each = each }
  where
    each : (c : ℕ) → c < 6 → sort_word (word_of (rows 3 order) (cell_at cells c)) ≡ cell_at cells c
    each zero h = refl
    each (suc zero) h = refl
    each (suc (suc zero)) h = refl
    each (suc (suc (suc zero))) h = refl
    each (suc (suc (suc (suc zero)))) h = refl
    each (suc (suc (suc (suc (suc zero))))) h = refl
    each (suc (suc (suc (suc (suc (suc c)))))) h = absurd (omega arith)

ordered : Orders 2 (cells_of 2 given) order
ordered = record { whole = refl; words = subst (λ (cs : List (List ℕ)). IsOrder cs (rows 3 order)) (sym cells_are) in_order_lem }

so-many : vertices 2 2 6 words ≡ 18
so-many = refl

fits : Refines 2 2 (coarse given) (order_words 2 given order)
unfolding largest_of
fits = subst (λ (ks : List (List ℕ)). Refines 2 2 6 ks) (sym words_are) (record { least = omega arith; most = omega arith; few_cells = omega arith; few_vertices = omega (arith, so-many) })

-- ---- and what follows
many-children : length (refined_cells 2 2 6 words) ≡ 24
unfolding in_order place placed comes_before decides sort_word insert insert_by
many-children = refl

pub band-inherit : Inherits 2 24 (results_of 2 2 6 cells words) σ
unfolding InheritLaw largest_of
band-inherit =
    subst (λ (m : ℕ). Inherits 2 m (results_of 2 2 6 cells words) σ) many-children
    (subst (λ (ks : List (List ℕ)). Inherits 2 (length (refined_cells 2 2 6 ks)) (results_of 2 2 6 cells ks) σ) words_are
    (subst (λ (cs : List (List ℕ)). Inherits 2 (length (refined_cells 2 2 6 (order_words 2 given order))) (results_of 2 2 6 cs (order_words 2 given order)) σ) cells_are
    (inherit 2 2 given order (length (refined_cells 2 2 6 (order_words 2 given order))) (vertices 2 2 6 (order_words 2 given order))
    (results_of 2 2 6 (cells_of 2 given) (order_words 2 given order)) σ
    (call 2 2 given (Orders 2 (cells_of 2 given) order) (order_words 2 given order) accepted ordered fits)
    (subst (λ (ks : List (List ℕ)). AgreeOnFacets 2 (cells_of 2 given) ks) (sym words_are)
    (subst (λ (cs : List (List ℕ)). AgreeOnFacets 2 cs words) (sym cells_are) (fair-agrees 2 cells words σ fairly)))
    (subst (λ (cs : List (List ℕ)). Coherent 2 cs σ) (sym cells_are) (fair-coherent 2 cells words σ fairly)))))

pub band-signs : map (inherited 2 (results_of 2 2 6 cells words) σ) (upto 6) ≡ minus ∷ plus ∷ minus ∷ plus ∷ plus ∷ minus ∷ []
unfolding in_order place placed comes_before decides sort_word insert insert_by visit_of found_at
band-signs = refl
