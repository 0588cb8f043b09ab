-- Document 01's figures of refinement, from the definitions. Assumes nothing.
use mathlib.Core.List.{List, [], ◌∷◌, ◌++◌}
use mathlib.Core.Path.{◌≡◌, refl}
use Prim.Native.Nat.{ℕ}
use lib.IntN.{pos, negsuc}
use Rattle.multiindex.specs.Sort.{insert_by, insert, sort_word}
use Rattle.lists.specs.Words.{found_at}
use Rattle.complex.specs.Cells.{decides, comes_before, placed, place, in_order}
use Rattle.ordering_words.specs.Order.{word_if, word_of, by_cell}
use Rattle.refine_results.specs.Refined.{visit_of, refined_cells, refined_words, parents, wholes}

abbrev pub triangle : List (List ℕ)
triangle = (0 ∷ 1 ∷ 2 ∷ []) ∷ []

-- triangle 012, R = 2: cells 034, 135, 245, 345, in this order the words 034, 315, 452, 345
pub cells-of-two : refined_cells 2 2 3 triangle ≡ (0 ∷ 3 ∷ 4 ∷ []) ∷ (1 ∷ 3 ∷ 5 ∷ []) ∷ (2 ∷ 4 ∷ 5 ∷ []) ∷ (3 ∷ 4 ∷ 5 ∷ []) ∷ []
unfolding in_order place placed comes_before decides sort_word insert insert_by
cells-of-two = refl

pub words-of-two : refined_words 2 2 3 triangle ≡ (0 ∷ 3 ∷ 4 ∷ []) ∷ (3 ∷ 1 ∷ 5 ∷ []) ∷ (4 ∷ 5 ∷ 2 ∷ []) ∷ (3 ∷ 4 ∷ 5 ∷ []) ∷ []
unfolding in_order place placed comes_before decides sort_word insert insert_by word_if word_of by_cell
words-of-two = refl

-- all are children of the one triangle, and the first has the columns (1, 0) and (0, 1), over 2
pub parents-of-two : parents 2 2 3 triangle ≡ 0 ∷ 0 ∷ 0 ∷ 0 ∷ []
unfolding in_order place placed comes_before decides sort_word insert insert_by visit_of found_at
parents-of-two = refl

pub wholes-of-two : wholes 2 2 3 triangle triangle
    ≡ (pos 1 ∷ pos 0 ∷ pos 0 ∷ pos 1 ∷ pos 0 ∷ pos 0 ∷ pos 0 ∷ pos 0 ∷ pos 0 ∷ [])
    ++ (negsuc 0 ∷ pos 0 ∷ negsuc 0 ∷ pos 1 ∷ pos 0 ∷ pos 0 ∷ pos 0 ∷ pos 0 ∷ pos 0 ∷ [])
    ++ (pos 0 ∷ negsuc 0 ∷ pos 1 ∷ negsuc 0 ∷ pos 0 ∷ pos 0 ∷ pos 0 ∷ pos 0 ∷ pos 0 ∷ [])
    ++ (negsuc 0 ∷ pos 1 ∷ pos 0 ∷ pos 1 ∷ pos 0 ∷ pos 0 ∷ pos 0 ∷ pos 0 ∷ pos 0 ∷ [])
unfolding in_order place placed comes_before decides sort_word insert insert_by visit_of found_at
wholes-of-two = refl

-- R = 1: the same words. Dimension 0: one child
pub words-of-one : refined_words 2 1 3 triangle ≡ triangle
unfolding in_order place placed comes_before decides sort_word insert insert_by word_if word_of by_cell
words-of-one = refl

pub words-of-point : refined_words 0 7 1 ((0 ∷ []) ∷ []) ≡ (0 ∷ []) ∷ []
unfolding in_order place placed comes_before decides sort_word insert insert_by word_if word_of by_cell
words-of-point = refl
