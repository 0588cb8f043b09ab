-- Document 01's figures for the check of a cell list, computed. Assumes nothing.
use Rattle.refusal.specs.declared.Refusal.TheVariants.{BadDimension, RaggedWords, TooManyVertices, UnusedNumber, VertexTwice}
use Rattle.refusal.specs.Says.{fine}
use Rattle.std.specs.Prelude.{Err}
use mathlib.Core.Path.{◌≡◌, refl}
use mathlib.Core.List.{[], ◌∷◌}
use Rattle.lists.specs.Words.{among, has_repeat, largest_of, found_at, first_where}
use Rattle.lists.specs.Rows.{cut}
use Rattle.complex.specs.Cells.{decides, comes_before, placed, place, in_order, cells_of}
use Rattle.complex.specs.Check.{answer_of}
use Rattle.multiindex.specs.Sort.{insert_by, insert, sort_word, add_if, smaller, inversions}

triangle : answer_of 2 (0 ∷ 1 ∷ 2 ∷ []) ≡ fine
unfolding answer_of among has_repeat largest_of found_at first_where
triangle = refl

dimension : answer_of 4 [] ≡ Err BadDimension
unfolding answer_of
dimension = refl

empty : answer_of 2 [] ≡ Err RaggedWords
unfolding answer_of
empty = refl

ragged : answer_of 2 (0 ∷ 1 ∷ []) ≡ Err RaggedWords
unfolding answer_of
ragged = refl

-- words 0,0,1: 4
twice : answer_of 2 (0 ∷ 0 ∷ 1 ∷ []) ≡ Err (VertexTwice 0)
unfolding answer_of among has_repeat largest_of found_at first_where
twice = refl

-- the second word is the first that names a vertex twice
second : answer_of 1 (0 ∷ 9999 ∷ 1 ∷ 1 ∷ 2 ∷ 2 ∷ []) ≡ Err (VertexTwice 1)
unfolding answer_of among has_repeat largest_of found_at first_where
second = refl

-- 6 comes before 5
high : answer_of 1 (7 ∷ 4096 ∷ []) ≡ Err TooManyVertices
unfolding answer_of among has_repeat largest_of found_at first_where
high = refl

-- words 0,1,3 alone: 5
unused : answer_of 2 (0 ∷ 1 ∷ 3 ∷ []) ≡ Err (UnusedNumber 2)
unfolding answer_of among has_repeat largest_of found_at first_where
unused = refl

sorted : sort_word (2 ∷ 3 ∷ 0 ∷ []) ≡ 0 ∷ 2 ∷ 3 ∷ []
unfolding insert_by insert sort_word
sorted = refl

pairs : inversions (2 ∷ 3 ∷ 0 ∷ []) ≡ 2
unfolding add_if smaller inversions
pairs = refl

-- 3x1, axis 0 periodic: the cells of its words
periodic : cells_of 2 (0 ∷ 1 ∷ 4 ∷ 0 ∷ 3 ∷ 4 ∷ 1 ∷ 2 ∷ 5 ∷ 1 ∷ 4 ∷ 5 ∷ 2 ∷ 0 ∷ 3 ∷ 2 ∷ 5 ∷ 3 ∷ []) ≡ (0 ∷ 2 ∷ 3 ∷ []) ∷ (0 ∷ 1 ∷ 4 ∷ []) ∷ (0 ∷ 3 ∷ 4 ∷ []) ∷ (1 ∷ 2 ∷ 5 ∷ []) ∷ (2 ∷ 3 ∷ 5 ∷ []) ∷ (1 ∷ 4 ∷ 5 ∷ []) ∷ []
unfolding cells_of cut in_order place placed comes_before decides sort_word insert insert_by
periodic = refl

-- words of one cell, in whatever order, are that cell once
once : cells_of 1 (0 ∷ 1 ∷ 1 ∷ 0 ∷ 0 ∷ 1 ∷ []) ≡ (0 ∷ 1 ∷ []) ∷ []
unfolding cells_of cut in_order place placed comes_before decides sort_word insert insert_by
once = refl
