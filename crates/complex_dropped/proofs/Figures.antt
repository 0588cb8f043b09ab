-- Cells dropped from three triangles in a row, from words given twice, and from a single triangle. Assumes nothing.
use mathlib.Core.Bool.{true}
use mathlib.Core.List.{List, [], ◌∷◌}
use mathlib.Core.Path.{◌≡◌, refl}
use Prim.Native.Nat.{ℕ}
use Rattle.lists.specs.Words.{among, largest_of, found_at, first_where}
use Rattle.lists.specs.Rows.{cut}
use Rattle.multiindex.specs.Sort.{insert_by, insert, sort_word}
use Rattle.complex.specs.Cells.{decides, comes_before, placed, place, in_order, cells_of}
use Rattle.complex.specs.Skeleton.{numbers, keep}
use Rattle.complex_dropped.specs.Kept.{kept_words, old_numbers, names_missing}

-- three triangles in a row
abbrev three : List ℕ
three = 0 ∷ 1 ∷ 2 ∷ 1 ∷ 2 ∷ 3 ∷ 2 ∷ 3 ∷ 4 ∷ []

-- and the same with other words
abbrev other : List ℕ
other = 2 ∷ 3 ∷ 4 ∷ 2 ∷ 1 ∷ 0 ∷ 3 ∷ 1 ∷ 2 ∷ []

-- without the first
first_goes : kept_words 2 three (0 ∷ []) ≡ 0 ∷ 1 ∷ 2 ∷ 1 ∷ 2 ∷ 3 ∷ []
unfolding among largest_of found_at first_where cut insert_by insert sort_word decides comes_before placed place in_order cells_of numbers keep
first_goes = refl

first-goes-old : old_numbers 2 three (0 ∷ []) ≡ 1 ∷ 2 ∷ 3 ∷ 4 ∷ []
unfolding among largest_of found_at first_where cut insert_by insert sort_word decides comes_before placed place in_order cells_of numbers keep
first-goes-old = refl

-- without the middle one no vertex is freed
middle-goes : kept_words 2 three (1 ∷ []) ≡ 0 ∷ 1 ∷ 2 ∷ 2 ∷ 3 ∷ 4 ∷ []
unfolding among largest_of found_at first_where cut insert_by insert sort_word decides comes_before placed place in_order cells_of numbers keep
middle-goes = refl

middle-goes-old : old_numbers 2 three (1 ∷ []) ≡ 0 ∷ 1 ∷ 2 ∷ 3 ∷ 4 ∷ []
unfolding among largest_of found_at first_where cut insert_by insert sort_word decides comes_before placed place in_order cells_of numbers keep
middle-goes-old = refl

-- words keep their own sequence of vertices
other-first-goes : kept_words 2 other (0 ∷ []) ≡ 1 ∷ 2 ∷ 3 ∷ 2 ∷ 0 ∷ 1 ∷ []
unfolding among largest_of found_at first_where cut insert_by insert sort_word decides comes_before placed place in_order cells_of numbers keep
other-first-goes = refl

other-first-goes-old : old_numbers 2 other (0 ∷ []) ≡ 1 ∷ 2 ∷ 3 ∷ 4 ∷ []
unfolding among largest_of found_at first_where cut insert_by insert sort_word decides comes_before placed place in_order cells_of numbers keep
other-first-goes-old = refl

-- a word given twice is kept twice, a cell named twice goes once
twice-given : kept_words 1 (0 ∷ 1 ∷ 0 ∷ 1 ∷ 1 ∷ 2 ∷ []) (1 ∷ 1 ∷ []) ≡ 0 ∷ 1 ∷ 0 ∷ 1 ∷ []
unfolding among largest_of found_at first_where cut insert_by insert sort_word decides comes_before placed place in_order cells_of numbers keep
twice-given = refl

-- a triangle without 0 and 1: there is no cell 1
not_there : names_missing 1 (0 ∷ 1 ∷ []) ≡ true
unfolding names_missing
not_there = refl

-- and without 0: nothing stays
all_go : kept_words 2 (0 ∷ 1 ∷ 2 ∷ []) (0 ∷ []) ≡ []
unfolding among largest_of found_at first_where cut insert_by insert sort_word decides comes_before placed place in_order cells_of numbers keep
all_go = refl
