-- The definition on figures. Assumes nothing.
use mathlib.Core.List.{[], ◌∷◌, ◌++◌}
use mathlib.Core.Path.{◌≡◌, refl}
use Rattle.lists.specs.Words.{first_where, found_at}
use Rattle.lists.specs.Rows.{cut}
use Rattle.multiindex.specs.Sort.{sort_word, insert, insert_by}
use Rattle.text.specs.Decimal.{digits_down, decimal_down}
use Rattle.complex.specs.Cells.{decides, comes_before, placed, place, in_order, cells_of}
use Rattle.complex.specs.Skeleton.{in_colex}
use Rattle.complex_faces.specs.Faces.{each_then, places_of, sub_word, sub_words, all_chosen}
use Rattle.complex_faces.specs.Entries.{entries_at, entries_below, entries_of}
use Rattle.file_market.specs.File.{head_word, matrix_file, market_of}

-- triangles 012 and 123, from triangles to edges: 5 2 6, 3 1 1, 2 1 -1, 1 1 1, 5 2 1, 4 2 -1, 3 2 1
two-triangles : market_of 2 2 (0 ∷ 1 ∷ 2 ∷ 1 ∷ 2 ∷ 3 ∷ []) ≡ head_word ++ (53 ∷ 32 ∷ 50 ∷ 32 ∷ 54 ∷ 10 ∷ 51 ∷ 32 ∷ 49 ∷ 32 ∷ 49 ∷ 10 ∷ 50 ∷ 32 ∷ 49 ∷ 32 ∷ 45 ∷ 49 ∷ 10 ∷ 49 ∷ 32 ∷ 49 ∷ 32 ∷ 49 ∷ 10 ∷ 53 ∷ 32 ∷ 50 ∷ 32 ∷ 49 ∷ 10 ∷ 52 ∷ 32 ∷ 50 ∷ 32 ∷ 45 ∷ 49 ∷ 10 ∷ 51 ∷ 32 ∷ 50 ∷ 32 ∷ 49 ∷ 10 ∷ [])
unfolding cells_of in_order cut in_colex place placed comes_before decides all_chosen sub_words sub_word places_of each_then entries_of entries_below entries_at first_where found_at matrix_file digits_down decimal_down sort_word insert insert_by
two-triangles = refl

-- the edge 01: 2 1 2, 2 1 1, 1 1 -1
one-edge : market_of 1 1 (0 ∷ 1 ∷ []) ≡ head_word ++ (50 ∷ 32 ∷ 49 ∷ 32 ∷ 50 ∷ 10 ∷ 50 ∷ 32 ∷ 49 ∷ 32 ∷ 49 ∷ 10 ∷ 49 ∷ 32 ∷ 49 ∷ 32 ∷ 45 ∷ 49 ∷ 10 ∷ [])
unfolding cells_of in_order cut in_colex place placed comes_before decides all_chosen sub_words sub_word places_of each_then entries_of entries_below entries_at first_where found_at matrix_file digits_down decimal_down sort_word insert insert_by
one-edge = refl
