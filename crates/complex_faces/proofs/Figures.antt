-- The definitions on figures. Assumes nothing.
use mathlib.Core.List.{List, [], ◌∷◌}
use mathlib.Core.Path.{◌≡◌, refl}
use Prim.Native.Nat.{ℕ}
use lib.IntN.{pos, negsuc}
use Rattle.lists.specs.Words.{among, first_where, found_at}
use Rattle.complex.specs.Cells.{decides, comes_before, placed, place}
use Rattle.complex.specs.Skeleton.{in_colex, numbers}
use Rattle.complex_faces.specs.Faces.{each_then, places_of, sub_word, sub_words, all_chosen, faces_of}
use Rattle.complex_faces.specs.Index.{index_of, starts_from, starts_of}
use Rattle.complex_faces.specs.Entries.{entries_at, entries_below, entries_of, signs_in, faces_in, cofaces_in}

-- triangles 012 and 123
abbrev two : List (List ℕ)
two = (0 ∷ 1 ∷ 2 ∷ []) ∷ (1 ∷ 2 ∷ 3 ∷ []) ∷ []

edges-of-two : faces_of two 1 ≡ (0 ∷ 1 ∷ []) ∷ (0 ∷ 2 ∷ []) ∷ (1 ∷ 2 ∷ []) ∷ (1 ∷ 3 ∷ []) ∷ (2 ∷ 3 ∷ []) ∷ []
unfolding in_colex place placed comes_before decides all_chosen sub_words sub_word places_of each_then
edges-of-two = refl

index-of-two : index_of two 4 ≡ (0 ∷ []) ∷ (0 ∷ 1 ∷ []) ∷ (0 ∷ 1 ∷ []) ∷ (1 ∷ []) ∷ []
unfolding numbers among
index-of-two = refl

starts-of-two : starts_of (index_of two 4) ≡ 0 ∷ 1 ∷ 3 ∷ 5 ∷ 6 ∷ []
unfolding numbers among starts_from
starts-of-two = refl

signs-of-two : signs_in (entries_of two 2) ≡ pos 1 ∷ negsuc 0 ∷ pos 1 ∷ pos 1 ∷ negsuc 0 ∷ pos 1 ∷ []
unfolding in_colex place placed comes_before decides all_chosen sub_words sub_word places_of each_then entries_of entries_below entries_at first_where found_at
signs-of-two = refl

faces-of-two : faces_in (entries_of two 2) ≡ 2 ∷ 1 ∷ 0 ∷ 4 ∷ 3 ∷ 2 ∷ []
unfolding in_colex place placed comes_before decides all_chosen sub_words sub_word places_of each_then entries_of entries_below entries_at first_where found_at
faces-of-two = refl

cofaces-of-two : cofaces_in (entries_of two 2) ≡ 0 ∷ 0 ∷ 0 ∷ 1 ∷ 1 ∷ 1 ∷ []
unfolding in_colex place placed comes_before decides all_chosen sub_words sub_word places_of each_then entries_of entries_below entries_at first_where found_at
cofaces-of-two = refl

-- five positions, two of them
places-of-five : places_of 5 2 ≡ (0 ∷ 1 ∷ []) ∷ (0 ∷ 2 ∷ []) ∷ (1 ∷ 2 ∷ []) ∷ (0 ∷ 3 ∷ []) ∷ (1 ∷ 3 ∷ []) ∷ (2 ∷ 3 ∷ []) ∷ (0 ∷ 4 ∷ []) ∷ (1 ∷ 4 ∷ []) ∷ (2 ∷ 4 ∷ []) ∷ (3 ∷ 4 ∷ []) ∷ []
unfolding places_of each_then
places-of-five = refl
