-- Document 01's figures: the words of 3×1 with axis 0 twisted over 1, and with axis 0 periodic. Assumes nothing.
use mathlib.Core.Path.{◌≡◌, refl}
use mathlib.Core.List.{[], ◌∷◌}
use lib.IntN.{pos}
use lib.Ieee.{fin}
use mathlib.Core.Bool.{false}
use Rattle.multiindex.specs.Sort.{insert_by, insert, sort_word}
use Rattle.complex.specs.Cells.{decides, comes_before, placed, place, in_order}
use Rattle.quotient.specs.declared.Glue.{Glue}
use Rattle.quotient.specs.declared.Glue.TheVariants.{Open, Periodic, Twisted}
use Rattle.quotient.specs.declared.Grid.{Grid}
use Rattle.quotient.specs.Fold.{product}
use Rattle.quotient.specs.Shape.{no_axis, axis_of}
use Rattle.quotient.specs.Reduce.{rest_at, reflected_by, number_to}
use Rattle.quotient.specs.Points.{from_digits}
use Rattle.grid_words.specs.Cells.{met, grid_cells, words_of}

abbrev band : Glue → Grid
band g =
    record {
      d = 2;
      first = record { count = 3; glue = g };
      second = record { count = 1; glue = Open };
      third = no_axis;
      sides = record { first = fin false 1 (pos 0); second = fin false 1 (pos 0); third = fin false 1 (pos 0) };
    }

pub twisted-words : words_of (band (Twisted 2)) ≡ (0 ∷ 1 ∷ 4 ∷ []) ∷ (0 ∷ 3 ∷ 4 ∷ []) ∷ (1 ∷ 2 ∷ 5 ∷ []) ∷ (1 ∷ 4 ∷ 5 ∷ []) ∷ (2 ∷ 3 ∷ 0 ∷ []) ∷ (2 ∷ 5 ∷ 0 ∷ []) ∷ []
unfolding grid_cells met in_order place placed comes_before decides sort_word insert insert_by from_digits product rest_at reflected_by number_to axis_of
twisted-words = refl

pub periodic-words : words_of (band Periodic) ≡ (0 ∷ 1 ∷ 4 ∷ []) ∷ (0 ∷ 3 ∷ 4 ∷ []) ∷ (1 ∷ 2 ∷ 5 ∷ []) ∷ (1 ∷ 4 ∷ 5 ∷ []) ∷ (2 ∷ 0 ∷ 3 ∷ []) ∷ (2 ∷ 5 ∷ 3 ∷ []) ∷ []
unfolding grid_cells met in_order place placed comes_before decides sort_word insert insert_by from_digits product rest_at reflected_by number_to axis_of
periodic-words = refl
