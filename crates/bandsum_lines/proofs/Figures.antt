-- Document 01's six lines for `2 3 P 1 O`, and `refused 8`, computed from the definitions that the contracts cite. Assumes nothing.
use mathlib.Core.Path.{◌≡◌, refl}
use mathlib.Core.Bool.{true}
use mathlib.Core.List.{[], ◌∷◌, ◌++◌}
use Rattle.text.specs.Decimal.{digits_down, decimal_down}
use Rattle.bandsum_lines.specs.Lines.{cells_word, vertices_word, edges_word, border_word, sides_word, refused_word, ordered_line, lines_of, refused_line}

pub six : lines_of (record { cells = 6; vertices = 6; edges = 12; border = 6; sides = 2; ordered = true })
    ≡ cells_word ++ (54 ∷ 10 ∷ vertices_word) ++ (54 ∷ 10 ∷ edges_word) ++ (49 ∷ 50 ∷ 10 ∷ border_word) ++ (54 ∷ 10 ∷ sides_word) ++ (50 ∷ 10 ∷ ordered_line true)
unfolding digits_down decimal_down
six = refl

pub eight : refused_line 8 ≡ refused_word ++ (56 ∷ 10 ∷ [])
unfolding digits_down decimal_down
eight = refl
