-- Lines and what they say, computed from the grammar that the contract cites. Assumes nothing.
use Rattle.refusal.specs.declared.Refusal.TheVariants.{BadDimension, Unreadable}
use Rattle.std.specs.Prelude.{Err}
use mathlib.Core.Path.{◌≡◌, refl}
use mathlib.Core.List.{[], ◌∷◌, map}
use lib.IntN.{pos, negsuc}
use Rattle.quotient.specs.declared.Glue.TheVariants.{Open, Periodic}
use Rattle.bandsum_line.specs.Grammar.{and_then, after, digits_from, count_from, set_from, glue_from, glued_from, axis_from, axis_at, grid_from, line_ends, unit_sides}
use Rattle.bandsum_line.specs.WorkParts.{begins}
use Rattle.bandmap_line.specs.Grammar.{taken, degrees_from, latitude_from, spaced_from, with_north, with_south, with_grid, read_map}

-- `2 36 P 18 O -60 60` and a line feed
pub band : read_map (50 ∷ 32 ∷ 51 ∷ 54 ∷ 32 ∷ 80 ∷ 32 ∷ 49 ∷ 56 ∷ 32 ∷ 79 ∷ 32 ∷ 45 ∷ 54 ∷ 48 ∷ 32 ∷ 54 ∷ 48 ∷ 10 ∷ []) ≡
    taken (record { d = 2; first = record { count = 36; glue = Periodic }; second = record { count = 18; glue = Open }; third = record { count = 0; glue = Open }; sides = unit_sides })
    (negsuc 59) (pos 60)
unfolding and_then after digits_from count_from set_from glue_from glued_from axis_from axis_at grid_from line_ends begins degrees_from latitude_from spaced_from with_north with_south with_grid read_map
band = refl

-- latitudes that do not fit are read: `2 3 P 1 O 999 -91`
pub far : read_map (50 ∷ 32 ∷ 51 ∷ 32 ∷ 80 ∷ 32 ∷ 49 ∷ 32 ∷ 79 ∷ 32 ∷ 57 ∷ 57 ∷ 57 ∷ 32 ∷ 45 ∷ 57 ∷ 49 ∷ 10 ∷ []) ≡
    taken (record { d = 2; first = record { count = 3; glue = Periodic }; second = record { count = 1; glue = Open }; third = record { count = 0; glue = Open }; sides = unit_sides })
    (pos 999) (negsuc 90)
unfolding and_then after digits_from count_from set_from glue_from glued_from axis_from axis_at grid_from line_ends begins degrees_from latitude_from spaced_from with_north with_south with_grid read_map
far = refl

-- 17: one latitude, -0, 06, 1000, two spaces, a space before the line feed, no line feed, a plus, a minus alone
pub no_line : map read_map
    ((50 ∷ 32 ∷ 51 ∷ 54 ∷ 32 ∷ 80 ∷ 32 ∷ 49 ∷ 56 ∷ 32 ∷ 79 ∷ 32 ∷ 45 ∷ 54 ∷ 48 ∷ 10 ∷ []) ∷
    (50 ∷ 32 ∷ 51 ∷ 54 ∷ 32 ∷ 80 ∷ 32 ∷ 49 ∷ 56 ∷ 32 ∷ 79 ∷ 32 ∷ 45 ∷ 48 ∷ 32 ∷ 54 ∷ 48 ∷ 10 ∷ []) ∷
    (50 ∷ 32 ∷ 51 ∷ 54 ∷ 32 ∷ 80 ∷ 32 ∷ 49 ∷ 56 ∷ 32 ∷ 79 ∷ 32 ∷ 48 ∷ 54 ∷ 32 ∷ 54 ∷ 48 ∷ 10 ∷ []) ∷
    (50 ∷ 32 ∷ 51 ∷ 54 ∷ 32 ∷ 80 ∷ 32 ∷ 49 ∷ 56 ∷ 32 ∷ 79 ∷ 32 ∷ 49 ∷ 48 ∷ 48 ∷ 48 ∷ 32 ∷ 54 ∷ 48 ∷ 10 ∷ []) ∷
    (50 ∷ 32 ∷ 51 ∷ 54 ∷ 32 ∷ 80 ∷ 32 ∷ 49 ∷ 56 ∷ 32 ∷ 79 ∷ 32 ∷ 32 ∷ 48 ∷ 32 ∷ 54 ∷ 48 ∷ 10 ∷ []) ∷
    (50 ∷ 32 ∷ 51 ∷ 54 ∷ 32 ∷ 80 ∷ 32 ∷ 49 ∷ 56 ∷ 32 ∷ 79 ∷ 32 ∷ 48 ∷ 32 ∷ 54 ∷ 48 ∷ 32 ∷ 10 ∷ []) ∷
    (50 ∷ 32 ∷ 51 ∷ 54 ∷ 32 ∷ 80 ∷ 32 ∷ 49 ∷ 56 ∷ 32 ∷ 79 ∷ 32 ∷ 48 ∷ 32 ∷ 54 ∷ 48 ∷ []) ∷
    (50 ∷ 32 ∷ 51 ∷ 54 ∷ 32 ∷ 80 ∷ 32 ∷ 49 ∷ 56 ∷ 32 ∷ 79 ∷ 32 ∷ 43 ∷ 49 ∷ 32 ∷ 54 ∷ 48 ∷ 10 ∷ []) ∷
    (50 ∷ 32 ∷ 51 ∷ 54 ∷ 32 ∷ 80 ∷ 32 ∷ 49 ∷ 56 ∷ 32 ∷ 79 ∷ 32 ∷ 45 ∷ 32 ∷ 54 ∷ 48 ∷ 10 ∷ []) ∷ [])
    ≡ Err Unreadable ∷ Err Unreadable ∷ Err Unreadable ∷ Err Unreadable ∷ Err Unreadable ∷ Err Unreadable ∷ Err Unreadable ∷ Err Unreadable ∷ Err Unreadable ∷ []
unfolding and_then after digits_from count_from set_from glue_from glued_from axis_from axis_at grid_from line_ends begins degrees_from latitude_from spaced_from with_north with_south with_grid read_map
no_line = refl

-- 1, whatever follows
pub no-dimension : read_map (52 ∷ 32 ∷ 120 ∷ []) ≡ Err BadDimension
unfolding read_map
no-dimension = refl
