-- Lines and what they say, computed from the grammar that the contracts cite. Assumes nothing.
use Rattle.refusal.specs.declared.Refusal.TheVariants.{BadDimension, Unreadable}
use Rattle.std.specs.Prelude.{Err, Ok}
use mathlib.Core.Path.{◌≡◌, refl}
use mathlib.Core.List.{[], ◌∷◌, map}
use Prim.Native.Nat.{ℕ}
use Rattle.quotient.specs.declared.Glue.{Glue}
use Rattle.quotient.specs.declared.Glue.TheVariants.{Open, Periodic, Twisted}
use Rattle.quotient.specs.declared.Axis.{Axis}
use Rattle.bandsum_line.specs.Grammar.{and_then, after, digits_from, count_from, set_from, glue_from, glued_from, axis_from, axis_at, grid_from, line_ends, ended, read_line, unit_sides}

abbrev axis : ℕ → Glue → Axis
axis n g = record { count = n; glue = g }

-- `2 3 P 1 O` and a line feed
pub ring : read_line (50 ∷ 32 ∷ 51 ∷ 32 ∷ 80 ∷ 32 ∷ 49 ∷ 32 ∷ 79 ∷ 10 ∷ [])
    ≡ Ok (record { d = 2; first = axis 3 Periodic; second = axis 1 Open; third = axis 0 Open; sides = unit_sides })
unfolding and_then after digits_from count_from set_from glue_from glued_from axis_from axis_at grid_from line_ends ended read_line
ring = refl

-- `1 4096 T20`: the set {0, 2} is the mask 5
pub twisted : read_line (49 ∷ 32 ∷ 52 ∷ 48 ∷ 57 ∷ 54 ∷ 32 ∷ 84 ∷ 50 ∷ 48 ∷ 10 ∷ [])
    ≡ Ok (record { d = 1; first = axis 4096 (Twisted 5); second = axis 0 Open; third = axis 0 Open; sides = unit_sides })
unfolding and_then after digits_from count_from set_from glue_from glued_from axis_from axis_at grid_from line_ends ended read_line
twisted = refl

-- 1 whatever follows: `0`, `4` and more, `9` alone
pub no-dimension : map read_line ((48 ∷ []) ∷ (52 ∷ 32 ∷ 51 ∷ []) ∷ (57 ∷ 10 ∷ []) ∷ []) ≡ Err BadDimension ∷ Err BadDimension ∷ Err BadDimension ∷ []
unfolding read_line
no-dimension = refl

-- 17: no byte, a letter; then after `1 `: `3 T22`, `3 T8`, `03 O`, `12345 O`, `3 O` with no line feed, with a carriage return, with a byte after the line feed
pub no_line : map read_line
    ([] ∷ (79 ∷ []) ∷
    (49 ∷ 32 ∷ 51 ∷ 32 ∷ 84 ∷ 50 ∷ 50 ∷ 10 ∷ []) ∷
    (49 ∷ 32 ∷ 51 ∷ 32 ∷ 84 ∷ 56 ∷ 10 ∷ []) ∷
    (49 ∷ 32 ∷ 48 ∷ 51 ∷ 32 ∷ 79 ∷ 10 ∷ []) ∷
    (49 ∷ 32 ∷ 49 ∷ 50 ∷ 51 ∷ 52 ∷ 53 ∷ 32 ∷ 79 ∷ 10 ∷ []) ∷
    (49 ∷ 32 ∷ 51 ∷ 32 ∷ 79 ∷ []) ∷
    (49 ∷ 32 ∷ 51 ∷ 32 ∷ 79 ∷ 13 ∷ 10 ∷ []) ∷
    (49 ∷ 32 ∷ 51 ∷ 32 ∷ 79 ∷ 10 ∷ 10 ∷ []) ∷ [])
    ≡ Err Unreadable ∷ Err Unreadable ∷ Err Unreadable ∷ Err Unreadable ∷ Err Unreadable ∷ Err Unreadable ∷ Err Unreadable ∷ Err Unreadable ∷ Err Unreadable ∷ []
unfolding and_then after digits_from count_from set_from glue_from glued_from axis_from axis_at grid_from line_ends ended read_line
no_line = refl
