-- Squared lengths of edges, in the operations of IEEE 754. Assumes nothing.
use Rattle.std.specs.Prelude.{ℕ, zero, suc, ◌-◌, Bool, false, List, [], ◌∷◌, pos, from_bits, slice_index, Float}
use Rattle.grid_sides.specs.declared.Sides.{Sides}
use Rattle.grid_sides.specs.declared.Steps.{Steps}
use Rattle.grid_sides.specs.Counts.{side_of}
use Rattle.std.specs.Float.{nan, inf, fin, binary64}
use Rattle.std.specs.Float.Ieee.{le, add, sub, mul, div, of_int}

-- side / n, one rounding
abbrev pub spacing_of : Float → ℕ → Float
spacing_of side n = div binary64 side (of_int binary64 (pos n))

-- (step * spacing) squared: two roundings
abbrev pub square_of : ℕ → Float → Float
square_of step spacing = mul binary64 (mul binary64 (of_int binary64 (pos step)) spacing) (mul binary64 (of_int binary64 (pos step)) spacing)

-- the magnitude of x: its sign is cleared
abbrev pub magnitude : Float → Float
magnitude nan = nan
magnitude (inf s) = inf false
magnitude (fin s m e) = fin false m e

-- 10 ^ -12, as the nearest value of the format
abbrev pub tolerance : Float
tolerance = from_bits binary64 0x3d71_9799_812d_ea11

-- a later value for an edge agrees with the earlier one: they differ by at most 1e-12 times the later one
unfoldable pub agrees : Float → Float → Bool
agrees known later = le (magnitude (sub binary64 known later)) (mul binary64 tolerance later)

-- the steps in their order
abbrev pub all_steps : Steps → List ℕ
all_steps s = s.first ∷ s.second ∷ s.third ∷ []

-- the step along axis i; past the last 0
unfoldable pub step_of : Steps → ℕ → ℕ
step_of s i = slice_index (all_steps s) i

-- the squares of axes 0 to k, added axis 0 first
unfoldable pub squares_to : Sides → Steps → ℕ → Float
squares_to h s zero = square_of (step_of s 0) (side_of h 0)
squares_to h s (suc k) = add binary64 (squares_to h s k) (square_of (step_of s (suc k)) (side_of h (suc k)))

-- the squared length of the step s in a grid of dimension d with the spacings h
abbrev pub length_sq : Sides → Steps → ℕ → Float
length_sq h s d = squares_to h s (d - 1)
