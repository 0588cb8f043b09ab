-- Sides of a grid, and the counts that make its cells near cubical (document 01, "Gluing"), in the operations of IEEE 754. Assumes nothing.
use Rattle.std.specs.Prelude.{ℕ, zero, suc, ◌+◌, ◌-◌, ◌*◌, ◌/◌, ◌^◌, min, max, Bool, false, cond, not, ◌&&◌, List, [], ◌∷◌, pos, negsuc, nat_lt, slice_index_or, Float}
use Rattle.lists.specs.Words.{first_where}
use Rattle.grid_sides.specs.declared.Sides.{Sides}
use Rattle.std.specs.Float.{nan, inf, fin, binary64}
use Rattle.std.specs.Float.Ieee.{up, down, le, lt, div, mul, of_int}

-- 2 ^ -100 and 2 ^ 100
abbrev pub least : Float
least = fin false 1 (negsuc 99)

abbrev pub most : Float
most = fin false 1 (pos 100)

-- a side is taken where it is a number from 2 ^ -100 to 2 ^ 100
unfoldable pub side_fits : Float → Bool
side_fits x = le least x && le x most

-- the whole number nearest to the fraction n / k, a half going up: the whole part of n / k + 1 / 2
abbrev pub nearest : ℕ → ℕ → ℕ
nearest n k = (2 * n + k) / (2 * k)

-- The whole number nearest to x, halves away from zero. The float's exact value m * 2 ^ e is the fraction m * up e / down e (one of up e, down e is a power of 2, the other 1).
-- A negative number and a NaN give 0, as the Rust's cast does; 2 ^ 63 and more give 2 ^ 63. Shares of sides that are taken are none of these.
unfoldable pub nearest_whole : Float → ℕ
nearest_whole nan = 0
nearest_whole (inf s) = cond s 0 (2 ^ 63)
nearest_whole (fin s m e) = cond s 0 (min (nearest (m * up e) (down e)) (2 ^ 63))

-- extent / longest * n: two roundings
abbrev pub share : Float → Float → ℕ → Float
share extent longest n = mul binary64 (div binary64 extent longest) (of_int binary64 (pos n))

-- the count of an axis: the nearest whole number, at least 1, raised to the floor
unfoldable pub axis_count : Float → Float → ℕ → ℕ → ℕ
axis_count extent longest n floor = max (max (nearest_whole (share extent longest n)) 1) floor

-- ---- the sides of a grid

-- the sides in their order
abbrev pub all_sides : Sides → List Float
all_sides s = s.first ∷ s.second ∷ s.third ∷ []

-- the side of axis i; past the last 0
unfoldable pub side_of : Sides → ℕ → Float
side_of s i = slice_index_or (all_sides s) i (fin false 0 (pos 0))

-- the side of an axis below d, and 1 past it
unfoldable pub kept_side : Sides → ℕ → ℕ → Float
kept_side s d i = cond (nat_lt i d) (side_of s i) (fin false 1 (pos 0))

-- the sides of the axes below d, and 1 for each other: what a maker hands out
abbrev pub sides_below : Sides → ℕ → Sides
sides_below s d = record { first = kept_side s d 0; second = kept_side s d 1; third = kept_side s d 2 }

-- side i is refused
abbrev pub unfit : Sides → ℕ → Bool
unfit s i = not (side_fits (side_of s i))

-- the least axis below d whose side is refused; d if none is
abbrev pub first_bad : Sides → ℕ → ℕ
first_bad s d = first_where (unfit s) d

abbrev pub larger_of : Float → Float → Float
larger_of a b = cond (lt a b) b a

-- the longest of sides 0 to k
unfoldable pub longest_to : Sides → ℕ → Float
longest_to s zero = side_of s 0
longest_to s (suc k) = larger_of (longest_to s k) (side_of s (suc k))

-- the longest of the sides below d
abbrev pub longest_of : Sides → ℕ → Float
longest_of s d = longest_to s (d - 1)
