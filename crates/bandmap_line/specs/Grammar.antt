-- The line that the program reads, as a grammar over its bytes, on top of bandsum's: each `..From` takes its part off the front. Assumes nothing.
use Rattle.refusal.specs.declared.Refusal.TheVariants.{BadDimension, Unreadable}
use Rattle.refusal.specs.declared.Refusal.{Refusal}
use Rattle.std.specs.Prelude.{Err, Ok, Result}
use Rattle.std.specs.Prelude.{ℕ, zero, suc, ◌-◌, cond, ◌&&◌, List, [], ◌∷◌, leb, ltb, ℤ, pos, negsuc}
use Rattle.quotient.specs.declared.Grid.{Grid}
use Rattle.refusal.specs.Limits.{most_dimension}
use Rattle.bandsum_line.specs.Grammar.{Front, nothing, front, and_then, after, is_digit, zero_digit, space, count_from, grid_from, line_ends}
use Rattle.bandsum_line.specs.WorkParts.{begins}
use Rattle.bandmap_line.specs.declared.MapLine.{MapLine}

abbrev pub minus : ℕ
minus = 45

-- degrees: a count of at most three digits
abbrev pub three_digits : ℕ → List ℕ → Front ℕ
three_digits n r = cond (ltb n 1000) (front n r) nothing

unfoldable pub degrees_from : List ℕ → Front ℕ
degrees_from bs = and_then (count_from bs) three_digits

-- degrees after a minus, of which there are some; negsuc n is -(n + 1)
abbrev pub below_zero : ℕ → List ℕ → Front ℤ
below_zero zero r = nothing
below_zero (suc n) r = front (negsuc n) r

abbrev pub above_zero : ℕ → List ℕ → Front ℤ
above_zero n r = front (pos n) r

-- a latitude: degrees, or a minus and degrees
unfoldable pub latitude_from : List ℕ → Front ℤ
latitude_from bs = cond (begins minus bs) (after minus (λ r. and_then (degrees_from r) below_zero) bs) (and_then (degrees_from bs) above_zero)

-- a space and a latitude
unfoldable pub spaced_from : List ℕ → Front ℤ
spaced_from bs = after space latitude_from bs

-- ---- the line: a grid, south, north, and its end

-- a line that is taken
abbrev pub taken : Grid → ℤ → ℤ → Result MapLine Refusal
taken g south north = Ok (record { grid = g; south = south; north = north })

unfoldable pub with_north : Grid → ℤ → Front ℤ → Result MapLine Refusal
with_north g south nothing = Err Unreadable
with_north g south (front north r) = cond (line_ends r) (taken g south north) (Err Unreadable)

unfoldable pub with_south : Grid → Front ℤ → Result MapLine Refusal
with_south g nothing = Err Unreadable
with_south g (front south r) = with_north g south (spaced_from r)

unfoldable pub with_grid : Front Grid → Result MapLine Refusal
with_grid nothing = Err Unreadable
with_grid (front g r) = with_south g (spaced_from r)

-- a first digit that is no grid's dimension gives 1, whatever follows; anything else that is no line gives 17
unfoldable pub read_map : List ℕ → Result MapLine Refusal
read_map [] = Err Unreadable
read_map (b ∷ r) =
    cond (is_digit b)
    (cond (leb 1 (b - zero_digit) && leb (b - zero_digit) most_dimension) (with_grid (grid_from (b - zero_digit) r)) (Err BadDimension))
    (Err Unreadable)
