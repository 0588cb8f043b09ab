-- The line that the program reads (document 01, "Figures to check by"), as a grammar over its bytes: each `..From` takes its part off the front. Assumes nothing.
use Rattle.refusal.specs.declared.Refusal.TheVariants.{BadDimension, Unreadable}
use Rattle.bandsum_line.specs.Says.{Line}
use Rattle.std.specs.Prelude.{Err, Ok}
use Rattle.std.specs.Prelude.{ℕ, zero, suc, ◌+◌, ◌*◌, ◌-◌, ◌^◌, Bool, false, cond, ◌&&◌, List, [], ◌∷◌, leb, ltb, eqb, pos}
use Rattle.std.specs.Float.{fin}
use Rattle.grid_sides.specs.declared.Sides.{Sides}
use Rattle.quotient.specs.declared.Glue.{Glue}
use Rattle.quotient.specs.declared.Glue.TheVariants.{Open, Periodic, Twisted}
use Rattle.quotient.specs.declared.Axis.{Axis}
use Rattle.quotient.specs.declared.Grid.{Grid}
use Rattle.quotient.specs.Fold.{member}
use Rattle.quotient.specs.Shape.{no_axis}
use Rattle.refusal.specs.Limits.{most_dimension}

-- ---- bytes

abbrev pub line_feed : ℕ
line_feed = 10

abbrev pub space : ℕ
space = 32

-- the digit 0; the others follow it
abbrev pub zero_digit : ℕ
zero_digit = 48

abbrev pub letter_o : ℕ
letter_o = 79

abbrev pub letter_p : ℕ
letter_p = 80

abbrev pub letter_t : ℕ
letter_t = 84

-- a digit from 0 to 9, and one that may name a reflected axis, from 0 to 7
abbrev pub is_digit : ℕ → Bool
is_digit b = leb 48 b && leb b 57

abbrev pub is_axis_digit : ℕ → Bool
is_axis_digit b = leb 48 b && leb b 55

-- ---- parts of the line

-- what stands at the front of the bytes, and the bytes after it; or that nothing of the kind stands there
pub data Front (A : Type 0) : Type 0 where
  nothing : Front A
  front : A → List ℕ → Front A

-- the part that is read after another
unfoldable pub and_then : {A B : Type 0} → Front A → (A → List ℕ → Front B) → Front B
and_then nothing f = nothing
and_then (front x r) f = f x r

-- the part that is read after the byte b
unfoldable pub after : {A : Type 0} → ℕ → (List ℕ → Front A) → List ℕ → Front A
after b f [] = nothing
after b f (x ∷ r) = cond (eqb x b) (f r) nothing

-- a number whose digits so far say n, with at most k digits to come
unfoldable pub digits_from : ℕ → ℕ → List ℕ → Front ℕ
digits_from zero n bs = front n bs
digits_from (suc k) n [] = front n []
digits_from (suc k) n (b ∷ r) = cond (is_digit b) (digits_from k (n * 10 + (b - zero_digit)) r) (front n (b ∷ r))

-- a count: one to four digits, and no 0 before others
unfoldable pub count_from : List ℕ → Front ℕ
count_from [] = nothing
count_from (b ∷ r) = cond (eqb b zero_digit) (front 0 r) (cond (is_digit b) (digits_from 3 (b - zero_digit) r) nothing)

-- a set of axes as distinct digits from 0 to 7, of which m has those so far
unfoldable pub set_from : ℕ → List ℕ → Front ℕ
set_from m [] = front m []
set_from m (b ∷ r) =
    cond (is_axis_digit b) (cond (member m (b - zero_digit)) nothing (set_from (m + 2 ^ (b - zero_digit)) r))
    (front m (b ∷ r))

-- how an axis is glued: O, P, or T with its set
unfoldable pub glue_from : List ℕ → Front Glue
glue_from [] = nothing
glue_from (b ∷ r) =
    cond (eqb b letter_o) (front Open r)
    (cond (eqb b letter_p) (front Periodic r)
    (cond (eqb b letter_t) (and_then (set_from 0 r) (λ m t. front (Twisted m) t))
    nothing))

-- an axis of n cells: a space and how it is glued
unfoldable pub glued_from : ℕ → List ℕ → Front Axis
glued_from n bs = after space (λ r. and_then (glue_from r) (λ g t. front (record { count = n; glue = g }) t)) bs

-- an axis: a space and its count, then a space and how it is glued
unfoldable pub axis_from : List ℕ → Front Axis
axis_from bs = after space (λ r. and_then (count_from r) glued_from) bs

-- axis i of a grid of dimension d: past d nothing is read, and the axis is open with no cells
unfoldable pub axis_at : ℕ → ℕ → List ℕ → Front Axis
axis_at d i bs = cond (ltb i d) (axis_from bs) (front no_axis bs)

-- no sides are read: each is 1
abbrev pub unit_sides : Sides
unit_sides = record { first = fin false 1 (pos 0); second = fin false 1 (pos 0); third = fin false 1 (pos 0) }

-- the axes of a grid of dimension d
unfoldable pub grid_from : ℕ → List ℕ → Front Grid
grid_from d bs =
    and_then (axis_at d 0 bs) (λ a r.
    and_then (axis_at d 1 r) (λ b s.
    and_then (axis_at d 2 s) (λ c t.
    front (record { d = d; first = a; second = b; third = c; sides = unit_sides }) t)))

-- ---- the line

-- one line feed, and nothing after it
unfoldable pub line_ends : List ℕ → Bool
line_ends [] = false
line_ends (b ∷ []) = eqb b line_feed
line_ends (b ∷ (c ∷ r)) = false

-- the grid, where the line ends after it
unfoldable pub ended : Front Grid → Line
ended nothing = Err Unreadable
ended (front g r) = cond (line_ends r) (Ok g) (Err Unreadable)

-- the grid that the bytes describe. A first digit that is no grid's dimension gives 1, whatever follows; anything else that is no line gives 17
unfoldable pub read_line : List ℕ → Line
read_line [] = Err Unreadable
read_line (b ∷ r) =
    cond (is_digit b)
    (cond (leb 1 (b - zero_digit) && leb (b - zero_digit) most_dimension) (ended (grid_from (b - zero_digit) r)) (Err BadDimension))
    (Err Unreadable)
