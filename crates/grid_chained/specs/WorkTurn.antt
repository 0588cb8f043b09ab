-- Inner contracts of the quick engine: what a step does to a point. At an end of a closed axis it turns that axis round, and those of its set. Assumes nothing.
use Rattle.std.specs.Prelude.{Bool, cond, ◌&&◌, ◌||◌, ℕ, zero, suc, ◌-◌, min, eqb}
use Rattle.quotient.specs.declared.Grid.{Grid}
use Rattle.quotient.specs.Fold.{member}
use Rattle.quotient.specs.Shape.{cells_on, closed_at, mask_at}
use Rattle.quotient.specs.Reduce.{coord_at}
use Rattle.quotient.specs.Points.{point_of}

-- axis a is closed, and point p lies at one of its ends
abbrev pub end_at : Grid → ℕ → ℕ → Bool
end_at g p a = closed_at g a && (eqb (coord_at g p a) 0 || eqb (coord_at g p a) (cells_on g a))

-- a step along axis a turns axis k round: k is a itself, or in its set
abbrev pub turns_at : Grid → ℕ → ℕ → Bool
turns_at g a k = eqb k a || member (mask_at g a) k

-- coordinate c of an axis of n cells: as it is, or turned round
abbrev pub turn : Bool → ℕ → ℕ → ℕ
turn b n c = cond b (n - c) c

-- point p, with all axes turned that a step along axis a turns: the other end of that step, where p lies at an end of a
abbrev pub across_of : Grid → ℕ → ℕ → ℕ
across_of g p a = point_of g (λ k. turn (turns_at g a k) (cells_on g k) (coord_at g p k))

-- the least point that p becomes across axes below a, each crossed at most once
unfoldable pub least_below : Grid → ℕ → ℕ → ℕ
least_below g zero p = p
least_below g (suc a) p = cond (end_at g p a) (min (least_below g a p) (least_below g a (across_of g p a))) (least_below g a p)
