-- What the inner steps of `quotient` hand on: no public promise cites it. Assumes nothing.
use Rattle.refusal.specs.Says.{Counted}
use Rattle.std.specs.Prelude.{Ok, ◌≡◌, Bool, cond, ◌&&◌, List, ℕ, ◌-◌, ◌%◌, ◌<◌, eqb, get_or}
use Rattle.quotient.specs.declared.Axis.{Axis}
use Rattle.quotient.specs.declared.Grid.{Grid}
use Rattle.quotient.specs.declared.Spread.{Spread}
use Rattle.refusal.specs.Limits.{many_corners}
use Rattle.quotient.specs.Fold.{member}
use Rattle.quotient.specs.Shape.{closed_of, cells_on, closed_at, glued_on, shape_within, check_within, counted_after, vertices_of}
use Rattle.quotient.specs.Reduce.{rest_at, coord_at, wrapped_set, reversed_set}
use Rattle.quotient.specs.Points.{from_digits}

-- ---- the check

-- how many vertices, where nothing from 9 on refuses the grid within so many cells and vertices; and where nothing at all does
abbrev pub shape_count : ℕ → ℕ → Grid → Counted
shape_count cells vertices g = counted_after (shape_within cells vertices g) (Ok (vertices_of g))

abbrev pub count_within : ℕ → ℕ → ℕ → Grid → Counted
count_within dimension cells vertices g = counted_after (check_within dimension cells vertices g) (Ok (vertices_of g))

-- limits so small that no product of one and a count passes 64 bits
abbrev pub FewWithin : ℕ → ℕ → Type 0
FewWithin cells vertices = (cells < many_corners) × (vertices < many_corners)

-- ---- a point taken apart, and the number that its parts make once a set of axes is turned

-- coordinate c is the far end of a closed axis
abbrev pub ends_at : Axis → ℕ → Bool
ends_at a c = closed_of a.glue && eqb c a.count

-- coordinate c of axis k, from the other end where the mask m has k, and then modulo n where the axis is closed
abbrev pub turned_by : Grid → ℕ → ℕ → ℕ → ℕ
turned_by g m k c = cond (member m k) (cells_on g k - c) c

abbrev pub folded_by : Grid → ℕ → ℕ → ℕ → ℕ
folded_by g m k c = cond (closed_at g k) (turned_by g m k c % cells_on g k) (turned_by g m k c)

-- the number in the glued shape of the point with these coordinates, those of the mask m turned
unfoldable pub number_by : Grid → ℕ → List ℕ → ℕ
number_by g m cs = from_digits (glued_on g) (λ k. folded_by g m k (get_or cs k 0)) g.d

-- the parts of point v: its coordinates, what is left of its number above them, and both sets
pub record Apart (g : Grid) (v : ℕ) (s : Spread) : Type 0 where
  pub coordinates : (k : ℕ) → k < g.d → get_or s.coordinates k 0 ≡ coord_at g v k
  pub rest : s.rest ≡ rest_at g v g.d
  pub wrapped : s.wrapped ≡ wrapped_set g v
  pub reversed : s.reversed ≡ reversed_set g v
