-- What is proved of this mode beside the promises: on grids with no reflected twisted axis it makes the same classes as the first mode, and a square whose two axes are
-- twisted over each other has n·n + 1 classes. Assumes nothing.
use Rattle.refusal.specs.Says.{Counted, fine}
use Rattle.std.specs.Prelude.{Ok, List, ◌≡◌, ℕ, ◌+◌, ◌*◌, ◌<◌, ◌≤◌, length}
use Rattle.quotient.specs.declared.Glue.TheVariants.{Twisted}
use Rattle.quotient.specs.declared.Axis.{Axis}
use Rattle.quotient.specs.declared.Grid.{Grid}
use Rattle.quotient.specs.declared.Crossing.{Crossing}
use Rattle.quotient.specs.Shape.{axis_of, vertices_of, nvertices_of}
use Rattle.quotient.specs.Reduce.{vertex_of, reduce_of}
use Rattle.quotient.specs.Points.{points_of}
use Rattle.quotient.specs.Chain.{Untangled}
use Rattle.grid_chained.specs.Shape.{shape_of, need_of}
use Rattle.grid_chained.specs.PromiseReduce.{ReducedTo}
use Rattle.grid_chained.specs.PromiseCount.{CountedTo}

-- ---- both modes

-- the classes c of a grid, m of them, are the vertices of the first mode under other names
pub record Renamed (g : Grid) (c : ℕ → ℕ) (m : ℕ) : Type 0 where
  pub to : ℕ → ℕ
  pub from : ℕ → ℕ
  pub class : (p : ℕ) → p < points_of g → to (vertex_of g p) ≡ c p
  pub vertex : (p : ℕ) → p < points_of g → from (c p) ≡ vertex_of g p
  pub to_below : (x : ℕ) → x < vertices_of g → to x < m
  pub from_below : (y : ℕ) → y < m → from y < vertices_of g
  pub there : (x : ℕ) → x < vertices_of g → from (to x) ≡ x
  pub back : (y : ℕ) → y < m → to (from y) ≡ y
  pub many : m ≡ vertices_of g

-- the calls of both modes on one grid
pub record BothModes (g : Grid) : Type 0 where
  pub to : ℕ → ℕ
  pub from : ℕ → ℕ
  -- where the first mode's `reduce` says x of a grid point and this mode's says y, y is x renamed and x is y renamed back
  pub point : (v y : ℕ) (x : Crossing) (room room' : List ℕ) → v < points_of g → reduce_of g (record { 0 = v }) ≡ Ok x →
      ReducedTo g v (Ok (record { 0 = y })) room room' → (to x.vertex.0 ≡ y) × (from y ≡ x.vertex.0)
  -- with room `nvertices` says the same in both modes
  pub count : (r : Counted) (room room' : List ℕ) → need_of g ≤ length room → CountedTo g r room room' → r ≡ nvertices_of g

-- no axis with a non-empty set is itself reflected: then both modes make the same classes
abbrev pub BothModesLaw : Type 0
BothModesLaw = (g : Grid) → Untangled g → BothModes g

-- ---- a projective plane

-- an axis of n cells, twisted over the axes of the mask
abbrev pub twisted_axis : ℕ → ℕ → Axis
twisted_axis n mask = record { count = n; glue = Twisted mask }

-- n by n cells, axis 0 twisted over axis 1 and axis 1 over axis 0
pub record Square (g : Grid) (n : ℕ) : Type 0 where
  pub flat : g.d ≡ 2
  pub first : axis_of g 0 ≡ twisted_axis n 2
  pub second : axis_of g 1 ≡ twisted_axis n 1

-- with room `nvertices` says n·n + 1 of such a square that is taken
abbrev pub SquareLaw : Type 0
SquareLaw = (g : Grid) (n : ℕ) → Square g n → shape_of g ≡ fine → (r : Counted) (room room' : List ℕ) → need_of g ≤ length room → CountedTo g r room room' → r ≡ Ok (n * n + 1)
