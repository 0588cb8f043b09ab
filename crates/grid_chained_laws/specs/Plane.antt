-- What is to be shown of the words of a projective plane. Assumes nothing.
use Rattle.refusal.specs.declared.Refusal.TheVariants.{CrowdedFacet}
use Rattle.refusal.specs.Says.{Counted, fine}
use Rattle.std.specs.Prelude.{Err, List, ◌≡◌, ℕ, ◌≤◌}
use Rattle.grid_sides.specs.declared.Sides.{Sides}
use Rattle.refusal.specs.Lent.{lengths, Roomy}
use Rattle.quotient.specs.declared.Axis.{Axis}
use Rattle.quotient.specs.declared.Grid.{Grid}
use Rattle.grid_mesh.specs.Words.{grid_need}
use Rattle.grid_chained.specs.Laws.{twisted_axis}
use Rattle.grid_chained.specs.Shape.{shape_of}
use Rattle.grid_chained_mesh.specs.Words.{CellWords}

-- n by n cells, axis 0 twisted over axis 1 and axis 1 over axis 0
abbrev pub plane_of : ℕ → Axis → Sides → Grid
plane_of n third sides = record { d = 2; first = twisted_axis n 2; second = twisted_axis n 1; third = third; sides = sides }

-- with room the call `cell_words` of this mode says 7 of such a grid that is taken, n from 3 on
abbrev pub PlaneLaw : Type 0
PlaneLaw = (n : ℕ) → 3 ≤ n → (third : Axis) (sides : Sides) → shape_of (plane_of n third sides) ≡ fine → (r : Counted) (words words' keys keys' rows rows' spare spare' counts counts' : List ℕ) →
    Roomy (grid_need (plane_of n third sides)) (lengths keys rows spare counts) → CellWords (plane_of n third sides) r words words' keys keys' rows rows' spare spare' counts counts' → r ≡ Err CrowdedFacet
