-- What is to be shown of what the calls on grids say. Assumes nothing.
use Rattle.refusal.specs.declared.Refusal.{Refusal}
use Rattle.refusal.specs.declared.Refusal.TheVariants.{CrowdedFacet}
use Rattle.refusal.specs.Says.{Counted}
use Rattle.std.specs.Prelude.{Err, Ok, Result, ◌≡◌, length}
use Rattle.complex.specs.Skeleton.{edges_of}
use Rattle.quotient.specs.declared.Grid.{Grid}
use Rattle.quotient.specs.Shape.{cell_count}
use Rattle.grid_mesh.specs.Words.{glued_cells}
use Rattle.grid_order.specs.declared.Triangulated.{Triangulated}
use Rattle.grid_order.specs.declared.Triangulated.TheVariants.{Ordered, Unordered}

-- where a number of cells is said, it is d! for each box
abbrev pub SaysCells : Grid → Result Triangulated Refusal → Type 0
SaysCells g (Ok (Ordered m)) = m ≡ cell_count g
SaysCells g (Ok (Unordered m)) = m ≡ cell_count g
SaysCells g (Err why) = Unit {0}

-- where a number of words is said, it is d! for each box
abbrev pub SaysWords : Grid → Counted → Type 0
SaysWords g (Ok m) = m ≡ cell_count g
SaysWords g (Err why) = Unit {0}

-- where a number of edges is said, it is how many the glued cells have
abbrev pub SaysEdges : Grid → Counted → Type 0
SaysEdges g (Ok m) = m ≡ length (edges_of (glued_cells g))
SaysEdges g (Err why) = Unit {0}

-- 7 is not given
abbrev pub WordsNotSeven : Counted → Type 0
WordsNotSeven (Ok m) = Unit {0}
WordsNotSeven (Err why) = why ≡ CrowdedFacet → ⊥

abbrev pub CellsNotSeven : Result Triangulated Refusal → Type 0
CellsNotSeven (Ok (Ordered m)) = Unit {0}
CellsNotSeven (Ok (Unordered m)) = Unit {0}
CellsNotSeven (Err why) = why ≡ CrowdedFacet → ⊥
