-- What the calls of `quotient` say: their answer, or the refusal. Assumes nothing.
use Rattle.std.specs.Prelude.{Bool, Result}
use Rattle.refusal.specs.declared.Refusal.{Refusal}
use Rattle.quotient.specs.declared.Crossing.{Crossing}
use Rattle.quotient.specs.declared.Grid.{Grid}

-- what `reduce` says: a point's crossing
abbrev pub Reduced : Type 0
Reduced = Result Crossing Refusal

-- what `is_orientation_preserving` says: true where every axis reflects an even number of axes
abbrev pub Parity : Type 0
Parity = Result Bool Refusal

-- what a maker says: the grid, which every check takes
abbrev pub Made : Type 0
Made = Result Grid Refusal
