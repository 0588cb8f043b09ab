-- What `read` says: the grid, or the refusal. Assumes nothing.
use Rattle.std.specs.Prelude.{Result}
use Rattle.refusal.specs.declared.Refusal.{Refusal}
use Rattle.quotient.specs.declared.Grid.{Grid}

abbrev pub Line : Type 0
Line = Result Grid Refusal
