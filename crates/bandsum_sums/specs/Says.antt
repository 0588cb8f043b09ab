-- What `sums` says: the six things of a grid, or the refusal. Assumes nothing.
use Rattle.std.specs.Prelude.{Result}
use Rattle.refusal.specs.declared.Refusal.{Refusal}
use Rattle.bandsum_lines.specs.declared.Summary.{Summary}

abbrev pub Sum : Type 0
Sum = Result Summary Refusal
