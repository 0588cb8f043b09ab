-- What the call for one point says: its class, or the refusal. Assumes nothing.
use Rattle.std.specs.Prelude.{Result}
use Rattle.refusal.specs.declared.Refusal.{Refusal}
use Rattle.grid_chained.specs.declared.ClassVertex.{ClassVertex}

-- what `reduce` says: a point's class
abbrev pub Classed : Type 0
Classed = Result ClassVertex Refusal
