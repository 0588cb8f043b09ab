-- `quotient::Grid::falls_short` meets its contract.  Assumes nothing.
use mathlib.Core.Path.{ap, ◌∙◌}
use Rattle.quotient.specs.Shape.{too_few}
use Rattle.quotient.proofs.Grid.falls_short.Goals as goal

pub returns : goal.returns
returns c = c.too_few.ensures ∙ ap too_few c.axis-a.ensures
