-- `quotient::Grid::reflects_badly` meets its contract.  Assumes nothing.
use mathlib.Core.Path.{ap, ◌∙◌}
use Rattle.quotient.specs.declared.Axis.{Axis}
use Rattle.quotient.specs.Shape.{bad_set, mask_of}
use Rattle.quotient.proofs.Grid.reflects_badly.Goals as goal

pub returns : goal.returns
returns c = c.bad_set.ensures ∙ ap (bad_set _ _) (c.mask.ensures ∙ ap (λ (a : Axis). mask_of a.glue) c.axis-a.ensures)
