-- `quotient::Grid::reflects_odd` meets its contract.  Assumes nothing.
use mathlib.Core.Path.{ap, ◌∙◌}
use Rattle.quotient.specs.declared.Axis.{Axis}
use Rattle.quotient.specs.Shape.{odd_set, mask_of}
use Rattle.quotient.proofs.Grid.reflects_odd.Goals as goal

pub returns : goal.returns
returns c = c.odd_set.ensures ∙ ap odd_set (c.mask.ensures ∙ ap (λ (a : Axis). mask_of a.glue) c.axis-a.ensures)
