-- `quotient::Grid::glued_on` meets its contract.  Assumes nothing.
use mathlib.Core.Path.{sym, ap, ◌∙◌}
use Rattle.quotient.specs.Shape.{glued_points}
use Rattle.quotient.proofs.Axes.{points-closed, points-open}
use Rattle.quotient.proofs.Grid.glued_on.Goals as goal

pub returns-then-closed : goal.returns-then-closed
returns-then-closed c = points-closed c.axis-a.result (sym c.closed.ensures ∙ c.if-closed.true) ∙ ap glued_points c.axis-a.ensures

pub returns-else-closed : goal.returns-else-closed
returns-else-closed c = points-open c.axis-a.result (sym c.closed.ensures ∙ c.if-closed.false) ∙ ap glued_points c.axis-a.ensures
