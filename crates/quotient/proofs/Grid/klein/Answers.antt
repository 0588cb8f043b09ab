-- `quotient::Grid::klein` meets its contract. Assumes nothing.
use mathlib.Core.Path.{ap, ◌∙◌}
use Rattle.quotient.specs.Makers.{made_of}
use Rattle.quotient.proofs.Uniform.{klein-two, klein-other}
use Rattle.quotient.proofs.Grid.klein.Goals as goal

pub returns-then-d-eq2 : goal.returns-then-d-eq2
returns-then-d-eq2 c = c.made.ensures ∙ ap made_of c.uniform_grid-grid.ensures ∙ klein-two _ _ _ c.if-d-eq2.true

pub returns-else-d-eq2 : goal.returns-else-d-eq2
returns-else-d-eq2 c = klein-other _ _ _ c.if-d-eq2.false
