-- `quotient::Grid::torus` meets its contract. Assumes nothing.
use mathlib.Core.Path.{ap, ◌∙◌}
use Rattle.quotient.specs.Makers.{made_of, torus_of}
use Rattle.quotient.proofs.Grid.torus.Goals as goal

pub returns : goal.returns
unfolding torus_of
returns c = c.made.ensures ∙ ap made_of c.uniform_grid-grid.ensures
