-- `quotient::Grid::count_within` meets its contract. Assumes nothing.
use Rattle.quotient.proofs.Checks.{is-1, is-1-too, is-rest}
use Rattle.quotient.proofs.Grid.count_within.Goals as goal

pub returns-then-d-lt1 : goal.returns-then-d-lt1
returns-then-d-lt1 c = is-1 _ _ _ _ c.if-d-lt1.true

pub returns-then-dimension-d : goal.returns-then-dimension-d
returns-then-dimension-d c = is-1-too _ _ _ _ c.if-d-lt1.false c.if-dimension-d.true

pub returns : goal.returns
returns c = is-rest _ _ _ _ c.if-d-lt1.false c.if-dimension-d.false _ c.shape.ensures
