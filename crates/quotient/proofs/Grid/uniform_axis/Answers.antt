-- `quotient::Grid::uniform_axis` meets its contract. Assumes nothing.
use borrow.Author.Tests.{lt-ltb, le-ltb}
use Rattle.quotient.proofs.Grid.uniform_axis.Goals as goal

pub returns-then-i-d : goal.returns-then-i-d
returns-then-i-d c = rw (lt-ltb _ _ c.if-i-d.true)

pub returns-else-i-d : goal.returns-else-i-d
returns-else-i-d c = rw (le-ltb _ _ c.if-i-d.false)
