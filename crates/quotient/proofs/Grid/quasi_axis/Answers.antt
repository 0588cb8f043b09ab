-- `quotient::Grid::quasi_axis` meets its contract.  Assumes nothing.
use borrow.Author.Tests.{le-ltb}
use Rattle.quotient.proofs.Quasi.{count_small, axis-made}
use Rattle.quotient.proofs.Grid.quasi_axis.Goals as goal

pub overflow_cast-result : goal.overflow_cast-result
overflow_cast-result c = record { fits = count_small _ _ _ _ _ _ _ _ c.args.g c.if-i-d.true c.side.ensures c.longest.ensures c.floor.ensures c.count-w.ensures c.requires.0 c.requires.1 }

pub returns-then-i-d : goal.returns-then-i-d
returns-then-i-d c = axis-made _ _ _ _ _ _ _ _ _ c.if-i-d.true c.side.ensures c.longest.ensures c.floor.ensures c.count-w.ensures

pub returns-else-i-d : goal.returns-else-i-d
returns-else-i-d c = rw (le-ltb _ _ c.if-i-d.false)
