-- `quotient::Axis::too_few` meets its contract. Assumes nothing.
use Rattle.quotient.proofs.Axis.too_few.Goals as goal

pub returns : goal.returns
returns c = rw (← c.floor.ensures)
