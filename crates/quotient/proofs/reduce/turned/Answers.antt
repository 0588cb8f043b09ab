-- `quotient::reduce::turned` meets its contract. Assumes nothing.
use Rattle.quotient.proofs.reduce.turned.Goals as goal

pub returns-then-reversed : goal.returns-then-reversed
returns-then-reversed c = rw c.if-reversed.true
