-- `needs::corners` meets its contract: each exit is a case of the definition. Assumes nothing.
use Rattle.needs.proofs.Laws.{high, many, taken}
use Rattle.needs.proofs.corners.Goals as goal

pub returns-then-d-gt-MOST_DIMENSION : goal.returns-then-d-gt-MOST_DIMENSION
returns-then-d-gt-MOST_DIMENSION c = high _ _ c.if-d-gt-MOST_DIMENSION.true

pub returns-then-most-n : goal.returns-then-most-n
returns-then-most-n c = many _ _ c.if-d-gt-MOST_DIMENSION.false c.if-most-n.true

pub returns : goal.returns
returns c = taken _ _ c.if-d-gt-MOST_DIMENSION.false c.if-most-n.false
