-- `quotient::Grid::crossed` meets its contract: what is left of the number once every coordinate is taken off is 0 exactly up to the last point. Assumes nothing.
use Rattle.quotient.proofs.Seam.{parts_within, crossing-inside, crossing-outside}
use Rattle.quotient.proofs.Grid.crossed.Goals as goal

pub number-requires : goal.number-requires
number-requires c = (c.requires, parts_within _ _ _ c.spread-s.ensures)

pub returns-then-s-eq0 : goal.returns-then-s-eq0
returns-then-s-eq0 c = crossing-inside _ _ _ c.spread-s.ensures _ c.if-s-eq0.true c.number.ensures.0

pub returns-else-s-eq0 : goal.returns-else-s-eq0
returns-else-s-eq0 c = crossing-outside _ _ _ c.spread-s.ensures c.if-s-eq0.false
