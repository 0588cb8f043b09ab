-- `grid_lengths::end_point` meets its contract. Assumes nothing.
use borrow.Author.Tests.{eq-eqb, ne_eqb}
use Rattle.grid_lengths.proofs.Boxed.{point-even, point-odd}
use Rattle.grid_lengths.proofs.end_point.Goals as goal

pub returns-then-i-eq0 : goal.returns-then-i-eq0
returns-then-i-eq0 c = point-even c.args.grid c.args.i _ (eq-eqb _ _ c.if-i-eq0.true) c.from_at.ensures

pub returns-else-i-eq0 : goal.returns-else-i-eq0
returns-else-i-eq0 c = point-odd c.args.grid c.args.i _ (ne_eqb _ _ c.if-i-eq0.false) c.to_at.ensures
