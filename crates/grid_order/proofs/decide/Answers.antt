-- `grid_order::decide` meets its contract: the numbers differ, or the test of the table of mates stands. Assumes nothing.
use Rattle.grid_order.proofs.Steps.{decided-other, decided-tested}
use Rattle.grid_order.proofs.decide.Goals as goal

pub returns-then-m-count : goal.returns-then-m-count
returns-then-m-count c = decided-other c.args.d c.args.m c.args.count c.args.mates.now c.args.list.now c.if-m-count.true

pub returns : goal.returns
returns c = decided-tested c.args.d c.args.m c.args.count c.args.mates.now c.args.list.now c.agree.result c.if-m-count.false c.agree.ensures.all c.agree.ensures.clash
