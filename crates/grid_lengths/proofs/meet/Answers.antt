-- `grid_lengths::meet` meets its contract, case by case. Assumes nothing.
use Rattle.grid_lengths.proofs.Values.{met-agree, met-clash, met-clashed, met-first}
use Rattle.grid_lengths.proofs.meet.Goals as goal

pub returns-then-agree : goal.returns-then-agree
returns-then-agree c = met-agree c.args.known c.args.later _ _ c.in-Length.is c.agree.ensures c.if-agree.true

pub returns-else-agree : goal.returns-else-agree
returns-else-agree c = met-clash c.args.known c.args.later _ _ c.in-Length.is c.agree.ensures c.if-agree.false

pub returns-in-Clash : goal.returns-in-Clash
returns-in-Clash c = met-clashed c.args.known c.args.later _ _ c.in-Clash.is

pub returns-in-NoEdge : goal.returns-in-NoEdge
returns-in-NoEdge c = met-first c.args.known c.args.later c.in-NoEdge.is
