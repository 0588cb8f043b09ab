-- `grid_lengths::visited` meets its contract. Assumes nothing.
use Rattle.grid_lengths.proofs.Values.{visited-yes, visited-no}
use Rattle.grid_lengths.proofs.visited.Goals as goal

pub returns-then-visits_edge : goal.returns-then-visits_edge
returns-then-visits_edge c = visited-yes c.args.grid c.args.a c.args.b c.args.r c.args.known _ _ _ c.visits_edge.ensures c.if-visits_edge.true c.measured.ensures c.meet.ensures

pub returns-else-visits_edge : goal.returns-else-visits_edge
returns-else-visits_edge c = visited-no c.args.grid c.args.a c.args.b c.args.r c.args.known _ c.visits_edge.ensures c.if-visits_edge.false
