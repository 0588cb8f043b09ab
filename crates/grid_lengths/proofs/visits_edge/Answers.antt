-- `grid_lengths::visits_edge` meets its contract. Assumes nothing.
use Rattle.grid_lengths.proofs.Measuring.{visits-is}
use Rattle.quotient.proofs.Crossings.{crossing-vertex}
use Rattle.grid_lengths.proofs.visits_edge.Goals as goal

pub returns : goal.returns
returns c = visits-is c.args.grid c.args.a c.args.b c.args.r _ _ _ _ _ c.from_at.ensures c.to_at.ensures (crossing-vertex _ _ _ c.crossed-begins.ensures) (crossing-vertex _ _ _ c.crossed-ends.ensures) c.same_ends.ensures
