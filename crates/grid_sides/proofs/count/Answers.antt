-- `grid_sides::count` meets its contract.  Assumes nothing.
use Rattle.grid_sides.proofs.Runs.{count_of}
use Rattle.grid_sides.proofs.count.Goals as goal

pub returns : goal.returns
returns c = count_of _ _ _ _ _ _ _ _ c.shared.ensures c.nearest_whole-w.ensures c.at_least.ensures c.at_least-2.ensures
