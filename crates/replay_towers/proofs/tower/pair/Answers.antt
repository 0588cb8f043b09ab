-- `replay_towers::tower::pair` meets its contract: the middle complex has as many corners as its cells say. Assumes nothing.
use mathlib.Core.Path.{sym}
use Rattle.replay_towers.proofs.Naming.{part-long}
use Rattle.replay_towers.proofs.tower.pair.Goals as goal

pub slice_bounds-second-end : goal.slice_bounds-second-end
slice_bounds-second-end c = sym (part-long c.corners-len.result 16384 c.stage-made.new.cells c.stage-made.auto.cells c.corners-len.ensures.1)

pub slice_bounds-second-end-2 : goal.slice_bounds-second-end-2
slice_bounds-second-end-2 c = sym (part-long c.corners-len.result 16384 c.stage-made.new.words c.stage-made.auto.words c.corners-len.ensures.1)
