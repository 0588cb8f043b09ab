-- `replay_towers::tower::single` meets its contract: the words have as many corners as its cells say. Assumes nothing.
use mathlib.Core.Path.{sym}
use native.Mathlib.Omega.{arith}
use Rattle.replay_towers.proofs.Naming.{part-long}
use Rattle.replay_towers.proofs.tower.single.Goals as goal

pub slice_bounds-pairs-end : goal.slice_bounds-pairs-end
slice_bounds-pairs-end c = sym (part-long c.corners-len.result 16384 c.stage-made.new.words c.stage-made.auto.words c.corners-len.ensures.1)

pub pairs-requires : goal.pairs-requires
pairs-requires c = (omega arith, omega arith, omega arith, omega (arith, part-long c.corners-len.result 16384 c.stage-made.new.words c.stage-made.auto.words c.corners-len.ensures.1, c.corners-len.ensures.0))
