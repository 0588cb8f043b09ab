-- `replay_towers::tower::stage` meets its contract: the births have at most 4 numbers each. Assumes nothing.
use mathlib.Core.Path.{sym, ◌∙◌}
use native.Mathlib.Omega.{arith}
use Rattle.replay_towers.proofs.Naming.{part-long}
use Rattle.replay_towers.proofs.tower.stage.Goals as goal

pub slice_bounds-through-end : goal.slice_bounds-through-end
slice_bounds-through-end c = sym (part-long c.corners-len.result 16384 c.refined-made.new.vertices c.refined-made.auto.vertices c.corners-len.ensures.1)

pub slice_bounds-through-end-2 : goal.slice_bounds-through-end-2
slice_bounds-through-end-2 c = sym (part-long c.corners-len.result 16384 c.refined-made.new.weights c.refined-made.auto.weights c.corners-len.ensures.1)

pub through-requires : goal.through-requires
through-requires c = (omega arith, omega arith, omega arith, part-long c.corners-len.result 16384 c.refined-made.new.weights c.refined-made.auto.weights c.corners-len.ensures.1 ∙ sym (part-long c.corners-len.result 16384 c.refined-made.new.vertices c.refined-made.auto.vertices c.corners-len.ensures.1), omega (arith, part-long c.corners-len.result 16384 c.refined-made.new.vertices c.refined-made.auto.vertices c.corners-len.ensures.1, c.corners-len.ensures.1))
