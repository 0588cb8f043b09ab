-- `grid_chained::plain::round` meets its contract. The invariant: the steps at the points below v are levelled. Assumes nothing.
use native.Mathlib.Omega.{arith}
use Rattle.grid_chained.proofs.Taken.{few-points}
use Rattle.grid_chained.proofs.plain.round.Goals as goal

pub overflow_cast-v : goal.overflow_cast-v
overflow_cast-v c = omega (arith, c.loop-v.invariant.marked.long, few-points c.args.grid c.requires.0)
