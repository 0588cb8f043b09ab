-- `grid_chained::plain::level` meets its contract: one of the three ways of levelling. Assumes nothing.
use native.Mathlib.Omega.{arith}
use Rattle.grid_chained.specs.WorkLevel.{second, first, level}
use Rattle.grid_chained.proofs.plain.level.Goals as goal

pub returns-then-x-y : goal.returns-then-x-y
returns-then-x-y c = second c.if-x-y.true

pub returns-then-y-x : goal.returns-then-y-x
returns-then-y-x c = first c.if-y-x.true

pub returns : goal.returns
returns c = level (omega arith)
