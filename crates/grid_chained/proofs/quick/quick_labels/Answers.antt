-- `grid_chained::quick::quick_labels` meets its contract. The invariant: the points passed have the least points of their classes. Assumes nothing.
use mathlib.Core.Path.{◌∙◌}
use native.Mathlib.Omega.{arith}
use Rattle.grid_chained.proofs.Searching.{labels-done}
use Rattle.grid_chained.proofs.Taken.{few-points}
use Rattle.grid_chained.proofs.quick.quick_labels.Goals as goal

pub overflow_cast-v : goal.overflow_cast-v
overflow_cast-v c = omega (arith, c.requires.1, few-points c.args.grid c.requires.0)

pub returns : goal.returns
returns c =
    labels-done c.args.grid _ (c.loop-v.auto.labels ∙ c.requires.1) (λ p h. c.loop-v.invariant p (omega (arith, c.requires.1)))
