-- `grid_words::stride` meets its contract. The invariant: s is the product of the points below k. Assumes nothing.
use mathlib.Core.Path.{◌≡◌}
use Rattle.quotient.specs.Fold.{product}
use Rattle.quotient.specs.Shape.{points_on}
use Rattle.grid_words.proofs.stride.Given as goal

abbrev pub invariant-loop-k : goal.invariant-loop-k
invariant-loop-k l = l.s ≡ product (points_on l.grid) l.k
