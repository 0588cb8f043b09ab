-- `grid_words::boxes` meets its contract. The invariant: p is the product of the counts below k. Assumes nothing.
use mathlib.Core.Path.{◌≡◌}
use Rattle.quotient.specs.Fold.{product}
use Rattle.quotient.specs.Shape.{cells_on}
use Rattle.grid_words.proofs.boxes.Given as goal

abbrev pub invariant-loop-k : goal.invariant-loop-k
invariant-loop-k l = l.p ≡ product (cells_on l.grid) l.k
