-- `grid_words::box_corners` meets its contract. The invariant: n is doubled once for each axis passed. Assumes nothing.
use mathlib.Core.Path.{◌≡◌}
use Rattle.quotient.specs.Fold.{product}
use Rattle.grid_words.specs.Work.{two}
use Rattle.grid_words.proofs.box_corners.Given as goal

abbrev pub invariant-loop-k : goal.invariant-loop-k
invariant-loop-k l = l.n ≡ product two l._k
