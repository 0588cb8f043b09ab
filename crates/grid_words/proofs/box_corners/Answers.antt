-- `grid_words::box_corners` meets its contract. The invariant: n is doubled once for each axis passed. Assumes nothing.
use mathlib.Core.Path.{◌≡◌, refl}
use native.Mathlib.Omega.{arith}
use Rattle.quotient.specs.Fold.{product}
use Rattle.grid_words.proofs.Touched.{two-more, two-few}
use Rattle.grid_words.proofs.box_corners.Goals as goal

pub loop-k-init : goal.loop-k-init
unfolding product
loop-k-init c = refl

pub overflow_add-n : goal.overflow_add-n
overflow_add-n c = omega (arith, c.loop-k.invariant, two-few c.args.grid c.requires c.loop-k._k (omega arith))

pub loop-k-preserved : goal.loop-k-preserved
loop-k-preserved c = two-more c.loop-k._k _ c.loop-k.invariant

pub returns : goal.returns
returns c = let e : c.loop-k._k ≡ c.args.grid.d = omega arith in rw e at c.loop-k.invariant
