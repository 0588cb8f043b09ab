-- `count` meets its contract: R^d children have d + 1 corners each. Assumes nothing.
use native.Mathlib.Omega.{arith}
use Rattle.refine_pattern.proofs.Checks.{corners-few, corners-count}
use Rattle.refine_pattern.proofs.count.Goals as goal

pub overflow_mul-result : goal.overflow_mul-result
overflow_mul-result c = omega (arith, corners-few c.args.d c.args.r c.count.result c.requires c.count.ensures)

pub overflow_cast-result : goal.overflow_cast-result
overflow_cast-result c = omega (arith, corners-few c.args.d c.args.r c.count.result c.requires c.count.ensures)

pub returns : goal.returns
returns c = corners-count c.args.d c.args.r c.count.result c.count.ensures
