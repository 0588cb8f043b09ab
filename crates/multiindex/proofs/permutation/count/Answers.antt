-- The table has the length of the list of orders at each dimension. Assumes nothing.
use native.Mathlib.Omega.{arith}
use Rattle.multiindex.proofs.Tables.{count_at, count_most}
use Rattle.multiindex.proofs.permutation.count.Goals as goal

pub overflow_cast-result : goal.overflow_cast-result
overflow_cast-result c = omega (arith, count_at c.args.d c.requires, count_most c.args.d c.requires)

pub returns : goal.returns
returns c = count_at c.args.d c.requires
