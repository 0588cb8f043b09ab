-- `table::start` meets its contract: proofs/Entries tells where each pattern starts. Assumes nothing.
use native.Mathlib.Omega.{arith}
use Rattle.refine_pattern.proofs.Entries.{table-length, begins}
use Rattle.refine_pattern.proofs.table.start.Goals as goal

pub overflow_cast-result : goal.overflow_cast-result
overflow_cast-result c = omega (arith, (begins c.args.d c.args.r c.requires).within, table-length)

pub returns : goal.returns
returns c = begins c.args.d c.args.r c.requires
