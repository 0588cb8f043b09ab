-- `table::corners` meets its contract by the computed test of proofs/Entries. Assumes nothing.
use mathlib.Core.Path.{sym}
use Rattle.refine_pattern.proofs.Entries.{numbers, table_is}
use Rattle.refine_pattern.proofs.table.corners.Goals as goal

pub returns : goal.returns
unfolding numbers
returns c = sym table_is
