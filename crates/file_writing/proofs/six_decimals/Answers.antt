-- `file_writing::six_decimals` meets its contract: a whole number, a point, six digits. Assumes nothing.
use Prim.Native.Nat.{◌/◌}
use Rattle.file_writing.proofs.Down.{number-long}
use Rattle.file_writing.proofs.Laws.{wrote-more}
use native.Mathlib.Omega.{arith}
use Rattle.file_writing.proofs.six_decimals.Goals as goal

pub byte-decimals-requires : goal.byte-decimals-requires
byte-decimals-requires c = omega (arith, number-long (c.args.millionths / 1000000) c.number-point.ensures)

pub digits-requires : goal.digits-requires
digits-requires c = (omega (arith, number-long (c.args.millionths / 1000000) c.number-point.ensures, c.byte-decimals.ensures.next), omega arith)

pub returns : goal.returns
returns c = wrote-more c.number-point.ensures (wrote-more c.byte-decimals.ensures c.digits.ensures)
