-- `file_market::hand_file` meets its contract: the file is measured in no bytes, and then written where it fits. Assumes nothing.
use Rattle.file_market.proofs.Steps.{raw-fits, hand-short, hand-written}
use native.Mathlib.Omega.{arith}
use Rattle.file_market.proofs.hand_file.Goals as goal

pub returns-then-bytes-long : goal.returns-then-bytes-long
returns-then-bytes-long c = λ es a. hand-short c.args.k c.args.f c.args.g c.args.ids.now c.args.bytes.now _ _ c.file-long.ensures es a c.if-bytes-long.true

pub overflow_cast-result : goal.overflow_cast-result
overflow_cast-result c = omega (arith, raw-fits c.args.k c.args.f c.args.g c.args.ids.now c.requires _ _ _ c.file-long.ensures)

pub returns : goal.returns
returns c = λ es a. hand-written c.args.k c.args.f c.args.g c.args.ids.now c.args.bytes.now _ _ c.file-long.ensures es a _ _ c.if-bytes-long.false c.file.ensures
