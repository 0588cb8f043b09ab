-- `file_market::number_then` meets its contract. Assumes nothing.
use Rattle.file_writing.proofs.Down.{number-long}
use Rattle.file_writing.proofs.Laws.{wrote-more}
use native.Mathlib.Omega.{arith}
use Rattle.file_market.proofs.number_then.Goals as goal

pub byte-requires : goal.byte-requires
byte-requires c = omega (arith, number-long c.args.n c.number-end.ensures, c.requires)

pub returns : goal.returns
returns c = wrote-more c.number-end.ensures c.byte.ensures
