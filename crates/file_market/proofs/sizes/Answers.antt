-- `file_market::sizes` meets its contract, number by number. Assumes nothing.
use Rattle.file_market.proofs.Listing.{field-long}
use Rattle.file_writing.proofs.Laws.{wrote-more}
use native.Mathlib.Omega.{arith}
use Rattle.file_market.proofs.sizes.Goals as goal

pub number_then-third-requires : goal.number_then-third-requires
number_then-third-requires c = omega (arith, field-long c.args.rows 32 c.number_then-second.ensures, c.requires)

pub number_then-requires : goal.number_then-requires
number_then-requires c = omega (arith, field-long c.args.rows 32 c.number_then-second.ensures, field-long c.args.columns 32 c.number_then-third.ensures, c.requires)

pub returns : goal.returns
returns c = wrote-more c.number_then-second.ensures (wrote-more c.number_then-third.ensures c.number_then.ensures)
