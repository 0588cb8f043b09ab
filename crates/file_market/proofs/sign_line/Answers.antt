-- `file_market::sign_line` meets its contract: even positions have the sign 1. Assumes nothing.
use Rattle.file_market.proofs.Listing.{sign-plus, sign-minus}
use Rattle.file_writing.proofs.Laws.{wrote-same}
use Rattle.file_market.proofs.sign_line.Goals as goal

pub returns-then-i-eq0 : goal.returns-then-i-eq0
returns-then-i-eq0 c = wrote-same (sign-plus c.args.i c.if-i-eq0.true) c.word.ensures

pub returns : goal.returns
returns c = wrote-same (sign-minus c.args.i c.if-i-eq0.false) c.word-2.ensures
