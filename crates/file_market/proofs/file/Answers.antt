-- `file_market::file` meets its contract: the first line, the sizes, and the lines of the entries. Assumes nothing.
use Rattle.file_market.proofs.Listing.{sizes-end}
use Rattle.file_writing.proofs.Laws.{wrote-more}
use Prim.Native.Nat.{◌+◌, ◌*◌}
use native.Mathlib.Omega.{arith}
use Rattle.file_market.proofs.file.Goals as goal

pub lines-requires : goal.lines-requires
lines-requires c = (c.requires, omega (arith, sizes-end c.args.g c.args.f (c.args.f * (c.args.k + 1)) c.sizes-third.ensures, c.word-second.ensures.next))

pub returns : goal.returns
returns c = wrote-more c.word-second.ensures (wrote-more c.sizes-third.ensures c.lines.ensures)
