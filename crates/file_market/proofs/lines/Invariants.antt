-- `file_market::lines` meets its contract. The invariant: the lines below x are written (`Listing`). Assumes nothing.
use Rattle.file_market.proofs.Listing.{Listing}
use Rattle.file_market.proofs.lines.Given as goal

abbrev pub invariant-loop-x : goal.invariant-loop-x
invariant-loop-x l = Listing l.k l.ids l.x l.start l.initial.to l.at l.to
