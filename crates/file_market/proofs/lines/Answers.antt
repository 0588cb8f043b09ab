-- `file_market::lines` meets its contract. The invariant: the lines below x are written (`Listing`). Assumes nothing.
use Rattle.file_market.proofs.Listing.{listing-more}
use Rattle.file_market.proofs.lines.Goals as goal

pub loop-x-preserved : goal.loop-x-preserved
loop-x-preserved c = listing-more c.args.k c.args.ids.now c.loop-x.x c.args.start c.args.to.now c.loop-x.invariant c.line-at.ensures
