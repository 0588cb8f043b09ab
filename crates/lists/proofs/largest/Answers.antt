-- The largest number as a fold of `max`. Assumes nothing.
use borrow.Author.Rules.{rules}
use Rattle.lists.proofs.Words.{largest_folded}
use Rattle.lists.proofs.largest.Goals as goal

pub returns : goal.returns
returns c = rw (← largest_folded c.args.ws.now) (search rules)
