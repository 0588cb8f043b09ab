-- `ordering::order_cleared` meets its contract: the work's end stands, and the lists keep their lengths until they are cleared. Assumes nothing.
use Rattle.lists.proofs.Laws.{zero_along}
use Rattle.ordering.proofs.order_cleared.Goals as goal

pub order_work-said-requires : goal.order_work-said-requires
order_work-said-requires c = c.requires

pub returns : goal.returns
returns c = record { work = c.order_work-said.ensures; room = zero_along _ _ _ _ _ _ _ _ _ _ _ _ c.order_work-said.auto.keys c.order_work-said.auto.rows c.order_work-said.auto.spare c.order_work-said.auto.counts c.clear_four.ensures }
