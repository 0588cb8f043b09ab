-- `ordering::wound_cleared` meets its contract: the work's end stands, and the lists keep their lengths until they are cleared. Assumes nothing.
use Rattle.lists.proofs.Laws.{zero_along}
use Rattle.ordering.proofs.wound_cleared.Goals as goal

pub wound_work-said-requires : goal.wound_work-said-requires
wound_work-said-requires c = c.requires

pub returns : goal.returns
returns c = record { work = c.wound_work-said.ensures; room = zero_along _ _ _ _ _ _ _ _ _ _ _ _ c.wound_work-said.auto.keys c.wound_work-said.auto.rows c.wound_work-said.auto.spare c.wound_work-said.auto.counts c.clear_four.ensures }
