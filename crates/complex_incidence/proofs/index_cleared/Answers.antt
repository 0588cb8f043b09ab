-- `complex_incidence::index_cleared` meets its contract: the work's end stands, and the lists keep their lengths until they are cleared. Assumes nothing.
use Rattle.lists.proofs.Laws.{zero_along}
use Rattle.complex_incidence.proofs.index_cleared.Goals as goal

pub returns : goal.returns
returns c =
    let w = c.index_work-said in
    let z = c.clear_four in record { work = c.index_work-said.ensures; room = zero_along _ _ _ _ _ _ _ _ _ _ _ _ c.index_work-said.auto.keys c.index_work-said.auto.rows c.index_work-said.auto.spare c.index_work-said.auto.counts c.clear_four.ensures }
