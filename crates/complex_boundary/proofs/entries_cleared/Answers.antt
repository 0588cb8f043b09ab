-- `complex_boundary::entries_cleared` meets its contract: the work's end stands, and the lists keep their lengths until they are cleared. Assumes nothing.
use Rattle.lists.proofs.Laws.{zero_along}
use Rattle.complex_boundary.proofs.entries_cleared.Goals as goal

pub returns : goal.returns
returns c =
    let w = c.entries_work-said in
    let z = c.clear_four in record { work = c.entries_work-said.ensures; room = zero_along _ _ _ _ _ _ _ _ _ _ _ _ c.entries_work-said.auto.keys c.entries_work-said.auto.rows c.entries_work-said.auto.spare c.entries_work-said.auto.counts c.clear_four.ensures }
