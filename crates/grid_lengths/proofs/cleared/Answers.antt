-- `grid_lengths::cleared` meets its contract: the work's end stands, and the lists keep their lengths until they are cleared. Assumes nothing.
use Rattle.lists.proofs.Laws.{zero_along}
use Rattle.grid_lengths.proofs.cleared.Goals as goal

pub returns : goal.returns
returns c =
    let w = c.work-said in
    let z = c.clear_four in record { work = c.work-said.ensures; room = zero_along _ _ _ _ _ _ _ _ _ _ _ _ c.work-said.auto.keys c.work-said.auto.rows c.work-said.auto.spare c.work-said.auto.counts c.clear_four.ensures }
