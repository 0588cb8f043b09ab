-- `complex_boundary::faces_cleared` meets its contract: the work's end stands, and the lists keep their lengths until they are cleared. Assumes nothing.
use Rattle.lists.proofs.Laws.{zero_along}
use Rattle.complex_boundary.proofs.faces_cleared.Goals as goal

pub returns : goal.returns
returns c =
    let w = c.faces_work-said in
    let z = c.clear_four in record { work = c.faces_work-said.ensures; room = zero_along _ _ _ _ _ _ _ _ _ _ _ _ c.faces_work-said.auto.keys c.faces_work-said.auto.rows c.faces_work-said.auto.spare c.faces_work-said.auto.counts c.clear_four.ensures }
