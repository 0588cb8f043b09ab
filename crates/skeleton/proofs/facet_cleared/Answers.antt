-- `skeleton::facet_cleared` meets its contract: the work's end stands, and the lists keep their lengths until they are cleared. Assumes nothing.
use Rattle.lists.proofs.Laws.{zero_along}
use Rattle.skeleton.proofs.facet_cleared.Goals as goal

pub returns : goal.returns
returns c =
    let w = c.list_facets-said in
    let z = c.clear_four in record { work = c.list_facets-said.ensures; room = zero_along _ _ _ _ _ _ _ _ _ _ _ _ c.list_facets-said.auto.keys c.list_facets-said.auto.rows c.list_facets-said.auto.spare c.list_facets-said.auto.counts c.clear_four.ensures }
