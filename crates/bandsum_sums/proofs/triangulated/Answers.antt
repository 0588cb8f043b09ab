-- `bandsum_sums::triangulated` meets its contract: the lists are long enough for every grid. Assumes nothing.
use Rattle.bandsum_sums.proofs.Ends.{zeros, triangulates}
use Rattle.bandsum_sums.specs.Work.{band_corners}
use Rattle.bandsum_sums.proofs.triangulated.Goals as goal

pub returns : goal.returns
returns c = triangulates c.args.grid _ _ _ _ _ _ (zeros band_corners) (zeros band_corners) (zeros 81920) (zeros band_corners) (zeros band_corners) (zeros band_corners) c.triangulate_ordered.result _ _ _ _ _ _ c.triangulate_ordered.ensures
