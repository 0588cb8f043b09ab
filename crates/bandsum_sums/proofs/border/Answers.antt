-- `bandsum_sums::border` meets its contract: the lists are long enough for every grid. Assumes nothing.
use mathlib.Core.Path.{◌∙◌}
use Rattle.bandsum_sums.proofs.Ends.{zeros, border-counted}
use Rattle.bandsum_sums.specs.Work.{band_corners, band_listed}
use Rattle.bandsum_sums.proofs.border.Goals as goal

pub returns : goal.returns
returns c = c.number.ensures ∙ border-counted c.args.grid c.args.words.now c.requires c.border-said.result _ _ _ _ _ _ _ _ _ _ (zeros band_listed) (zeros band_listed) (zeros band_corners) (zeros band_corners) (zeros band_corners) c.border-said.ensures
