-- `bandsum_sums::edges` meets its contract: the lists are long enough for every grid. Assumes nothing.
use mathlib.Core.Path.{◌∙◌}
use Rattle.bandsum_sums.proofs.Ends.{zeros, edges-counted}
use Rattle.bandsum_sums.specs.Work.{band_listed}
use Rattle.bandsum_sums.proofs.edges.Goals as goal

pub returns : goal.returns
returns c = c.number.ensures ∙ edges-counted c.args.grid c.args.words.now c.requires c.edges-said.result _ _ _ _ _ _ _ _ _ _ (zeros band_listed) (zeros 98304) (zeros band_listed) (zeros band_listed) (zeros band_listed) c.edges-said.ensures
