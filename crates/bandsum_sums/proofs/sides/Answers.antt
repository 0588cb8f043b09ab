-- `bandsum_sums::sides` meets its contract: the lists are long enough for every grid, so that `orientation` is not refused for another reason than 13. Assumes nothing.
use mathlib.Core.Path.{sym, subst}
use Rattle.bandsum_sums.proofs.Ends.{zeros, no-signs, sides-are}
use Rattle.bandsum_sums.specs.Promise.{SidesOf}
use Rattle.bandsum_sums.specs.Work.{band_corners, band_recorded}
use Rattle.bandsum_sums.proofs.sides.Goals as goal

pub returns : goal.returns
returns c =
    subst (SidesOf c.args.grid) (sym c.by_signs.ensures)
    (sides-are c.args.grid c.args.words.now c.requires _ _ _ _ _ (no-signs band_corners) (zeros band_recorded) (zeros band_corners) (zeros band_corners) (zeros band_corners) c.orientation-said.result _ _ _ _ _ c.orientation-said.ensures)
