-- `grid_sides::Sides::refuses` meets its contract.  Assumes nothing.
use Rattle.std.proofs.Common.{sym, ◌∙◌}
use Rattle.grid_sides.proofs.Runs.{fits-not-bad, unfit-bad}
use Rattle.grid_sides.proofs.Sides.refuses.Goals as goal

pub returns-then-side_fits : goal.returns-then-side_fits
returns-then-side_fits c = fits-not-bad _ _ _ c.side.ensures (sym c.side_fits.ensures ∙ c.if-side_fits.true)

pub returns-else-side_fits : goal.returns-else-side_fits
returns-else-side_fits c = unfit-bad _ _ _ c.side.ensures (sym c.side_fits.ensures ∙ c.if-side_fits.false)
