-- `bandsum_sums::sums` meets its contract, by what the triangulation says. Assumes nothing.
use mathlib.Core.Path.{ap, ◌∙◌}
use Rattle.std.specs.Prelude.{Ok}
use Rattle.refusal.proofs.Chain.{passed_on}
use Rattle.bandsum_sums.proofs.Ends.{ordered-cells, unordered-cells, sums-refused, sums-ordered, sums-unordered}
use Rattle.bandsum_sums.proofs.sums.Goals as goal

pub told-requires : goal.told-requires
told-requires c = ordered-cells c.args.grid _ _ c.triangulated.ensures (c.in_ok-cells.was ∙ ap Ok c.in-Ordered.is)

pub told-requires-in-Unordered : goal.told-requires-in-Unordered
told-requires-in-Unordered c = unordered-cells c.args.grid _ _ c.triangulated.ensures (c.in_ok-cells.was ∙ ap Ok c.in-Unordered.is)

pub returns-in_err-cells : goal.returns-in_err-cells
returns-in_err-cells c = rw (passed_on c.from_residual.ensures.1) (sums-refused c.args.grid _ _ c.triangulated.ensures c.in_err-cells.was)

pub returns-in-Ordered : goal.returns-in-Ordered
returns-in-Ordered c = sums-ordered c.args.grid _ _ _ c.triangulated.ensures (c.in_ok-cells.was ∙ ap Ok c.in-Ordered.is) c.told.ensures

pub returns-in-Unordered : goal.returns-in-Unordered
returns-in-Unordered c = sums-unordered c.args.grid _ _ _ c.triangulated.ensures (c.in_ok-cells.was ∙ ap Ok c.in-Unordered.is) c.told-in-Unordered.ensures
