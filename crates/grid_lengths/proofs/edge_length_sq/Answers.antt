-- `grid_lengths::edge_length_sq` meets its contract: a refusal of the grid, or what all visits of the edge come to. Assumes nothing.
use Rattle.refusal.proofs.Chain.{passed_on}
use mathlib.Core.Path.{sym, ◌∙◌}
use Rattle.quotient.proofs.Taken.{sides-taken}
use Rattle.grid_lengths.proofs.Values.{edge-refused, edge-settled}
use Rattle.grid_lengths.proofs.edge_length_sq.Goals as goal

pub returns-in_err-check_with_sides : goal.returns-in_err-check_with_sides
returns-in_err-check_with_sides c = rw (passed_on c.from_residual.ensures.1) (edge-refused c.args.grid c.args.from c.args.to _ (sym c.in_err-check_with_sides.was ∙ c.check_with_sides.ensures))

pub settled-requires : goal.settled-requires
settled-requires c = sides-taken c.args.grid (sym c.check_with_sides.ensures ∙ c.in_ok-check_with_sides.was)

pub returns : goal.returns
returns c = edge-settled c.args.grid c.args.from c.args.to _ (sym c.in_ok-check_with_sides.was ∙ c.check_with_sides.ensures) c.settled.ensures
