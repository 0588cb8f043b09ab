-- `grid_lengths::to_at` meets its contract. Assumes nothing.
use native.Mathlib.Omega.{arith}
use Rattle.grid_lengths.proofs.Measuring.{dims, place-few, each-pos, second-low, corner-few, to_is}
use Rattle.grid_lengths.proofs.to_at.Goals as goal

pub edges_each-k-requires : goal.edges_each-k-requires
edges_each-k-requires c = dims c.args.grid c.requires.0

pub nonzero_div-r : goal.nonzero_div-r
nonzero_div-r c = omega (arith, each-pos c.args.grid c.requires.0 c.args.r _ c.edges_each-k.ensures)

pub nonzero_rem-r : goal.nonzero_rem-r
nonzero_rem-r c = omega (arith, each-pos c.args.grid c.requires.0 c.args.r _ c.edges_each-k.ensures)

pub second_end-requires : goal.second_end-requires
second_end-requires c = place-few c.args.grid c.requires.0 c.args.r _ c.edges_each-k.ensures

pub corner-requires : goal.corner-requires
corner-requires c = (c.requires.0, second-low c.args.grid c.requires.0 c.args.r _ c.edges_each-k.ensures _ c.second_end.ensures)

pub overflow_cast-result : goal.overflow_cast-result
overflow_cast-result c = omega (arith, corner-few c.args.grid c.requires.0 c.args.r _ c.edges_each-k.ensures _ _ _ (second-low c.args.grid c.requires.0 c.args.r _ c.edges_each-k.ensures _ c.second_end.ensures) c.corner.ensures)

pub returns : goal.returns
returns c = to_is c.args.grid c.requires.0 c.args.r _ c.edges_each-k.ensures c.requires.1 _ _ c.second_end.ensures c.corner.ensures
