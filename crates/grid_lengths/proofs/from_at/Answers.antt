-- `grid_lengths::from_at` meets its contract. Assumes nothing.
use native.Mathlib.Omega.{arith}
use Rattle.grid_lengths.proofs.Measuring.{dims, place-few, each-pos, first-low, corner-few, from_is}
use Rattle.grid_lengths.proofs.from_at.Goals as goal

pub edges_each-k-requires : goal.edges_each-k-requires
edges_each-k-requires c = dims c.args.grid c.requires.0

pub nonzero_div-r : goal.nonzero_div-r
nonzero_div-r c = omega (arith, each-pos c.args.grid c.requires.0 c.args.r _ c.edges_each-k.ensures)

pub nonzero_rem-r : goal.nonzero_rem-r
nonzero_rem-r c = omega (arith, each-pos c.args.grid c.requires.0 c.args.r _ c.edges_each-k.ensures)

pub first_end-requires : goal.first_end-requires
first_end-requires c = place-few c.args.grid c.requires.0 c.args.r _ c.edges_each-k.ensures

pub corner-requires : goal.corner-requires
corner-requires c = (c.requires.0, first-low c.args.grid c.requires.0 c.args.r _ c.edges_each-k.ensures _ c.first_end.ensures)

pub overflow_cast-result : goal.overflow_cast-result
overflow_cast-result c = omega (arith, corner-few c.args.grid c.requires.0 c.args.r _ c.edges_each-k.ensures _ _ _ (first-low c.args.grid c.requires.0 c.args.r _ c.edges_each-k.ensures _ c.first_end.ensures) c.corner.ensures)

pub returns : goal.returns
returns c = from_is c.args.grid c.requires.0 c.args.r _ c.edges_each-k.ensures c.requires.1 _ _ c.first_end.ensures c.corner.ensures
