-- `grid_sides::nearest_whole` meets its contract.  Assumes nothing.
use Rattle.std.proofs.Common.{T, rules}
use lib.Ieee.{binary64, fits, of_bits}
use Rattle.grid_sides.proofs.Whole.{near-asks, near-is, near-large, near-small}
use Rattle.grid_sides.proofs.nearest_whole.Goals as goal

pub returns-then-x-2 : goal.returns-then-x-2
unfolding of_bits
returns-then-x-2 c = let f : T (fits binary64 c.args.x) = search rules in near-is _ f c.if-x.true c.if-x-2.true _ c.truncating_f64_to_u64-h.ensures

pub returns-else-x-2 : goal.returns-else-x-2
unfolding of_bits
returns-else-x-2 c = near-large _ c.if-x.true c.if-x-2.false

pub returns-else-x : goal.returns-else-x
unfolding of_bits
returns-else-x c = near-small _ c.if-x.false

pub truncating_f64_to_u64-h-requires : goal.truncating_f64_to_u64-h-requires
unfolding of_bits
truncating_f64_to_u64-h-requires c =
    let f : T (fits binary64 c.args.x) = search rules in
    let asks = near-asks _ f c.if-x.true c.if-x-2.true in
    record { lower_bound = asks.0; upper_bound = asks.1 }
