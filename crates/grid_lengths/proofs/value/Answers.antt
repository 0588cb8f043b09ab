-- `grid_lengths::value` meets its contract. Assumes nothing.
use Prim.Native.Nat.{◌%◌, ◌<◌}
use native.Mathlib.Omega.{arith}
use borrow.Author.Rules.{rules}
use lib.ListN.{length}
use native.Mathlib.Nat.{mod-lt}
use Rattle.grid_lengths.proofs.value.Goals as goal

pub nonzero_rem-result : goal.nonzero_rem-result
nonzero_rem-result c = omega (arith, c.requires.0.some)

pub offset_bounds-values-r : goal.offset_bounds-values-r
offset_bounds-values-r c = let h : c.args.r % length c.args.values.now < length c.args.values.now = mod-lt c.args.r c.requires.0.some in search (rules, h)

pub bounds-values-r : goal.bounds-values-r
bounds-values-r c = mod-lt c.args.r c.requires.0.some

pub returns : goal.returns
returns c = c.requires.0.tells c.args.r _ c.requires.1
