-- `grid_lengths::same_ends` meets its contract. Assumes nothing.
use mathlib.Core.Path.{refl}
use Rattle.grid_lengths.proofs.Measuring.{same-yes, same-no}
use Rattle.grid_lengths.proofs.same_ends.Goals as goal

pub returns-then-smaller : goal.returns-then-smaller
returns-then-smaller c = same-yes c.args.a c.args.b c.args.p c.args.q _ _ _ _ _ c.smaller.ensures c.smaller-2.ensures c.if-smaller.true c.larger.ensures c.larger-then-smaller.ensures refl

pub returns-else-smaller : goal.returns-else-smaller
returns-else-smaller c = same-no c.args.a c.args.b c.args.p c.args.q _ _ c.smaller.ensures c.smaller-2.ensures c.if-smaller.false
