-- `grid_sides::Sides::longest` meets its contract. The invariant: x is the longest of the sides below i. Assumes nothing.
use Rattle.std.proofs.Common.{◌≡◌, ◌-◌, arith}
use Rattle.grid_sides.specs.Counts.{longest_to}
use Rattle.grid_sides.proofs.Runs.{longest-more}
use Rattle.grid_sides.proofs.Sides.longest.Goals as goal

pub loop-i-init : goal.loop-i-init
unfolding longest_to
loop-i-init c = (c.side-x.ensures, omega arith)

pub loop-i-preserved : goal.loop-i-preserved
loop-i-preserved c = (longest-more _ _ _ _ _ c.loop-i.auto.i c.loop-i.invariant.0 c.side.ensures c.larger-x.ensures, omega arith)

pub returns : goal.returns
returns c = let e : c.loop-i.i - 1 ≡ c.args.d - 1 = omega arith in rw e at c.loop-i.invariant.0
