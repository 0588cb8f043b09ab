-- `grid_lengths::settled_to` meets its contract. The invariant: now is what the first r visits come to. Assumes nothing.
use mathlib.Core.Path.{◌≡◌, ap, ◌∙◌}
use Prim.Native.Nat.{ℕ}
use native.Mathlib.Omega.{arith}
use Rattle.grid_lengths.specs.Settled.{settle, values_to}
use Rattle.grid_lengths.proofs.Values.{values-turn}
use Rattle.grid_lengths.proofs.settled_to.Goals as goal

pub loop-r-init : goal.loop-r-init
loop-r-init c = c.requires.so_far

pub visited-now-requires : goal.visited-now-requires
visited-now-requires c = (c.requires.taken, omega (arith, c.loop-r-test.true, c.requires.within))

pub loop-r-preserved : goal.loop-r-preserved
loop-r-preserved c = values-turn c.args.grid c.args.a c.args.b c.loop-r.r _ _ c.loop-r.invariant c.visited-now.ensures

pub returns : goal.returns
returns c = let e : c.loop-r.r ≡ c.args.end = omega arith in c.loop-r.invariant ∙ ap (λ (n : ℕ). settle (values_to c.args.grid c.args.a c.args.b n)) e
