-- `text::top` meets its contract. The invariant: the digits from the one below 10 to the power k down, without a 0 before others, are all of them. Assumes nothing.
use native.Mathlib.Omega.{arith}
use Rattle.text.proofs.Decimals.{top-here, top-next, top-last}
use mathlib.Core.Path.{◌≡◌}
use Prim.Native.Nat.{◌-◌}
use Rattle.text.proofs.top.Goals as goal

pub returns-then-n-power : goal.returns-then-n-power
returns-then-n-power c = record { bound = omega arith; begins = top-here _ _ _ (omega arith) (omega (arith, c.power.ensures)) c.loop-k.invariant }

pub loop-k-preserved : goal.loop-k-preserved
loop-k-preserved c = top-next _ _ _ (omega arith) (omega (arith, c.power.ensures)) c.loop-k.invariant

pub returns : goal.returns
returns c =
    let z : c.loop-k.k - 1 ≡ 0 = omega arith in
    record { bound = omega arith; begins = top-last c.args.n _ 0 (omega arith) (rw z at c.loop-k.invariant) }
