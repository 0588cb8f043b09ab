-- `refine_jacobian::place` meets its contract. The loop's invariant: v does not stand among the first i.
use Prim.Native.Nat.{◌-◌}
use native.Mathlib.Omega.{arith}
use borrow.Author.Rules.{rules}
use Rattle.refine_jacobian.proofs.Laws.{place-hit, place-miss, place_end}
use Rattle.refine_jacobian.proofs.place.Goals as goal

pub returns-then-x-v : goal.returns-then-x-v
returns-then-x-v c =
    omega (arith, c.loop-i.invariant, place-hit c.args.word.now c.args.v c.loop-i.i c.loop-i-test.true c.if-x-v.true)

pub loop-i-preserved : goal.loop-i-preserved
loop-i-preserved c =
    let e = place-miss c.args.word.now c.args.v c.loop-i.i c.loop-i-test.true c.if-x-v.false in
    omega (arith, c.loop-i.invariant, e)

pub returns : goal.returns
returns c =
    omega (arith, c.loop-i.invariant, place_end c.args.word.now c.args.v c.loop-i.i c.loop-i-test.false)
