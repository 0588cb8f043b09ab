-- `lists::copy` meets its contract. The invariant: the first i numbers are copied. Assumes nothing.
use Rattle.lists.proofs.Laws.{store, copied}
use mathlib.Core.Path.{refl, ◌∙◌}
use Prim.Native.Nat.{◌<◌}
use native.Mathlib.Omega.{arith}
use lib.ListN.{length, length-set}
use Rattle.lists.proofs.copy.Goals as goal

pub loop-i-init : goal.loop-i-init
loop-i-init c = (refl, refl)

pub loop-i-preserved : goal.loop-i-preserved
loop-i-preserved c =
    let h = c.loop-i-test.true in
    let k : c.loop-i.i < length c.args.dst.now = omega arith in
    (rw c.loop-i.invariant.0 (store _ _ _ h k), simp length-set c.loop-i.invariant.1)

pub returns : goal.returns
returns c = c.loop-i.invariant.0 ∙ copied _ _ _ c.loop-i-test.false (omega arith)
