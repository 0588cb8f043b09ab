-- After j turns the first j weights are written, and `rest` holds the others. Assumes nothing.
use mathlib.Core.Path.{◌≡◌}
use Prim.Native.Nat.{◌<◌}
use native.Mathlib.Omega.{arith}
use lib.ListN.{length}
use Rattle.refine_pattern.proofs.Unpacked.{unpacked-long, unpacked-next}
use Rattle.refine_pattern.proofs.table.unpack.Goals as goal

pub loop-weight-preserved : goal.loop-weight-preserved
loop-weight-preserved c =
    let long : length c.loop-weight.to ≡ length c.args.to.now = unpacked-long _ _ _ _ _ c.loop-weight.invariant in
    let inside : c.loop-weight.weight-index < length c.args.to.now = omega (arith, long, c.loop-weight-test.true) in
    unpacked-next _ _ _ _ _ c.loop-weight.invariant (inside)
