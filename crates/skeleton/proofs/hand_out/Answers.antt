-- `skeleton::hand_out` meets its contract: the copy is the front of the result list. Assumes nothing.
use lib.Seq.{length-take-le}
use lib.ListN.{length}
use native.Mathlib.Omega.{arith}
use mathlib.Core.Path.{sym, ap}
use Rattle.skeleton.proofs.Steps.{handed-short, handed-copy}
use Rattle.skeleton.proofs.hand_out.Goals as goal

pub returns-then-out-long : goal.returns-then-out-long
returns-then-out-long c =
    λ ws f e. handed-short ws _ (omega (arith, ap length f, c.if-out-long.true))

pub slice_bounds-copy-end-2 : goal.slice_bounds-copy-end-2
slice_bounds-copy-end-2 c =
    sym (length-take-le _ _ c.if-out-long.false)

pub copy-requires : goal.copy-requires
copy-requires c =
    length-take-le _ _ c.if-out-long.false

pub returns : goal.returns
returns c =
    λ ws f e. handed-copy ws c.args.m c.args.from.now c.args.out.now _ f e c.if-out-long.false c.copy.ensures
