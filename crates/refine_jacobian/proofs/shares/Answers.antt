-- `refine_jacobian::shares` meets its contract. The loop's invariant: the first i shares are written.
use mathlib.Core.Path.{refl, ap, ◌∙◌}
use mathlib.Core.List.{List}
use Prim.Native.Nat.{ℕ, ◌-◌}
use native.Mathlib.Omega.{arith}
use lib.ListN.{length, get_or, set, length-set}
use borrow.Author.Rules.{rules}
use lib.Ieee.{Float}
use Rattle.refine_jacobian.specs.Entries.{share_of}
use Rattle.refine_jacobian.proofs.Laws.{tab-store, tab-full, tab-map}
use Rattle.refine_jacobian.proofs.shares.Goals as goal

pub loop-i-init : goal.loop-i-init
loop-i-init c = refl

pub loop-i-preserved : goal.loop-i-preserved
loop-i-preserved c =
    let f : ℕ → Float = λ j. share_of c.args.r (get_or c.args.weights.now j 0) in
    ap (λ (t : List Float). set t c.loop-i.i c.share.result) c.loop-i.invariant ∙ tab-store f c.args.to.now c.loop-i.i c.share.result c.share.ensures (omega (arith, c.requires))

pub returns : goal.returns
returns c =
    let f : ℕ → Float = λ j. share_of c.args.r (get_or c.args.weights.now j 0) in
    c.loop-i.invariant ∙ tab-full f c.args.to.now (length c.args.weights.now) c.loop-i.i (omega arith) c.requires ∙ tab-map (share_of c.args.r) c.args.weights.now
