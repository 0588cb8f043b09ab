-- `refine_children::parents` meets its contract. The loop's invariant: the first i parents are written.
use mathlib.Core.Path.{refl, ap, ◌∙◌}
use mathlib.Core.List.{List}
use Prim.Native.Nat.{ℕ, ◌-◌, ◌/◌}
use native.Mathlib.Nat.{div-le_self}
use native.Mathlib.Omega.{arith}
use lib.ListN.{length, get_or, set, length-set}
use borrow.Author.Rules.{rules}
use Rattle.refine_jacobian.proofs.Laws.{tab-store, tab-full}
use Rattle.refine_children.proofs.parents.Goals as goal

pub overflow_cast-parent : goal.overflow_cast-parent
overflow_cast-parent c = omega (arith, c.type_inv.firsts c.loop-i.i, div-le_self (get_or c.args.firsts.now c.loop-i.i 0) c.args.size)

pub loop-i-preserved : goal.loop-i-preserved
loop-i-preserved c =
    let f : ℕ → ℕ = λ k. get_or c.args.firsts.now k 0 / c.args.size in
    let v = get_or c.args.firsts.now c.loop-i.i 0 / c.args.size in
    ap (λ (t : List ℕ). set t c.loop-i.i v) c.loop-i.invariant ∙ tab-store f c.args.to.now c.loop-i.i v refl (omega arith)

pub returns : goal.returns
returns c =
    c.loop-i.invariant ∙ tab-full (λ k. get_or c.args.firsts.now k 0 / c.args.size) c.args.to.now (length c.args.to.now) c.loop-i.i (omega arith) refl
