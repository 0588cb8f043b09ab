-- `ordering::agreement::same_without` meets its contract. The loop's invariant: what is left from i and from j on decides. Assumes nothing.
use mathlib.Core.Path.{refl, sym, ap, ◌∙◌}
use mathlib.Core.List.{List, []}
use Prim.Native.Nat.{ℕ}
use native.Mathlib.Omega.{arith}
use borrow.Author.Rules.{rules}
use Rattle.lists.proofs.Words.{tail-part}
use Rattle.lists.specs.Words.{same_word, without}
use Rattle.ordering.proofs.Without.{skip-left, ran_out, skip-right, step_both, step_other, left_out}
use Rattle.ordering.proofs.agreement.same_without.Goals as goal

pub loop-i-init : goal.loop-i-init
loop-i-init c = (search rules, search rules, refl)

pub loop-i-preserved-then-x-v : goal.loop-i-preserved-then-x-v
loop-i-preserved-then-x-v c = (omega arith, c.loop-i.invariant.1, c.loop-i.invariant.2 ∙ skip-left c.args.w.now c.args.v c.args.u.now c.args.t c.loop-i.i c.loop-i.j c.loop-i-test.true c.if-x-v.true)

pub returns-then-u-j : goal.returns-then-u-j
returns-then-u-j c = sym (c.loop-i.invariant.2 ∙ ran_out c.args.w.now c.args.v c.args.u.now c.args.t c.loop-i.i c.loop-i.j c.loop-i-test.true c.if-x-v.false c.if-u-j.true)

pub loop-i-preserved-then-y-t : goal.loop-i-preserved-then-y-t
loop-i-preserved-then-y-t c = (c.loop-i.invariant.0, omega (arith, c.if-u-j.false), c.loop-i.invariant.2 ∙ skip-right c.args.w.now c.args.v c.args.u.now c.args.t c.loop-i.i c.loop-i.j c.loop-i-test.true c.if-x-v.false (omega (arith, c.if-u-j.false)) c.if-y-t.true)

pub returns-then-x-y : goal.returns-then-x-y
returns-then-x-y c = sym (c.loop-i.invariant.2 ∙ step_other c.args.w.now c.args.v c.args.u.now c.args.t c.loop-i.i c.loop-i.j c.loop-i-test.true c.if-x-v.false (omega (arith, c.if-u-j.false)) c.if-y-t.false c.if-x-y.true)

pub loop-i-preserved : goal.loop-i-preserved
loop-i-preserved c = (omega arith, omega (arith, c.if-u-j.false), c.loop-i.invariant.2 ∙ step_both c.args.w.now c.args.v c.args.u.now c.args.t c.loop-i.i c.loop-i.j c.loop-i-test.true c.if-x-v.false (omega (arith, c.if-u-j.false)) c.if-y-t.false c.if-x-y.false)

pub returns : goal.returns
returns c = c.only.ensures ∙ ap (λ (l : List ℕ). same_word [] (without c.args.t l)) (tail-part c.args.u.now c.loop-i.j) ∙ sym (c.loop-i.invariant.2 ∙ left_out c.args.w.now c.args.v c.args.u.now c.args.t c.loop-i.i c.loop-i.j (omega arith))
