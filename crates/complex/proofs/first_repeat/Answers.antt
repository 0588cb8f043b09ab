-- The first word that names a vertex twice is what the search finds. Assumes nothing.
use native.Mathlib.Nat.{add-sub_cancel_left}
use borrow.Author.Count.{below_more}
use Rattle.lists.proofs.Words.{word-within, first-none, first-at}
use mathlib.Core.Path.{sym, ◌∙◌}
use native.Mathlib.Omega.{arith}
use Rattle.complex.proofs.first_repeat.Goals as goal

pub overflow_mul-at : goal.overflow_mul-at
overflow_mul-at c = omega (arith, word-within _ _ _ _ c.loop-k-test.true c.requires)

pub returns-then-repeats : goal.returns-then-repeats
returns-then-repeats c =
    sym (first-at _ _ _ c.loop-k-test.true c.loop-k.invariant (rw add-sub_cancel_left at (sym c.repeats.ensures ∙ c.if-repeats.true)))

pub loop-k-preserved : goal.loop-k-preserved
loop-k-preserved c =
    below_more _ _ c.loop-k.invariant (rw add-sub_cancel_left at (sym c.repeats.ensures ∙ c.if-repeats.false))

pub returns : goal.returns
returns c = sym (first-none _ _ (λ j h. c.loop-k.invariant j (omega arith)))
