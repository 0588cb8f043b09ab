-- `orientation_by::take_over` meets its contract. The loop's invariant: the first c signs are +1 or -1, and their marks stand. Assumes nothing.
use mir.Val.{to_z, of_z}
use mir.Syntax.{w32}
use lib.IntN.{pos}
use mathlib.Core.Path.{◌≡◌, sym, ap, ◌∙◌}
use native.Mathlib.Omega.{arith}
use borrow.Author.Rules.{rules}
use lib.ListN.{get_or}
use Rattle.orientation_by.specs.WorkTest.{mark_of}
use Rattle.orientation_by.proofs.Marks.{taken, unfit-length, unfit-at}
use Rattle.orientation_by.proofs.take_over.Goals as goal

pub returns-then-signs-m-clause-unfit : goal.returns-then-signs-m-clause-unfit
returns-then-signs-m-clause-unfit c = λ e. unfit-length c.args.m c.args.signs.now c.if-signs-m.true

pub returns-then-mark-eq0-clause-unfit : goal.returns-then-mark-eq0-clause-unfit
returns-then-mark-eq0-clause-unfit c =
    let read_is : to_z w32 (of_z w32 (get_or c.args.signs.now c.loop-c.c (pos 0))) ≡ get_or c.args.signs.now c.loop-c.c (pos 0) = search rules in
    λ e. unfit-at c.args.m c.args.signs.now c.loop-c.c c.loop-c-test.true (ap mark_of (sym read_is) ∙ sym c.mark_of-mark.ensures ∙ c.if-mark-eq0.true)

pub returns-clause-fit : goal.returns-clause-fit
returns-clause-fit c = λ e. taken c.args.m c.args.signs.now c.loop-c.marks c.if-signs-m.false (λ j h. c.loop-c.invariant j (omega arith))
