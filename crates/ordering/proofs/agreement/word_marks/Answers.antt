-- `ordering::agreement::word_marks` meets its contract. The loop's invariant: the first c marks stand. Assumes nothing.
use native.Mathlib.Omega.{arith}
use Rattle.sorting.proofs.Rows.{pos-room}
use Rattle.ordering.proofs.agreement.word_marks.Goals as goal

pub loop-c-init : goal.loop-c-init
loop-c-init c = λ j h. absurd (omega arith)

pub overflow_mul-at : goal.overflow_mul-at
overflow_mul-at c = omega (arith, pos-room c.loop-c.c c.args.m c.args.n c.loop-c-test.true, c.requires.short, c.requires.long, c.requires.size)

pub overflow_add-end : goal.overflow_add-end
overflow_add-end c = omega (arith, pos-room c.loop-c.c c.args.m c.args.n c.loop-c-test.true, c.requires.short, c.requires.long, c.requires.size)

pub offset_bounds-list-at : goal.offset_bounds-list-at
offset_bounds-list-at c = omega (arith, pos-room c.loop-c.c c.args.m c.args.n c.loop-c-test.true, c.requires.short, c.requires.long, c.requires.size)

pub slice_bounds-odd_pairs-end : goal.slice_bounds-odd_pairs-end
slice_bounds-odd_pairs-end c = omega (arith, pos-room c.loop-c.c c.args.m c.args.n c.loop-c-test.true, c.requires.short, c.requires.long, c.requires.size)

pub returns : goal.returns
returns c = λ j h. c.loop-c.invariant j (omega arith)
