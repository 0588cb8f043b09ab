-- Either there is a next order, or the base rises and the order is the first. Assumes nothing.
use mathlib.Core.Path.{sym}
use native.Mathlib.Omega.{arith}
use lib.Seq.{length-take-le}
use Rattle.multiindex.proofs.Tables.{count_most}
use Rattle.refine_pattern.proofs.Cursors.{step-on, step-over}
use Rattle.refine_pattern.proofs.step.Goals as goal

pub overflow_add-next : goal.overflow_add-next
overflow_add-next c = omega (arith, c.requires.order, count_most c.args.d c.requires.axes)

pub returns-then-next-count : goal.returns-then-next-count
returns-then-next-count c =
    step-on c.args.d c.args.r c.args.c (omega (arith, c.if-next-count.true, c.count.ensures))

pub slice_bounds-base-end : goal.slice_bounds-base-end
slice_bounds-base-end c = c.requires.wide

pub slice_bounds-rise-end : goal.slice_bounds-rise-end
slice_bounds-rise-end c = sym (length-take-le _ _ c.requires.wide)

pub returns : goal.returns
returns c =
    step-over c.args.d c.args.r c.args.c c.rise.new.s
    (omega (arith, c.if-next-count.false, c.count.ensures))
    c.rise.ensures
