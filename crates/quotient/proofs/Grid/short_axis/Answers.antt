-- `quotient::Grid::short_axis` meets its contract. The invariant: no axis below `i` passes the test. Assumes nothing.
use mathlib.Core.Path.{sym, ◌∙◌}
use borrow.Author.Count.{below_none, below_more}
use native.Mathlib.Omega.{arith}
use Rattle.lists.proofs.Words.{first-at, first-none}
use Rattle.quotient.proofs.Grid.short_axis.Goals as goal

pub loop-i-init : goal.loop-i-init
loop-i-init c = below_none _

pub returns-then-falls_short : goal.returns-then-falls_short
returns-then-falls_short c = sym (first-at _ _ _ c.loop-i-test.true c.loop-i.invariant (sym c.falls_short.ensures ∙ c.if-falls_short.true))

pub loop-i-preserved : goal.loop-i-preserved
loop-i-preserved c = below_more _ _ c.loop-i.invariant (sym c.falls_short.ensures ∙ c.if-falls_short.false)

pub returns : goal.returns
returns c = sym (first-none _ _ λ k l. c.loop-i.invariant k (omega arith))
