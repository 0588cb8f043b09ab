-- `quotient::Grid::bad_reflection` meets its contract. The invariant: no axis below `i` passes the test. Assumes nothing.
use mathlib.Core.Path.{sym, ◌∙◌}
use borrow.Author.Count.{below_none, below_more}
use native.Mathlib.Omega.{arith}
use Rattle.lists.proofs.Words.{first-at, first-none}
use Rattle.quotient.proofs.Grid.bad_reflection.Goals as goal

pub loop-i-init : goal.loop-i-init
loop-i-init c = below_none _

pub returns-then-reflects_badly : goal.returns-then-reflects_badly
returns-then-reflects_badly c = sym (first-at _ _ _ c.loop-i-test.true c.loop-i.invariant (sym c.reflects_badly.ensures ∙ c.if-reflects_badly.true))

pub loop-i-preserved : goal.loop-i-preserved
loop-i-preserved c = below_more _ _ c.loop-i.invariant (sym c.reflects_badly.ensures ∙ c.if-reflects_badly.false)

pub returns : goal.returns
returns c = sym (first-none _ _ λ k l. c.loop-i.invariant k (omega arith))
