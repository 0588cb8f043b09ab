-- `grid_sides::Sides::bad_side` meets its contract. The invariant: no side below `i` is refused. Assumes nothing.
use Rattle.std.proofs.Common.{sym, ◌∙◌, arith, below_none, below_more}
use Rattle.lists.proofs.Words.{first-at, first-none}
use Rattle.grid_sides.proofs.Sides.bad_side.Goals as goal

pub loop-i-init : goal.loop-i-init
loop-i-init c = below_none _

pub returns-then-refuses : goal.returns-then-refuses
returns-then-refuses c = sym (first-at _ _ _ c.loop-i-test.true c.loop-i.invariant (sym c.refuses.ensures ∙ c.if-refuses.true))

pub loop-i-preserved : goal.loop-i-preserved
loop-i-preserved c = below_more _ _ c.loop-i.invariant (sym c.refuses.ensures ∙ c.if-refuses.false)

pub returns : goal.returns
returns c = sym (first-none _ _ λ k l. c.loop-i.invariant k (omega arith))
