-- `quotient::Grid::shape` meets its contract: each answer is the one that the table has, by the tests that led there. Assumes nothing.
use Rattle.quotient.proofs.Checks.{is-9, is-8, is-3, is-6, is-count}
use Rattle.quotient.proofs.Grid.shape.Goals as goal

pub returns-then-b-d : goal.returns-then-b-d
returns-then-b-d c = is-9 _ _ _ _ c.bad_reflection-b.ensures c.if-b-d.true

pub returns-then-s-d : goal.returns-then-s-d
returns-then-s-d c = is-8 _ _ _ _ c.bad_reflection-b.ensures c.if-b-d.false _ c.short_axis-s.ensures c.if-s-d.true

pub returns-then-cells-n : goal.returns-then-cells-n
returns-then-cells-n c =
    is-3 _ _ _ _ c.bad_reflection-b.ensures c.if-b-d.false _ c.short_axis-s.ensures c.if-s-d.false _ c.sizes-n.ensures.0 c.if-cells-n.true

pub returns-then-vertices-n : goal.returns-then-vertices-n
returns-then-vertices-n c =
    is-6 _ _ _ _ c.bad_reflection-b.ensures c.if-b-d.false _ c.short_axis-s.ensures c.if-s-d.false _ c.sizes-n.ensures.0 c.if-cells-n.false _ c.sizes-n.ensures.1 c.if-vertices-n.true

pub returns : goal.returns
returns c =
    is-count _ _ _ _ c.bad_reflection-b.ensures c.if-b-d.false _ c.short_axis-s.ensures c.if-s-d.false _ c.sizes-n.ensures.0 c.if-cells-n.false _ c.sizes-n.ensures.1
    c.if-vertices-n.false
