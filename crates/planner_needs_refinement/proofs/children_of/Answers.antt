-- `planner_needs_refinement::children_of` meets its contract: without corners there are none, and else the dimension is one that is taken. Assumes nothing.
use Rattle.needs.proofs.Laws.{some-low}
use Rattle.planner_needs_refinement.proofs.Laws.{told_none, told-some, few_words}
use Rattle.planner_needs_refinement.proofs.children_of.Goals as goal

pub returns-then-m-eq0 : goal.returns-then-m-eq0
returns-then-m-eq0 c = told_none _ _ _ _ c.corners-m.ensures c.if-m-eq0.true

pub children-requires : goal.children-requires
children-requires c = (some-low _ _ _ c.corners-m.ensures c.if-m-eq0.false, few_words _ _ _ c.corners-m.ensures c.if-m-eq0.false)

pub returns : goal.returns
returns c = told-some _ _ _ _ _ c.corners-m.ensures c.if-m-eq0.false c.children.ensures
