-- `child_of` meets its contract: the test, then the entries. Assumes nothing.
use mathlib.Core.Path.{sym, ◌∙◌}
use Rattle.refine_values.proofs.Laws.{child-none, parent_in, jacobian-in, whole_in, child-there}
use Rattle.refine_values.proofs.child_of.Goals as goal

pub returns-then-not-has_child : goal.returns-then-not-has_child
returns-then-not-has_child c = child-none c.args.number c.args.parents.now c.args.jacobians.now c.args.wholes.now (sym c.has_child.ensures ∙ c.if-not-has_child.true)

pub bounds-parents-k : goal.bounds-parents-k
bounds-parents-k c = parent_in c.args.number c.args.parents.now c.args.jacobians.now c.args.wholes.now (sym c.has_child.ensures ∙ c.if-not-has_child.false)

pub slice_bounds-nine_floats-end : goal.slice_bounds-nine_floats-end
slice_bounds-nine_floats-end c = jacobian-in c.args.number c.args.parents.now c.args.jacobians.now c.args.wholes.now (sym c.has_child.ensures ∙ c.if-not-has_child.false)

pub slice_bounds-nine_wholes-end : goal.slice_bounds-nine_wholes-end
slice_bounds-nine_wholes-end c = whole_in c.args.number c.args.parents.now c.args.jacobians.now c.args.wholes.now (sym c.has_child.ensures ∙ c.if-not-has_child.false)

pub returns : goal.returns
returns c = child-there c.args.number c.args.parents.now c.args.jacobians.now c.args.wholes.now (sym c.has_child.ensures ∙ c.if-not-has_child.false) _ _ c.nine_floats-jacobian.ensures c.nine_wholes-whole.ensures
