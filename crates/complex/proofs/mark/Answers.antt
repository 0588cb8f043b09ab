-- One mark more. Assumes nothing.
use mathlib.Core.Path.{sym, ◌∙◌}
use native.Mathlib.Omega.{arith}
use Rattle.lists.proofs.Words.{marked_step, marked-end, below-largest}
use Rattle.complex.proofs.mark.Goals as goal

pub bounds-seen-v : goal.bounds-seen-v
bounds-seen-v c = omega (arith, below-largest c.args.ws.now c.loop-v.v-index)

pub loop-v-preserved : goal.loop-v-preserved
loop-v-preserved c = c.loop-v.invariant ∙ marked_step _ _ _ c.loop-v-test.true

pub returns : goal.returns
returns c = sym (c.loop-v.invariant ∙ marked-end _ _ _ c.loop-v-test.false)
