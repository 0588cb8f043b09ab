-- `complex_dropped::mark` meets its contract. The loop's invariant: the places passed are marked, and the others are left to mark. Assumes nothing.
use mathlib.Core.Path.{sym, ◌∙◌}
use native.Mathlib.Omega.{arith}
use Rattle.lists.proofs.Words.{marked_step, marked-end}
use Rattle.complex_dropped.proofs.mark.Goals as goal

pub bounds-marks-place : goal.bounds-marks-place
bounds-marks-place c = omega (arith, c.requires c.loop-place.place-index c.loop-place-test.true)

pub loop-place-preserved : goal.loop-place-preserved
loop-place-preserved c = c.loop-place.invariant ∙ marked_step c.loop-place.marks c.args.places.now c.loop-place.place-index c.loop-place-test.true

pub returns : goal.returns
returns c = sym (c.loop-place.invariant ∙ marked-end _ _ _ c.loop-place-test.false)
