-- `complex_facets::write_records` meets its contract. The loop's invariant: the records of the first i facets are written. Assumes nothing.
use mathlib.Core.Path.{refl}
use native.Mathlib.Omega.{arith}
use Rattle.complex_facets.specs.WorkRecords.{fives}
use Rattle.complex_facets.proofs.Recording.{fives-turn}
use Rattle.complex_facets.proofs.write_records.Goals as goal

pub loop-i-init : goal.loop-i-init
unfolding fives
loop-i-init c = refl

pub loop-i-preserved : goal.loop-i-preserved
loop-i-preserved c = fives-turn c.args.d c.args.k c.args.reps.now c.args.others.now c.loop-i.i c.args.records.now c.loop-i.records _ _ _ _ (omega (arith, c.requires.room)) c.loop-i.invariant c.cell_of.ensures c.sign_of.ensures c.cell_of-in-loop-i.ensures c.sign_of-in-loop-i.ensures
