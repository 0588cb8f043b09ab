-- `complex_facets::write_table` meets its contract. The loop's invariant: the numbers of the first i facets are written. Assumes nothing.
use mathlib.Core.Path.{refl}
use native.Mathlib.Omega.{arith}
use Rattle.complex_facets.specs.WorkSides.{fours}
use Rattle.complex_facets.proofs.Tabling.{fours-turn}
use Rattle.complex_facets.proofs.write_table.Goals as goal

pub loop-i-init : goal.loop-i-init
unfolding fours
loop-i-init c = refl

pub loop-i-preserved : goal.loop-i-preserved
loop-i-preserved c = fours-turn c.args.d c.args.k c.args.reps.now c.args.others.now c.loop-i.i c.args.table.now c.loop-i.table _ _ _ _ (omega (arith, c.requires.room)) c.loop-i.invariant c.cell_of.ensures c.place_of.ensures c.cell_of-in-loop-i.ensures c.place_of-in-loop-i.ensures
