-- `bandmap::features` is safe and ends: one feature a turn, and x is below the number of cells. Assumes nothing.
use native.Mathlib.Omega.{arith}
use Rattle.bandmap.proofs.features.Goals as goal

pub cells-x-end-requires : goal.cells-x-end-requires
cells-x-end-requires c = c.requires.taken

pub feature-requires : goal.feature-requires
feature-requires c = (c.requires, omega (arith, c.loop-x-test.true, c.cells-x-end.ensures))
