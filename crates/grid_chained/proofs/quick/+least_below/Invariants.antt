-- The measure of `least_below` is the number of axes left.
use Rattle.grid_chained.proofs.quick.+least_below.Given as goal

abbrev pub decreases-least_below : goal.decreases-least_below
decreases-least_below l = l.a
