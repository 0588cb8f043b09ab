-- `grid_sides::Sides::below` meets its contract. Assumes nothing.
use Rattle.grid_sides.proofs.Sides.below.Goals as goal

pub returns : goal.returns
returns c = rw (← c.kept-first.ensures, ← c.kept-second.ensures, ← c.kept-third.ensures)
