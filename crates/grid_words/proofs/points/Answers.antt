-- `grid_words::points` meets its contract. Assumes nothing.
use native.Mathlib.Nat.{le_refl}
use Rattle.grid_words.proofs.points.Goals as goal

pub stride-requires : goal.stride-requires
stride-requires c = (c.requires, le_refl c.args.grid.d)

pub returns : goal.returns
returns c = c.stride.ensures
