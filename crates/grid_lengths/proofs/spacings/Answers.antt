-- `grid_lengths::spacings` meets its contract. Assumes nothing.
use Rattle.grid_lengths.proofs.Measuring.{spacing-is}
use Rattle.grid_lengths.proofs.spacings.Goals as goal

pub returns : goal.returns
returns c = let g = c.args.grid in let a = spacing-is g 0 _ _ _ c.axis-x.ensures c.side.ensures c.spacing-first.ensures in let b = spacing-is g 1 _ _ _ c.axis-y.ensures c.side-2.ensures c.spacing-second.ensures in let d = spacing-is g 2 _ _ _ c.axis-z.ensures c.side-3.ensures c.spacing-third.ensures in rw (a, b, d)
