-- `grid_lengths::measured` meets its contract. Assumes nothing.
use Rattle.grid_lengths.proofs.Measuring.{square-is}
use Rattle.grid_lengths.proofs.measured.Goals as goal

pub returns : goal.returns
returns c = square-is c.args.grid c.args.r _ _ _ _ _ _ _ c.from_at-p.ensures c.to_at-q.ensures c.step-first.ensures c.step-second.ensures c.step-third.ensures c.spacings-spacing.ensures c.length_sq.ensures
