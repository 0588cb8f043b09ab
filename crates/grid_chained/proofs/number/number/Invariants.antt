-- `grid_chained::number::number` meets its contract. The invariant: the points below v have their numbers, the others still their least points, and m classes are met.
-- Assumes nothing.
use Rattle.grid_chained.proofs.Numbering.{Going}
use Rattle.grid_chained.proofs.number.number.Given as goal

abbrev pub invariant-loop-v : goal.invariant-loop-v
invariant-loop-v l = Going l.initial.labels l.labels l.m l.v
