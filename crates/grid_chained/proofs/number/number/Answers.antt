-- `grid_chained::number::number` meets its contract. The invariant: the points below v have their numbers, the others still their least points, and m classes are met.
-- Assumes nothing.
use Rattle.grid_chained.proofs.Numbering.{going-none, going-lead, going-follow}
use Rattle.grid_chained.proofs.number.number.Goals as goal

pub loop-v-init : goal.loop-v-init
loop-v-init c = going-none _ c.requires

pub loop-v-preserved-then-l-v : goal.loop-v-preserved-then-l-v
loop-v-preserved-then-l-v c =
    going-lead _ _ _ _ c.loop-v.invariant c.loop-v-test.true c.if-l-v.true

pub loop-v-preserved : goal.loop-v-preserved
loop-v-preserved c =
    going-follow _ _ _ _ c.loop-v.invariant c.loop-v-test.true c.if-l-v.false
