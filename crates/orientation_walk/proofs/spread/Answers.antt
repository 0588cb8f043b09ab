-- `orientation_walk::spread` meets its contract. Assumes nothing.
use native.Mathlib.Omega.{arith}
use Rattle.orientation_walk.specs.WorkSteps.Pieces.{none_yet, signed}
use Rattle.orientation_walk.proofs.Lemmas.{spread-starting, spread-in, spread-more, spread-fits, stop-fits, spread-stops, spread-goes}
use Rattle.orientation_walk.proofs.spread.Goals as goal

pub loop-i-init : goal.loop-i-init
loop-i-init c = none_yet

pub bounds-signs-i : goal.bounds-signs-i
bounds-signs-i c = spread-in c.requires c.loop-i.invariant c.loop-i-test.true

pub loop-i-preserved-then-signs-i-ne0 : goal.loop-i-preserved-then-signs-i-ne0
loop-i-preserved-then-signs-i-ne0 c = signed c.loop-i.invariant c.if-signs-i-ne0.true

pub piece-requires : goal.piece-requires
piece-requires c = spread-starting c.requires c.loop-i.invariant c.loop-i-test.true c.if-signs-i-ne0.false

pub overflow_add-result : goal.overflow_add-result
overflow_add-result c = stop-fits c.requires c.loop-i.invariant c.loop-i-test.true c.if-signs-i-ne0.false c.piece.ensures c.in-Err.is c.ranges.n.fits

pub returns-in-Err : goal.returns-in-Err
returns-in-Err c = spread-stops c.requires c.loop-i.invariant c.loop-i-test.true c.if-signs-i-ne0.false c.piece.ensures c.in-Err.is

pub overflow_add-taken : goal.overflow_add-taken
overflow_add-taken c = spread-fits c.requires c.loop-i.invariant c.loop-i-test.true c.if-signs-i-ne0.false c.piece.ensures c.in-Ok.is c.ranges.n.fits

pub loop-i-preserved : goal.loop-i-preserved
loop-i-preserved c = (spread-more c.requires c.loop-i.invariant c.loop-i-test.true c.if-signs-i-ne0.false c.piece.ensures c.in-Ok.is)

pub returns : goal.returns
returns c = spread-goes c.requires c.loop-i.invariant (omega arith) c.loop-i-test.false
