-- `orientation_walk::drain` meets its contract. Assumes nothing.
use mathlib.Core.Path.{refl}
use borrow.Author.Rules.{rules}
use Rattle.orientation_walk.specs.WorkSteps.Drain.{none_yet}
use Rattle.orientation_walk.proofs.Lemmas.{scaled, top_in, drain-taking, drain-more, drain-stops, drain-falls, drain-fits, drain-goes}
use Rattle.orientation_walk.proofs.drain.Goals as goal

pub loop-top-init : goal.loop-top-init
loop-top-init c = none_yet

pub offset_bounds-stack-top : goal.offset_bounds-stack-top
offset_bounds-stack-top c = scaled _ _ (top_in c.requires c.loop-top.invariant c.loop-top-test.true) (search rules)

pub bounds-stack-top : goal.bounds-stack-top
bounds-stack-top c = top_in c.requires c.loop-top.invariant c.loop-top-test.true

pub cell-requires : goal.cell-requires
cell-requires c = drain-taking c.requires c.loop-top.invariant c.loop-top-test.true refl

pub returns-in-Err : goal.returns-in-Err
returns-in-Err c = drain-stops c.requires c.loop-top.invariant c.loop-top-test.true refl c.cell.ensures c.in-Err.is

pub overflow_add-taken : goal.overflow_add-taken
overflow_add-taken c = drain-fits c.requires c.loop-top.invariant c.loop-top-test.true c.ranges.n.fits

pub loop-top-smaller : goal.loop-top-smaller
loop-top-smaller c = drain-falls c.requires c.loop-top.invariant c.loop-top-test.true refl c.cell.ensures c.in-Ok.is

pub loop-top-preserved : goal.loop-top-preserved
loop-top-preserved c = (drain-more c.requires c.loop-top.invariant c.loop-top-test.true refl c.cell.ensures c.in-Ok.is)

pub returns : goal.returns
returns c = drain-goes c.requires c.loop-top.invariant c.loop-top-test.false
