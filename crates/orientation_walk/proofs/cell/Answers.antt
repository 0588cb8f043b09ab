use borrow.Author.Rules.{rules}
use native.Mathlib.Omega.{arith}
use Rattle.orientation_walk.specs.WorkSteps.Slots.{none_yet, one_more}
use Rattle.orientation_walk.proofs.Lemmas.{base-fits, slot-fits, slots-ready, took-stops, look-goes, took-goes}
use Rattle.orientation_walk.proofs.cell.Goals as goal

pub overflow_mul-base : goal.overflow_mul-base
overflow_mul-base c = base-fits c.requires c.well_formed.1.1.1.0.0

pub loop-s-init : goal.loop-s-init
loop-s-init c = none_yet

pub overflow_add-base : goal.overflow_add-base
overflow_add-base c = slot-fits c.requires c.well_formed.1.1.1.0.0 c.loop-s-test.true

pub look-requires : goal.look-requires
look-requires c = slots-ready c.requires c.loop-s-test.true c.loop-s.invariant

pub returns-in_default : goal.returns-in_default
returns-in_default c = took-stops c.loop-s-test.true c.loop-s.invariant c.look.ensures (search rules)

pub loop-s-preserved : goal.loop-s-preserved
loop-s-preserved c = (one_more c.loop-s.invariant (look-goes c.look.ensures c.in-Some.is))

pub returns : goal.returns
returns c = took-goes (omega arith) c.loop-s-test.false c.loop-s.invariant
