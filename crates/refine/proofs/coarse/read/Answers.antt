-- `coarse::read` meets its contract: the cells are listed, then their words (proofs/Reading). Assumes nothing.
use Rattle.refusal.proofs.Chain.{passed_on}
use mathlib.Core.Path.{refl}
use Rattle.refine.proofs.Reading.{listing, naming, read-refused, read-unordered, read-words}
use Rattle.refine.proofs.coarse.read.Goals as goal

pub list-requires : goal.list-requires
list-requires c = listing c.args.d c.args.given.now c.args.cells.now c.args.along.now c.args.keys.now c.args.rows.now c.args.spare.now c.args.counts.now c.requires

pub name-requires : goal.name-requires
name-requires c = naming c.args.d c.args.given.now c.args.cells.now c.args.along.now c.args.keys.now c.args.rows.now c.args.spare.now c.args.counts.now c.requires c.list.new.cells c.list.new.keys c.list.new.spare c.list.new.counts c.list.auto.cells c.list.auto.keys c.list.auto.spare c.list.auto.counts c.in_ok-m.m c.in_ok-m.ensures _ refl

pub returns-then-not-name : goal.returns-then-not-name
returns-then-not-name c = read-unordered c.args.d c.args.given.now c.args.cells.now c.args.along.now c.args.keys.now c.args.rows.now c.args.spare.now c.args.counts.now c.requires c.list.new.cells c.list.new.keys c.list.new.spare c.list.new.counts c.list.auto.cells c.list.auto.keys c.list.auto.spare c.list.auto.counts c.in_ok-m.m c.in_ok-m.ensures _ refl _ _ c.name.result c.name.new.cells c.name.new.along c.name.ensures (c.if-not-name.true)

pub returns-in_err-m : goal.returns-in_err-m
returns-in_err-m c = rw (passed_on c.from_residual.ensures.1) (read-refused c.args.d c.args.given.now c.list.new.cells _ c.in_err-m.ensures _ _ _ _)

pub returns : goal.returns
returns c = read-words c.args.d c.args.given.now c.args.cells.now c.args.along.now c.args.keys.now c.args.rows.now c.args.spare.now c.args.counts.now c.requires c.list.new.cells c.list.new.keys c.list.new.spare c.list.new.counts c.list.auto.cells c.list.auto.keys c.list.auto.spare c.list.auto.counts c.in_ok-m.m c.in_ok-m.ensures _ refl _ _ c.name.result c.name.new.cells c.name.new.along c.name.ensures (c.if-not-name.false)
