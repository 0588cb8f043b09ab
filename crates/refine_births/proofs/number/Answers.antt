-- `refine_births::number` meets its contract. The loop's invariant: the first x visits are numbered, the births among them are counted, and no class is numbered that was not met. Assumes nothing.
use mathlib.Core.Path.{refl}
use lib.ListN.{get_or}
use Rattle.refine_births.proofs.Numbering.{scanning-old, scanning-lone, scanning-born, the_class, old-point, lone-point, born-point, is-lone, not-lone}
use Rattle.refine_births.proofs.number.Goals as goal

pub loop-x-preserved-then-seen : goal.loop-x-preserved-then-seen
loop-x-preserved-then-seen c = (scanning-old c.args.total c.args.numbers.now c.args.fresh.now c.args.corners.now c.loop-x.x c.loop-x.count c.loop-x.numbers c.loop-x.fresh c.loop-x.corners c.loop-x.invariant.0 c.loop-x-test.true _, λ points t. old-point c.args.size c.args.n c.args.total c.args.keys.now c.args.numbers.now c.args.fresh.now c.args.corners.now c.requires c.loop-x.x c.loop-x.count c.loop-x.numbers c.loop-x.fresh c.loop-x.corners c.loop-x.invariant.0 c.loop-x-test.true (get_or c.loop-x.corners c.loop-x.x 0) refl points t (c.loop-x.invariant.1 points t) c.if-seen.true)

pub loop-x-preserved-then-lone : goal.loop-x-preserved-then-lone
loop-x-preserved-then-lone c = (scanning-lone c.args.total c.args.numbers.now c.args.fresh.now c.args.corners.now c.loop-x.x c.loop-x.count c.loop-x.numbers c.loop-x.fresh c.loop-x.corners c.loop-x.invariant.0 c.loop-x-test.true (get_or c.loop-x.corners c.loop-x.x 0) _ (the_class c.args.size c.args.n c.args.total c.args.keys.now c.args.numbers.now c.args.fresh.now c.args.corners.now c.requires c.loop-x.x c.loop-x.count c.loop-x.numbers c.loop-x.fresh c.loop-x.corners c.loop-x.invariant.0 c.loop-x-test.true (get_or c.loop-x.corners c.loop-x.x 0) refl), λ points t. lone-point c.args.size c.args.n c.args.total c.args.keys.now c.args.numbers.now c.args.fresh.now c.args.corners.now c.requires c.loop-x.x c.loop-x.count c.loop-x.numbers c.loop-x.fresh c.loop-x.corners c.loop-x.invariant.0 c.loop-x-test.true (get_or c.loop-x.corners c.loop-x.x 0) refl points t (c.loop-x.invariant.1 points t) c.if-seen.false (is-lone c.args.size c.args.n c.args.total c.args.keys.now c.args.corners.now points t c.loop-x.x c.loop-x-test.true c.single-lone.result c.single-lone.ensures c.if-lone.true))

pub loop-x-preserved : goal.loop-x-preserved
loop-x-preserved c = (scanning-born c.args.total c.args.numbers.now c.args.fresh.now c.args.corners.now c.loop-x.x c.loop-x.count c.loop-x.numbers c.loop-x.fresh c.loop-x.corners c.loop-x.invariant.0 c.loop-x-test.true (get_or c.loop-x.corners c.loop-x.x 0) _ (the_class c.args.size c.args.n c.args.total c.args.keys.now c.args.numbers.now c.args.fresh.now c.args.corners.now c.requires c.loop-x.x c.loop-x.count c.loop-x.numbers c.loop-x.fresh c.loop-x.corners c.loop-x.invariant.0 c.loop-x-test.true (get_or c.loop-x.corners c.loop-x.x 0) refl), λ points t. born-point c.args.size c.args.n c.args.total c.args.keys.now c.args.numbers.now c.args.fresh.now c.args.corners.now c.requires c.loop-x.x c.loop-x.count c.loop-x.numbers c.loop-x.fresh c.loop-x.corners c.loop-x.invariant.0 c.loop-x-test.true (get_or c.loop-x.corners c.loop-x.x 0) refl points t (c.loop-x.invariant.1 points t) c.if-seen.false (not-lone c.args.size c.args.n c.args.total c.args.keys.now c.args.corners.now points t c.loop-x.x c.loop-x-test.true c.single-lone.result c.single-lone.ensures c.if-lone.false))
