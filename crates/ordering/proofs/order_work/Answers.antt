-- `ordering::order_work` meets its contract: each call asks what the calls before it gave (proofs/Ends). Assumes nothing.
use Rattle.refusal.proofs.Chain.{passed_on}
use mathlib.Core.Path.{refl, sym, ◌∙◌}
use native.Mathlib.Omega.{arith}
use lib.Seq.{length-take-le}
use Rattle.lists.proofs.Words.{tail-part}
use Rattle.ordering.proofs.Ends.{ended-refused, size_small, end-small, end_fits, at-fits, part_length, ended-short, agreeing, ended-agreed, ended-differs}
use Rattle.ordering.proofs.order_work.Goals as goal

pub prepare-requires : goal.prepare-requires
prepare-requires c = c.requires

pub overflow_add-size : goal.overflow_add-size
overflow_add-size c = omega (arith, c.requires.passed.small)

pub overflow_mul-size : goal.overflow_mul-size
overflow_mul-size c = record { fits = omega (arith, size_small c.args.d c.args.at c.args.words.now c.args.keys.now c.args.rows.now c.args.spare.now c.args.counts.now c.requires c.args.order.now c.prepare.new.keys c.prepare.new.rows c.prepare.auto.keys c.prepare.auto.rows c.prepare.result c.prepare.ensures _ c.in_ok-m.was _ refl) }

pub returns-then-listed-size : goal.returns-then-listed-size
returns-then-listed-size c = ended-short c.args.d c.args.at c.args.words.now c.args.keys.now c.args.rows.now c.args.spare.now c.args.counts.now c.requires c.args.order.now c.prepare.new.keys c.prepare.new.rows c.prepare.auto.keys c.prepare.auto.rows c.prepare.result c.prepare.ensures _ c.in_ok-m.was _ refl c.args.listed.now c.if-listed-size.true

pub overflow_add-end : goal.overflow_add-end
overflow_add-end c = omega (arith, end-small c.args.d c.args.at c.args.words.now c.args.keys.now c.args.rows.now c.args.spare.now c.args.counts.now c.requires c.args.order.now c.prepare.new.keys c.prepare.new.rows c.prepare.auto.keys c.prepare.auto.rows c.prepare.result c.prepare.ensures _ c.in_ok-m.was _ refl)

pub offset_bounds-keys-at : goal.offset_bounds-keys-at
offset_bounds-keys-at c = omega (arith, end-small c.args.d c.args.at c.args.words.now c.args.keys.now c.args.rows.now c.args.spare.now c.args.counts.now c.requires c.args.order.now c.prepare.new.keys c.prepare.new.rows c.prepare.auto.keys c.prepare.auto.rows c.prepare.result c.prepare.ensures _ c.in_ok-m.was _ refl)

pub slice_bounds-copy-end : goal.slice_bounds-copy-end
slice_bounds-copy-end c = end_fits c.args.d c.args.at c.args.words.now c.args.keys.now c.args.rows.now c.args.spare.now c.args.counts.now c.requires c.args.order.now c.prepare.new.keys c.prepare.new.rows c.prepare.auto.keys c.prepare.auto.rows c.prepare.result c.prepare.ensures _ c.in_ok-m.was _ refl

pub slice_bounds-copy-end-2 : goal.slice_bounds-copy-end-2
slice_bounds-copy-end-2 c = c.if-listed-size.false

pub slice_bounds-copy-end-3 : goal.slice_bounds-copy-end-3
slice_bounds-copy-end-3 c = sym (length-take-le _ _ c.if-listed-size.false)

pub copy-requires : goal.copy-requires
copy-requires c = length-take-le _ _ c.if-listed-size.false ∙ sym (part_length c.args.d c.args.at c.args.words.now c.args.keys.now c.args.rows.now c.args.spare.now c.args.counts.now c.requires c.args.order.now c.prepare.new.keys c.prepare.new.rows c.prepare.auto.keys c.prepare.auto.rows c.prepare.result c.prepare.ensures _ c.in_ok-m.was _ refl)

pub offset_bounds-keys-at-2 : goal.offset_bounds-keys-at-2
offset_bounds-keys-at-2 c = omega (arith, end-small c.args.d c.args.at c.args.words.now c.args.keys.now c.args.rows.now c.args.spare.now c.args.counts.now c.requires c.args.order.now c.prepare.new.keys c.prepare.new.rows c.prepare.auto.keys c.prepare.auto.rows c.prepare.result c.prepare.ensures _ c.in_ok-m.was _ refl)

pub slice_bounds-agree-start : goal.slice_bounds-agree-start
slice_bounds-agree-start c = at-fits c.args.d c.args.at c.args.words.now c.args.keys.now c.args.rows.now c.args.spare.now c.args.counts.now c.requires c.args.order.now c.prepare.new.keys c.prepare.new.rows c.prepare.auto.keys c.prepare.auto.rows c.prepare.result c.prepare.ensures _ c.in_ok-m.was _ refl

pub agree-requires : goal.agree-requires
agree-requires c = agreeing c.args.d c.args.at c.args.words.now c.args.keys.now c.args.rows.now c.args.spare.now c.args.counts.now c.requires c.args.order.now c.prepare.new.keys c.prepare.new.rows c.prepare.auto.keys c.prepare.auto.rows c.prepare.result c.prepare.ensures _ c.in_ok-m.was _ refl _ (tail-part c.prepare.new.keys c.args.at)

pub returns-then-not-agree : goal.returns-then-not-agree
returns-then-not-agree c = ended-differs c.args.d c.args.at c.args.words.now c.args.keys.now c.args.rows.now c.args.spare.now c.args.counts.now c.requires c.args.order.now c.prepare.new.keys c.prepare.new.rows c.prepare.auto.keys c.prepare.auto.rows c.prepare.result c.prepare.ensures _ c.in_ok-m.was _ refl c.args.listed.now c.copy.new.dst c.copy.ensures c.if-listed-size.false _ (tail-part c.prepare.new.keys c.args.at) (c.agree.ensures.clash (c.if-not-agree.true))

pub returns-in_err-m : goal.returns-in_err-m
returns-in_err-m c = rw (passed_on c.from_residual.ensures.1) (ended-refused c.args.d c.args.at c.args.words.now c.args.order.now c.prepare.new.keys c.prepare.new.rows c.prepare.result c.prepare.ensures _ c.in_err-m.was c.args.listed.now)

pub returns : goal.returns
returns c = ended-agreed c.args.d c.args.at c.args.words.now c.args.keys.now c.args.rows.now c.args.spare.now c.args.counts.now c.requires c.args.order.now c.prepare.new.keys c.prepare.new.rows c.prepare.auto.keys c.prepare.auto.rows c.prepare.result c.prepare.ensures _ c.in_ok-m.was _ refl c.args.listed.now c.copy.new.dst c.copy.ensures c.if-listed-size.false _ (tail-part c.prepare.new.keys c.args.at) (c.agree.ensures.all (c.if-not-agree.false))
