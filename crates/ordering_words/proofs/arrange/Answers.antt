-- `ordering_words::arrange` meets its contract, by its four ways out (proofs/Arranging). Assumes nothing.
use mathlib.Core.Path.{sym, ◌∙◌}
use Prim.Native.Nat.{◌+◌, ◌*◌}
use native.Mathlib.Omega.{arith}
use lib.Seq.{length-take-le}
use Rattle.lists.proofs.Rows.{part-size}
use Rattle.ordering_words.proofs.Arranging.{out-length, out-high, matching, size_fits, room-keys, room-cells, room-spare, out-other, reps-rows, out-arranged}
use Rattle.ordering_words.proofs.arrange.Goals as goal

pub overflow_add-n : goal.overflow_add-n
overflow_add-n c = omega (arith, c.requires.dim)

pub overflow_mul-len : goal.overflow_mul-len
overflow_mul-len c = record { fits = omega (arith, size_fits c.args.d c.args.m c.args.b c.args.keys.now c.args.cells.now c.args.spare.now c.args.counts.now c.requires c.args.order.now) }

pub returns-then-order-len : goal.returns-then-order-len
returns-then-order-len c = out-length c.args.d c.args.m c.args.b c.args.keys.now c.args.cells.now c.args.spare.now c.args.counts.now c.requires c.args.order.now c.if-order-len.true _

pub returns-then-not-all_below : goal.returns-then-not-all_below
returns-then-not-all_below c = out-high c.args.d c.args.m c.args.b c.args.keys.now c.args.cells.now c.args.spare.now c.args.counts.now c.requires c.args.order.now (c.all_below.ensures.high (c.if-not-all_below.true)) _

pub matched-fits-requires : goal.matched-fits-requires
matched-fits-requires c = matching c.args.d c.args.m c.args.b c.args.keys.now c.args.cells.now c.args.spare.now c.args.counts.now c.requires c.args.order.now c.if-order-len.false (c.all_below.ensures.low (c.if-not-all_below.false))

pub overflow_add-end : goal.overflow_add-end
overflow_add-end c = omega (arith, size_fits c.args.d c.args.m c.args.b c.args.keys.now c.args.cells.now c.args.spare.now c.args.counts.now c.requires c.args.order.now)

pub offset_bounds-keys-len : goal.offset_bounds-keys-len
offset_bounds-keys-len c = omega (arith, size_fits c.args.d c.args.m c.args.b c.args.keys.now c.args.cells.now c.args.spare.now c.args.counts.now c.requires c.args.order.now)

pub slice_bounds-copy-end-2 : goal.slice_bounds-copy-end-2
slice_bounds-copy-end-2 c = omega (arith, room-cells c.args.d c.args.m c.args.b c.args.keys.now c.args.cells.now c.args.spare.now c.args.counts.now c.requires c.args.order.now, c.matched-fits.auto.cells)

pub slice_bounds-copy-end-3 : goal.slice_bounds-copy-end-3
slice_bounds-copy-end-3 c = sym (length-take-le _ _ (omega (arith, room-cells c.args.d c.args.m c.args.b c.args.keys.now c.args.cells.now c.args.spare.now c.args.counts.now c.requires c.args.order.now, c.matched-fits.auto.cells)))

pub copy-requires : goal.copy-requires
copy-requires c = length-take-le _ _ (omega (arith, room-cells c.args.d c.args.m c.args.b c.args.keys.now c.args.cells.now c.args.spare.now c.args.counts.now c.requires c.args.order.now, c.matched-fits.auto.cells)) ∙ sym (part-size c.matched-fits.new.keys (c.args.m * (c.args.d + 1)) (c.args.m * (c.args.d + 1)) (omega (arith, room-keys c.args.d c.args.m c.args.b c.args.keys.now c.args.cells.now c.args.spare.now c.args.counts.now c.requires c.args.order.now, c.matched-fits.auto.keys)))

pub returns-then-not-fits : goal.returns-then-not-fits
returns-then-not-fits c = out-other c.args.d c.args.m c.args.b c.args.keys.now c.args.cells.now c.args.spare.now c.args.counts.now c.requires c.args.order.now c.if-order-len.false c.matched-fits.result c.matched-fits.new.keys c.matched-fits.new.spare c.matched-fits.ensures c.copy.new.dst c.matched-fits.new.cells c.copy.ensures (c.if-not-fits.true) _

pub gather-requires : goal.gather-requires
gather-requires c = record { by_index = reps-rows c.args.d c.args.m c.args.b c.args.keys.now c.args.cells.now c.args.spare.now c.args.counts.now c.requires c.args.order.now c.if-order-len.false c.matched-fits.result c.matched-fits.new.keys c.matched-fits.new.spare c.matched-fits.ensures c.copy.new.dst c.matched-fits.new.cells c.copy.ensures (c.if-not-fits.false); m_in_bounds = (omega (arith, room-spare c.args.d c.args.m c.args.b c.args.keys.now c.args.cells.now c.args.spare.now c.args.counts.now c.requires c.args.order.now, c.matched-fits.auto.spare), omega (arith, room-keys c.args.d c.args.m c.args.b c.args.keys.now c.args.cells.now c.args.spare.now c.args.counts.now c.requires c.args.order.now, c.matched-fits.auto.keys)) }

pub returns : goal.returns
returns c = out-arranged c.args.d c.args.m c.args.b c.args.keys.now c.args.cells.now c.args.spare.now c.args.counts.now c.requires c.args.order.now c.if-order-len.false c.matched-fits.result c.matched-fits.new.keys c.matched-fits.new.spare c.matched-fits.ensures c.copy.new.dst c.matched-fits.new.cells c.copy.ensures (c.if-not-fits.false) (omega (arith, room-spare c.args.d c.args.m c.args.b c.args.keys.now c.args.cells.now c.args.spare.now c.args.counts.now c.requires c.args.order.now, c.matched-fits.auto.spare)) _ c.gather.ensures
