-- `ordering_words::matched` meets its contract: the distinct words, sorted, are gathered in order and compared with the cells (proofs/Matching). Assumes nothing.
use mathlib.Core.Path.{sym, ◌∙◌}
use native.Mathlib.Omega.{arith}
use lib.ListN.{length}
use lib.Seq.{length-take-le}
use native.Mathlib.Nat.{mul-le-mul_right}
use Rattle.lists.proofs.Rows.{part-size}
use Rattle.ordering_words.proofs.Matching.{many-numbers, key-long, table, rows_fit, reps-in, matched-fewer, matched-compared}
use Rattle.ordering_words.proofs.matched.Goals as goal

pub lay_out-requires : goal.lay_out-requires
lay_out-requires c = (c.requires.size, c.requires.cells_long, c.requires.keys_long)

pub sort_rows-requires : goal.sort_rows-requires
sort_rows-requires c = record { table = table c.args.n c.args.m c.args.b c.args.order.now c.args.keys.now c.args.cells.now c.args.spare.now c.args.counts.now c.requires c.lay_out.new.keys c.lay_out.ensures; n_in_bounds = (omega (arith, c.requires.cells_long, c.requires.size, many-numbers c.args.n c.args.m c.requires.some), c.requires.spare_long, c.requires.buckets) }

pub distinct-classes-requires : goal.distinct-classes-requires
distinct-classes-requires c = record { sorted = c.sort_rows.ensures.sorted; n_bound = (c.requires.few, rows_fit c.args.n c.args.m c.args.b c.args.order.now c.args.keys.now c.args.cells.now c.args.spare.now c.args.counts.now c.requires c.lay_out.new.keys c.lay_out.ensures, omega (arith, c.requires.cells_long, c.requires.size, many-numbers c.args.n c.args.m c.requires.some, c.sort_rows.auto.order), omega (arith, c.requires.spare_long, c.sort_rows.auto.spare), omega (arith, c.requires.counts_long, c.sort_rows.auto.count)) }

pub gather-requires : goal.gather-requires
gather-requires c = record { by_index = reps-in c.args.n c.args.m c.args.b c.args.order.now c.args.keys.now c.args.cells.now c.args.spare.now c.args.counts.now c.requires c.lay_out.new.keys c.lay_out.ensures c.distinct-classes.result c.distinct-classes.new.reps c.distinct-classes.new.ids c.distinct-classes.ensures.distinct (omega (arith, c.requires.spare_long, c.sort_rows.auto.spare, c.distinct-classes.auto.reps)); m_in_bounds = (omega (arith, c.distinct-classes.ensures.distinct.few, c.requires.spare_long, c.sort_rows.auto.spare, c.distinct-classes.auto.reps), omega (arith, mul-le-mul_right c.args.n c.distinct-classes.ensures.distinct.few, c.requires.size, c.requires.cells_long, c.sort_rows.auto.order)) }

pub returns-then-classes-m : goal.returns-then-classes-m
returns-then-classes-m c = matched-fewer c.args.n c.args.m c.args.b c.args.order.now c.args.keys.now c.args.cells.now c.args.spare.now c.args.counts.now c.requires c.lay_out.new.keys c.lay_out.ensures c.distinct-classes.result c.distinct-classes.new.reps c.distinct-classes.new.ids c.distinct-classes.ensures.distinct (omega (arith, c.requires.spare_long, c.sort_rows.auto.spare, c.distinct-classes.auto.reps)) c.gather.new.to c.sort_rows.new.order c.gather.ensures (omega (arith, c.requires.size, c.requires.cells_long, c.gather.auto.to, c.sort_rows.auto.order)) c.if-classes-m.true

pub slice_bounds-same-end : goal.slice_bounds-same-end
slice_bounds-same-end c = omega (arith, c.requires.cells_long, c.gather.auto.to, c.sort_rows.auto.order)

pub slice_bounds-same-end-2 : goal.slice_bounds-same-end-2
slice_bounds-same-end-2 c = sym (length-take-le _ _ (omega (arith, c.requires.cells_long, c.gather.auto.to, c.sort_rows.auto.order)))

pub offset_bounds-keys-len : goal.offset_bounds-keys-len
offset_bounds-keys-len c = omega (arith, c.requires.short)

pub same-requires : goal.same-requires
same-requires c = length-take-le _ _ (omega (arith, c.requires.cells_long, c.gather.auto.to, c.sort_rows.auto.order)) ∙ sym (part-size c.lay_out.new.keys (length c.args.order.now) (length c.args.order.now) (omega (arith, key-long c.args.n c.args.m c.args.b c.args.order.now c.args.keys.now c.args.cells.now c.args.spare.now c.args.counts.now c.requires c.lay_out.new.keys c.lay_out.ensures, c.requires.keys_long)))

pub returns : goal.returns
returns c = matched-compared c.args.n c.args.m c.args.b c.args.order.now c.args.keys.now c.args.cells.now c.args.spare.now c.args.counts.now c.requires c.lay_out.new.keys c.lay_out.ensures c.distinct-classes.result c.distinct-classes.new.reps c.distinct-classes.new.ids c.distinct-classes.ensures.distinct (omega (arith, c.requires.spare_long, c.sort_rows.auto.spare, c.distinct-classes.auto.reps)) c.gather.new.to c.sort_rows.new.order c.gather.ensures (omega (arith, c.requires.size, c.requires.cells_long, c.gather.auto.to, c.sort_rows.auto.order)) c.if-classes-m.false c.same.result c.same.ensures.equal c.same.ensures.differ
