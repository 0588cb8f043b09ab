-- `grid_order::work` meets its contract: each call asks what the calls before it gave (proofs/Finish). Assumes nothing.
use mathlib.Core.Path.{sym, ◌∙◌}
use native.Mathlib.Omega.{arith}
use lib.Seq.{length-take-le}
use Rattle.grid_words.proofs.Corners.{dim}
use Rattle.grid_mesh.proofs.Steps.{corners-few, corners-are}
use Rattle.grid_order.proofs.Finish.{finding, at_small, laying, front-holds, meets, worked-crowded, lent, part-fits, keys_kept, size_small, agreeing, handing, worked-out}
use Rattle.grid_order.proofs.work.Goals as goal

pub cells-m-requires : goal.cells-m-requires
cells-m-requires c = finding c.args.grid c.args.at c.args.keys.now c.args.rows.now c.args.spare.now c.args.counts.now c.requires

pub offset_bounds-keys-at : goal.offset_bounds-keys-at
offset_bounds-keys-at c = omega (arith, at_small c.args.grid c.args.at c.args.keys.now c.args.rows.now c.args.spare.now c.args.counts.now c.requires)

pub lay_out-requires : goal.lay_out-requires
lay_out-requires c = laying c.args.grid c.args.at c.args.keys.now c.args.rows.now c.args.spare.now c.args.counts.now c.requires c.cells-m.result c.cells-m.new.keys c.cells-m.new.rows c.cells-m.new.spare c.cells-m.new.counts c.cells-m.auto.keys c.cells-m.auto.rows c.cells-m.auto.spare c.cells-m.auto.counts c.cells-m.ensures

pub overflow_mul-count : goal.overflow_mul-count
overflow_mul-count c = omega (arith, corners-few c.args.grid c.requires.taken, corners-are c.args.grid c.requires.taken _ c.cells-count.ensures)

pub slice_bounds-mates-end-2 : goal.slice_bounds-mates-end-2
slice_bounds-mates-end-2 c = sym (length-take-le _ _ (front-holds c.args.grid c.args.at c.args.keys.now c.args.rows.now c.args.spare.now c.args.counts.now c.requires c.cells-m.result c.cells-m.new.keys c.cells-m.new.rows c.cells-m.new.spare c.cells-m.new.counts c.cells-m.auto.keys c.cells-m.auto.rows c.cells-m.auto.spare c.cells-m.auto.counts c.cells-m.ensures c.lay_out.new.list c.lay_out.new.rows c.lay_out.new.table c.lay_out.auto.list c.lay_out.auto.rows c.lay_out.auto.table c.lay_out.ensures))

pub mates-requires : goal.mates-requires
mates-requires c = meets c.args.grid c.args.at c.args.keys.now c.args.rows.now c.args.spare.now c.args.counts.now c.requires c.cells-m.result c.cells-m.new.keys c.cells-m.new.rows c.cells-m.new.spare c.cells-m.new.counts c.cells-m.auto.keys c.cells-m.auto.rows c.cells-m.auto.spare c.cells-m.auto.counts c.cells-m.ensures c.lay_out.new.list c.lay_out.new.rows c.lay_out.new.table c.lay_out.auto.list c.lay_out.auto.rows c.lay_out.auto.table c.lay_out.ensures _ (corners-are c.args.grid c.requires.taken _ c.cells-count.ensures)

pub returns-then-not-mates : goal.returns-then-not-mates
returns-then-not-mates c = worked-crowded c.args.grid c.args.at c.args.keys.now c.args.rows.now c.args.spare.now c.args.counts.now c.requires c.cells-m.result c.cells-m.new.keys c.cells-m.new.rows c.cells-m.new.spare c.cells-m.new.counts c.cells-m.auto.keys c.cells-m.auto.rows c.cells-m.auto.spare c.cells-m.auto.counts c.cells-m.ensures c.lay_out.new.list c.lay_out.new.rows c.lay_out.new.table c.lay_out.auto.list c.lay_out.auto.rows c.lay_out.auto.table c.lay_out.ensures c.args.cells.now c.args.order.now (c.mates.ensures.crowd (c.if-not-mates.true))

pub offset_bounds-keys-at-2 : goal.offset_bounds-keys-at-2
offset_bounds-keys-at-2 c = omega (arith, at_small c.args.grid c.args.at c.args.keys.now c.args.rows.now c.args.spare.now c.args.counts.now c.requires)

pub slice_bounds-decide-count : goal.slice_bounds-decide-count
slice_bounds-decide-count c = part-fits c.args.grid c.args.at c.args.keys.now c.args.rows.now c.args.spare.now c.args.counts.now c.requires c.cells-m.result c.cells-m.new.keys c.cells-m.new.rows c.cells-m.new.spare c.cells-m.new.counts c.cells-m.auto.keys c.cells-m.auto.rows c.cells-m.auto.spare c.cells-m.auto.counts c.cells-m.ensures c.lay_out.new.list c.lay_out.new.rows c.lay_out.new.table c.lay_out.auto.list c.lay_out.auto.rows c.lay_out.auto.table c.lay_out.ensures c.mates.new.keys c.mates.new.rows c.mates.auto.keys c.mates.auto.rows (c.mates.ensures.all (c.if-not-mates.false))

pub slice_bounds-decide-start : goal.slice_bounds-decide-start
slice_bounds-decide-start c = part-fits c.args.grid c.args.at c.args.keys.now c.args.rows.now c.args.spare.now c.args.counts.now c.requires c.cells-m.result c.cells-m.new.keys c.cells-m.new.rows c.cells-m.new.spare c.cells-m.new.counts c.cells-m.auto.keys c.cells-m.auto.rows c.cells-m.auto.spare c.cells-m.auto.counts c.cells-m.ensures c.lay_out.new.list c.lay_out.new.rows c.lay_out.new.table c.lay_out.auto.list c.lay_out.auto.rows c.lay_out.auto.table c.lay_out.ensures c.mates.new.keys c.mates.new.rows c.mates.auto.keys c.mates.auto.rows (c.mates.ensures.all (c.if-not-mates.false))

pub decide-ordered-requires : goal.decide-ordered-requires
decide-ordered-requires c = agreeing c.args.grid c.args.at c.args.keys.now c.args.rows.now c.args.spare.now c.args.counts.now c.requires c.cells-m.result c.cells-m.new.keys c.cells-m.new.rows c.cells-m.new.spare c.cells-m.new.counts c.cells-m.auto.keys c.cells-m.auto.rows c.cells-m.auto.spare c.cells-m.auto.counts c.cells-m.ensures c.lay_out.new.list c.lay_out.new.rows c.lay_out.new.table c.lay_out.auto.list c.lay_out.auto.rows c.lay_out.auto.table c.lay_out.ensures c.mates.new.keys c.mates.new.rows c.mates.auto.keys c.mates.auto.rows (c.mates.ensures.all (c.if-not-mates.false)) _ (lent c.args.grid c.args.at c.args.keys.now c.args.rows.now c.args.spare.now c.args.counts.now c.requires c.cells-m.result c.cells-m.new.keys c.cells-m.new.rows c.cells-m.new.spare c.cells-m.new.counts c.cells-m.auto.keys c.cells-m.auto.rows c.cells-m.auto.spare c.cells-m.auto.counts c.cells-m.ensures c.lay_out.new.list c.lay_out.new.rows c.lay_out.new.table c.lay_out.auto.list c.lay_out.auto.rows c.lay_out.auto.table c.lay_out.ensures c.mates.new.keys c.mates.new.rows c.mates.auto.keys c.mates.auto.rows (c.mates.ensures.all (c.if-not-mates.false)))

pub overflow_add-d-2 : goal.overflow_add-d-2
overflow_add-d-2 c = omega (arith, dim c.args.grid c.requires.taken)

pub overflow_mul-m : goal.overflow_mul-m
overflow_mul-m c = omega (arith, size_small c.args.grid c.args.at c.args.keys.now c.args.rows.now c.args.spare.now c.args.counts.now c.requires c.cells-m.result c.cells-m.new.keys c.cells-m.new.rows c.cells-m.new.spare c.cells-m.new.counts c.cells-m.auto.keys c.cells-m.auto.rows c.cells-m.auto.spare c.cells-m.auto.counts c.cells-m.ensures c.lay_out.new.list c.lay_out.new.rows c.lay_out.new.table c.lay_out.auto.list c.lay_out.auto.rows c.lay_out.auto.table c.lay_out.ensures c.mates.new.keys c.mates.new.rows c.mates.auto.keys c.mates.auto.rows (c.mates.ensures.all (c.if-not-mates.false)))

pub offset_bounds-keys-at-3 : goal.offset_bounds-keys-at-3
offset_bounds-keys-at-3 c = omega (arith, at_small c.args.grid c.args.at c.args.keys.now c.args.rows.now c.args.spare.now c.args.counts.now c.requires)

pub slice_bounds-hand_out-count : goal.slice_bounds-hand_out-count
slice_bounds-hand_out-count c = part-fits c.args.grid c.args.at c.args.keys.now c.args.rows.now c.args.spare.now c.args.counts.now c.requires c.cells-m.result c.cells-m.new.keys c.cells-m.new.rows c.cells-m.new.spare c.cells-m.new.counts c.cells-m.auto.keys c.cells-m.auto.rows c.cells-m.auto.spare c.cells-m.auto.counts c.cells-m.ensures c.lay_out.new.list c.lay_out.new.rows c.lay_out.new.table c.lay_out.auto.list c.lay_out.auto.rows c.lay_out.auto.table c.lay_out.ensures c.mates.new.keys c.mates.new.rows c.mates.auto.keys c.mates.auto.rows (c.mates.ensures.all (c.if-not-mates.false))

pub slice_bounds-hand_out-start : goal.slice_bounds-hand_out-start
slice_bounds-hand_out-start c = part-fits c.args.grid c.args.at c.args.keys.now c.args.rows.now c.args.spare.now c.args.counts.now c.requires c.cells-m.result c.cells-m.new.keys c.cells-m.new.rows c.cells-m.new.spare c.cells-m.new.counts c.cells-m.auto.keys c.cells-m.auto.rows c.cells-m.auto.spare c.cells-m.auto.counts c.cells-m.ensures c.lay_out.new.list c.lay_out.new.rows c.lay_out.new.table c.lay_out.auto.list c.lay_out.auto.rows c.lay_out.auto.table c.lay_out.ensures c.mates.new.keys c.mates.new.rows c.mates.auto.keys c.mates.auto.rows (c.mates.ensures.all (c.if-not-mates.false))

pub hand_out-requires : goal.hand_out-requires
hand_out-requires c = handing c.args.grid c.args.at c.args.keys.now c.args.rows.now c.args.spare.now c.args.counts.now c.requires c.cells-m.result c.cells-m.new.keys c.cells-m.new.rows c.cells-m.new.spare c.cells-m.new.counts c.cells-m.auto.keys c.cells-m.auto.rows c.cells-m.auto.spare c.cells-m.auto.counts c.cells-m.ensures c.lay_out.new.list c.lay_out.new.rows c.lay_out.new.table c.lay_out.auto.list c.lay_out.auto.rows c.lay_out.auto.table c.lay_out.ensures c.mates.new.keys c.mates.new.rows c.mates.auto.keys c.mates.auto.rows (c.mates.ensures.all (c.if-not-mates.false)) _ (lent c.args.grid c.args.at c.args.keys.now c.args.rows.now c.args.spare.now c.args.counts.now c.requires c.cells-m.result c.cells-m.new.keys c.cells-m.new.rows c.cells-m.new.spare c.cells-m.new.counts c.cells-m.auto.keys c.cells-m.auto.rows c.cells-m.auto.spare c.cells-m.auto.counts c.cells-m.ensures c.lay_out.new.list c.lay_out.new.rows c.lay_out.new.table c.lay_out.auto.list c.lay_out.auto.rows c.lay_out.auto.table c.lay_out.ensures c.mates.new.keys c.mates.new.rows c.mates.auto.keys c.mates.auto.rows (c.mates.ensures.all (c.if-not-mates.false)))

pub shape_of-keys : goal.shape_of-keys
shape_of-keys c = keys_kept c.args.grid c.args.at c.args.keys.now c.args.rows.now c.args.spare.now c.args.counts.now c.requires c.cells-m.result c.cells-m.new.keys c.cells-m.new.rows c.cells-m.new.spare c.cells-m.new.counts c.cells-m.auto.keys c.cells-m.auto.rows c.cells-m.auto.spare c.cells-m.auto.counts c.cells-m.ensures c.lay_out.new.list c.lay_out.new.rows c.lay_out.new.table c.lay_out.auto.list c.lay_out.auto.rows c.lay_out.auto.table c.lay_out.ensures c.mates.new.keys c.mates.new.rows c.mates.auto.keys c.mates.auto.rows (c.mates.ensures.all (c.if-not-mates.false))

pub shape_of-rows : goal.shape_of-rows
shape_of-rows c = c.mates.auto.rows ∙ c.lay_out.auto.rows ∙ c.cells-m.auto.rows

pub shape_of-spare : goal.shape_of-spare
shape_of-spare c = c.mates.auto.spare ∙ c.cells-m.auto.spare

pub shape_of-counts : goal.shape_of-counts
shape_of-counts c = c.mates.auto.counts ∙ c.lay_out.auto.table ∙ c.cells-m.auto.counts

pub returns : goal.returns
returns c = worked-out c.args.grid c.args.at c.args.keys.now c.args.rows.now c.args.spare.now c.args.counts.now c.requires c.cells-m.result c.cells-m.new.keys c.cells-m.new.rows c.cells-m.new.spare c.cells-m.new.counts c.cells-m.auto.keys c.cells-m.auto.rows c.cells-m.auto.spare c.cells-m.auto.counts c.cells-m.ensures c.lay_out.new.list c.lay_out.new.rows c.lay_out.new.table c.lay_out.auto.list c.lay_out.auto.rows c.lay_out.auto.table c.lay_out.ensures c.mates.new.keys c.mates.new.rows c.mates.auto.keys c.mates.auto.rows (c.mates.ensures.all (c.if-not-mates.false)) _ (lent c.args.grid c.args.at c.args.keys.now c.args.rows.now c.args.spare.now c.args.counts.now c.requires c.cells-m.result c.cells-m.new.keys c.cells-m.new.rows c.cells-m.new.spare c.cells-m.new.counts c.cells-m.auto.keys c.cells-m.auto.rows c.cells-m.auto.spare c.cells-m.auto.counts c.cells-m.ensures c.lay_out.new.list c.lay_out.new.rows c.lay_out.new.table c.lay_out.auto.list c.lay_out.auto.rows c.lay_out.auto.table c.lay_out.ensures c.mates.new.keys c.mates.new.rows c.mates.auto.keys c.mates.auto.rows (c.mates.ensures.all (c.if-not-mates.false))) _ c.cells-count.ensures c.decide-ordered.result c.decide-ordered.ensures c.hand_out.result c.args.cells.now c.hand_out.new.cells c.args.order.now c.hand_out.new.order c.hand_out.ensures
