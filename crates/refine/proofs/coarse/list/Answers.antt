-- `coarse::list` meets its contract: each call asks what the calls before it gave (proofs/Reading). Assumes nothing.
use mathlib.Core.Path.{sym, ◌∙◌}
use lib.Seq.{length-take-le}
use Rattle.refine.proofs.Reading.{size-in-rows, size-in-cells, meeting, list-crowded, list-cells}
use Rattle.refine.proofs.coarse.list.Goals as goal

pub slice_bounds-copy-end : goal.slice_bounds-copy-end
slice_bounds-copy-end c = size-in-rows c.args.d c.args.words.now c.args.cells.now c.args.keys.now c.args.rows.now c.args.spare.now c.args.counts.now c.requires c.cells-m.result c.cells-m.new.keys c.cells-m.new.rows c.cells-m.new.spare c.cells-m.new.counts c.cells-m.auto.keys c.cells-m.auto.rows c.cells-m.auto.spare c.cells-m.auto.counts c.cells-m.ensures

pub slice_bounds-copy-end-2 : goal.slice_bounds-copy-end-2
slice_bounds-copy-end-2 c = sym (length-take-le _ _ (size-in-rows c.args.d c.args.words.now c.args.cells.now c.args.keys.now c.args.rows.now c.args.spare.now c.args.counts.now c.requires c.cells-m.result c.cells-m.new.keys c.cells-m.new.rows c.cells-m.new.spare c.cells-m.new.counts c.cells-m.auto.keys c.cells-m.auto.rows c.cells-m.auto.spare c.cells-m.auto.counts c.cells-m.ensures))

pub slice_bounds-copy-end-3 : goal.slice_bounds-copy-end-3
slice_bounds-copy-end-3 c = size-in-cells c.args.d c.args.words.now c.args.cells.now c.args.keys.now c.args.rows.now c.args.spare.now c.args.counts.now c.requires c.cells-m.result c.cells-m.new.keys c.cells-m.new.rows c.cells-m.new.spare c.cells-m.new.counts c.cells-m.auto.keys c.cells-m.auto.rows c.cells-m.auto.spare c.cells-m.auto.counts c.cells-m.ensures

pub slice_bounds-copy-end-4 : goal.slice_bounds-copy-end-4
slice_bounds-copy-end-4 c = sym (length-take-le _ _ (size-in-cells c.args.d c.args.words.now c.args.cells.now c.args.keys.now c.args.rows.now c.args.spare.now c.args.counts.now c.requires c.cells-m.result c.cells-m.new.keys c.cells-m.new.rows c.cells-m.new.spare c.cells-m.new.counts c.cells-m.auto.keys c.cells-m.auto.rows c.cells-m.auto.spare c.cells-m.auto.counts c.cells-m.ensures))

pub copy-requires : goal.copy-requires
copy-requires c = length-take-le _ _ (size-in-cells c.args.d c.args.words.now c.args.cells.now c.args.keys.now c.args.rows.now c.args.spare.now c.args.counts.now c.requires c.cells-m.result c.cells-m.new.keys c.cells-m.new.rows c.cells-m.new.spare c.cells-m.new.counts c.cells-m.auto.keys c.cells-m.auto.rows c.cells-m.auto.spare c.cells-m.auto.counts c.cells-m.ensures) ∙ sym (length-take-le _ _ (size-in-rows c.args.d c.args.words.now c.args.cells.now c.args.keys.now c.args.rows.now c.args.spare.now c.args.counts.now c.requires c.cells-m.result c.cells-m.new.keys c.cells-m.new.rows c.cells-m.new.spare c.cells-m.new.counts c.cells-m.auto.keys c.cells-m.auto.rows c.cells-m.auto.spare c.cells-m.auto.counts c.cells-m.ensures))

pub mates-requires : goal.mates-requires
mates-requires c = meeting c.args.d c.args.words.now c.args.cells.now c.args.keys.now c.args.rows.now c.args.spare.now c.args.counts.now c.requires c.cells-m.result c.cells-m.new.keys c.cells-m.new.rows c.cells-m.new.spare c.cells-m.new.counts c.cells-m.auto.keys c.cells-m.auto.rows c.cells-m.auto.spare c.cells-m.auto.counts c.cells-m.ensures

pub returns-then-not-mates : goal.returns-then-not-mates
returns-then-not-mates c = list-crowded c.args.d c.args.words.now c.args.cells.now c.args.keys.now c.args.rows.now c.args.spare.now c.args.counts.now c.requires c.cells-m.result c.cells-m.new.keys c.cells-m.new.rows c.cells-m.new.spare c.cells-m.new.counts c.cells-m.auto.keys c.cells-m.auto.rows c.cells-m.auto.spare c.cells-m.auto.counts c.cells-m.ensures _ (c.mates.ensures.crowd (c.if-not-mates.true))

pub returns : goal.returns
returns c = list-cells c.args.d c.args.words.now c.args.cells.now c.args.keys.now c.args.rows.now c.args.spare.now c.args.counts.now c.requires c.cells-m.result c.cells-m.new.keys c.cells-m.new.rows c.cells-m.new.spare c.cells-m.new.counts c.cells-m.auto.keys c.cells-m.auto.rows c.cells-m.auto.spare c.cells-m.auto.counts c.cells-m.ensures c.mates.new.rows c.copy.new.dst (c.mates.ensures.all (c.if-not-mates.false)) c.copy.ensures
