-- `coarse::ordered` meets its contract: what is arranged is copied (proofs/Reading). Assumes nothing.
use mathlib.Core.Path.{sym, ◌∙◌}
use lib.Seq.{length-take-le}
use Rattle.refine.proofs.Reading.{fits_along, arranging, fits-keys, named_none, named-order}
use Rattle.refine.proofs.coarse.ordered.Goals as goal

pub arrange-requires : goal.arrange-requires
arrange-requires c = arranging c.args.d c.args.m c.args.given.now c.args.cells.now c.args.along.now c.args.keys.now c.args.spare.now c.args.counts.now c.requires

pub returns-then-not-arrange : goal.returns-then-not-arrange
returns-then-not-arrange c = named_none c.args.d c.args.m c.args.given.now c.args.cells.now c.args.along.now c.args.keys.now c.args.spare.now c.args.counts.now c.requires c.args.order.now c.arrange.result c.arrange.new.keys c.arrange.new.cells c.arrange.auto.keys c.arrange.auto.cells c.arrange.ensures _ (c.if-not-arrange.true)

pub slice_bounds-copy-end : goal.slice_bounds-copy-end
slice_bounds-copy-end c = fits-keys c.args.d c.args.m c.args.given.now c.args.cells.now c.args.along.now c.args.keys.now c.args.spare.now c.args.counts.now c.requires c.args.order.now c.arrange.result c.arrange.new.keys c.arrange.new.cells c.arrange.auto.keys c.arrange.auto.cells c.arrange.ensures

pub slice_bounds-copy-end-2 : goal.slice_bounds-copy-end-2
slice_bounds-copy-end-2 c = sym (length-take-le _ _ (fits-keys c.args.d c.args.m c.args.given.now c.args.cells.now c.args.along.now c.args.keys.now c.args.spare.now c.args.counts.now c.requires c.args.order.now c.arrange.result c.arrange.new.keys c.arrange.new.cells c.arrange.auto.keys c.arrange.auto.cells c.arrange.ensures))

pub slice_bounds-copy-end-3 : goal.slice_bounds-copy-end-3
slice_bounds-copy-end-3 c = fits_along c.args.d c.args.m c.args.given.now c.args.cells.now c.args.along.now c.args.keys.now c.args.spare.now c.args.counts.now c.requires

pub slice_bounds-copy-end-4 : goal.slice_bounds-copy-end-4
slice_bounds-copy-end-4 c = sym (length-take-le _ _ (fits_along c.args.d c.args.m c.args.given.now c.args.cells.now c.args.along.now c.args.keys.now c.args.spare.now c.args.counts.now c.requires))

pub copy-requires : goal.copy-requires
copy-requires c = length-take-le _ _ (fits_along c.args.d c.args.m c.args.given.now c.args.cells.now c.args.along.now c.args.keys.now c.args.spare.now c.args.counts.now c.requires) ∙ sym (length-take-le _ _ (fits-keys c.args.d c.args.m c.args.given.now c.args.cells.now c.args.along.now c.args.keys.now c.args.spare.now c.args.counts.now c.requires c.args.order.now c.arrange.result c.arrange.new.keys c.arrange.new.cells c.arrange.auto.keys c.arrange.auto.cells c.arrange.ensures))

pub returns : goal.returns
returns c = named-order c.args.d c.args.m c.args.given.now c.args.cells.now c.args.along.now c.args.keys.now c.args.spare.now c.args.counts.now c.requires c.args.order.now c.arrange.result c.arrange.new.keys c.arrange.new.cells c.arrange.auto.keys c.arrange.auto.cells c.arrange.ensures c.copy.new.dst (c.if-not-arrange.false) c.copy.ensures
