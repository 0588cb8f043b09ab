-- `coarse::name` meets its contract: the order's words, or the cells copied (proofs/Reading). Assumes nothing.
use mathlib.Core.Bool.{true}
use mathlib.Core.Path.{sym, ◌∙◌}
use lib.Seq.{length-take-le}
use Rattle.refine.proofs.Reading.{fits-cells, fits_along, named-plain, by_order, by-cells}
use Rattle.refine.proofs.coarse.name.Goals as goal

pub ordered-requires : goal.ordered-requires
ordered-requires c = c.requires

pub returns-then-with_order : goal.returns-then-with_order
returns-then-with_order c = by_order c.args.with_order c.if-with_order.true c.args.d c.args.m c.args.given.now c.args.order.now c.ordered.result c.ordered.new.cells c.ordered.new.along c.ordered.ensures

pub slice_bounds-copy-end : goal.slice_bounds-copy-end
slice_bounds-copy-end c = fits-cells c.args.d c.args.m c.args.given.now c.args.cells.now c.args.along.now c.args.keys.now c.args.spare.now c.args.counts.now c.requires

pub slice_bounds-copy-end-2 : goal.slice_bounds-copy-end-2
slice_bounds-copy-end-2 c = sym (length-take-le _ _ (fits-cells c.args.d c.args.m c.args.given.now c.args.cells.now c.args.along.now c.args.keys.now c.args.spare.now c.args.counts.now c.requires))

pub slice_bounds-copy-end-3 : goal.slice_bounds-copy-end-3
slice_bounds-copy-end-3 c = fits_along c.args.d c.args.m c.args.given.now c.args.cells.now c.args.along.now c.args.keys.now c.args.spare.now c.args.counts.now c.requires

pub slice_bounds-copy-end-4 : goal.slice_bounds-copy-end-4
slice_bounds-copy-end-4 c = sym (length-take-le _ _ (fits_along c.args.d c.args.m c.args.given.now c.args.cells.now c.args.along.now c.args.keys.now c.args.spare.now c.args.counts.now c.requires))

pub copy-requires : goal.copy-requires
copy-requires c = length-take-le _ _ (fits_along c.args.d c.args.m c.args.given.now c.args.cells.now c.args.along.now c.args.keys.now c.args.spare.now c.args.counts.now c.requires) ∙ sym (length-take-le _ _ (fits-cells c.args.d c.args.m c.args.given.now c.args.cells.now c.args.along.now c.args.keys.now c.args.spare.now c.args.counts.now c.requires))

pub returns : goal.returns
returns c = by-cells c.args.with_order c.if-with_order.false c.args.d c.args.m c.args.given.now c.args.order.now true c.args.cells.now _ (named-plain c.args.d c.args.m c.args.given.now c.args.cells.now c.args.along.now c.args.keys.now c.args.spare.now c.args.counts.now c.requires c.args.order.now c.copy.new.dst c.copy.ensures)
