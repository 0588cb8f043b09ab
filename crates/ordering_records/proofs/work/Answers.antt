-- `ordering_records::work` meets its contract: each call asks what the calls before it gave (proofs/Steps). Assumes nothing.
use borrow.Author.Rules.{rules}
use Rattle.ordering_records.proofs.Steps.{passing, work-crowded, work-unordered, handing, handed_out_lem, keys_long, kept-long}
use Rattle.ordering.proofs.Steps.{making, arranging, at-fits, front_fits}
use lib.Seq.{length-take-le}
use native.Mathlib.Omega.{arith}
use mathlib.Core.Path.{sym}
use Rattle.ordering_records.proofs.work.Goals as goal

pub cells-m-requires : goal.cells-m-requires
cells-m-requires c = making c.args.d c.args.at c.args.words.now c.args.keys.now c.args.rows.now c.args.spare.now c.args.counts.now c.requires

pub offset_bounds-keys-at : goal.offset_bounds-keys-at
offset_bounds-keys-at c = omega (arith, at-fits c.args.d c.args.at c.args.words.now c.args.keys.now c.args.rows.now c.args.spare.now c.args.counts.now c.requires c.cells-m.result c.cells-m.new.keys c.cells-m.new.rows c.cells-m.new.spare c.cells-m.new.counts c.cells-m.auto.keys c.cells-m.auto.rows c.cells-m.auto.spare c.cells-m.auto.counts c.cells-m.ensures, c.cells-m.auto.keys, c.requires.keys_long)

pub slice_bounds-arrange-start : goal.slice_bounds-arrange-start
slice_bounds-arrange-start c = at-fits c.args.d c.args.at c.args.words.now c.args.keys.now c.args.rows.now c.args.spare.now c.args.counts.now c.requires c.cells-m.result c.cells-m.new.keys c.cells-m.new.rows c.cells-m.new.spare c.cells-m.new.counts c.cells-m.auto.keys c.cells-m.auto.rows c.cells-m.auto.spare c.cells-m.auto.counts c.cells-m.ensures

pub arrange-fits-requires : goal.arrange-fits-requires
arrange-fits-requires c = arranging c.args.d c.args.at c.args.words.now c.args.keys.now c.args.rows.now c.args.spare.now c.args.counts.now c.requires c.cells-m.result c.cells-m.new.keys c.cells-m.new.rows c.cells-m.new.spare c.cells-m.new.counts c.cells-m.auto.keys c.cells-m.auto.rows c.cells-m.auto.spare c.cells-m.auto.counts c.cells-m.ensures

pub slice_bounds-facets-end : goal.slice_bounds-facets-end
slice_bounds-facets-end c = front_fits c.args.d c.args.at c.args.words.now c.args.keys.now c.args.rows.now c.args.spare.now c.args.counts.now c.requires c.cells-m.result c.cells-m.new.keys c.cells-m.new.rows c.cells-m.new.spare c.cells-m.new.counts c.cells-m.auto.keys c.cells-m.auto.rows c.cells-m.auto.spare c.cells-m.auto.counts c.cells-m.ensures c.args.order.now c.arrange-fits.result c.arrange-fits.new.keys c.arrange-fits.new.cells c.arrange-fits.new.spare c.arrange-fits.new.counts c.arrange-fits.auto.keys c.arrange-fits.auto.cells c.arrange-fits.auto.spare c.arrange-fits.auto.counts c.arrange-fits.ensures

pub slice_bounds-facets-end-2 : goal.slice_bounds-facets-end-2
slice_bounds-facets-end-2 c = sym (length-take-le _ _ (front_fits c.args.d c.args.at c.args.words.now c.args.keys.now c.args.rows.now c.args.spare.now c.args.counts.now c.requires c.cells-m.result c.cells-m.new.keys c.cells-m.new.rows c.cells-m.new.spare c.cells-m.new.counts c.cells-m.auto.keys c.cells-m.auto.rows c.cells-m.auto.spare c.cells-m.auto.counts c.cells-m.ensures c.args.order.now c.arrange-fits.result c.arrange-fits.new.keys c.arrange-fits.new.cells c.arrange-fits.new.spare c.arrange-fits.new.counts c.arrange-fits.auto.keys c.arrange-fits.auto.cells c.arrange-fits.auto.spare c.arrange-fits.auto.counts c.arrange-fits.ensures))

pub facets-requires : goal.facets-requires
facets-requires c = passing c.args.d c.args.at c.args.words.now c.args.keys.now c.args.rows.now c.args.spare.now c.args.counts.now c.requires c.cells-m.result c.cells-m.new.keys c.cells-m.new.rows c.cells-m.new.spare c.cells-m.new.counts c.cells-m.auto.keys c.cells-m.auto.rows c.cells-m.auto.spare c.cells-m.auto.counts c.cells-m.ensures c.args.order.now c.arrange-fits.result c.arrange-fits.new.keys c.arrange-fits.new.cells c.arrange-fits.new.spare c.arrange-fits.new.counts c.arrange-fits.auto.keys c.arrange-fits.auto.cells c.arrange-fits.auto.spare c.arrange-fits.auto.counts c.arrange-fits.ensures

pub returns-in_default : goal.returns-in_default
returns-in_default c = work-crowded c.args.d c.args.at c.args.words.now c.args.keys.now c.args.rows.now c.args.spare.now c.args.counts.now c.requires c.cells-m.result c.cells-m.new.keys c.cells-m.new.rows c.cells-m.new.spare c.cells-m.new.counts c.cells-m.auto.keys c.cells-m.auto.rows c.cells-m.auto.spare c.cells-m.auto.counts c.cells-m.ensures c.args.order.now c.arrange-fits.result c.arrange-fits.new.keys c.arrange-fits.new.cells c.arrange-fits.new.spare c.arrange-fits.new.counts c.arrange-fits.auto.keys c.arrange-fits.auto.cells c.arrange-fits.auto.spare c.arrange-fits.auto.counts c.arrange-fits.ensures c.facets.result 0 c.facets.new.keys c.facets.new.rows c.facets.new.spare c.facets.new.counts c.facets.auto.keys c.facets.ensures (search rules) c.args.facets.now c.args.records.now

pub shape_of-keys-then-not-fits : goal.shape_of-keys-then-not-fits
shape_of-keys-then-not-fits c = keys_long c.args.d c.args.at c.args.words.now c.args.keys.now c.args.rows.now c.args.spare.now c.args.counts.now c.requires c.cells-m.result c.cells-m.new.keys c.cells-m.new.rows c.cells-m.new.spare c.cells-m.new.counts c.cells-m.auto.keys c.cells-m.auto.rows c.cells-m.auto.spare c.cells-m.auto.counts c.cells-m.ensures c.args.order.now c.arrange-fits.result c.arrange-fits.new.keys c.arrange-fits.new.cells c.arrange-fits.new.spare c.arrange-fits.new.counts c.arrange-fits.auto.keys c.arrange-fits.auto.cells c.arrange-fits.auto.spare c.arrange-fits.auto.counts c.arrange-fits.ensures c.facets.result c.in-Some.f c.facets.new.keys c.facets.new.rows c.facets.new.spare c.facets.new.counts c.facets.auto.keys c.facets.ensures c.in-Some.is

pub returns-then-not-fits : goal.returns-then-not-fits
returns-then-not-fits c = work-unordered c.args.d c.args.at c.args.words.now c.args.keys.now c.args.rows.now c.args.spare.now c.args.counts.now c.requires c.cells-m.result c.cells-m.new.keys c.cells-m.new.rows c.cells-m.new.spare c.cells-m.new.counts c.cells-m.auto.keys c.cells-m.auto.rows c.cells-m.auto.spare c.cells-m.auto.counts c.cells-m.ensures c.args.order.now c.arrange-fits.result c.arrange-fits.new.keys c.arrange-fits.new.cells c.arrange-fits.new.spare c.arrange-fits.new.counts c.arrange-fits.auto.keys c.arrange-fits.auto.cells c.arrange-fits.auto.spare c.arrange-fits.auto.counts c.arrange-fits.ensures c.facets.result c.in-Some.f c.facets.new.keys c.facets.new.rows c.facets.new.spare c.facets.new.counts c.facets.auto.keys c.facets.ensures c.in-Some.is (c.if-not-fits.true) c.args.facets.now c.args.records.now

pub hand_out-requires : goal.hand_out-requires
hand_out-requires c = handing c.args.d c.args.at c.args.words.now c.args.keys.now c.args.rows.now c.args.spare.now c.args.counts.now c.requires c.cells-m.result c.cells-m.new.keys c.cells-m.new.rows c.cells-m.new.spare c.cells-m.new.counts c.cells-m.auto.keys c.cells-m.auto.rows c.cells-m.auto.spare c.cells-m.auto.counts c.cells-m.ensures c.args.order.now c.arrange-fits.result c.arrange-fits.new.keys c.arrange-fits.new.cells c.arrange-fits.new.spare c.arrange-fits.new.counts c.arrange-fits.auto.keys c.arrange-fits.auto.cells c.arrange-fits.auto.spare c.arrange-fits.auto.counts c.arrange-fits.ensures c.facets.result c.in-Some.f c.facets.new.keys c.facets.new.rows c.facets.new.spare c.facets.new.counts c.facets.auto.keys c.facets.ensures c.in-Some.is (c.if-not-fits.false)

pub shape_of-keys : goal.shape_of-keys
shape_of-keys c = keys_long c.args.d c.args.at c.args.words.now c.args.keys.now c.args.rows.now c.args.spare.now c.args.counts.now c.requires c.cells-m.result c.cells-m.new.keys c.cells-m.new.rows c.cells-m.new.spare c.cells-m.new.counts c.cells-m.auto.keys c.cells-m.auto.rows c.cells-m.auto.spare c.cells-m.auto.counts c.cells-m.ensures c.args.order.now c.arrange-fits.result c.arrange-fits.new.keys c.arrange-fits.new.cells c.arrange-fits.new.spare c.arrange-fits.new.counts c.arrange-fits.auto.keys c.arrange-fits.auto.cells c.arrange-fits.auto.spare c.arrange-fits.auto.counts c.arrange-fits.ensures c.facets.result c.in-Some.f c.facets.new.keys c.facets.new.rows c.facets.new.spare c.facets.new.counts c.facets.auto.keys c.facets.ensures c.in-Some.is

pub shape_of-rows : goal.shape_of-rows
shape_of-rows c = kept-long c.facets.new.rows c.arrange-fits.new.cells c.cells-m.new.rows c.args.rows.now c.facets.auto.rows c.arrange-fits.auto.cells c.cells-m.auto.rows

pub shape_of-spare : goal.shape_of-spare
shape_of-spare c = kept-long c.facets.new.spare c.arrange-fits.new.spare c.cells-m.new.spare c.args.spare.now c.facets.auto.spare c.arrange-fits.auto.spare c.cells-m.auto.spare

pub shape_of-counts : goal.shape_of-counts
shape_of-counts c = kept-long c.facets.new.counts c.arrange-fits.new.counts c.cells-m.new.counts c.args.counts.now c.facets.auto.counts c.arrange-fits.auto.counts c.cells-m.auto.counts

pub returns : goal.returns
returns c = handed_out_lem c.args.d c.args.at c.args.words.now c.args.keys.now c.args.rows.now c.args.spare.now c.args.counts.now c.requires c.cells-m.result c.cells-m.new.keys c.cells-m.new.rows c.cells-m.new.spare c.cells-m.new.counts c.cells-m.auto.keys c.cells-m.auto.rows c.cells-m.auto.spare c.cells-m.auto.counts c.cells-m.ensures c.args.order.now c.arrange-fits.result c.arrange-fits.new.keys c.arrange-fits.new.cells c.arrange-fits.new.spare c.arrange-fits.new.counts c.arrange-fits.auto.keys c.arrange-fits.auto.cells c.arrange-fits.auto.spare c.arrange-fits.auto.counts c.arrange-fits.ensures c.facets.result c.in-Some.f c.facets.new.keys c.facets.new.rows c.facets.new.spare c.facets.new.counts c.facets.auto.keys c.facets.ensures c.in-Some.is (c.if-not-fits.false) c.hand_out.result c.args.facets.now c.hand_out.new.facets c.args.records.now c.hand_out.new.records c.hand_out.ensures
