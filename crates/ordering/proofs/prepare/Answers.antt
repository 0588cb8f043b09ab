-- `ordering::prepare` meets its contract: each call asks what the calls before it gave (proofs/Steps). Assumes nothing.
use mathlib.Core.Path.{sym}
use native.Mathlib.Omega.{arith}
use lib.Seq.{length-take-le}
use Rattle.orientation.proofs.Steps.{cells_fit}
use Rattle.ordering.proofs.Steps.{making, arranging, at-fits, front_fits, meets, prepared-crowded, prepared-unordered, prepared-ready}
use Rattle.ordering.proofs.prepare.Goals as goal

pub cells-m-requires : goal.cells-m-requires
cells-m-requires c = making c.args.d c.args.at c.args.words.now c.args.keys.now c.args.rows.now c.args.spare.now c.args.counts.now c.requires

pub offset_bounds-keys-at : goal.offset_bounds-keys-at
offset_bounds-keys-at c = omega (arith, at-fits c.args.d c.args.at c.args.words.now c.args.keys.now c.args.rows.now c.args.spare.now c.args.counts.now c.requires c.cells-m.result c.cells-m.new.keys c.cells-m.new.rows c.cells-m.new.spare c.cells-m.new.counts c.cells-m.auto.keys c.cells-m.auto.rows c.cells-m.auto.spare c.cells-m.auto.counts c.cells-m.ensures, c.cells-m.auto.keys, c.requires.keys_long)

pub slice_bounds-arrange-start : goal.slice_bounds-arrange-start
slice_bounds-arrange-start c = at-fits c.args.d c.args.at c.args.words.now c.args.keys.now c.args.rows.now c.args.spare.now c.args.counts.now c.requires c.cells-m.result c.cells-m.new.keys c.cells-m.new.rows c.cells-m.new.spare c.cells-m.new.counts c.cells-m.auto.keys c.cells-m.auto.rows c.cells-m.auto.spare c.cells-m.auto.counts c.cells-m.ensures

pub arrange-fits-requires : goal.arrange-fits-requires
arrange-fits-requires c = arranging c.args.d c.args.at c.args.words.now c.args.keys.now c.args.rows.now c.args.spare.now c.args.counts.now c.requires c.cells-m.result c.cells-m.new.keys c.cells-m.new.rows c.cells-m.new.spare c.cells-m.new.counts c.cells-m.auto.keys c.cells-m.auto.rows c.cells-m.auto.spare c.cells-m.auto.counts c.cells-m.ensures

pub slice_bounds-mates-end : goal.slice_bounds-mates-end
slice_bounds-mates-end c = front_fits c.args.d c.args.at c.args.words.now c.args.keys.now c.args.rows.now c.args.spare.now c.args.counts.now c.requires c.cells-m.result c.cells-m.new.keys c.cells-m.new.rows c.cells-m.new.spare c.cells-m.new.counts c.cells-m.auto.keys c.cells-m.auto.rows c.cells-m.auto.spare c.cells-m.auto.counts c.cells-m.ensures c.args.order.now c.arrange-fits.result c.arrange-fits.new.keys c.arrange-fits.new.cells c.arrange-fits.new.spare c.arrange-fits.new.counts c.arrange-fits.auto.keys c.arrange-fits.auto.cells c.arrange-fits.auto.spare c.arrange-fits.auto.counts c.arrange-fits.ensures

pub slice_bounds-mates-end-2 : goal.slice_bounds-mates-end-2
slice_bounds-mates-end-2 c = sym (length-take-le _ _ (front_fits c.args.d c.args.at c.args.words.now c.args.keys.now c.args.rows.now c.args.spare.now c.args.counts.now c.requires c.cells-m.result c.cells-m.new.keys c.cells-m.new.rows c.cells-m.new.spare c.cells-m.new.counts c.cells-m.auto.keys c.cells-m.auto.rows c.cells-m.auto.spare c.cells-m.auto.counts c.cells-m.ensures c.args.order.now c.arrange-fits.result c.arrange-fits.new.keys c.arrange-fits.new.cells c.arrange-fits.new.spare c.arrange-fits.new.counts c.arrange-fits.auto.keys c.arrange-fits.auto.cells c.arrange-fits.auto.spare c.arrange-fits.auto.counts c.arrange-fits.ensures))

pub mates-requires : goal.mates-requires
mates-requires c = meets c.args.d c.args.at c.args.words.now c.args.keys.now c.args.rows.now c.args.spare.now c.args.counts.now c.requires c.cells-m.result c.cells-m.new.keys c.cells-m.new.rows c.cells-m.new.spare c.cells-m.new.counts c.cells-m.auto.keys c.cells-m.auto.rows c.cells-m.auto.spare c.cells-m.auto.counts c.cells-m.ensures c.args.order.now c.arrange-fits.result c.arrange-fits.new.keys c.arrange-fits.new.cells c.arrange-fits.new.spare c.arrange-fits.new.counts c.arrange-fits.auto.keys c.arrange-fits.auto.cells c.arrange-fits.auto.spare c.arrange-fits.auto.counts c.arrange-fits.ensures

pub returns-then-not-mates : goal.returns-then-not-mates
returns-then-not-mates c = prepared-crowded c.args.d c.args.at c.args.words.now c.args.keys.now c.args.rows.now c.args.spare.now c.args.counts.now c.requires c.cells-m.result c.cells-m.new.keys c.cells-m.new.rows c.cells-m.new.spare c.cells-m.new.counts c.cells-m.auto.keys c.cells-m.auto.rows c.cells-m.auto.spare c.cells-m.auto.counts c.cells-m.ensures c.args.order.now c.arrange-fits.result c.arrange-fits.new.keys c.arrange-fits.new.cells c.arrange-fits.new.spare c.arrange-fits.new.counts c.arrange-fits.auto.keys c.arrange-fits.auto.cells c.arrange-fits.auto.spare c.arrange-fits.auto.counts c.arrange-fits.ensures c.mates.new.keys c.mates.new.rows c.mates.auto.keys _ (c.mates.ensures.crowd (c.if-not-mates.true))

pub returns-then-not-fits : goal.returns-then-not-fits
returns-then-not-fits c = prepared-unordered c.args.d c.args.at c.args.words.now c.args.keys.now c.args.rows.now c.args.spare.now c.args.counts.now c.requires c.cells-m.result c.cells-m.new.keys c.cells-m.new.rows c.cells-m.new.spare c.cells-m.new.counts c.cells-m.auto.keys c.cells-m.auto.rows c.cells-m.auto.spare c.cells-m.auto.counts c.cells-m.ensures c.args.order.now c.arrange-fits.result c.arrange-fits.new.keys c.arrange-fits.new.cells c.arrange-fits.new.spare c.arrange-fits.new.counts c.arrange-fits.auto.keys c.arrange-fits.auto.cells c.arrange-fits.auto.spare c.arrange-fits.auto.counts c.arrange-fits.ensures c.mates.new.keys c.mates.new.rows c.mates.auto.keys (c.mates.ensures.all (c.if-not-mates.false)) _ (c.if-not-fits.true)

pub overflow_cast-result : goal.overflow_cast-result
overflow_cast-result c = omega (arith, cells_fit c.args.d _ c.cells-m.result _ c.cells-m.ensures)

pub returns : goal.returns
returns c = prepared-ready c.args.d c.args.at c.args.words.now c.args.keys.now c.args.rows.now c.args.spare.now c.args.counts.now c.requires c.cells-m.result c.cells-m.new.keys c.cells-m.new.rows c.cells-m.new.spare c.cells-m.new.counts c.cells-m.auto.keys c.cells-m.auto.rows c.cells-m.auto.spare c.cells-m.auto.counts c.cells-m.ensures c.args.order.now c.arrange-fits.result c.arrange-fits.new.keys c.arrange-fits.new.cells c.arrange-fits.new.spare c.arrange-fits.new.counts c.arrange-fits.auto.keys c.arrange-fits.auto.cells c.arrange-fits.auto.spare c.arrange-fits.auto.counts c.arrange-fits.ensures c.mates.new.keys c.mates.new.rows c.mates.auto.keys (c.mates.ensures.all (c.if-not-mates.false)) (c.if-not-fits.false)
