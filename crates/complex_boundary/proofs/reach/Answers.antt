-- `complex_boundary::reach` meets its contract: the cells, and then down to their faces of dimension k (proofs/Steps). Assumes nothing.
use Rattle.skeleton.proofs.Steps.{making}
use Rattle.complex_boundary.proofs.Steps.{as-cells, descending, reached}
use Rattle.complex_boundary.proofs.reach.Goals as goal

pub cells-m-requires : goal.cells-m-requires
cells-m-requires c = making c.args.d c.args.words.now c.args.keys.now c.args.rows.now c.args.spare.now c.args.counts.now (as-cells c.args.d c.args.words.now c.args.keys.now c.args.rows.now c.args.spare.now c.args.counts.now c.requires.work)

pub descend-requires : goal.descend-requires
descend-requires c = let q = c.cells-m in descending c.args.d c.args.words.now c.args.keys.now c.args.rows.now c.args.spare.now c.args.counts.now c.requires.work c.cells-m.result c.cells-m.new.keys c.cells-m.new.rows c.cells-m.new.spare c.cells-m.new.counts c.cells-m.auto.keys c.cells-m.auto.rows c.cells-m.auto.spare c.cells-m.auto.counts c.cells-m.ensures c.args.k c.requires.high

pub returns : goal.returns
returns c =
    let q = c.cells-m in
    let t = c.descend in
    reached c.args.d c.args.words.now c.args.keys.now c.args.rows.now c.args.spare.now c.args.counts.now c.requires.work c.cells-m.result c.cells-m.new.keys c.cells-m.new.rows c.cells-m.new.spare c.cells-m.new.counts c.cells-m.auto.keys c.cells-m.auto.rows c.cells-m.auto.spare c.cells-m.auto.counts c.cells-m.ensures c.args.k c.descend.result c.descend.new.keys c.descend.new.rows c.descend.new.spare c.descend.new.counts c.descend.auto.keys c.descend.auto.rows c.descend.auto.spare c.descend.auto.counts c.requires.high c.descend.ensures
