-- `skeleton::sound` meets its contract: a table of mates leaves no room for three cells at a facet (proofs/Steps). Assumes nothing.
use Rattle.skeleton.proofs.Steps.{making, meeting, sound-is}
use Rattle.skeleton.proofs.sound.Goals as goal

pub cells-m-requires : goal.cells-m-requires
cells-m-requires c =
    making c.args.d c.args.words.now c.args.keys.now c.args.rows.now c.args.spare.now c.args.counts.now c.requires

pub mates-requires : goal.mates-requires
mates-requires c =
    let q = c.cells-m in meeting c.args.d c.args.words.now c.args.keys.now c.args.rows.now c.args.spare.now c.args.counts.now c.requires c.cells-m.result c.cells-m.new.keys c.cells-m.new.rows c.cells-m.new.spare c.cells-m.new.counts c.cells-m.auto.keys c.cells-m.auto.rows c.cells-m.auto.spare c.cells-m.auto.counts c.cells-m.ensures

pub returns : goal.returns
returns c =
    let q = c.cells-m in let t = c.mates in sound-is c.args.d c.args.words.now c.args.keys.now c.args.rows.now c.args.spare.now c.args.counts.now c.requires c.cells-m.result c.cells-m.new.keys c.cells-m.new.rows c.cells-m.new.spare c.cells-m.new.counts c.cells-m.auto.keys c.cells-m.auto.rows c.cells-m.auto.spare c.cells-m.auto.counts c.cells-m.ensures c.mates.result c.mates.new.rows c.mates.ensures.all c.mates.ensures.crowd
