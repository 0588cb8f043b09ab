-- `complex_incidence::index_work` meets its contract: 7 first, then the index. Assumes nothing.
use Rattle.skeleton.proofs.Steps.{still}
use Rattle.complex_incidence.proofs.Steps.{work-crowded, work-rest}
use Rattle.complex_incidence.proofs.index_work.Goals as goal

pub returns-then-not-sound : goal.returns-then-not-sound
returns-then-not-sound c =
    let q = c.sound in work-crowded c.args.d c.args.words.now c.sound.result c.sound.ensures c.args.touching.now c.args.starts.now (c.if-not-sound.true)

pub list_index-requires : goal.list_index-requires
list_index-requires c =
    let q = c.sound in still _ c.args.d c.args.words.now c.args.keys.now c.args.rows.now c.args.spare.now c.args.counts.now _ _ _ _ c.sound.auto.keys c.sound.auto.rows c.sound.auto.spare c.sound.auto.counts c.requires

pub returns : goal.returns
returns c =
    let q = c.sound in let l = c.list_index in work-rest c.args.d c.args.words.now c.sound.result c.sound.ensures c.list_index.result c.args.touching.now _ c.args.starts.now _ (c.if-not-sound.false) c.list_index.ensures
