-- `complex_boundary::faces_work` meets its contract: 7, then 24, then the faces. Assumes nothing.
use Rattle.skeleton.proofs.Steps.{still}
use Rattle.complex_boundary.proofs.Steps.{as-cells, faces-crowded, faces-outside, faces-rest}
use Rattle.complex_boundary.proofs.faces_work.Goals as goal

pub sound-requires : goal.sound-requires
sound-requires c = as-cells c.args.d c.args.words.now c.args.keys.now c.args.rows.now c.args.spare.now c.args.counts.now c.requires

pub returns-then-not-sound : goal.returns-then-not-sound
returns-then-not-sound c = let q = c.sound in faces-crowded c.args.d c.args.k c.args.words.now c.sound.result c.sound.ensures c.args.out.now (c.if-not-sound.true)

pub returns-then-d-k : goal.returns-then-d-k
returns-then-d-k c = let q = c.sound in faces-outside c.args.d c.args.k c.args.words.now c.sound.result c.sound.ensures c.args.out.now (c.if-not-sound.false) c.if-d-k.true

pub list_faces-requires : goal.list_faces-requires
list_faces-requires c =
    let q = c.sound in
    record { work = still _ c.args.d c.args.words.now c.args.keys.now c.args.rows.now c.args.spare.now c.args.counts.now _ _ _ _ c.sound.auto.keys c.sound.auto.rows c.sound.auto.spare c.sound.auto.counts c.requires; high = c.if-d-k.false }

pub returns : goal.returns
returns c =
    let q = c.sound in
    let l = c.list_faces in
    faces-rest c.args.d c.args.k c.args.words.now c.sound.result c.sound.ensures c.list_faces.result c.args.out.now _ (c.if-not-sound.false) c.if-d-k.false c.list_faces.ensures
