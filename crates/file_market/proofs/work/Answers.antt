-- `file_market::work` meets its contract: 7, then 24, then the file. Assumes nothing.
use Rattle.file_market.proofs.Steps.{file-crowded, file-outside, file-rest}
use Rattle.complex_boundary.proofs.Steps.{as-cells}
use Rattle.skeleton.proofs.Steps.{still}
use native.Mathlib.Omega.{arith}
use Rattle.file_market.proofs.work.Goals as goal

pub sound-requires : goal.sound-requires
sound-requires c = as-cells c.args.d c.args.words.now c.args.keys.now c.args.rows.now c.args.spare.now c.args.counts.now c.requires

pub returns-then-not-sound : goal.returns-then-not-sound
returns-then-not-sound c = file-crowded c.args.d c.args.k c.args.words.now c.sound.result c.sound.ensures c.args.bytes.now (c.if-not-sound.true)

pub returns-then-k-lt1 : goal.returns-then-k-lt1
returns-then-k-lt1 c = file-outside c.args.d c.args.k c.args.words.now c.sound.result c.sound.ensures c.args.bytes.now (c.if-not-sound.false) (λ h. let t = h.0 in omega arith)

pub returns-then-d-k : goal.returns-then-d-k
returns-then-d-k c = file-outside c.args.d c.args.k c.args.words.now c.sound.result c.sound.ensures c.args.bytes.now (c.if-not-sound.false) (λ h. let t = h.1 in omega arith)

pub list_file-requires : goal.list_file-requires
list_file-requires c = (record { work = still _ c.args.d c.args.words.now c.args.keys.now c.args.rows.now c.args.spare.now c.args.counts.now _ _ _ _ c.sound.auto.keys c.sound.auto.rows c.sound.auto.spare c.sound.auto.counts c.requires; high = c.if-d-k.false }, c.if-k-lt1.false)

pub returns : goal.returns
returns c = file-rest c.args.d c.args.k c.args.words.now c.sound.result c.sound.ensures c.args.bytes.now c.list_file.result _ (c.if-not-sound.false) c.if-k-lt1.false c.if-d-k.false c.list_file.ensures
