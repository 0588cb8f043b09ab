-- `complex_boundary::entries_work` meets its contract: 7, then 24, then the entries. Assumes nothing.
use native.Mathlib.Omega.{arith}
use Rattle.skeleton.proofs.Steps.{still}
use Rattle.complex_boundary.proofs.Steps.{as-cells}
use Rattle.complex_boundary.proofs.Entries.{entries-crowded, entries-outside, entries-rest}
use Rattle.complex_boundary.proofs.entries_work.Goals as goal

pub sound-requires : goal.sound-requires
sound-requires c = as-cells c.args.d c.args.words.now c.args.keys.now c.args.rows.now c.args.spare.now c.args.counts.now c.requires

pub returns-then-not-sound : goal.returns-then-not-sound
returns-then-not-sound c = let q = c.sound in entries-crowded c.args.d c.args.k c.args.words.now c.sound.result c.sound.ensures c.args.signs.now c.args.faces.now c.args.cofaces.now (c.if-not-sound.true)

pub returns-then-k-lt1 : goal.returns-then-k-lt1
returns-then-k-lt1 c = let q = c.sound in entries-outside c.args.d c.args.k c.args.words.now c.sound.result c.sound.ensures c.args.signs.now c.args.faces.now c.args.cofaces.now (c.if-not-sound.false) (λ h. let t = h.0 in let u = c.if-k-lt1.true in omega arith)

pub returns-then-d-k : goal.returns-then-d-k
returns-then-d-k c = let q = c.sound in entries-outside c.args.d c.args.k c.args.words.now c.sound.result c.sound.ensures c.args.signs.now c.args.faces.now c.args.cofaces.now (c.if-not-sound.false) (λ h. let t = h.1 in let u = c.if-d-k.true in omega arith)

pub list_entries-requires : goal.list_entries-requires
list_entries-requires c =
    let q = c.sound in
    (record { work = still _ c.args.d c.args.words.now c.args.keys.now c.args.rows.now c.args.spare.now c.args.counts.now _ _ _ _ c.sound.auto.keys c.sound.auto.rows c.sound.auto.spare c.sound.auto.counts c.requires; high = c.if-d-k.false }, c.if-k-lt1.false)

pub returns : goal.returns
returns c =
    let q = c.sound in
    let l = c.list_entries in
    entries-rest c.args.d c.args.k c.args.words.now c.sound.result c.sound.ensures c.args.signs.now c.args.faces.now c.args.cofaces.now c.list_entries.result _ _ _ (c.if-not-sound.false) c.if-k-lt1.false c.if-d-k.false c.list_entries.ensures
