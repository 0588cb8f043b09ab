-- `grid_lengths::note_each` meets its contract. The invariant: the notes tell what the first r visits come to (proofs/Notes). Assumes nothing.
use mathlib.Core.Path.{◌≡◌, refl}
use Prim.Native.Nat.{ℕ}
use native.Mathlib.Omega.{arith}
use Rattle.grid_lengths.proofs.Notes.{noticed-none, noticed-more, noticed-done, clashed-here, note-at}
use Rattle.grid_lengths.proofs.Measuring.{visits-few}
use Rattle.grid_lengths.proofs.note_each.Goals as goal

pub loop-r-init : goal.loop-r-init
loop-r-init c = noticed-none c.args.grid c.args.ids.now c.args.last.now c.requires.1

pub bounds-ids-r : goal.bounds-ids-r
bounds-ids-r c = omega (arith, c.requires.1.long, c.requires.2)

pub bounds-last-id : goal.bounds-last-id
bounds-last-id c = omega (arith, c.requires.1.below c.loop-r.r (omega (arith, c.loop-r-test.true, c.requires.2)))

pub overflow_cast-last : goal.overflow_cast-last
overflow_cast-last c = omega (arith, visits-few c.args.grid c.requires.1.taken, c.requires.2)

pub overflow_add-last : goal.overflow_add-last
overflow_add-last c = omega (arith, visits-few c.args.grid c.requires.1.taken, c.requires.2)

pub bounds-last-id-in-loop-r : goal.bounds-last-id-in-loop-r
bounds-last-id-in-loop-r c = omega (arith, c.requires.1.below c.loop-r.r (omega (arith, c.loop-r-test.true, c.requires.2)))

pub follows-requires : goal.follows-requires
follows-requires c = let h = c.loop-r.invariant.low c.loop-r.r (omega (arith, c.loop-r-test.true, c.requires.2)) in (c.requires.0, omega (arith, h, c.requires.2), omega (arith, c.loop-r-test.true, c.requires.2))

pub returns-then-not-follows : goal.returns-then-not-follows
returns-then-not-follows c = record { yes = (λ e. absurd (let z : ◌≡◌ {A = ℕ} 0 1 = cc in omega arith)); no = λ e. clashed-here c.args.grid c.args.ids.now c.args.last.now c.requires.1 c.loop-r.last c.loop-r.auto.last c.loop-r.r c.loop-r.invariant (omega (arith, c.loop-r-test.true, c.requires.2)) _ (note-at c.args.grid c.loop-r.last c.args.ids.now c.loop-r.r _ _ refl c.follows.ensures) (c.if-not-follows.true) }

pub loop-r-preserved : goal.loop-r-preserved
loop-r-preserved c = noticed-more c.args.grid c.args.ids.now c.args.last.now c.requires.1 c.loop-r.last c.loop-r.auto.last c.loop-r.r c.loop-r.invariant (omega (arith, c.loop-r-test.true, c.requires.2)) _ (note-at c.args.grid c.loop-r.last c.args.ids.now c.loop-r.r _ _ refl c.follows.ensures) (c.if-not-follows.false)

pub returns : goal.returns
returns c = record { yes = (λ e. noticed-done c.args.grid c.args.ids.now c.args.last.now c.requires.1 c.loop-r.last c.loop-r.r (omega (arith, c.requires.2)) c.loop-r.invariant); no = λ e. absurd (let z : ◌≡◌ {A = ℕ} 0 1 = cc in omega arith) }
