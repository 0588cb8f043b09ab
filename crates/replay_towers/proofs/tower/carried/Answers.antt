-- `replay_towers::tower::carried` meets its contract: the three steps have what each promises. Assumes nothing.
use mathlib.Core.Path.{◌≡◌, sym}
use Prim.Native.Nat.{ℕ, ◌≤◌}
use native.Mathlib.Omega.{arith}
use native.Mathlib.Nat.{mul-le-mul_right}
use lib.ListN.{length}
use Rattle.replay_towers.proofs.Naming.{part-long}
use Rattle.replay_towers.proofs.tower.carried.Goals as goal

pub returns-then-not-matched : goal.returns-then-not-matched
returns-then-not-matched c = λ e. let z : ◌≡◌ {A = ℕ} 0 1 = cc in absurd (omega arith)

pub slice_bounds-rename-end : goal.slice_bounds-rename-end
slice_bounds-rename-end c = sym (part-long c.args.made.vertices 4096 c.matched.new.names c.matched.auto.names c.requires.2)

pub rename-requires : goal.rename-requires
rename-requires c = let h : length c.args.words.now ≤ 16384 = omega (arith, c.requires.3, mul-le-mul_right c.args.width c.requires.1) in h

pub returns-then-not-rename : goal.returns-then-not-rename
returns-then-not-rename c = λ e. let z : ◌≡◌ {A = ℕ} 0 1 = cc in absurd (omega arith)

pub matched-requires-2 : goal.matched-requires-2
matched-requires-2 c = (omega (arith, c.rename.auto.renamed, mul-le-mul_right c.args.width c.requires.1), c.requires.4, c.requires.1, c.requires.1, c.requires.1)

pub returns : goal.returns
returns c = λ e. record { names = c.matched.new.names; renamed = c.rename.new.renamed; places = c.matched-2.new.names; vertices = c.matched.ensures (c.if-not-matched.false); words_renamed = c.rename.ensures (c.if-not-rename.false); found = c.matched-2.ensures e }
