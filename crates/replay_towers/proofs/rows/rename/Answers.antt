-- `replay_towers::rows::rename` meets its contract: the first i numbers are renamed. Assumes nothing.
use mathlib.Core.Path.{◌≡◌, refl}
use Prim.Native.Nat.{ℕ}
use native.Mathlib.Omega.{arith}
use Rattle.replay_towers.proofs.Naming.{named_more}
use Rattle.replay_towers.proofs.rows.rename.Goals as goal

pub loop-i-init : goal.loop-i-init
loop-i-init c = λ k h. absurd (omega arith)

pub returns-then-v-names : goal.returns-then-v-names
returns-then-v-names c = λ e. let z : ◌≡◌ {A = ℕ} 0 1 = cc in absurd (omega arith)

pub loop-i-preserved : goal.loop-i-preserved
loop-i-preserved c = named_more c.args.names.now c.args.words.now c.loop-i.renamed c.loop-i.i _ refl (omega arith) (omega arith) c.loop-i.invariant

pub returns : goal.returns
returns c = λ e. record { named = λ k h. (c.loop-i.invariant k (omega arith)).0; renamed_at = λ k h. (c.loop-i.invariant k (omega arith)).1 }
