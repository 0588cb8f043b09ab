-- `complex_mates::across` meets its contract. The loop's invariant: the first x rows are crossed. Assumes nothing.
use Rattle.lists.specs.Words.{none}
use Rattle.complex_mates.proofs.Pairing.{across-more}
use mathlib.Core.Path.{refl}
use native.Mathlib.Omega.{arith}
use Rattle.complex_mates.proofs.across.Goals as goal

pub loop-x-preserved-then-mates-x : goal.loop-x-preserved-then-mates-x
loop-x-preserved-then-mates-x c =
    let r = c.requires in
    let q = c.if-mates-x.true in
    across-more c.args.k c.loop-x.x c.args.mates.now c.loop-x.other c.loop-x.flip none 0 (omega (arith, r.other_long)) (omega (arith, r.flip_long)) c.loop-x.invariant (λ _. refl) (λ z. absurd (z q)) (λ z. absurd (z q))

pub loop-x-preserved : goal.loop-x-preserved
loop-x-preserved c =
    let r = c.requires in
    across-more c.args.k c.loop-x.x c.args.mates.now c.loop-x.other c.loop-x.flip _ _ (omega (arith, r.other_long)) (omega (arith, r.flip_long)) c.loop-x.invariant (λ z. absurd (c.if-mates-x.false z)) (λ _. refl) (λ _. refl)
