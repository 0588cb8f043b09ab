-- `complex_mates::pair_up` meets its contract. The loop's invariant: among the first x rows each has its mate, no class has three, and no later row has one yet. Assumes nothing.
use native.Mathlib.Nat.{le_refl}
use Rattle.complex_mates.proofs.Pairing.{paired-second, still-free}
use mathlib.Core.Path.{refl}
use native.Mathlib.Omega.{arith}
use Rattle.complex_mates.proofs.pair_up.Goals as goal

pub loop-x-preserved : goal.loop-x-preserved
loop-x-preserved c =
    let x = c.loop-x.x in
    let h = c.loop-x-test.true in
    let lo = c.requires.grouped.first x h in (
      still-free c.args.total x _ c.loop-x.mates (omega (arith, lo)) c.loop-x.invariant.0,
      paired-second c.args.total c.args.reps.now c.args.ids.now c.loop-x.mates c.requires.grouped x h (c.loop-x.invariant.0 x (le_refl _) h) c.loop-x.invariant.1 _ refl c.if-first-x.false c.if-mates-first.false (omega (arith, lo, c.requires.total_in_bounds)) (omega (arith, c.requires.total_in_bounds)),
    )
