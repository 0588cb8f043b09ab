-- The first m chains have given what they give, and the cursor stands at the next. Assumes nothing.
use mathlib.Core.Path.{◌≡◌, refl, sym, subst}
use mathlib.Core.List.{[], ◌∷◌, ◌++◌}
use Prim.Native.Nat.{ℕ, zero, suc, ◌+◌, ◌≤◌, ◌<◌, ◌-◌}
use native.Mathlib.Omega.{arith}
use lib.ListN.{length, take, drop, replicate}
use Rattle.multiindex.proofs.Tables.{count-some}
use Rattle.refine_pattern.specs.WorkChains.{falling_chains}
use Rattle.refine_pattern.specs.declared.Cursor.{Cursor}
use Rattle.refine_pattern.proofs.Filled.{Filled, filled_none, filled_at, filled-stands, filled-part, filled_next}
use Rattle.refine_pattern.proofs.stepped.Goals as goal

-- the first base
zeros : (d : ℕ) → d ≤ 3 → take {A = ℕ} d (0 ∷ 0 ∷ 0 ∷ []) ≡ replicate d 0
zeros zero h = refl
zeros (suc zero) h = refl
zeros (suc (suc zero)) h = refl
zeros (suc (suc (suc zero))) h = refl
zeros (suc (suc (suc (suc d)))) h = absurd (omega arith)

pub loop-init : goal.loop-init
loop-init c =
    filled_none _ _ _ c.requires _ c.requires.axes (zeros c.args.d c.requires.axes) refl (count-some c.args.d c.requires.axes)

pub give-used-requires : goal.give-used-requires
give-used-requires c =
    let inside : c.loop.counter < length (falling_chains c.args.d c.args.r) = omega (arith, c.loop-test.true, c.chain_count-chains.ensures) in
    record {
      stands = filled-stands _ _ _ c.requires _ _ _ _ c.loop.invariant;
      room = filled-part _ _ _ c.requires _ _ _ _ c.loop.invariant (inside);
    }

pub loop-preserved : goal.loop-preserved
loop-preserved c =
    let reached : c.loop.at ≤ length c.loop.to = filled_at _ _ _ c.requires _ _ _ _ c.loop.invariant in
    let inside : c.loop.counter < length (falling_chains c.args.d c.args.r) = omega (arith, c.loop-test.true, c.chain_count-chains.ensures) in
    let f = c.give-used in
    subst
    (λ (s : Cursor).
    Filled c.args.d c.args.r c.args.to.now (c.loop.counter + 1) s (c.loop.at + c.give-used.result)
    (take c.loop.at c.loop.to ++ (c.give-used.new.to ++ drop (length c.loop.to - c.loop.at) (drop c.loop.at c.loop.to))))
    (sym c.step-c.ensures)
    (filled_next _ _ _ c.requires _ _ _ _ c.loop.invariant (inside)
    (length c.loop.to - c.loop.at) c.give-used.result c.give-used.new.to (omega (arith, reached)) c.give-used.ensures.used c.give-used.ensures.list)
