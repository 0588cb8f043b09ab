-- After j turns the product is (r + 1) .. (r + j). Assumes nothing.
use mathlib.Core.Path.{◌≡◌, sym, ap, ◌∙◌}
use Prim.Native.Nat.{ℕ, suc, ◌+◌, ◌*◌}
use native.Mathlib.Numerals.{add-one}
use native.Mathlib.Omega.{arith}
use Rattle.refine_pattern.proofs.Climb.{climb, climb-fits}
use Rattle.refine_pattern.proofs.Filled.{chains-count}
use Rattle.refine_pattern.proofs.chain_count.Goals as goal

-- one factor more
more : (r j t : ℕ) → t ≡ climb r j → t * (r + j + 1) ≡ climb r (j + 1)
more r j t e = let s : r + j + 1 ≡ r + suc j = omega arith in rw (e, s, add-one j)

pub overflow_mul-total : goal.overflow_mul-total
overflow_mul-total c =
    omega (arith, more c.args.r _ _ c.loop-j.invariant, climb-fits c.args.r (c.loop-j.j + 1) c.requires.1 (omega (arith, c.requires.0)))

pub returns : goal.returns
returns c =
    let e : c.loop-j.j ≡ c.args.d = omega arith in
    c.loop-j.invariant ∙ ap (climb c.args.r) e ∙ sym (chains-count c.args.d c.args.r c.requires.0)
