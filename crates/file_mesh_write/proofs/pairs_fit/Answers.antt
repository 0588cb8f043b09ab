-- `file_mesh_write::pairs_fit` meets its contract. The invariant: the test of all pairs is the test of those from i on, from `low` on and with `left` to weigh. Assumes nothing.
use Rattle.file_mesh_write.proofs.Fit.{fit-odd, fit-end, fit_low, fit-high, fit_none, fit-heavy, fit-more}
use native.Mathlib.Omega.{arith}
use native.Mathlib.Nat.{div-add-mod'}
use Prim.Native.Nat.{ℕ, ◌+◌, ◌-◌, ◌/◌, ◌≤◌, ◌<◌}
use mathlib.Core.List.{List}
use lib.ListN.{length, drop, get_or}
use Rattle.file_mesh_write.proofs.Fit.{weigh}
use mathlib.Core.Path.{refl, sym, ap, ◌∙◌}
use Rattle.file_mesh_write.proofs.pairs_fit.Goals as goal

two-left : (ps : List ℕ) (k : ℕ) → k < length ps / 2 → k + k + 2 ≤ length ps
two-left ps k h = omega (arith, div-add-mod' (length ps) 2)

pub loop-k-init : goal.loop-k-init
loop-k-init c = refl

pub returns-then-v-low : goal.returns-then-v-low
returns-then-v-low c = sym (c.loop-k.invariant ∙ fit_low c.args.first c.loop-k.low c.loop-k.left c.args.pairs.now (c.loop-k.k + c.loop-k.k) (two-left c.args.pairs.now c.loop-k.k c.loop-k-test.true) c.if-v-low.true)

pub returns-then-first-v : goal.returns-then-first-v
returns-then-first-v c = sym (c.loop-k.invariant ∙ fit-high c.args.first c.loop-k.low c.loop-k.left c.args.pairs.now (c.loop-k.k + c.loop-k.k) (two-left c.args.pairs.now c.loop-k.k c.loop-k-test.true) c.if-v-low.false c.if-first-v.true)

pub returns-then-w-eq0 : goal.returns-then-w-eq0
returns-then-w-eq0 c = sym (c.loop-k.invariant ∙ fit_none c.args.first c.loop-k.low c.loop-k.left c.args.pairs.now (c.loop-k.k + c.loop-k.k) (two-left c.args.pairs.now c.loop-k.k c.loop-k-test.true) c.if-v-low.false c.if-first-v.false c.if-w-eq0.true)

pub returns-then-left-w : goal.returns-then-left-w
returns-then-left-w c = sym (c.loop-k.invariant ∙ fit-heavy c.args.first c.loop-k.low c.loop-k.left c.args.pairs.now (c.loop-k.k + c.loop-k.k) (two-left c.args.pairs.now c.loop-k.k c.loop-k-test.true) c.if-v-low.false c.if-first-v.false c.if-w-eq0.false c.if-left-w.true)

pub overflow_add-low : goal.overflow_add-low
overflow_add-low c = omega (arith, c.if-first-v.false)

pub loop-k-preserved : goal.loop-k-preserved
loop-k-preserved c =
    let h = fit-more c.args.first c.loop-k.low c.loop-k.left c.args.pairs.now (c.loop-k.k + c.loop-k.k) (two-left c.args.pairs.now c.loop-k.k c.loop-k-test.true) c.if-v-low.false c.if-first-v.false c.if-w-eq0.false c.if-left-w.false in
    c.loop-k.invariant ∙ h ∙ ap (λ (i : ℕ). weigh c.args.first (get_or c.args.pairs.now (c.loop-k.k + c.loop-k.k) 0 + 1) (c.loop-k.left - get_or c.args.pairs.now (c.loop-k.k + c.loop-k.k + 1) 0) (drop i c.args.pairs.now)) {x = c.loop-k.k + c.loop-k.k + 2} {y = c.loop-k.k + 1 + (c.loop-k.k + 1)} (omega arith)

pub returns-then-pairs-ne0 : goal.returns-then-pairs-ne0
returns-then-pairs-ne0 c = sym (c.loop-k.invariant ∙ fit-odd c.args.first c.loop-k.low c.loop-k.left c.args.pairs.now (c.loop-k.k + c.loop-k.k) (omega (arith, div-add-mod' (length c.args.pairs.now) 2, c.loop-k-test.false, c.if-pairs-ne0.true)))

pub returns : goal.returns
returns c = sym (c.loop-k.invariant ∙ fit-end c.args.first c.loop-k.low c.loop-k.left c.args.pairs.now (c.loop-k.k + c.loop-k.k) (omega (arith, div-add-mod' (length c.args.pairs.now) 2, c.loop-k-test.false, c.if-pairs-ne0.false)))
