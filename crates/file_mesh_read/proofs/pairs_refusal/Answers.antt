-- `file_mesh_read::pairs_refusal` meets its contract. The invariant: the refusal of all pairs is that of the pairs from pair k on, which begin at `at`, after a sum. Assumes nothing.
use Rattle.refusal.specs.declared.Refusal.TheVariants.{FileEnds, BadFile}
use Rattle.file_mesh_read.proofs.Pairs.{summed, summed-none, summed-more, summed-no, summed-bad, summed-good, pair_ends, pair-low, pair-high, pair-cut, pair-none, pair-got}
use Rattle.file_mesh.specs.Read.{pairs_from}
use lib.ListN.{drop}
use Prim.Native.Nat.{ℕ, suc, ◌+◌, ◌-◌, ◌<◌}
use native.Mathlib.Omega.{arith}
use mathlib.Core.Path.{◌≡◌, sym, ap, ◌∙◌}
use Rattle.file_mesh_read.proofs.pairs_refusal.Goals as goal

pub loop-k-init : goal.loop-k-init
loop-k-init c =
    (omega arith, c.requires.1, omega arith, summed-none c.args.r (pairs_from c.args.first 0 c.args.count (drop c.args.from c.args.bytes.now)) ∙ ap (λ (n : ℕ). summed c.args.r 0 (pairs_from c.args.first 0 n (drop c.args.from c.args.bytes.now))) {x = c.args.count} {y = c.args.count - 0} (omega arith))

pub overflow_sub-bytes : goal.overflow_sub-bytes
overflow_sub-bytes c = c.loop-k.invariant.1

pub returns-then-bytes-at-lt4 : goal.returns-then-bytes-at-lt4
returns-then-bytes-at-lt4 c =
    let left : c.loop-k.k < c.args.count → c.args.count - c.loop-k.k ≡ suc (c.args.count - (c.loop-k.k + 1)) = λ h. omega arith in
    sym (c.loop-k.invariant.3 ∙ summed-no c.args.r c.loop-k.sum FileEnds _ (pair_ends c.args.bytes.now c.loop-k.at c.args.first c.loop-k.low _ _ c.loop-k.invariant.1 (left c.loop-k-test.true) c.if-bytes-at-lt4.true))

pub four-v-requires : goal.four-v-requires
four-v-requires c = omega (arith, c.if-bytes-at-lt4.false, c.loop-k.invariant.1)

pub returns-then-v-low : goal.returns-then-v-low
returns-then-v-low c =
    let left : c.loop-k.k < c.args.count → c.args.count - c.loop-k.k ≡ suc (c.args.count - (c.loop-k.k + 1)) = λ h. omega arith in
    sym (c.loop-k.invariant.3 ∙ summed-no c.args.r c.loop-k.sum BadFile _ (pair-low c.args.bytes.now c.loop-k.at c.args.first c.loop-k.low _ _ c.loop-k.invariant.1 (left c.loop-k-test.true) c.if-bytes-at-lt4.false c.four-v.result c.four-v.ensures c.if-v-low.true))

pub returns-then-first-v : goal.returns-then-first-v
returns-then-first-v c =
    let left : c.loop-k.k < c.args.count → c.args.count - c.loop-k.k ≡ suc (c.args.count - (c.loop-k.k + 1)) = λ h. omega arith in
    sym (c.loop-k.invariant.3 ∙ summed-no c.args.r c.loop-k.sum BadFile _ (pair-high c.args.bytes.now c.loop-k.at c.args.first c.loop-k.low _ _ c.loop-k.invariant.1 (left c.loop-k-test.true) c.if-bytes-at-lt4.false c.four-v.result c.four-v.ensures c.if-v-low.false c.if-first-v.true))

pub overflow_sub-bytes-in-loop-k : goal.overflow_sub-bytes-in-loop-k
overflow_sub-bytes-in-loop-k c = c.loop-k.invariant.1

pub returns-then-bytes-at-lt6 : goal.returns-then-bytes-at-lt6
returns-then-bytes-at-lt6 c =
    let left : c.loop-k.k < c.args.count → c.args.count - c.loop-k.k ≡ suc (c.args.count - (c.loop-k.k + 1)) = λ h. omega arith in
    sym (c.loop-k.invariant.3 ∙ summed-no c.args.r c.loop-k.sum FileEnds _ (pair-cut c.args.bytes.now c.loop-k.at c.args.first c.loop-k.low _ _ c.loop-k.invariant.1 (left c.loop-k-test.true) c.if-bytes-at-lt4.false c.four-v.result c.four-v.ensures c.if-v-low.false c.if-first-v.false c.if-bytes-at-lt6.true))

pub overflow_add-at : goal.overflow_add-at
overflow_add-at c = omega (arith, c.if-bytes-at-lt6.false, c.loop-k.invariant.1)

pub two-w-requires : goal.two-w-requires
two-w-requires c = omega (arith, c.if-bytes-at-lt6.false, c.loop-k.invariant.1)

pub returns-then-w-eq0 : goal.returns-then-w-eq0
returns-then-w-eq0 c =
    let left : c.loop-k.k < c.args.count → c.args.count - c.loop-k.k ≡ suc (c.args.count - (c.loop-k.k + 1)) = λ h. omega arith in
    sym (c.loop-k.invariant.3 ∙ summed-no c.args.r c.loop-k.sum BadFile _ (pair-none c.args.bytes.now c.loop-k.at c.args.first c.loop-k.low _ _ c.loop-k.invariant.1 (left c.loop-k-test.true) c.if-bytes-at-lt4.false c.four-v.result c.four-v.ensures c.if-v-low.false c.if-first-v.false c.if-bytes-at-lt6.false c.two-w.result c.two-w.ensures.number c.if-w-eq0.true))

pub overflow_add-low : goal.overflow_add-low
overflow_add-low c = omega (arith, c.if-first-v.false)

pub overflow_cast-sum : goal.overflow_cast-sum
overflow_cast-sum c = omega (arith, c.two-w.ensures.small)

pub overflow_add-sum : goal.overflow_add-sum
overflow_add-sum c = omega (arith, c.two-w.ensures.small, c.loop-k.invariant.2, c.loop-k-test.true, c.requires.0)

pub overflow_add-at-in-loop-k : goal.overflow_add-at-in-loop-k
overflow_add-at-in-loop-k c = omega (arith, c.if-bytes-at-lt6.false, c.loop-k.invariant.1)

pub loop-k-preserved : goal.loop-k-preserved
loop-k-preserved c =
    let left : c.loop-k.k < c.args.count → c.args.count - c.loop-k.k ≡ suc (c.args.count - (c.loop-k.k + 1)) = λ h. omega arith in
    let g = pair-got c.args.bytes.now c.loop-k.at c.args.first c.loop-k.low _ _ c.loop-k.invariant.1 (left c.loop-k-test.true) c.if-bytes-at-lt4.false c.four-v.result c.four-v.ensures c.if-v-low.false c.if-first-v.false c.if-bytes-at-lt6.false c.two-w.result c.two-w.ensures.number c.if-w-eq0.false in (
      omega (arith, c.loop-k-test.true),
      omega (arith, c.if-bytes-at-lt6.false, c.loop-k.invariant.1),
      omega (arith, c.two-w.ensures.small, c.loop-k.invariant.2),
      c.loop-k.invariant.3 ∙ ap (summed c.args.r c.loop-k.sum) g ∙ summed-more c.args.r c.loop-k.sum c.four-v.result c.two-w.result _,
    )

pub returns-then-sum-r : goal.returns-then-sum-r
returns-then-sum-r c =
    sym (c.loop-k.invariant.3 ∙ summed-bad c.args.first c.loop-k.low c.args.r c.loop-k.sum (drop c.loop-k.at c.args.bytes.now) (c.args.count - c.loop-k.k) (omega (arith, c.loop-k-test.false)) c.if-sum-r.true)

pub returns : goal.returns
returns c =
    sym (c.loop-k.invariant.3 ∙ summed-good c.args.first c.loop-k.low c.args.r c.loop-k.sum (drop c.loop-k.at c.args.bytes.now) (c.args.count - c.loop-k.k) (omega (arith, c.loop-k-test.false)) c.if-sum-r.false)
