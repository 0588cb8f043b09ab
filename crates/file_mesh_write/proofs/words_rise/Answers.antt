-- `file_mesh_write::words_rise` meets its contract. The invariant: the test of all words is the test of those from word k on, after word k - 1. Assumes nothing.
use Rattle.file_mesh_write.proofs.Fit.{part, rise-none, word_end, word-start, part-before, part-now, rise-bad, rise-more, rise-end, count_fits_lem, upto}
use Rattle.file_mesh.specs.Rules.{rise}
use Rattle.complex.specs.Cells.{comes_before}
use Rattle.multiindex.specs.Sort.{sort_word}
use lib.ListN.{length, take, drop}
use mathlib.Core.Bool.{Bool, true, false}
use mathlib.Core.List.{[]}
use Prim.Native.Nat.{ℕ, ◌+◌, ◌*◌, ◌-◌, ◌/◌, ◌≤◌, ◌<◌}
use native.Mathlib.Omega.{arith}
use mathlib.Core.Path.{◌≡◌, sym, ap, ◌∙◌}
use Rattle.file_mesh_write.proofs.words_rise.Goals as goal

pub loop-k-init : goal.loop-k-init
loop-k-init c = rise-none c.args.d (length c.args.words.now / (c.args.d + 1)) c.args.words.now

pub overflow_mul-at : goal.overflow_mul-at
overflow_mul-at c =
    let h : c.loop-k.k < length c.args.words.now / (c.args.d + 1) = c.loop-k-test.true in
    let ws : mathlib.Core.List.List ℕ = c.args.words.now in
    let k : ℕ = c.loop-k.k in
    let end-in : k * (c.args.d + 1) + (c.args.d + 1) ≤ length ws = word_end c.args.d (length ws / (c.args.d + 1)) k ws c.requires c.loop-k.auto.k h (count_fits_lem (length ws) (c.args.d + 1)) in
    omega (arith, end-in, c.well_formed)

pub overflow_sub-before : goal.overflow_sub-before
overflow_sub-before c =
    let h : c.loop-k.k < length c.args.words.now / (c.args.d + 1) = c.loop-k-test.true in
    let ws : mathlib.Core.List.List ℕ = c.args.words.now in
    let k : ℕ = c.loop-k.k in
    let start-in : c.args.d + 1 ≤ k * (c.args.d + 1) = word-start c.args.d (length ws / (c.args.d + 1)) k ws c.requires c.loop-k.auto.k h (count_fits_lem (length ws) (c.args.d + 1)) in
    start-in

pub overflow_add-end : goal.overflow_add-end
overflow_add-end c =
    let h : c.loop-k.k < length c.args.words.now / (c.args.d + 1) = c.loop-k-test.true in
    let ws : mathlib.Core.List.List ℕ = c.args.words.now in
    let k : ℕ = c.loop-k.k in
    let end-in : k * (c.args.d + 1) + (c.args.d + 1) ≤ length ws = word_end c.args.d (length ws / (c.args.d + 1)) k ws c.requires c.loop-k.auto.k h (count_fits_lem (length ws) (c.args.d + 1)) in
    omega (arith, end-in, c.well_formed)

pub offset_bounds-words-before : goal.offset_bounds-words-before
offset_bounds-words-before c =
    let h : c.loop-k.k < length c.args.words.now / (c.args.d + 1) = c.loop-k-test.true in
    let ws : mathlib.Core.List.List ℕ = c.args.words.now in
    let k : ℕ = c.loop-k.k in
    let end-in : k * (c.args.d + 1) + (c.args.d + 1) ≤ length ws = word_end c.args.d (length ws / (c.args.d + 1)) k ws c.requires c.loop-k.auto.k h (count_fits_lem (length ws) (c.args.d + 1)) in
    omega (arith, end-in, c.well_formed)

pub slice_bounds-cell_before-end : goal.slice_bounds-cell_before-end
slice_bounds-cell_before-end c =
    let h : c.loop-k.k < length c.args.words.now / (c.args.d + 1) = c.loop-k-test.true in
    let ws : mathlib.Core.List.List ℕ = c.args.words.now in
    let k : ℕ = c.loop-k.k in
    let end-in : k * (c.args.d + 1) + (c.args.d + 1) ≤ length ws = word_end c.args.d (length ws / (c.args.d + 1)) k ws c.requires c.loop-k.auto.k h (count_fits_lem (length ws) (c.args.d + 1)) in
    omega (arith, end-in)

pub offset_bounds-words-at : goal.offset_bounds-words-at
offset_bounds-words-at c =
    let h : c.loop-k.k < length c.args.words.now / (c.args.d + 1) = c.loop-k-test.true in
    let ws : mathlib.Core.List.List ℕ = c.args.words.now in
    let k : ℕ = c.loop-k.k in
    let end-in : k * (c.args.d + 1) + (c.args.d + 1) ≤ length ws = word_end c.args.d (length ws / (c.args.d + 1)) k ws c.requires c.loop-k.auto.k h (count_fits_lem (length ws) (c.args.d + 1)) in
    omega (arith, end-in, c.well_formed)

pub slice_bounds-cell_before-end-in-loop-k : goal.slice_bounds-cell_before-end-in-loop-k
slice_bounds-cell_before-end-in-loop-k c =
    let h : c.loop-k.k < length c.args.words.now / (c.args.d + 1) = c.loop-k-test.true in
    let ws : mathlib.Core.List.List ℕ = c.args.words.now in
    let k : ℕ = c.loop-k.k in
    let end-in : k * (c.args.d + 1) + (c.args.d + 1) ≤ length ws = word_end c.args.d (length ws / (c.args.d + 1)) k ws c.requires c.loop-k.auto.k h (count_fits_lem (length ws) (c.args.d + 1)) in
    omega (arith, end-in)

pub cell_before-requires : goal.cell_before-requires
cell_before-requires c =
    let h : c.loop-k.k < length c.args.words.now / (c.args.d + 1) = c.loop-k-test.true in
    let ws : mathlib.Core.List.List ℕ = c.args.words.now in
    let k : ℕ = c.loop-k.k in
    let start-in : c.args.d + 1 ≤ k * (c.args.d + 1) = word-start c.args.d (length ws / (c.args.d + 1)) k ws c.requires c.loop-k.auto.k h (count_fits_lem (length ws) (c.args.d + 1)) in
    let one : mathlib.Core.List.List ℕ = take (k * (c.args.d + 1) - (k * (c.args.d + 1) - (c.args.d + 1))) (drop (k * (c.args.d + 1) - (c.args.d + 1)) ws) in
    let other : mathlib.Core.List.List ℕ = take (k * (c.args.d + 1) + (c.args.d + 1) - k * (c.args.d + 1)) (drop (k * (c.args.d + 1)) ws) in
    let one-is : one ≡ part c.args.d ws (k * (c.args.d + 1) - (c.args.d + 1)) = upto ws (k * (c.args.d + 1) - (c.args.d + 1)) (k * (c.args.d + 1)) (c.args.d + 1) (omega (arith, start-in)) in
    let other-is : other ≡ part c.args.d ws (k * (c.args.d + 1)) = upto ws (k * (c.args.d + 1)) (k * (c.args.d + 1) + (c.args.d + 1)) (c.args.d + 1) (omega arith) in
    let one-long : length one ≡ c.args.d + 1 = ap length one-is ∙ part-before c.args.d (length ws / (c.args.d + 1)) k ws c.requires c.loop-k.auto.k h (count_fits_lem (length ws) (c.args.d + 1)) in
    let other_long : length other ≡ c.args.d + 1 = ap length other-is ∙ part-now c.args.d (length ws / (c.args.d + 1)) k ws c.requires c.loop-k.auto.k h (count_fits_lem (length ws) (c.args.d + 1)) in
    let o = one-long in
    let t = other_long in
    (o ∙ sym t, omega (arith, t, c.requires))

pub returns-then-not-cell_before : goal.returns-then-not-cell_before
returns-then-not-cell_before c =
    let h : c.loop-k.k < length c.args.words.now / (c.args.d + 1) = c.loop-k-test.true in
    let ws : mathlib.Core.List.List ℕ = c.args.words.now in
    let k : ℕ = c.loop-k.k in
    let start-in : c.args.d + 1 ≤ k * (c.args.d + 1) = word-start c.args.d (length ws / (c.args.d + 1)) k ws c.requires c.loop-k.auto.k h (count_fits_lem (length ws) (c.args.d + 1)) in
    let one : mathlib.Core.List.List ℕ = take (k * (c.args.d + 1) - (k * (c.args.d + 1) - (c.args.d + 1))) (drop (k * (c.args.d + 1) - (c.args.d + 1)) ws) in
    let other : mathlib.Core.List.List ℕ = take (k * (c.args.d + 1) + (c.args.d + 1) - k * (c.args.d + 1)) (drop (k * (c.args.d + 1)) ws) in
    let one-is : one ≡ part c.args.d ws (k * (c.args.d + 1) - (c.args.d + 1)) = upto ws (k * (c.args.d + 1) - (c.args.d + 1)) (k * (c.args.d + 1)) (c.args.d + 1) (omega (arith, start-in)) in
    let other-is : other ≡ part c.args.d ws (k * (c.args.d + 1)) = upto ws (k * (c.args.d + 1)) (k * (c.args.d + 1) + (c.args.d + 1)) (c.args.d + 1) (omega arith) in
    let one-long : length one ≡ c.args.d + 1 = ap length one-is ∙ part-before c.args.d (length ws / (c.args.d + 1)) k ws c.requires c.loop-k.auto.k h (count_fits_lem (length ws) (c.args.d + 1)) in
    let compared : (b : Bool) → b ≡ comes_before (length one) (sort_word one) (sort_word other) → comes_before (c.args.d + 1) (sort_word (part c.args.d ws (k * (c.args.d + 1) - (c.args.d + 1)))) (sort_word (part c.args.d ws (k * (c.args.d + 1)))) ≡ b = λ b e. sym (e ∙ ap (λ (n : ℕ). comes_before n (sort_word one) (sort_word other)) one-long ∙ ap (λ (x : mathlib.Core.List.List ℕ). comes_before (c.args.d + 1) (sort_word x) (sort_word other)) one-is ∙ ap (λ (x : mathlib.Core.List.List ℕ). comes_before (c.args.d + 1) (sort_word (part c.args.d ws (k * (c.args.d + 1) - (c.args.d + 1)))) (sort_word x)) other-is) in
    let bad : (b : Bool) → b ≡ comes_before (length one) (sort_word one) (sort_word other) → b ≡ false → false ≡ rise c.args.d (length ws / (c.args.d + 1)) [] ws = λ b e f. sym (c.loop-k.invariant ∙ rise-bad c.args.d (length ws / (c.args.d + 1)) k ws c.requires c.loop-k.auto.k h (count_fits_lem (length ws) (c.args.d + 1)) (compared b e ∙ f)) in
    bad c.cell_before.result c.cell_before.ensures (c.if-not-cell_before.true)

pub loop-k-preserved : goal.loop-k-preserved
loop-k-preserved c =
    let h : c.loop-k.k < length c.args.words.now / (c.args.d + 1) = c.loop-k-test.true in
    let ws : mathlib.Core.List.List ℕ = c.args.words.now in
    let k : ℕ = c.loop-k.k in
    let start-in : c.args.d + 1 ≤ k * (c.args.d + 1) = word-start c.args.d (length ws / (c.args.d + 1)) k ws c.requires c.loop-k.auto.k h (count_fits_lem (length ws) (c.args.d + 1)) in
    let one : mathlib.Core.List.List ℕ = take (k * (c.args.d + 1) - (k * (c.args.d + 1) - (c.args.d + 1))) (drop (k * (c.args.d + 1) - (c.args.d + 1)) ws) in
    let other : mathlib.Core.List.List ℕ = take (k * (c.args.d + 1) + (c.args.d + 1) - k * (c.args.d + 1)) (drop (k * (c.args.d + 1)) ws) in
    let one-is : one ≡ part c.args.d ws (k * (c.args.d + 1) - (c.args.d + 1)) = upto ws (k * (c.args.d + 1) - (c.args.d + 1)) (k * (c.args.d + 1)) (c.args.d + 1) (omega (arith, start-in)) in
    let other-is : other ≡ part c.args.d ws (k * (c.args.d + 1)) = upto ws (k * (c.args.d + 1)) (k * (c.args.d + 1) + (c.args.d + 1)) (c.args.d + 1) (omega arith) in
    let one-long : length one ≡ c.args.d + 1 = ap length one-is ∙ part-before c.args.d (length ws / (c.args.d + 1)) k ws c.requires c.loop-k.auto.k h (count_fits_lem (length ws) (c.args.d + 1)) in
    let compared : (b : Bool) → b ≡ comes_before (length one) (sort_word one) (sort_word other) → comes_before (c.args.d + 1) (sort_word (part c.args.d ws (k * (c.args.d + 1) - (c.args.d + 1)))) (sort_word (part c.args.d ws (k * (c.args.d + 1)))) ≡ b = λ b e. sym (e ∙ ap (λ (n : ℕ). comes_before n (sort_word one) (sort_word other)) one-long ∙ ap (λ (x : mathlib.Core.List.List ℕ). comes_before (c.args.d + 1) (sort_word x) (sort_word other)) one-is ∙ ap (λ (x : mathlib.Core.List.List ℕ). comes_before (c.args.d + 1) (sort_word (part c.args.d ws (k * (c.args.d + 1) - (c.args.d + 1)))) (sort_word x)) other-is) in
    let again : (b : Bool) → b ≡ comes_before (length one) (sort_word one) (sort_word other) → b ≡ true → rise c.args.d (length ws / (c.args.d + 1)) [] ws ≡ rise c.args.d (length ws / (c.args.d + 1) - (k + 1)) (part c.args.d ws ((k + 1) * (c.args.d + 1) - (c.args.d + 1))) (drop ((k + 1) * (c.args.d + 1)) ws) = λ b e f. c.loop-k.invariant ∙ rise-more c.args.d (length ws / (c.args.d + 1)) k ws c.requires c.loop-k.auto.k h (count_fits_lem (length ws) (c.args.d + 1)) (compared b e ∙ f) in
    again c.cell_before.result c.cell_before.ensures (c.if-not-cell_before.false)

pub returns : goal.returns
returns c = sym (c.loop-k.invariant ∙ rise-end _ _ _ _ _ c.loop-k-test.false)
