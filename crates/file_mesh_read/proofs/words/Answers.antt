-- `file_mesh_read::words` meets its contract. The invariant: the words are read as the words from word k on are, after those before it, whose vertices end at `top`. Assumes nothing.
use Rattle.refusal.proofs.Chain.{passed_on}
use Rattle.file_mesh_read.proofs.Turns.{topped, topped-none, place, words-refused, word-inside, next-inside, words_more, words-done}
use Rattle.file_mesh.specs.Read.{words_from}
use Rattle.file_mesh.specs.Mesh.{past}
use Rattle.file_bytes.specs.Bytes.{fours_of}
use lib.Seq.{take_all, length-take-le}
use lib.ListN.{length, drop, length-drop}
use Prim.Native.Nat.{ℕ, ◌+◌, ◌*◌, ◌-◌, max}
use native.Mathlib.Nat.{mul-le-mul_left}
use native.Mathlib.Omega.{arith}
use mathlib.Core.List.{List, []}
use mathlib.Core.Path.{sym, ap, ◌∙◌}
use Rattle.file_mesh_read.proofs.words.Goals as goal

pub overflow_add-n : goal.overflow_add-n
overflow_add-n c = omega (arith, c.requires.0)

pub overflow_mul-size : goal.overflow_mul-size
overflow_mul-size c = omega (arith, c.requires.0)

pub overflow_add-size : goal.overflow_add-size
overflow_add-size c = omega (arith, c.requires.0)

pub loop-k-init : goal.loop-k-init
loop-k-init c =
    (omega arith, omega (arith, c.requires.2), topped-none (words_from c.args.d c.args.count [] (drop 10 c.args.bytes.now)) ∙ ap (λ (n : ℕ). topped 0 (words_from c.args.d n [] (drop 10 c.args.bytes.now))) {x = c.args.count} {y = c.args.count - 0} (omega arith) ∙ ap (λ (n : ℕ). topped 0 (words_from c.args.d (c.args.count - 0) [] (drop n c.args.bytes.now))) {x = 10} {y = place c.args.d 0} (omega arith))

pub overflow_mul-at : goal.overflow_mul-at
overflow_mul-at c = omega (arith, c.loop-k.invariant.1)

pub overflow_add-at : goal.overflow_add-at
overflow_add-at c = omega (arith, c.loop-k.invariant.1)

pub word_refusal-requires : goal.word_refusal-requires
word_refusal-requires c = (c.requires.0, c.loop-k.invariant.1, omega (arith, mul-le-mul_left {m = (c.args.d + 1) * 4} {n = 6 + (c.args.d + 1) * 4} c.loop-k.k (omega arith)))

pub returns-in_err-word_refusal : goal.returns-in_err-word_refusal
returns-in_err-word_refusal c =
    rw (passed_on c.from_residual.ensures.1)
    (sym (c.loop-k.invariant.2 ∙ words-refused c.args.d c.args.count c.loop-k.k c.args.bytes.now c.loop-k-test.true c.loop-k.top _ c.in_err-word_refusal.ensures))

pub overflow_add-from : goal.overflow_add-from
overflow_add-from c = omega (arith, c.loop-k.invariant.1, word-inside c.args.d c.args.count c.loop-k.k c.args.bytes.now c.loop-k-test.true c.in_ok-word_refusal.ensures)

pub slice_bounds-vertices-count : goal.slice_bounds-vertices-count
slice_bounds-vertices-count c = omega (arith, c.loop-k.invariant.1, word-inside c.args.d c.args.count c.loop-k.k c.args.bytes.now c.loop-k-test.true c.in_ok-word_refusal.ensures)

pub slice_bounds-vertices-start : goal.slice_bounds-vertices-start
slice_bounds-vertices-start c = omega (arith, c.loop-k.invariant.1, word-inside c.args.d c.args.count c.loop-k.k c.args.bytes.now c.loop-k-test.true c.in_ok-word_refusal.ensures)

pub vertices-top-requires : goal.vertices-top-requires
vertices-top-requires c =
    let from = place c.args.d c.loop-k.k + 6 in
    let bs = c.args.bytes.now in
    omega (arith, length-take-le (length bs - from) (drop from bs) (omega (arith, length-drop from bs)), c.loop-k.invariant.1, word-inside c.args.d c.args.count c.loop-k.k bs c.loop-k-test.true c.in_ok-word_refusal.ensures)

pub loop-k-preserved : goal.loop-k-preserved
loop-k-preserved c =
    let bs = c.args.bytes.now in
    let from = place c.args.d c.loop-k.k + 6 in
    let t = c.vertices-top.ensures ∙ ap (λ (x : List ℕ). max c.loop-k.top (past (fours_of (c.args.d + 1) x))) (take_all (length bs - from) (drop from bs) (omega (arith, length-drop from bs))) in (
      omega (arith, c.loop-k-test.true),
      next-inside c.args.d c.args.count c.loop-k.k bs c.loop-k-test.true c.in_ok-word_refusal.ensures,
      c.loop-k.invariant.2 ∙ words_more c.args.d c.args.count c.loop-k.k bs c.loop-k-test.true c.in_ok-word_refusal.ensures c.loop-k.top c.vertices-top.result t,
    )

pub returns : goal.returns
returns c =
    sym (c.loop-k.invariant.2 ∙ words-done c.args.d c.args.count c.loop-k.k c.loop-k.top _ _ c.loop-k-test.false)
