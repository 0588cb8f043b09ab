-- `file_mesh_write::put_words` meets its contract. The invariant: the records of the first k words are written. Assumes nothing.
use Rattle.file_mesh_write.proofs.Loops.{many, words-begin, words_same, words-end, word_in, word_size, word_room, word-tail, word_more}
use Rattle.file_mesh_write.proofs.Fit.{part, upto}
use lib.ListN.{length, take, drop}
use Prim.Native.Nat.{ℕ, ◌+◌, ◌*◌, ◌-◌, ◌≤◌, ◌<◌}
use native.Mathlib.Omega.{arith}
use mathlib.Core.List.{List}
use mathlib.Core.Path.{◌≡◌, ap, ◌∙◌}
use Rattle.file_mesh_write.proofs.put_words.Goals as goal

pub loop-k-init : goal.loop-k-init
loop-k-init c = words-begin _ _ _

pub overflow_mul-from : goal.overflow_mul-from
overflow_mul-from c =
    let h : c.loop-k.k < many c.args.d c.args.words.now = c.loop-k-test.true in
    let inside : c.loop-k.k * (c.args.d + 1) + (c.args.d + 1) ≤ length c.args.words.now = word_in c.args.d c.args.words.now c.args.to.now c.loop-k.to c.loop-k.at c.loop-k.k c.requires.0 c.requires.1 c.loop-k.invariant h in
    omega (arith, inside)

pub overflow_add-end : goal.overflow_add-end
overflow_add-end c =
    let h : c.loop-k.k < many c.args.d c.args.words.now = c.loop-k-test.true in
    let inside : c.loop-k.k * (c.args.d + 1) + (c.args.d + 1) ≤ length c.args.words.now = word_in c.args.d c.args.words.now c.args.to.now c.loop-k.to c.loop-k.at c.loop-k.k c.requires.0 c.requires.1 c.loop-k.invariant h in
    omega (arith, inside)

pub offset_bounds-words-from : goal.offset_bounds-words-from
offset_bounds-words-from c =
    let h : c.loop-k.k < many c.args.d c.args.words.now = c.loop-k-test.true in
    let inside : c.loop-k.k * (c.args.d + 1) + (c.args.d + 1) ≤ length c.args.words.now = word_in c.args.d c.args.words.now c.args.to.now c.loop-k.to c.loop-k.at c.loop-k.k c.requires.0 c.requires.1 c.loop-k.invariant h in
    omega (arith, inside)

pub slice_bounds-put_word-end : goal.slice_bounds-put_word-end
slice_bounds-put_word-end c =
    let h : c.loop-k.k < many c.args.d c.args.words.now = c.loop-k-test.true in
    let inside : c.loop-k.k * (c.args.d + 1) + (c.args.d + 1) ≤ length c.args.words.now = word_in c.args.d c.args.words.now c.args.to.now c.loop-k.to c.loop-k.at c.loop-k.k c.requires.0 c.requires.1 c.loop-k.invariant h in
    omega (arith, inside)

pub slice_bounds-put_word-count-in-loop-k : goal.slice_bounds-put_word-count-in-loop-k
slice_bounds-put_word-count-in-loop-k c =
    let h : c.loop-k.k < many c.args.d c.args.words.now = c.loop-k-test.true in
    let room : c.loop-k.at + (6 + (c.args.d + 1) * 4) ≤ length c.loop-k.to = word_room c.args.d c.args.words.now c.args.to.now c.loop-k.to c.loop-k.at c.loop-k.k c.requires.0 c.requires.1 c.loop-k.invariant h in
    omega (arith, room)

pub slice_bounds-put_word-start-in-loop-k : goal.slice_bounds-put_word-start-in-loop-k
slice_bounds-put_word-start-in-loop-k c =
    let h : c.loop-k.k < many c.args.d c.args.words.now = c.loop-k-test.true in
    let room : c.loop-k.at + (6 + (c.args.d + 1) * 4) ≤ length c.loop-k.to = word_room c.args.d c.args.words.now c.args.to.now c.loop-k.to c.loop-k.at c.loop-k.k c.requires.0 c.requires.1 c.loop-k.invariant h in
    omega (arith, room)

pub put_word-requires : goal.put_word-requires
put_word-requires c =
    let h : c.loop-k.k < many c.args.d c.args.words.now = c.loop-k-test.true in
    let word : List ℕ = take (c.loop-k.k * (c.args.d + 1) + (c.args.d + 1) - c.loop-k.k * (c.args.d + 1)) (drop (c.loop-k.k * (c.args.d + 1)) c.args.words.now) in
    let word-is : word ≡ part c.args.d c.args.words.now (c.loop-k.k * (c.args.d + 1)) = upto c.args.words.now (c.loop-k.k * (c.args.d + 1)) (c.loop-k.k * (c.args.d + 1) + (c.args.d + 1)) (c.args.d + 1) (omega arith) in
    let word_long : length word ≡ c.args.d + 1 = ap length word-is ∙ word_size c.args.d c.args.words.now c.args.to.now c.loop-k.to c.loop-k.at c.loop-k.k c.requires.0 c.requires.1 c.loop-k.invariant h in
    let tail : 6 + (c.args.d + 1) * 4 ≤ length (take (length c.loop-k.to - c.loop-k.at) (drop c.loop-k.at c.loop-k.to)) = word-tail c.args.d c.args.words.now c.args.to.now c.loop-k.to c.loop-k.at c.loop-k.k c.requires.0 c.requires.1 c.loop-k.invariant h in
    let w = word_long in
    let t = tail in
    (omega (arith, w, c.requires.0), omega (arith, w, t))

pub overflow_add-at : goal.overflow_add-at
overflow_add-at c =
    let h : c.loop-k.k < many c.args.d c.args.words.now = c.loop-k-test.true in
    let room : c.loop-k.at + (6 + (c.args.d + 1) * 4) ≤ length c.loop-k.to = word_room c.args.d c.args.words.now c.args.to.now c.loop-k.to c.loop-k.at c.loop-k.k c.requires.0 c.requires.1 c.loop-k.invariant h in
    let same : length c.loop-k.to ≡ length c.args.to.now = words_same c.args.d c.args.words.now c.args.to.now c.loop-k.to c.loop-k.at c.loop-k.k c.requires.0 c.requires.1 c.loop-k.invariant in
    omega (arith, room, same)

pub loop-k-preserved : goal.loop-k-preserved
loop-k-preserved c =
    let h : c.loop-k.k < many c.args.d c.args.words.now = c.loop-k-test.true in
    let word : List ℕ = take (c.loop-k.k * (c.args.d + 1) + (c.args.d + 1) - c.loop-k.k * (c.args.d + 1)) (drop (c.loop-k.k * (c.args.d + 1)) c.args.words.now) in
    let word-is : word ≡ part c.args.d c.args.words.now (c.loop-k.k * (c.args.d + 1)) = upto c.args.words.now (c.loop-k.k * (c.args.d + 1)) (c.loop-k.k * (c.args.d + 1) + (c.args.d + 1)) (c.args.d + 1) (omega arith) in
    word_more c.args.d c.args.words.now c.args.to.now c.loop-k.to c.loop-k.at c.loop-k.k c.requires.0 c.requires.1 c.loop-k.invariant c.loop-k-test.true (word) c.put_word.new.to (word-is) c.put_word.ensures

pub shape_of-to : goal.shape_of-to
shape_of-to c =
    let same : length c.loop-k.to ≡ length c.args.to.now = words_same c.args.d c.args.words.now c.args.to.now c.loop-k.to c.loop-k.at c.loop-k.k c.requires.0 c.requires.1 c.loop-k.invariant in
    same

pub returns : goal.returns
returns c =
    words-end c.args.d c.args.words.now c.args.to.now c.loop-k.to c.loop-k.at c.loop-k.k c.requires.0 c.requires.1 c.loop-k.invariant c.loop-k-test.false
