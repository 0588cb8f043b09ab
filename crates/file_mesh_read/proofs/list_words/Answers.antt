-- `file_mesh_read::list_words` meets its contract. The invariant: the first k words are read. Assumes nothing.
use Rattle.file_mesh_read.proofs.Listed.{read-begin, read_same, read_done, part_in, word-there, word-tail, read_more}
use lib.ListN.{length}
use Prim.Native.Nat.{◌+◌, ◌*◌, ◌≤◌, ◌<◌}
use native.Mathlib.Omega.{arith}
use mathlib.Core.Path.{◌≡◌}
use Rattle.file_mesh_read.proofs.list_words.Goals as goal

pub overflow_mul-size : goal.overflow_mul-size
overflow_mul-size c = omega (arith, c.requires.0)

pub overflow_add-size : goal.overflow_add-size
overflow_add-size c = omega (arith, c.requires.0)

pub loop-k-init : goal.loop-k-init
loop-k-init c = read-begin _ _ _ _

pub overflow_mul-from : goal.overflow_mul-from
overflow_mul-from c =
    let h : c.loop-k.k < c.args.count = c.loop-k-test.true in
    let there : 16 + c.loop-k.k * (6 + c.args.n * 4) + c.args.n * 4 ≤ length c.args.bytes.now = word-there c.args.n c.args.count c.args.bytes.now c.args.to.now c.loop-k.to c.loop-k.k c.requires.1 c.requires.2 c.loop-k.invariant h in
    omega (arith, there)

pub overflow_add-from : goal.overflow_add-from
overflow_add-from c =
    let h : c.loop-k.k < c.args.count = c.loop-k-test.true in
    let there : 16 + c.loop-k.k * (6 + c.args.n * 4) + c.args.n * 4 ≤ length c.args.bytes.now = word-there c.args.n c.args.count c.args.bytes.now c.args.to.now c.loop-k.to c.loop-k.k c.requires.1 c.requires.2 c.loop-k.invariant h in
    omega (arith, there)

pub overflow_mul-at : goal.overflow_mul-at
overflow_mul-at c =
    let same : length c.loop-k.to ≡ length c.args.to.now = read_same c.args.n c.args.count c.args.bytes.now c.args.to.now c.loop-k.to c.loop-k.k c.requires.1 c.requires.2 c.loop-k.invariant in
    let h : c.loop-k.k < c.args.count = c.loop-k-test.true in
    let inside : c.loop-k.k * c.args.n + c.args.n ≤ length c.loop-k.to = part_in c.args.n c.args.count c.args.bytes.now c.args.to.now c.loop-k.to c.loop-k.k c.requires.1 c.requires.2 c.loop-k.invariant h in
    omega (arith, inside, same)

pub overflow_add-end : goal.overflow_add-end
overflow_add-end c =
    let same : length c.loop-k.to ≡ length c.args.to.now = read_same c.args.n c.args.count c.args.bytes.now c.args.to.now c.loop-k.to c.loop-k.k c.requires.1 c.requires.2 c.loop-k.invariant in
    let h : c.loop-k.k < c.args.count = c.loop-k-test.true in
    let inside : c.loop-k.k * c.args.n + c.args.n ≤ length c.loop-k.to = part_in c.args.n c.args.count c.args.bytes.now c.args.to.now c.loop-k.to c.loop-k.k c.requires.1 c.requires.2 c.loop-k.invariant h in
    omega (arith, inside, same)

pub slice_bounds-read_fours-count : goal.slice_bounds-read_fours-count
slice_bounds-read_fours-count c =
    let h : c.loop-k.k < c.args.count = c.loop-k-test.true in
    let there : 16 + c.loop-k.k * (6 + c.args.n * 4) + c.args.n * 4 ≤ length c.args.bytes.now = word-there c.args.n c.args.count c.args.bytes.now c.args.to.now c.loop-k.to c.loop-k.k c.requires.1 c.requires.2 c.loop-k.invariant h in
    omega (arith, there)

pub slice_bounds-read_fours-start : goal.slice_bounds-read_fours-start
slice_bounds-read_fours-start c =
    let h : c.loop-k.k < c.args.count = c.loop-k-test.true in
    let there : 16 + c.loop-k.k * (6 + c.args.n * 4) + c.args.n * 4 ≤ length c.args.bytes.now = word-there c.args.n c.args.count c.args.bytes.now c.args.to.now c.loop-k.to c.loop-k.k c.requires.1 c.requires.2 c.loop-k.invariant h in
    omega (arith, there)

pub offset_bounds-to-at : goal.offset_bounds-to-at
offset_bounds-to-at c =
    let same : length c.loop-k.to ≡ length c.args.to.now = read_same c.args.n c.args.count c.args.bytes.now c.args.to.now c.loop-k.to c.loop-k.k c.requires.1 c.requires.2 c.loop-k.invariant in
    let h : c.loop-k.k < c.args.count = c.loop-k-test.true in
    let inside : c.loop-k.k * c.args.n + c.args.n ≤ length c.loop-k.to = part_in c.args.n c.args.count c.args.bytes.now c.args.to.now c.loop-k.to c.loop-k.k c.requires.1 c.requires.2 c.loop-k.invariant h in
    omega (arith, inside, same)

pub slice_bounds-read_fours-end-in-loop-k : goal.slice_bounds-read_fours-end-in-loop-k
slice_bounds-read_fours-end-in-loop-k c =
    let h : c.loop-k.k < c.args.count = c.loop-k-test.true in
    let inside : c.loop-k.k * c.args.n + c.args.n ≤ length c.loop-k.to = part_in c.args.n c.args.count c.args.bytes.now c.args.to.now c.loop-k.to c.loop-k.k c.requires.1 c.requires.2 c.loop-k.invariant h in
    omega (arith, inside)

pub read_fours-requires : goal.read_fours-requires
read_fours-requires c =
    word-tail c.args.n c.args.count c.args.bytes.now c.args.to.now c.loop-k.to c.loop-k.k c.requires.1 c.requires.2 c.loop-k.invariant c.loop-k-test.true

pub loop-k-preserved : goal.loop-k-preserved
loop-k-preserved c =
    read_more c.args.n c.args.count c.args.bytes.now c.args.to.now c.loop-k.to c.loop-k.k c.requires.1 c.requires.2 c.loop-k.invariant c.loop-k-test.true c.read_fours.new.to c.read_fours.ensures

pub shape_of-to : goal.shape_of-to
shape_of-to c =
    let same : length c.loop-k.to ≡ length c.args.to.now = read_same c.args.n c.args.count c.args.bytes.now c.args.to.now c.loop-k.to c.loop-k.k c.requires.1 c.requires.2 c.loop-k.invariant in
    same

pub returns : goal.returns
returns c =
    read_done c.args.n c.args.count c.args.bytes.now c.args.to.now c.loop-k.to c.loop-k.k c.requires.1 c.requires.2 c.loop-k.invariant c.loop-k-test.false
