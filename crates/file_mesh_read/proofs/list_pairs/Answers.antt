-- `file_mesh_read::list_pairs` meets its contract. The invariant: the first k pairs are read. Assumes nothing.
use Rattle.file_mesh_read.proofs.Listed.{pairs-begin, pairs-same, pairs-done, pairs-more}
use lib.ListN.{length, length-set}
use native.Mathlib.Omega.{arith}
use mathlib.Core.Path.{◌≡◌}
use Rattle.file_mesh_read.proofs.list_pairs.Goals as goal

pub loop-k-init : goal.loop-k-init
loop-k-init c = pairs-begin _ _ _ _

pub overflow_mul-i : goal.overflow_mul-i
overflow_mul-i c = omega (arith, c.requires.1, c.loop-k-test.true)

pub overflow_mul-at : goal.overflow_mul-at
overflow_mul-at c = omega (arith, c.requires.1, c.loop-k-test.true)

pub overflow_add-at : goal.overflow_add-at
overflow_add-at c = omega (arith, c.requires.1, c.loop-k-test.true)

pub four-requires : goal.four-requires
four-requires c = omega (arith, c.requires.1, c.loop-k-test.true)

pub offset_bounds-to-i : goal.offset_bounds-to-i
offset_bounds-to-i c = omega (arith, c.requires.0, c.loop-k-test.true, c.well_formed)

pub bounds-to-i : goal.bounds-to-i
bounds-to-i c =
    let same : length c.loop-k.to ≡ length c.args.to.now = pairs-same c.args.count c.args.from c.args.bytes.now c.args.to.now c.loop-k.to c.loop-k.k c.requires.0 c.loop-k.invariant in
    omega (arith, c.requires.0, c.loop-k-test.true, same)

pub overflow_add-at-in-loop-k : goal.overflow_add-at-in-loop-k
overflow_add-at-in-loop-k c = omega (arith, c.requires.1, c.loop-k-test.true)

pub two-requires : goal.two-requires
two-requires c = omega (arith, c.requires.1, c.loop-k-test.true)

pub overflow_add-to : goal.overflow_add-to
overflow_add-to c = omega (arith, c.requires.1, c.loop-k-test.true)

pub offset_bounds-to-i-in-loop-k : goal.offset_bounds-to-i-in-loop-k
offset_bounds-to-i-in-loop-k c = omega (arith, c.requires.0, c.loop-k-test.true, c.well_formed)

pub bounds-to-i-in-loop-k : goal.bounds-to-i-in-loop-k
bounds-to-i-in-loop-k c =
    let same : length c.loop-k.to ≡ length c.args.to.now = pairs-same c.args.count c.args.from c.args.bytes.now c.args.to.now c.loop-k.to c.loop-k.k c.requires.0 c.loop-k.invariant in
    simp length-set (omega (arith, c.requires.0, c.loop-k-test.true, same))

pub loop-k-preserved : goal.loop-k-preserved
loop-k-preserved c =
    pairs-more c.args.count c.args.from c.args.bytes.now c.args.to.now c.loop-k.to c.loop-k.k c.requires.0 c.loop-k.invariant c.loop-k-test.true c.four.result c.two.result c.four.ensures c.two.ensures.number

pub shape_of-to : goal.shape_of-to
shape_of-to c =
    let same : length c.loop-k.to ≡ length c.args.to.now = pairs-same c.args.count c.args.from c.args.bytes.now c.args.to.now c.loop-k.to c.loop-k.k c.requires.0 c.loop-k.invariant in
    same

pub returns : goal.returns
returns c =
    pairs-done c.args.count c.args.from c.args.bytes.now c.args.to.now c.loop-k.to c.loop-k.k c.requires.0 c.loop-k.invariant c.loop-k-test.false
