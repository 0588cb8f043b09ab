-- `file_mesh_write::put_pairs` meets its contract. The invariant: the first k pairs are written. Assumes nothing.
use Rattle.file_mesh_write.proofs.Loops.{pairs-begin, pairs-same, pairs_end, pair-room, pair-tail, pair-more, pair-next}
use lib.ListN.{length}
use Prim.Native.Nat.{◌+◌, ◌≤◌, ◌<◌}
use native.Mathlib.Omega.{arith}
use mathlib.Core.Path.{◌≡◌}
use Rattle.file_mesh_write.proofs.put_pairs.Goals as goal

pub loop-k-init : goal.loop-k-init
loop-k-init c = pairs-begin _ _

pub slice_bounds-put_pair-count : goal.slice_bounds-put_pair-count
slice_bounds-put_pair-count c =
    let h : c.loop-k.k + c.loop-k.k < length c.args.pairs.now = omega (arith, c.loop-k-test.true, c.requires.0) in
    let room : c.loop-k.at + 6 ≤ length c.loop-k.to = pair-room c.args.count c.args.pairs.now c.args.to.now c.loop-k.to c.loop-k.at (c.loop-k.k + c.loop-k.k) c.requires.0 c.requires.1 c.loop-k.invariant h in
    omega (arith, room)

pub slice_bounds-put_pair-start : goal.slice_bounds-put_pair-start
slice_bounds-put_pair-start c =
    let h : c.loop-k.k + c.loop-k.k < length c.args.pairs.now = omega (arith, c.loop-k-test.true, c.requires.0) in
    let room : c.loop-k.at + 6 ≤ length c.loop-k.to = pair-room c.args.count c.args.pairs.now c.args.to.now c.loop-k.to c.loop-k.at (c.loop-k.k + c.loop-k.k) c.requires.0 c.requires.1 c.loop-k.invariant h in
    omega (arith, room)

pub put_pair-requires : goal.put_pair-requires
put_pair-requires c =
    let h : c.loop-k.k + c.loop-k.k < length c.args.pairs.now = omega (arith, c.loop-k-test.true, c.requires.0) in
    pair-tail c.args.count c.args.pairs.now c.args.to.now c.loop-k.to c.loop-k.at (c.loop-k.k + c.loop-k.k) c.requires.0 c.requires.1 c.loop-k.invariant h

pub overflow_add-at : goal.overflow_add-at
overflow_add-at c =
    let h : c.loop-k.k + c.loop-k.k < length c.args.pairs.now = omega (arith, c.loop-k-test.true, c.requires.0) in
    let room : c.loop-k.at + 6 ≤ length c.loop-k.to = pair-room c.args.count c.args.pairs.now c.args.to.now c.loop-k.to c.loop-k.at (c.loop-k.k + c.loop-k.k) c.requires.0 c.requires.1 c.loop-k.invariant h in
    let same : length c.loop-k.to ≡ length c.args.to.now = pairs-same c.args.count c.args.pairs.now c.args.to.now c.loop-k.to c.loop-k.at (c.loop-k.k + c.loop-k.k) c.requires.0 c.requires.1 c.loop-k.invariant in
    omega (arith, room, same)

pub loop-k-preserved : goal.loop-k-preserved
loop-k-preserved c =
    let h : c.loop-k.k + c.loop-k.k < length c.args.pairs.now = omega (arith, c.loop-k-test.true, c.requires.0) in
    pair-next _ _ _ _ c.loop-k.k (pair-more c.args.count c.args.pairs.now c.args.to.now c.loop-k.to c.loop-k.at (c.loop-k.k + c.loop-k.k) c.requires.0 c.requires.1 c.loop-k.invariant h c.put_pair.new.to c.put_pair.ensures)

pub shape_of-to : goal.shape_of-to
shape_of-to c = pairs-same c.args.count c.args.pairs.now c.args.to.now c.loop-k.to c.loop-k.at (c.loop-k.k + c.loop-k.k) c.requires.0 c.requires.1 c.loop-k.invariant

pub returns : goal.returns
returns c = pairs_end c.args.count c.args.pairs.now c.args.to.now c.loop-k.to c.loop-k.at (c.loop-k.k + c.loop-k.k) c.requires.0 c.requires.1 c.loop-k.invariant (omega (arith, c.loop-k-test.false, c.requires.0))
