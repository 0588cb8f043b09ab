-- `file_bytes::put_fours` meets its contract. The invariant: the bytes of the first i numbers are written. Assumes nothing.
use Prim.Native.Nat.{◌+◌, ◌*◌, ◌-◌, ◌≤◌}
use lib.ListN.{length, get_or}
use Rattle.refine_pattern.proofs.Written.{written_none, written-length, written-end}
use Rattle.file_bytes.specs.Bytes.{little, fours}
use Rattle.file_bytes.proofs.Laws.{little-length, fours-length}
use Rattle.file_bytes.proofs.Steps.{fours-next, fours-end, tail_more}
use native.Mathlib.Omega.{arith}
use Rattle.file_bytes.proofs.put_fours.Goals as goal

pub loop-i-init : goal.loop-i-init
loop-i-init c = written_none _ _

pub overflow_mul-at : goal.overflow_mul-at
overflow_mul-at c = omega (arith, c.loop-i-test.true, c.requires)

pub offset_bounds-from-i : goal.offset_bounds-from-i
offset_bounds-from-i c = omega (arith, c.loop-i-test.true, c.requires)

pub loop-i-preserved : goal.loop-i-preserved
loop-i-preserved c =
    let fit : length (fours c.args.from.now) ≤ length c.args.to.now = omega (arith, fours-length c.args.from.now, c.requires) in
    let h = c.loop-i-test.true in
    tail_more _ _ _ _ _ (fit) c.loop-i.invariant (little 4 (get_or c.args.from.now c.loop-i.i 0)) _ (fours-next c.args.from.now c.loop-i.i h)
    ((c.loop-i.i + 1) * 4) (omega (arith, little-length 4 (get_or c.args.from.now c.loop-i.i 0)))
    (length c.loop-i.to - c.loop-i.i * 4) c.put_four.new.to (omega arith) c.put_four.ensures

pub shape_of-to : goal.shape_of-to
shape_of-to c =
    let fit : length (fours c.args.from.now) ≤ length c.args.to.now = omega (arith, fours-length c.args.from.now, c.requires) in
    written-length _ _ _ _ _ (fit) c.loop-i.invariant

pub returns : goal.returns
returns c =
    let fit : length (fours c.args.from.now) ≤ length c.args.to.now = omega (arith, fours-length c.args.from.now, c.requires) in
    written-end _ _ _ _ _ (fit) c.loop-i.invariant (fours-end c.args.from.now c.loop-i.i c.loop-i-test.false)
