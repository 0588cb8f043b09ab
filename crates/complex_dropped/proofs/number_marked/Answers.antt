-- `complex_dropped::number_marked` meets its contract. The loop's invariant: the marked places below v are listed, and their marks replaced. Assumes nothing.
use Prim.Native.Nat.{◌≤◌}
use native.Mathlib.Omega.{arith}
use Rattle.std.proofs.lemmas.List.{set-get_or}
use Rattle.complex_dropped.proofs.Loops.{numbers-none, next-most, numbers-skip, numbers_more, numbers-done}
use Rattle.complex_dropped.proofs.number_marked.Goals as goal

pub loop-v-init : goal.loop-v-init
loop-v-init c = numbers-none c.args.marks.now c.args.places.now

pub loop-v-preserved-then-mark-eq0 : goal.loop-v-preserved-then-mark-eq0
loop-v-preserved-then-mark-eq0 c =
    simp (set-get_or c.loop-v.marks c.loop-v.v 0) (numbers-skip c.args.marks.now c.args.places.now c.loop-v.marks c.loop-v.places c.loop-v.next c.loop-v.v c.loop-v.invariant (omega arith) c.if-mark-eq0.true)

-- no more are listed than are passed
few : (c : goal.Else-mark-eq0) → c.loop-v.next ≤ c.loop-v.v
few c = next-most c.args.marks.now c.args.places.now c.loop-v.marks c.loop-v.places c.loop-v.next c.loop-v.v c.loop-v.invariant (omega arith)

pub overflow_cast-places : goal.overflow_cast-places
overflow_cast-places c = omega (arith, c.requires.1)

pub bounds-places-next : goal.bounds-places-next
bounds-places-next c = omega (arith, few c)

pub overflow_cast-mark : goal.overflow_cast-mark
overflow_cast-mark c = omega (arith, few c)

pub overflow_add-next : goal.overflow_add-next
overflow_add-next c = omega (arith, few c)

pub loop-v-preserved : goal.loop-v-preserved
loop-v-preserved c = numbers_more c.args.marks.now c.args.places.now c.loop-v.marks c.loop-v.places c.loop-v.next c.loop-v.v c.loop-v.invariant (omega arith) c.if-mark-eq0.false c.requires.0

pub returns : goal.returns
returns c = numbers-done c.args.marks.now c.args.places.now c.loop-v.marks c.loop-v.places c.loop-v.next c.loop-v.v c.loop-v.invariant (omega arith)
