-- `quotient::Grid::number` meets its contract. The invariant: s is the product of the places below k, x the number so far, and x is below s. Assumes nothing.
use mathlib.Core.Path.{◌≡◌, refl}
use Prim.Native.Nat.{◌<◌}
use native.Mathlib.Nat.{le_of_eq, lt_of_le_of_lt}
use native.Mathlib.Omega.{arith}
use Rattle.quotient.specs.Fold.{product}
use Rattle.quotient.specs.Shape.{glued_on}
use Rattle.quotient.specs.Points.{from_digits}
use Rattle.quotient.specs.Work.{number_by}
use Rattle.quotient.proofs.Taken.{taken-high, taken-vertices, number-room}
use Rattle.quotient.proofs.Laws.{product-step}
use Rattle.quotient.proofs.Seam.{folded-place, number_more}
use Rattle.quotient.proofs.Grid.number.Goals as goal

pub loop-k-init : goal.loop-k-init
unfolding product from_digits
loop-k-init c = (refl, refl, omega arith)

pub folded-f-requires : goal.folded-f-requires
folded-f-requires c = c.requires.1 _ c.loop-k-test.true

pub bounds-coordinates-k : goal.bounds-coordinates-k
bounds-coordinates-k c = omega (arith, taken-high _ c.requires.0)

pub overflow_mul-x : goal.overflow_mul-x
overflow_mul-x c =
    let small : c.folded-f.result < glued_on c.args.self c.loop-k.k = lt_of_le_of_lt (le_of_eq c.folded-f.ensures) (folded-place _ c.requires.0 _ _ _ c.loop-k-test.true (c.requires.1 _ c.loop-k-test.true)) in
    let l = c.loop-k.invariant in
    let h = number-room _ c.requires.0 _ _ _ _ _ c.loop-k-test.true l.0 l.2 (small) refl in
    omega arith

pub overflow_add-x : goal.overflow_add-x
overflow_add-x c =
    let small : c.folded-f.result < glued_on c.args.self c.loop-k.k = lt_of_le_of_lt (le_of_eq c.folded-f.ensures) (folded-place _ c.requires.0 _ _ _ c.loop-k-test.true (c.requires.1 _ c.loop-k-test.true)) in
    let l = c.loop-k.invariant in
    let h = number-room _ c.requires.0 _ _ _ _ _ c.loop-k-test.true l.0 l.2 (small) refl in
    omega arith

pub overflow_mul-s : goal.overflow_mul-s
overflow_mul-s c =
    let small : c.folded-f.result < glued_on c.args.self c.loop-k.k = lt_of_le_of_lt (le_of_eq c.folded-f.ensures) (folded-place _ c.requires.0 _ _ _ c.loop-k-test.true (c.requires.1 _ c.loop-k-test.true)) in
    let l = c.loop-k.invariant in
    let h = number-room _ c.requires.0 _ _ _ _ _ c.loop-k-test.true l.0 l.2 (small) c.glued_on-s.ensures in
    omega arith

pub loop-k-preserved : goal.loop-k-preserved
loop-k-preserved c =
    let small : c.folded-f.result < glued_on c.args.self c.loop-k.k = lt_of_le_of_lt (le_of_eq c.folded-f.ensures) (folded-place _ c.requires.0 _ _ _ c.loop-k-test.true (c.requires.1 _ c.loop-k-test.true)) in
    let l = c.loop-k.invariant in
    let h = number-room _ c.requires.0 _ _ _ _ _ c.loop-k-test.true l.0 l.2 (small) c.glued_on-s.ensures in
    (product-step _ _ _ _ l.0 c.glued_on-s.ensures, number_more _ _ _ _ _ _ _ l.0 l.1 c.folded-f.ensures refl, h.0)

pub returns : goal.returns
unfolding number_by
returns c =
    let l = c.loop-k.invariant in
    let e : c.loop-k.k ≡ c.args.self.d = omega arith in
    let h = taken-vertices _ c.requires.0 in
    let s = rw e at l.0 in
    (rw e at l.1, omega arith)
