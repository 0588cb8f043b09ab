-- `quotient::Grid::spread` meets its contract. The invariant, `Spreading`: what is left of the number, the coordinates and both sets are those of the axes below k. Assumes nothing.
use borrow.Author.Rules.{rules}
use mathlib.Core.Path.{◌≡◌, refl, ap}
use native.Mathlib.Omega.{arith}
use Rattle.quotient.specs.declared.Axis.{Axis}
use Rattle.quotient.proofs.Taken.{few_cells}
use Rattle.quotient.proofs.Seam.{spreading-none, spreading-more, spreading-done, spread-coordinate, spread-byte, divided}
use Rattle.quotient.proofs.Grid.spread.Goals as goal

pub loop-k-init : goal.loop-k-init
loop-k-init c = spreading-none _ _ _ c.requires refl c.ranges.v.fits

pub overflow_add-p : goal.overflow_add-p
overflow_add-p c =
    let e = ap (λ (a : Axis). a.count) c.axis-a.ensures in
    let h = few_cells _ c.requires _ c.loop-k-test.true in
    omega arith

pub overflow_mul-c : goal.overflow_mul-c
overflow_mul-c c = let s = c.loop-k.invariant in omega (arith, s.narrow, (divided _ _ _ c.whole_part-q.ensures).0)

pub overflow_sub-c : goal.overflow_sub-c
overflow_sub-c c = omega (arith, (divided _ _ _ c.whole_part-q.ensures).0)

pub offset_bounds-coordinates-k : goal.offset_bounds-coordinates-k
offset_bounds-coordinates-k c = let h = c.loop-k.invariant.high in omega arith

pub bounds-coordinates-k : goal.bounds-coordinates-k
bounds-coordinates-k c = let h = c.loop-k.invariant.high in omega arith

pub overflow_cast-k : goal.overflow_cast-k
overflow_cast-k c = let h = c.loop-k.invariant.high in omega arith

pub overflow_shl-k : goal.overflow_shl-k
overflow_shl-k c = let h = c.loop-k.invariant.high in omega arith

pub overflow_add-wrapped : goal.overflow_add-wrapped
overflow_add-wrapped c =
    let s = c.loop-k.invariant in
    let l = c.loop-k-test.true in
    let x = c.axis-a.ensures in
    let w = c.whole_part-q.ensures in
    record { fits = spread-byte _ _ _ _ _ _ _ _ s l _ x w _ _ (spread-coordinate _ _ _ _ _ _ _ _ s l _ x w) c.ends-ends.ensures _ c.only-wrapped.ensures }

pub loop-k-preserved : goal.loop-k-preserved
loop-k-preserved c =
    let s = c.loop-k.invariant in
    let l = c.loop-k-test.true in
    let x = c.axis-a.ensures in
    let w = c.whole_part-q.ensures in
    spreading-more _ _ _ _ _ _ _ _ s l _ x w _ _ (spread-coordinate _ _ _ _ _ _ _ _ s l _ x w) c.ends-ends.ensures _ _ _ c.only-wrapped.ensures c.mask.ensures
    c.only-reversed.ensures (search rules)

pub returns : goal.returns
returns c =
    let s = c.loop-k.invariant in
    let e : c.loop-k.k ≡ c.args.self.d = omega arith in
    spreading-done _ _ _ c.requires (rw e at s)
