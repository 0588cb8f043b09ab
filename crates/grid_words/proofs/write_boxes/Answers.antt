-- `grid_words::write_boxes` meets its contract (proofs/Moved). The invariant: the first i numbers are written, i is number r of box b, and b is number x of a row of axis 0. Assumes nothing.
use mathlib.Core.Path.{refl, ap}
use native.Mathlib.Omega.{arith}
use Rattle.quotient.specs.declared.Axis.{Axis}
use Rattle.grid_words.proofs.Moved.{walking-none, read-in, read-few, table_long, walking-more, walking-next, walking-turn, walking-done, box-few}
use Rattle.grid_words.proofs.write_boxes.Goals as goal

pub origin-origin_at-requires : goal.origin-origin_at-requires
origin-origin_at-requires c = c.requires.taken

pub loop-i-init : goal.loop-i-init
loop-i-init c = walking-none c.args.grid c.args.table.now c.args.reach.now c.args.to.now c.requires _ c.origin-origin_at.ensures

pub bounds-reach-r : goal.bounds-reach-r
bounds-reach-r c = c.loop-i.invariant.inside

pub overflow_add-r : goal.overflow_add-r
overflow_add-r c = omega (arith, c.loop-i.invariant.inside)

pub overflow_add-x : goal.overflow_add-x
overflow_add-x c = omega (arith, c.loop-i.invariant.in-row, ap (λ (a : Axis). a.count) c.axis-a.ensures)

pub origin-origin_at-requires-in-loop-i : goal.origin-origin_at-requires-in-loop-i
origin-origin_at-requires-in-loop-i c = c.requires.taken

pub overflow_cast-to : goal.overflow_cast-to
overflow_cast-to c = omega (arith, read-few c.args.grid c.args.table.now c.args.reach.now c.args.to.now c.requires c.loop-i.to c.loop-i.origin_at c.loop-i.b c.loop-i.x c.loop-i.r c.loop-i.i c.loop-i.invariant)

pub overflow_add-to : goal.overflow_add-to
overflow_add-to c = omega (arith, read-few c.args.grid c.args.table.now c.args.reach.now c.args.to.now c.requires c.loop-i.to c.loop-i.origin_at c.loop-i.b c.loop-i.x c.loop-i.r c.loop-i.i c.loop-i.invariant)

pub offset_bounds-table-origin_at : goal.offset_bounds-table-origin_at
offset_bounds-table-origin_at c = omega (arith, read-few c.args.grid c.args.table.now c.args.reach.now c.args.to.now c.requires c.loop-i.to c.loop-i.origin_at c.loop-i.b c.loop-i.x c.loop-i.r c.loop-i.i c.loop-i.invariant)

pub bounds-table-origin_at : goal.bounds-table-origin_at
bounds-table-origin_at c = let w = c.loop-i in omega (arith, read-in c.args.grid c.args.table.now c.args.reach.now c.args.to.now c.requires w.to w.origin_at w.b w.x w.r w.i w.invariant, table_long c.args.grid c.args.table.now c.args.reach.now c.args.to.now c.requires w.to w.origin_at w.b w.x w.r w.i w.invariant)

pub loop-i-preserved-then-r-e : goal.loop-i-preserved-then-r-e
loop-i-preserved-then-r-e c = let w = c.loop-i in walking-more c.args.grid c.args.table.now c.args.reach.now c.args.to.now c.requires w.to w.origin_at w.b w.x w.r w.i w.invariant (omega arith) _ refl c.if-r-e.true

pub overflow_add-b : goal.overflow_add-b
overflow_add-b c = let w = c.loop-i in omega (arith, box-few c.args.grid c.args.table.now c.args.reach.now c.args.to.now c.requires w.to w.origin_at w.b w.x w.r w.i w.invariant, c.loop-i-test.true)

pub overflow_add-origin_at : goal.overflow_add-origin_at
overflow_add-origin_at c = let w = c.loop-i in omega (arith, read-few c.args.grid c.args.table.now c.args.reach.now c.args.to.now c.requires w.to w.origin_at w.b w.x w.r w.i w.invariant)

pub loop-i-preserved-then-x-row : goal.loop-i-preserved-then-x-row
loop-i-preserved-then-x-row c = let w = c.loop-i in walking-next c.args.grid c.args.table.now c.args.reach.now c.args.to.now c.requires w.to w.origin_at w.b w.x w.r w.i w.invariant (omega arith) _ refl c.if-r-e.false (omega (arith, c.if-x-row.true, ap (λ (a : Axis). a.count) c.axis-a.ensures))

pub loop-i-preserved : goal.loop-i-preserved
loop-i-preserved c = let w = c.loop-i in walking-turn c.args.grid c.args.table.now c.args.reach.now c.args.to.now c.requires w.to w.origin_at w.b w.x w.r w.i w.invariant (omega arith) _ refl c.if-r-e.false (omega (arith, c.if-x-row.false, ap (λ (a : Axis). a.count) c.axis-a.ensures)) _ c.origin-origin_at-in-loop-i.ensures

pub returns : goal.returns
returns c = let w = c.loop-i in walking-done c.args.grid c.args.table.now c.args.reach.now c.args.to.now c.requires w.to w.origin_at w.b w.x w.r w.i w.invariant (omega arith)
