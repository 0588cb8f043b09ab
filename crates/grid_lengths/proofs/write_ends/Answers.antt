-- `grid_lengths::write_ends` meets its contract: the ends of the first box's visits, moved to every box (proofs/Boxed). Assumes nothing.
use Rattle.refusal.specs.Says.{fine}
use mathlib.Core.Path.{◌≡◌, sym, ap, ◌∙◌}
use Prim.Native.Nat.{ℕ, ◌*◌, ◌≤◌}
use native.Mathlib.Omega.{arith}
use lib.ListN.{replicate}
use lib.Seq.{length-take-le}
use Rattle.quotient.specs.declared.Grid.{Grid}
use Rattle.quotient.specs.Shape.{check_of}
use Rattle.grid_words.specs.Work.{moved_by}
use Rattle.grid_words.proofs.Moved.{front-is, front_fits}
use Rattle.grid_lengths.specs.Work.{visits_each}
use Rattle.grid_lengths.proofs.Boxed.{each-visits-few, moving-ends, ends-moved}
use Rattle.grid_lengths.proofs.write_ends.Goals as goal

ends-few : (g : Grid) → check_of g ≡ fine → (n : ℕ) → n ≡ visits_each g → n * 2 ≤ 72
ends-few g taken n e = omega (arith, each-visits-few g taken)

pub points-points-requires : goal.points-points-requires
points-points-requires c = c.requires.taken

pub visits_each-ends-requires : goal.visits_each-ends-requires
visits_each-ends-requires c = c.requires.taken

pub overflow_mul-ends : goal.overflow_mul-ends
overflow_mul-ends c = omega (arith, ends-few c.args.grid c.requires.taken _ c.visits_each-ends.ensures)

pub slice_bounds-vertices-end : goal.slice_bounds-vertices-end
slice_bounds-vertices-end c = omega (arith, c.points-points.ensures, c.requires.table_long)

pub slice_bounds-vertices-end-2 : goal.slice_bounds-vertices-end-2
slice_bounds-vertices-end-2 c = sym (length-take-le _ _ (omega (arith, c.points-points.ensures, c.requires.table_long)))

pub vertices-requires : goal.vertices-requires
vertices-requires c = (c.requires.taken, length-take-le _ _ (omega (arith, c.points-points.ensures, c.requires.table_long)) ∙ c.points-points.ensures)

pub slice_bounds-reach-end : goal.slice_bounds-reach-end
slice_bounds-reach-end c = ends-few c.args.grid c.requires.taken _ c.visits_each-ends.ensures

pub slice_bounds-reaches-end : goal.slice_bounds-reaches-end
slice_bounds-reaches-end c = sym (length-take-le _ _ (ends-few c.args.grid c.requires.taken _ c.visits_each-ends.ensures))

pub reaches-requires : goal.reaches-requires
reaches-requires c = (c.requires.taken, length-take-le _ _ (ends-few c.args.grid c.requires.taken _ c.visits_each-ends.ensures) ∙ ap (λ (n : ℕ). n * 2) c.visits_each-ends.ensures)

pub slice_bounds-write_boxes-end : goal.slice_bounds-write_boxes-end
slice_bounds-write_boxes-end c = front_fits c.points-points.result c.args.table.now c.vertices.new.table (omega (arith, c.points-points.ensures, c.requires.table_long)) c.vertices.auto.table

pub slice_bounds-write_boxes-end-2 : goal.slice_bounds-write_boxes-end-2
slice_bounds-write_boxes-end-2 c = sym (length-take-le _ _ (front_fits c.points-points.result c.args.table.now c.vertices.new.table (omega (arith, c.points-points.ensures, c.requires.table_long)) c.vertices.auto.table))

pub slice_bounds-reach-end-2 : goal.slice_bounds-reach-end-2
slice_bounds-reach-end-2 c = front_fits (c.visits_each-ends.result * 2) (replicate {A = ℕ} 72 0) c.reaches.new.reach (ends-few c.args.grid c.requires.taken _ c.visits_each-ends.ensures) c.reaches.auto.reach

pub slice_bounds-write_boxes-end-3 : goal.slice_bounds-write_boxes-end-3
slice_bounds-write_boxes-end-3 c = sym (length-take-le _ _ (front_fits (c.visits_each-ends.result * 2) (replicate {A = ℕ} 72 0) c.reaches.new.reach (ends-few c.args.grid c.requires.taken _ c.visits_each-ends.ensures) c.reaches.auto.reach))

pub write_boxes-requires : goal.write_boxes-requires
write_boxes-requires c = moving-ends c.args.grid c.requires.taken _ _ _ (front-is c.points-points.result c.args.table.now c.vertices.new.table _ (omega (arith, c.points-points.ensures, c.requires.table_long)) c.vertices.auto.table c.vertices.ensures) (front-is (c.visits_each-ends.result * 2) (replicate {A = ℕ} 72 0) c.reaches.new.reach _ (ends-few c.args.grid c.requires.taken _ c.visits_each-ends.ensures) c.reaches.auto.reach c.reaches.ensures) c.requires.keys_long

pub returns : goal.returns
returns c = c.write_boxes.ensures ∙ ap (moved_by c.args.grid) (front-is (c.visits_each-ends.result * 2) (replicate {A = ℕ} 72 0) c.reaches.new.reach _ (ends-few c.args.grid c.requires.taken _ c.visits_each-ends.ensures) c.reaches.auto.reach c.reaches.ensures) ∙ ends-moved c.args.grid c.requires.taken
