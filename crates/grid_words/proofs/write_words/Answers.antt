-- `grid_words::write_words` meets its contract: the words are the corners of the first box, moved to every box (proofs/Moved). Assumes nothing.
use Rattle.refusal.specs.Says.{fine}
use mathlib.Core.Path.{◌≡◌, sym, ap, ◌∙◌}
use Prim.Native.Nat.{ℕ, ◌+◌, ◌*◌, ◌≤◌}
use native.Mathlib.Omega.{arith}
use lib.ListN.{replicate}
use native.Mathlib.Numerals.{add-one}
use lib.Seq.{length-take-le}
use Rattle.quotient.specs.declared.Grid.{Grid}
use Rattle.quotient.specs.Shape.{check_of}
use Rattle.grid_words.specs.WorkNumbered.{each_box}
use Rattle.grid_words.specs.Work.{reach_long, moved_by}
use Rattle.grid_words.proofs.Corners.{dim}
use Rattle.grid_words.proofs.Moved.{reach_few, front-is, front_fits, moving-words, words-moved}
use Rattle.grid_words.proofs.write_words.Goals as goal

-- as many corners as the code counts, and they are few
reach-product : (g : Grid) (n : ℕ) → n ≡ each_box g → n * (g.d + 1) ≡ reach_long g
reach-product g n e = ap (λ (m : ℕ). m * (g.d + 1)) e ∙ ap (λ (m : ℕ). each_box g * m) (add-one g.d)

product-few : (g : Grid) → check_of g ≡ fine → (n : ℕ) → n ≡ each_box g → n * (g.d + 1) ≤ 24
product-few g taken n e = omega (arith, reach-product g n e, reach_few g taken)

pub points-points-requires : goal.points-points-requires
points-points-requires c = c.requires.taken

pub count-requires : goal.count-requires
count-requires c = dim c.args.grid c.requires.taken

pub overflow_add-corners : goal.overflow_add-corners
overflow_add-corners c = omega (arith, dim c.args.grid c.requires.taken)

pub overflow_mul-corners : goal.overflow_mul-corners
overflow_mul-corners c = omega (arith, product-few c.args.grid c.requires.taken _ c.count.ensures)

pub slice_bounds-vertices-end : goal.slice_bounds-vertices-end
slice_bounds-vertices-end c = omega (arith, c.points-points.ensures, c.requires.table_long)

pub slice_bounds-vertices-end-2 : goal.slice_bounds-vertices-end-2
slice_bounds-vertices-end-2 c = sym (length-take-le _ _ (omega (arith, c.points-points.ensures, c.requires.table_long)))

pub vertices-requires : goal.vertices-requires
vertices-requires c = (c.requires.taken, length-take-le _ _ (omega (arith, c.points-points.ensures, c.requires.table_long)) ∙ c.points-points.ensures)

pub slice_bounds-reach-end : goal.slice_bounds-reach-end
slice_bounds-reach-end c = product-few c.args.grid c.requires.taken _ c.count.ensures

pub slice_bounds-reaches-end : goal.slice_bounds-reaches-end
slice_bounds-reaches-end c = sym (length-take-le _ _ (product-few c.args.grid c.requires.taken _ c.count.ensures))

pub reaches-requires : goal.reaches-requires
reaches-requires c = (c.requires.taken, length-take-le _ _ (product-few c.args.grid c.requires.taken _ c.count.ensures) ∙ reach-product c.args.grid _ c.count.ensures)

pub slice_bounds-write_boxes-end : goal.slice_bounds-write_boxes-end
slice_bounds-write_boxes-end c = front_fits c.points-points.result c.args.table.now c.vertices.new.table (omega (arith, c.points-points.ensures, c.requires.table_long)) c.vertices.auto.table

pub slice_bounds-write_boxes-end-2 : goal.slice_bounds-write_boxes-end-2
slice_bounds-write_boxes-end-2 c = sym (length-take-le _ _ (front_fits c.points-points.result c.args.table.now c.vertices.new.table (omega (arith, c.points-points.ensures, c.requires.table_long)) c.vertices.auto.table))

pub slice_bounds-reach-end-2 : goal.slice_bounds-reach-end-2
slice_bounds-reach-end-2 c = front_fits (c.count.result * (c.args.grid.d + 1)) (replicate {A = ℕ} 24 0) c.reaches.new.reach (product-few c.args.grid c.requires.taken _ c.count.ensures) c.reaches.auto.reach

pub slice_bounds-write_boxes-end-3 : goal.slice_bounds-write_boxes-end-3
slice_bounds-write_boxes-end-3 c = sym (length-take-le _ _ (front_fits (c.count.result * (c.args.grid.d + 1)) (replicate {A = ℕ} 24 0) c.reaches.new.reach (product-few c.args.grid c.requires.taken _ c.count.ensures) c.reaches.auto.reach))

pub write_boxes-requires : goal.write_boxes-requires
write_boxes-requires c = moving-words c.args.grid c.requires.taken _ _ _ (front-is c.points-points.result c.args.table.now c.vertices.new.table _ (omega (arith, c.points-points.ensures, c.requires.table_long)) c.vertices.auto.table c.vertices.ensures) (front-is (c.count.result * (c.args.grid.d + 1)) (replicate {A = ℕ} 24 0) c.reaches.new.reach _ (product-few c.args.grid c.requires.taken _ c.count.ensures) c.reaches.auto.reach c.reaches.ensures) c.requires.words_long

pub returns : goal.returns
returns c = c.write_boxes.ensures ∙ ap (moved_by c.args.grid) (front-is (c.count.result * (c.args.grid.d + 1)) (replicate {A = ℕ} 24 0) c.reaches.new.reach _ (product-few c.args.grid c.requires.taken _ c.count.ensures) c.reaches.auto.reach c.reaches.ensures) ∙ words-moved c.args.grid c.requires.taken
