-- `skeleton::list_cells` meets its contract: 7 first, then what stands in rows are the cells. Assumes nothing.
use Rattle.skeleton.proofs.Steps.{still, making, cells_fit, flat-fit, cells-many, cells-flat, worked-crowded, worked-rest}
use lib.Seq.{length-take-le}
use native.Mathlib.Omega.{arith}
use mathlib.Core.Path.{sym}
use Rattle.skeleton.proofs.list_cells.Goals as goal

pub returns-then-not-sound : goal.returns-then-not-sound
returns-then-not-sound c = worked-crowded c.args.d c.args.words.now c.sound.result c.sound.ensures _ c.args.out.now (c.if-not-sound.true)

pub cells-m-requires : goal.cells-m-requires
cells-m-requires c = making c.args.d c.args.words.now c.sound.new.keys c.sound.new.rows c.sound.new.spare c.sound.new.counts (still _ c.args.d c.args.words.now c.args.keys.now c.args.rows.now c.args.spare.now c.args.counts.now c.sound.new.keys c.sound.new.rows c.sound.new.spare c.sound.new.counts c.sound.auto.keys c.sound.auto.rows c.sound.auto.spare c.sound.auto.counts c.requires)

pub overflow_add-long : goal.overflow_add-long
overflow_add-long c = omega (arith, c.requires.passed.small)

pub overflow_mul-long : goal.overflow_mul-long
overflow_mul-long c = record { fits = omega (arith, flat-fit c.args.d c.args.words.now c.cells-m.result c.cells-m.new.rows c.cells-m.ensures, c.cells-m.ensures.corners) }

pub slice_bounds-hand_out-end : goal.slice_bounds-hand_out-end
slice_bounds-hand_out-end c = omega (arith, flat-fit c.args.d c.args.words.now c.cells-m.result c.cells-m.new.rows c.cells-m.ensures, c.requires.room.in_rows, c.sound.auto, c.cells-m.auto)

pub slice_bounds-hand_out-end-2 : goal.slice_bounds-hand_out-end-2
slice_bounds-hand_out-end-2 c = sym (length-take-le _ _ (omega (arith, flat-fit c.args.d c.args.words.now c.cells-m.result c.cells-m.new.rows c.cells-m.ensures, c.requires.room.in_rows, c.sound.auto, c.cells-m.auto)))

pub hand_out-requires : goal.hand_out-requires
hand_out-requires c = omega (arith, cells_fit c.args.d c.args.words.now c.cells-m.result c.cells-m.new.rows c.cells-m.ensures)

pub returns : goal.returns
returns c = worked-rest c.args.d c.args.words.now c.sound.result c.sound.ensures _ c.hand_out.result c.args.out.now _ (c.if-not-sound.false) (c.hand_out.ensures _ (cells-flat c.args.d c.args.words.now c.cells-m.result c.cells-m.new.rows c.cells-m.ensures) (cells-many c.args.d c.args.words.now c.cells-m.result c.cells-m.new.rows c.cells-m.ensures))
