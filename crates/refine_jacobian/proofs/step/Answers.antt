-- `refine_jacobian::step` meets its contract: column and row are below d, and so the places are among the corners' weights.
use native.Mathlib.Omega.{arith}
use Rattle.refine_jacobian.proofs.Laws.{some-column, column-in, row_in}
use Rattle.refine_jacobian.proofs.step.Goals as goal

pub nonzero_rem-slot : goal.nonzero_rem-slot
nonzero_rem-slot c = some-column c.args.d c.args.e c.requires.0

pub overflow_add-slot : goal.overflow_add-slot
overflow_add-slot c = let h = row_in c.args.d c.args.e c.requires.0 in omega (arith, c.requires.1.dim)

pub offset_bounds-slots-e : goal.offset_bounds-slots-e
offset_bounds-slots-e c = let h = row_in c.args.d c.args.e c.requires.0 in omega (arith, c.requires.1.dim)

pub bounds-slots-e : goal.bounds-slots-e
bounds-slots-e c = let h = row_in c.args.d c.args.e c.requires.0 in omega (arith, c.requires.1.dim)

pub nonzero_div-seat : goal.nonzero_div-seat
nonzero_div-seat c = some-column c.args.d c.args.e c.requires.0

pub overflow_add-seat : goal.overflow_add-seat
overflow_add-seat c = let h = column-in c.args.d c.args.e c.requires.0 in omega (arith, c.requires.1.dim)

pub offset_bounds-seats-e : goal.offset_bounds-seats-e
offset_bounds-seats-e c = let h = column-in c.args.d c.args.e c.requires.0 in omega (arith, c.requires.1.dim)

pub bounds-seats-e : goal.bounds-seats-e
bounds-seats-e c = let h = column-in c.args.d c.args.e c.requires.0 in omega (arith, c.requires.1.dim)
