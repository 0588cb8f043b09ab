-- `ordering::agreement::row_agrees` meets its contract: the two words and the two dropped vertices stand in the list (proofs/Reading). Assumes nothing.
use mathlib.Core.Path.{◌∙◌}
use Prim.Native.Nat.{◌+◌, ◌*◌, ◌/◌}
use native.Mathlib.Omega.{arith}
use Rattle.ordering.proofs.Reading.{placed, reread}
use Rattle.ordering.proofs.agreement.row_agrees.Goals as goal

pub overflow_add-n : goal.overflow_add-n
overflow_add-n c = omega (arith, placed c.args.d c.args.k c.args.m c.args.list.now c.args.x c.args.y c.requires, c.requires.short, c.requires.dim, c.requires.long)

pub overflow_mul-size : goal.overflow_mul-size
overflow_mul-size c = omega (arith, placed c.args.d c.args.k c.args.m c.args.list.now c.args.x c.args.y c.requires, c.requires.short, c.requires.dim, c.requires.long)

pub nonzero_div-a : goal.nonzero_div-a
nonzero_div-a c = c.requires.some

pub overflow_mul-a : goal.overflow_mul-a
overflow_mul-a c = omega (arith, placed c.args.d c.args.k c.args.m c.args.list.now c.args.x c.args.y c.requires, c.requires.short, c.requires.dim, c.requires.long)

pub overflow_add-e : goal.overflow_add-e
overflow_add-e c = omega (arith, placed c.args.d c.args.k c.args.m c.args.list.now c.args.x c.args.y c.requires, c.requires.short, c.requires.dim, c.requires.long)

pub nonzero_div-b : goal.nonzero_div-b
nonzero_div-b c = c.requires.some

pub overflow_mul-b : goal.overflow_mul-b
overflow_mul-b c = omega (arith, placed c.args.d c.args.k c.args.m c.args.list.now c.args.x c.args.y c.requires, c.requires.short, c.requires.dim, c.requires.long)

pub overflow_add-f : goal.overflow_add-f
overflow_add-f c = omega (arith, placed c.args.d c.args.k c.args.m c.args.list.now c.args.x c.args.y c.requires, c.requires.short, c.requires.dim, c.requires.long)

pub overflow_add-v : goal.overflow_add-v
overflow_add-v c = omega (arith, placed c.args.d c.args.k c.args.m c.args.list.now c.args.x c.args.y c.requires, c.requires.short, c.requires.dim, c.requires.long)

pub nonzero_rem-v : goal.nonzero_rem-v
nonzero_rem-v c = c.requires.some

pub overflow_sub-v : goal.overflow_sub-v
overflow_sub-v c = (placed c.args.d c.args.k c.args.m c.args.list.now c.args.x c.args.y c.requires).slot

pub overflow_add-v-2 : goal.overflow_add-v-2
overflow_add-v-2 c = omega (arith, placed c.args.d c.args.k c.args.m c.args.list.now c.args.x c.args.y c.requires, c.requires.short, c.requires.dim, c.requires.long)

pub offset_bounds-list-size : goal.offset_bounds-list-size
offset_bounds-list-size c = omega (arith, placed c.args.d c.args.k c.args.m c.args.list.now c.args.x c.args.y c.requires, c.requires.short, c.requires.dim, c.requires.long)

pub bounds-list-size : goal.bounds-list-size
bounds-list-size c = omega (arith, placed c.args.d c.args.k c.args.m c.args.list.now c.args.x c.args.y c.requires, c.requires.short, c.requires.dim, c.requires.long)

pub overflow_add-t : goal.overflow_add-t
overflow_add-t c = omega (arith, placed c.args.d c.args.k c.args.m c.args.list.now c.args.x c.args.y c.requires, c.requires.short, c.requires.dim, c.requires.long)

pub nonzero_rem-t : goal.nonzero_rem-t
nonzero_rem-t c = c.requires.some

pub overflow_sub-t : goal.overflow_sub-t
overflow_sub-t c = (placed c.args.d c.args.k c.args.m c.args.list.now c.args.x c.args.y c.requires).other-slot

pub overflow_add-t-2 : goal.overflow_add-t-2
overflow_add-t-2 c = omega (arith, placed c.args.d c.args.k c.args.m c.args.list.now c.args.x c.args.y c.requires, c.requires.short, c.requires.dim, c.requires.long)

pub offset_bounds-list-size-2 : goal.offset_bounds-list-size-2
offset_bounds-list-size-2 c = omega (arith, placed c.args.d c.args.k c.args.m c.args.list.now c.args.x c.args.y c.requires, c.requires.short, c.requires.dim, c.requires.long)

pub bounds-list-size-2 : goal.bounds-list-size-2
bounds-list-size-2 c = omega (arith, placed c.args.d c.args.k c.args.m c.args.list.now c.args.x c.args.y c.requires, c.requires.short, c.requires.dim, c.requires.long)

pub offset_bounds-list-a : goal.offset_bounds-list-a
offset_bounds-list-a c = omega (arith, placed c.args.d c.args.k c.args.m c.args.list.now c.args.x c.args.y c.requires, c.requires.short, c.requires.dim, c.requires.long)

pub slice_bounds-same_without-end : goal.slice_bounds-same_without-end
slice_bounds-same_without-end c = omega (arith, placed c.args.d c.args.k c.args.m c.args.list.now c.args.x c.args.y c.requires, c.requires.short, c.requires.dim, c.requires.long)

pub offset_bounds-list-b : goal.offset_bounds-list-b
offset_bounds-list-b c = omega (arith, placed c.args.d c.args.k c.args.m c.args.list.now c.args.x c.args.y c.requires, c.requires.short, c.requires.dim, c.requires.long)

pub slice_bounds-same_without-end-2 : goal.slice_bounds-same_without-end-2
slice_bounds-same_without-end-2 c = omega (arith, placed c.args.d c.args.k c.args.m c.args.list.now c.args.x c.args.y c.requires, c.requires.short, c.requires.dim, c.requires.long)

pub returns : goal.returns
returns c = c.same_without.ensures ∙ reread c.args.list.now (c.args.x / c.args.k * (c.args.d + 1)) (c.args.y / c.args.k * (c.args.d + 1)) (c.args.d + 1) _ _
