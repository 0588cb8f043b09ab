-- `grid_words::corner` meets its contract. The invariant: v is corner i. Assumes nothing.
use mathlib.Core.Path.{◌≡◌}
use native.Mathlib.Omega.{arith}
use native.Mathlib.Nat.{mod-lt}
use Rattle.grid_words.proofs.Corners.{dim, some_turn, turn_below, corner-zero, corner-axis, corner-turn}
use Rattle.grid_words.proofs.corner.Goals as goal

pub count-n-requires : goal.count-n-requires
count-n-requires c = dim c.args.grid c.requires.0

pub overflow_sub-t : goal.overflow_sub-t
overflow_sub-t c = omega (arith, some_turn c.args.grid c.requires.0 0 _ c.count-n.ensures)

pub nonzero_rem-t : goal.nonzero_rem-t
nonzero_rem-t c = omega (arith, some_turn c.args.grid c.requires.0 0 _ c.count-n.ensures)

pub overflow_sub-t-2 : goal.overflow_sub-t-2
overflow_sub-t-2 c = let h = some_turn c.args.grid c.requires.0 0 _ c.count-n.ensures in let m = mod-lt c.args.x h in omega arith

pub nonzero_div-x : goal.nonzero_div-x
nonzero_div-x c = omega (arith, some_turn c.args.grid c.requires.0 0 _ c.count-n.ensures)

pub origin-v-requires : goal.origin-v-requires
origin-v-requires c = c.requires.0

pub loop-i-init : goal.loop-i-init
loop-i-init c = corner-zero c.args.grid c.requires.0 c.args.x _ c.count-n.ensures _ c.origin-v.ensures

pub axis-a-requires : goal.axis-a-requires
axis-a-requires c = let g = c.args.grid in (dim g c.requires.0, turn_below g c.requires.0 c.args.x _ c.count-n.ensures, omega (arith, c.requires.1))

pub overflow_cast-a : goal.overflow_cast-a
overflow_cast-a c = let g = c.args.grid in omega (arith, dim g c.requires.0, corner-axis g c.requires.0 c.args.x _ c.count-n.ensures _ _ (omega (arith, c.requires.1)) c.axis-a.ensures)

pub stride-v-requires : goal.stride-v-requires
stride-v-requires c = let g = c.args.grid in (c.requires.0, let h = corner-axis g c.requires.0 c.args.x _ c.count-n.ensures _ _ (omega (arith, c.requires.1)) c.axis-a.ensures in omega arith)

pub returns : goal.returns
returns c = let e : c.loop-i.i ≡ c.args.j = omega arith in rw e at c.loop-i.invariant

pub overflow_add-v : goal.overflow_add-v
overflow_add-v c = let g = c.args.grid in let t = corner-turn g c.requires.0 c.args.x _ c.count-n.ensures _ _ _ _ (omega (arith, c.requires.1)) c.axis-a.ensures c.stride-v.ensures c.loop-i.invariant in omega (arith, t.1)

pub loop-i-preserved : goal.loop-i-preserved
loop-i-preserved c = let g = c.args.grid in let t = corner-turn g c.requires.0 c.args.x _ c.count-n.ensures _ _ _ _ (omega (arith, c.requires.1)) c.axis-a.ensures c.stride-v.ensures c.loop-i.invariant in t.0
