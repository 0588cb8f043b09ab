-- `grid_words::reaches` meets its contract. The invariant: the first i corners are written. Assumes nothing.
use mathlib.Core.Path.{refl, sym, ap, ◌∙◌}
use Prim.Native.Nat.{ℕ, suc, ◌+◌, ◌/◌, ◌%◌, ◌<◌}
use native.Mathlib.Omega.{arith}
use native.Mathlib.Nat.{mod-lt, le_refl}
use native.Mathlib.Numerals.{add-one}
use Rattle.lists.proofs.Laws.{store, copied}
use Rattle.lists.proofs.Tables.{get_or-tab}
use Rattle.grid_words.specs.WorkNumbered.{corner_of}
use Rattle.grid_words.specs.Work.{reach_long, reach_of}
use Rattle.grid_words.proofs.Corners.{dim, corner-lt, points-few}
use Rattle.grid_words.proofs.Moved.{reach-length}
use Rattle.grid_words.proofs.reaches.Goals as goal

pub overflow_add-n : goal.overflow_add-n
overflow_add-n c = omega (arith, dim c.args.grid c.requires.0)

pub loop-i-init : goal.loop-i-init
loop-i-init c = refl

pub corner-requires : goal.corner-requires
corner-requires c = (c.requires.0, let h : c.loop-i.i % (c.args.grid.d + 1) < c.args.grid.d + 1 = mod-lt c.loop-i.i (omega arith) in omega arith)

pub overflow_cast-reach : goal.overflow_cast-reach
overflow_cast-reach c = let g = c.args.grid in let i = c.loop-i.i in let h : i % (g.d + 1) < g.d + 1 = mod-lt i (omega arith) in omega (arith, c.corner.ensures, corner-lt g c.requires.0 (i / (g.d + 1)) (i % (g.d + 1)) (omega arith), points-few g c.requires.0 g.d (le_refl g.d))

pub loop-i-preserved : goal.loop-i-preserved
loop-i-preserved c = let g = c.args.grid in
    let i = c.loop-i.i in
    let h : i < reach_long g = omega (arith, c.requires.1, c.loop-i-test.true, c.loop-i.auto.reach) in
    let e = c.corner.ensures ∙ ap (λ (n : ℕ). corner_of g (i / n) (i % n)) (add-one g.d) ∙ sym (get_or-tab (reach_long g) (λ i. corner_of g (i / suc g.d) (i % suc g.d)) i 0 h) in
    rw (c.loop-i.invariant, e) (store (reach_of g) c.args.reach.now i (omega (arith, reach-length g c.requires.0)) (omega (arith, c.requires.1)))

pub returns : goal.returns
returns c = let g = c.args.grid in
    c.loop-i.invariant ∙ copied (reach_of g) c.args.reach.now c.loop-i.i (omega (arith, reach-length g c.requires.0, c.requires.1, c.loop-i.auto.reach, c.loop-i-test.false)) (omega (arith, c.loop-i.auto.reach, c.loop-i-test.false))
