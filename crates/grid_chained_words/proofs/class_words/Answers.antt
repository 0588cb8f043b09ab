-- `grid_chained_words::class_words` meets its contract. The invariant: the first i numbers of the words are written. Assumes nothing.
use mathlib.Core.Path.{◌≡◌, refl, ◌∙◌}
use Rattle.refusal.specs.Says.{fine}
use Rattle.quotient.specs.declared.Grid.{Grid}
use Rattle.quotient.specs.Shape.{check_of}
use Rattle.quotient.specs.Points.{points_of}
use Rattle.grid_words.specs.WorkNumbered.{corner_of}
use Prim.Native.Nat.{ℕ, ◌+◌, ◌/◌, ◌%◌, ◌<◌}
use native.Mathlib.Omega.{arith}
use native.Mathlib.Nat.{mod-lt}
use lib.ListN.{length}
use Rattle.lists.proofs.Laws.{store, copied}
use Rattle.grid_words.proofs.Corners.{corner-lt}
use Rattle.grid_chained.specs.Classing.{at}
use Rattle.grid_chained_words.specs.Words.{flat_by}
use Rattle.grid_chained_words.proofs.Listed.{words_long, words-turn}
use Rattle.grid_chained_words.proofs.class_words.Goals as goal

-- place i of the list in its word
inside : (i n : ℕ) → i % (n + 1) < n + 1
inside i n = mod-lt i (omega arith)

-- the corner is a point
on_grid : (g : Grid) (i p n : ℕ) → check_of g ≡ fine → p ≡ corner_of g (i / (g.d + 1)) (i % (g.d + 1)) → n ≡ points_of g → p < n
on_grid g i p n fine e long = omega (arith, corner-lt g fine (i / (g.d + 1)) (i % (g.d + 1)) (omega (arith, inside i g.d)))

pub offset_bounds-numbers-p : goal.offset_bounds-numbers-p
offset_bounds-numbers-p c = omega (arith, on_grid _ _ _ _ c.requires.taken c.corner-p.ensures c.requires.each)

pub bounds-numbers-p : goal.bounds-numbers-p
bounds-numbers-p c = on_grid _ _ _ _ c.requires.taken c.corner-p.ensures c.requires.each

pub loop-i-preserved : goal.loop-i-preserved
loop-i-preserved c =
    let g = c.args.grid in
    let h : c.loop-i.i < length c.args.words.now = omega arith in
    let e = words-turn g c.requires.taken (at c.args.numbers.now) c.loop-i.i _ _ (omega (arith, c.requires.long)) c.corner-p.ensures refl in
    rw (c.loop-i.invariant, e) (store _ _ _ (omega (arith, words_long g c.requires.taken (at c.args.numbers.now), c.requires.long)) h)

pub returns : goal.returns
returns c =
    let g = c.args.grid in
    c.loop-i.invariant ∙ copied (flat_by g (at c.args.numbers.now)) c.args.words.now c.loop-i.i (omega (arith, words_long g c.requires.taken (at c.args.numbers.now), c.requires.long)) (omega arith)
