-- `complex_dropped::list_staying` meets its contract. The loop's invariant: of the first k words those whose cell is not marked are listed. Assumes nothing.
use mathlib.Core.Bool.{Bool}
use mathlib.Core.Path.{◌≡◌, refl, sym, ap, ◌∙◌}
use mathlib.Core.List.{List, ◌++◌}
use Prim.Native.Nat.{ℕ, ◌<◌}
use native.Mathlib.Omega.{arith}
use lib.Dec.{eqb}
use borrow.Author.Tests.{eq-eqb, ne_eqb}
use lib.ListN.{length, get_or, drop}
use Rattle.complex.specs.Skeleton.{numbers}
use Rattle.complex_dropped.proofs.Counting.{count_most}
use Rattle.complex_dropped.proofs.Loops.{list-skip, list-turn}
use Rattle.complex_dropped.proofs.list_staying.Goals as goal

-- whether the word k stays
abbrev stays : List ℕ → List ℕ → ℕ → Bool
stays ids marks k = eqb (get_or marks (get_or ids k 0) 0) 0

pub loop-k-init : goal.loop-k-init
unfolding numbers
loop-k-init c = (refl, refl)

pub bounds-marks-cell : goal.bounds-marks-cell
bounds-marks-cell c = c.requires.below c.loop-k.k c.loop-k-test.true

pub loop-k-preserved-then-marks-cell-ne0 : goal.loop-k-preserved-then-marks-cell-ne0
loop-k-preserved-then-marks-cell-ne0 c =
    let e = list-skip (stays c.args.ids.now c.args.marks.now) c.loop-k.k (ne_eqb _ 0 c.if-marks-cell-ne0.true) in
    (c.loop-k.invariant.0 ∙ ap length (sym e), c.loop-k.invariant.1 ∙ ap (λ (t : List ℕ). t ++ drop c.loop-k.j c.args.list.now) (sym e))

room : (c : goal.Else-marks-cell-ne0) → c.loop-k.j < length c.args.list.now
room c = omega (arith, count_most (stays c.args.ids.now c.args.marks.now) c.loop-k.k)

pub bounds-list-j : goal.bounds-list-j
bounds-list-j c = omega (arith, room c)

pub overflow_add-j : goal.overflow_add-j
overflow_add-j c = omega (arith, room c)

pub loop-k-preserved : goal.loop-k-preserved
loop-k-preserved c =
    list-turn (stays c.args.ids.now c.args.marks.now) c.loop-k.k c.loop-k.j c.args.list.now c.loop-k.list (eq-eqb _ 0 c.if-marks-cell-ne0.false) c.loop-k.invariant.0 c.loop-k.invariant.1 (room c)

pub returns : goal.returns
returns c = let e : c.loop-k.k ≡ c.args.count = omega arith in rw e at c.loop-k.invariant
