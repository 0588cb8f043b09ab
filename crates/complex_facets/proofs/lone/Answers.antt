-- `complex_facets::lone` meets its contract. The loop's invariant: the lone rows of the first i classes are stored. Assumes nothing.
use mathlib.Core.Path.{◌≡◌, refl, sym, ap, ◌∙◌, subst₂}
use mathlib.Core.List.{List, ◌++◌}
use Prim.Native.Nat.{ℕ, ◌+◌, ◌<◌}
use native.Mathlib.Omega.{arith}
use lib.ListN.{length, drop}
use Rattle.complex_facets.specs.WorkClasses.{lone_rows}
use Rattle.complex_facets.proofs.Border.{lone-skip, lone-turn, lone-length}
use Rattle.complex_facets.proofs.lone.Goals.{In-loop-i, then-others-i, else-others-i}
use Rattle.complex_facets.proofs.lone.Goals as goal

pub loop-i-init : goal.loop-i-init
unfolding lone_rows
loop-i-init c = (refl, refl)

room : (c : In-loop-i) → c.loop-i.j < length c.args.to.now
room c = omega (arith, lone-length c.loop-i.i c.args.reps.now c.args.others.now, c.requires)

pub bounds-to-j : goal.bounds-to-j
bounds-to-j c = omega (arith, room (goal.at.bounds-to-j c).In-loop-i)

pub loop-i-preserved : goal.loop-i-preserved
loop-i-preserved c =
    let a = (goal.at.loop-i-preserved c).In-loop-i in
    let reps = c.args.reps.now in
    let others = c.args.others.now in
    let Stored : ℕ → List ℕ → Type 0 = λ j to. (j ≡ length (lone_rows (c.loop-i.i + 1) reps others)) × (to ≡ lone_rows (c.loop-i.i + 1) reps others ++ drop j c.args.to.now) in
    elim c.if-others-i.branch [
      | then-others-i w ↦ subst₂ Stored (sym w.j-is) (sym w.to-is)
          (lone-turn c.loop-i.i c.loop-i.j reps others c.args.to.now c.loop-i.to w.if-others-i.true c.loop-i.invariant.0 c.loop-i.invariant.1 (room a))
      | else-others-i w ↦ let e = lone-skip c.loop-i.i reps others w.if-others-i.false in
          subst₂ Stored (sym w.j-is) (sym w.to-is)
          (c.loop-i.invariant.0 ∙ ap length (sym e), c.loop-i.invariant.1 ∙ ap (λ (t : List ℕ). t ++ drop c.loop-i.j c.args.to.now) (sym e))
    ]
