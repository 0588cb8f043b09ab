-- A number that stands again after its place, or none so far. Assumes nothing.
use mathlib.Core.Bool.{Bool}
use mathlib.Core.List.{List}
use Prim.Native.Nat.{ℕ, ◌+◌, ◌-◌}
use mathlib.Core.Path.{◌≡◌, sym, ◌∙◌}
use lib.Dec.{eqb}
use lib.ListN.{length, get_or, take, drop}
use Rattle.std.specs.List.{list_any}
use Rattle.lists.specs.Words.{among}
use Rattle.lists.proofs.Words.{among_any, tail-part, repeat-hit, repeat-miss, repeat-end}
use Rattle.complex.proofs.repeats.Goals as goal

-- what the part after i says
again : (w : List ℕ) (i : ℕ) (r b : Bool) → r ≡ list_any (λ y. eqb y (get_or w i 0)) (take (length w - (i + 1)) (drop (i + 1) w)) → r ≡ b → among (get_or w i 0) (drop (i + 1) w) ≡ b
again w i r b e t = sym (among_any (get_or w i 0) (drop (i + 1) w)) ∙ (rw (tail-part w (i + 1)) at (sym e ∙ t))

pub returns-then-contains : goal.returns-then-contains
returns-then-contains c =
    sym (c.loop-i.invariant ∙ repeat-hit c.args.w.now c.loop-i.i c.loop-i-test.true (again c.args.w.now c.loop-i.i _ _ c.contains.ensures.value c.if-contains.true))

pub loop-i-preserved : goal.loop-i-preserved
loop-i-preserved c =
    c.loop-i.invariant ∙ repeat-miss c.args.w.now c.loop-i.i c.loop-i-test.true (again c.args.w.now c.loop-i.i _ _ c.contains.ensures.value c.if-contains.false)

pub returns : goal.returns
returns c = sym (c.loop-i.invariant ∙ repeat-end _ _ c.loop-i-test.false)
