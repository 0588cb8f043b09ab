-- `quotient::Grid::some_odd` meets its contract. The invariant: no axis passed reflects an odd number. Assumes nothing.
use mathlib.Core.Path.{◌≡◌, refl, sym, ◌∙◌}
use native.Mathlib.Omega.{arith}
use Rattle.quotient.specs.Fold.{some}
use Rattle.quotient.proofs.Laws.{some-true, some-none}
use Rattle.quotient.proofs.Grid.some_odd.Goals as goal

pub loop-i-init : goal.loop-i-init
unfolding some
loop-i-init c = refl

pub returns-then-reflects_odd : goal.returns-then-reflects_odd
returns-then-reflects_odd c = sym (some-true _ _ _ c.loop-i-test.true (sym c.reflects_odd.ensures ∙ c.if-reflects_odd.true))

pub loop-i-preserved : goal.loop-i-preserved
loop-i-preserved c = some-none _ _ c.loop-i.invariant (sym c.reflects_odd.ensures ∙ c.if-reflects_odd.false)

pub returns : goal.returns
returns c = let e : c.loop-i.i ≡ c.args.self.d = omega arith in sym (rw e at c.loop-i.invariant)
