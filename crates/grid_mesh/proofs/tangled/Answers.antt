-- `grid_mesh::tangled` meets its contract. The invariant: no axis passed reflects one that reflects another. Assumes nothing.
use mathlib.Core.Path.{◌≡◌, refl, sym, ◌∙◌}
use native.Mathlib.Omega.{arith}
use Rattle.quotient.specs.Fold.{some}
use Rattle.quotient.proofs.Laws.{some-true, some-none}
use Rattle.grid_mesh.proofs.tangled.Goals as goal

pub loop-a-init : goal.loop-a-init
unfolding some
loop-a-init c = refl

pub returns-then-tangled_at : goal.returns-then-tangled_at
returns-then-tangled_at c = sym (some-true _ _ _ c.loop-a-test.true (sym c.tangled_at.ensures ∙ c.if-tangled_at.true))

pub loop-a-preserved : goal.loop-a-preserved
loop-a-preserved c = some-none _ _ c.loop-a.invariant (sym c.tangled_at.ensures ∙ c.if-tangled_at.false)

pub returns : goal.returns
returns c = let e : c.loop-a.a ≡ c.args.grid.d = omega arith in sym (rw e at c.loop-a.invariant)
