-- `grid_mesh::tangled_at` meets its contract. The invariant: no axis passed is reflected and reflects one. Assumes nothing.
use mathlib.Core.Path.{◌≡◌, refl, sym, ◌∙◌}
use native.Mathlib.Omega.{arith}
use Rattle.quotient.specs.Fold.{some}
use Rattle.quotient.proofs.Laws.{some-true, some-none}
use Rattle.grid_mesh.proofs.tangled_at.Goals as goal

pub loop-b-init : goal.loop-b-init
unfolding some
loop-b-init c = refl

pub returns-then-tangled_by : goal.returns-then-tangled_by
returns-then-tangled_by c = sym (some-true _ _ _ c.loop-b-test.true (sym c.tangled_by.ensures ∙ c.if-tangled_by.true))

pub loop-b-preserved : goal.loop-b-preserved
loop-b-preserved c = some-none _ _ c.loop-b.invariant (sym c.tangled_by.ensures ∙ c.if-tangled_by.false)

pub returns : goal.returns
returns c = let e : c.loop-b.b ≡ c.args.grid.d = omega arith in sym (rw e at c.loop-b.invariant)
