-- `quotient::Grid::sizes` meets its contract. The invariant: cells and vertices are the capped products so far. Assumes nothing.
use borrow.Author.Rules.{rules}
use mathlib.Core.Path.{◌≡◌, sym, ap, ◌∙◌}
use native.Mathlib.Nat.{le_of_eq, le_trans}
use native.Mathlib.Omega.{arith}
use Rattle.quotient.specs.declared.Axis.{Axis}
use Rattle.quotient.specs.Fold.{product}
use Rattle.quotient.specs.Shape.{glued_points}
use Rattle.quotient.proofs.Axes.{glued-le}
use Rattle.quotient.proofs.Laws.{cells-step, cap-step}
use Rattle.quotient.proofs.Grid.sizes.Goals as goal

pub loop-i-init : goal.loop-i-init
unfolding product
loop-i-init c = (omega arith, omega arith)

pub capped-m-requires : goal.capped-m-requires
capped-m-requires c =
    let a = c.axis-a in
    (search rules, search rules, le_trans (le_of_eq (c.glued_on.ensures ∙ sym (ap glued_points a.ensures))) (le_trans (glued-le a.result) (search rules)))

pub loop-i-preserved : goal.loop-i-preserved
loop-i-preserved c =
    let l = c.loop-i.invariant in (
      cells-step _ _ _ _ _ _ _ l.0 (ap (λ (a : Axis). a.count) c.axis-a.ensures) c.capped-q.ensures c.capped-n.ensures,
      cap-step _ _ _ _ _ _ l.1 c.glued_on.ensures c.capped-m.ensures,
    )

pub returns : goal.returns
returns c = let e : c.loop-i.i ≡ c.args.self.d = omega arith in (rw e at c.loop-i.invariant.0, rw e at c.loop-i.invariant.1)
