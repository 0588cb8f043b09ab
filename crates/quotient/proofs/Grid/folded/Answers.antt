-- `quotient::Grid::folded` meets its contract. Assumes nothing.
use mathlib.Core.Path.{sym, ap, ◌∙◌}
use native.Mathlib.Omega.{arith}
use Rattle.quotient.specs.declared.Axis.{Axis}
use Rattle.quotient.proofs.Points.{fold_end, fold-other}
use Rattle.quotient.proofs.Seam.{turned-is, turned_le}
use Rattle.quotient.proofs.Grid.folded.Goals as goal

pub turned-t-requires : goal.turned-t-requires
turned-t-requires c = omega (arith, ap (λ (a : Axis). a.count) c.axis-a.ensures)

pub returns-then-ends : goal.returns-then-ends
returns-then-ends c =
    let x = c.axis-a.ensures in
    fold_end _ _ _ _ _ x (turned-is _ _ _ _ _ _ _ x c.member_of.ensures c.turned-t.ensures) (sym c.ends.ensures ∙ c.if-ends.true)

pub returns-else-ends : goal.returns-else-ends
returns-else-ends c =
    let x = c.axis-a.ensures in
    let e = turned-is _ _ _ _ _ _ _ x c.member_of.ensures c.turned-t.ensures in
    fold-other _ _ _ _ _ x e (sym c.ends.ensures ∙ c.if-ends.false) (rw e (turned_le _ _ _ _ c.requires))
