-- `quotient::Grid::check_with_sides` meets its contract. Assumes nothing.
use Rattle.refusal.proofs.Chain.{passed_on}
use mathlib.Core.Path.{sym, ◌∙◌}
use Rattle.quotient.proofs.Checks.{check-refused, check-fine, sides-1, sides-1-too, sides-10, sides-rest}
use Rattle.quotient.proofs.Grid.check_with_sides.Goals as goal

pub returns-then-d-lt1 : goal.returns-then-d-lt1
returns-then-d-lt1 c = sides-1 _ c.if-d-lt1.true

pub returns-then-d-gt-MOST_DIMENSION : goal.returns-then-d-gt-MOST_DIMENSION
returns-then-d-gt-MOST_DIMENSION c = sides-1-too _ c.if-d-lt1.false c.if-d-gt-MOST_DIMENSION.true

pub returns-then-b-d : goal.returns-then-b-d
returns-then-b-d c = sides-10 _ c.if-d-lt1.false c.if-d-gt-MOST_DIMENSION.false _ c.bad_side-b.ensures c.if-b-d.true

pub returns-in_err-shape : goal.returns-in_err-shape
returns-in_err-shape c =
    rw (passed_on c.from_residual.ensures.1)
    (sides-rest _ c.if-d-lt1.false c.if-d-gt-MOST_DIMENSION.false _ c.bad_side-b.ensures c.if-b-d.false _
    (check-refused _ _ _ (sym c.in_err-shape.was ∙ c.shape.ensures)))

pub returns : goal.returns
returns c =
    sides-rest _ c.if-d-lt1.false c.if-d-gt-MOST_DIMENSION.false _ c.bad_side-b.ensures c.if-b-d.false _
    (check-fine _ _ _ (sym c.in_ok-shape.was ∙ c.shape.ensures))
