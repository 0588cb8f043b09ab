-- `quotient::Grid::quasi_uniform` meets its contract.  Assumes nothing.
use Rattle.refusal.proofs.Chain.{passed_on}
use Rattle.refusal.specs.Says.{Answer}
use Rattle.std.specs.Prelude.{Ok}
use mathlib.Core.Path.{sym, ap, ◌∙◌}
use Rattle.quotient.specs.Makers.{made_after}
use Rattle.quotient.proofs.Quasi.{made-1, made-1-too, made-10, made-9, made-3, made_after_lem}
use Rattle.quotient.proofs.Grid.quasi_uniform.Goals as goal

pub returns-then-d-lt1 : goal.returns-then-d-lt1
returns-then-d-lt1 c = made-1 _ _ _ _ c.if-d-lt1.true

pub returns-then-d-gt-MOST_DIMENSION : goal.returns-then-d-gt-MOST_DIMENSION
returns-then-d-gt-MOST_DIMENSION c = made-1-too _ _ _ _ c.if-d-lt1.false c.if-d-gt-MOST_DIMENSION.true

pub returns-then-b-d : goal.returns-then-b-d
returns-then-b-d c = made-10 _ _ _ _ c.if-d-lt1.false c.if-d-gt-MOST_DIMENSION.false _ c.bad_side-b.ensures c.if-b-d.true

pub returns-then-w-d : goal.returns-then-w-d
returns-then-w-d c =
    made-9 _ _ _ _ c.if-d-lt1.false c.if-d-gt-MOST_DIMENSION.false _ c.bad_side-b.ensures c.if-b-d.false _ c.at_most.ensures _ c.quasi_grid-grid.ensures _ c.bad_reflection-w.ensures c.if-w-d.true

pub returns-then-n-gt-MOST_ALONG : goal.returns-then-n-gt-MOST_ALONG
returns-then-n-gt-MOST_ALONG c =
    made-3 _ _ _ _ c.if-d-lt1.false c.if-d-gt-MOST_DIMENSION.false _ c.bad_side-b.ensures c.if-b-d.false _ c.at_most.ensures _ c.quasi_grid-grid.ensures _ c.bad_reflection-w.ensures c.if-w-d.false c.if-n-gt-MOST_ALONG.true

pub returns-in_err-check : goal.returns-in_err-check
returns-in_err-check c =
    passed_on c.from_residual.ensures.1
    ∙ sym (ap (λ (z : Answer). made_after z (Ok c.quasi_grid-grid.result)) c.in_err-check.was)
    ∙ made_after_lem _ _ _ _ c.if-d-lt1.false c.if-d-gt-MOST_DIMENSION.false _ c.bad_side-b.ensures c.if-b-d.false _ c.at_most.ensures _ c.quasi_grid-grid.ensures _ c.bad_reflection-w.ensures c.if-w-d.false c.if-n-gt-MOST_ALONG.false _ c.check.ensures

pub returns : goal.returns
returns c =
    sym (ap (λ (z : Answer). made_after z (Ok c.quasi_grid-grid.result)) c.in_ok-check.was)
    ∙ made_after_lem _ _ _ _ c.if-d-lt1.false c.if-d-gt-MOST_DIMENSION.false _ c.bad_side-b.ensures c.if-b-d.false _ c.at_most.ensures _ c.quasi_grid-grid.ensures _ c.bad_reflection-w.ensures c.if-w-d.false c.if-n-gt-MOST_ALONG.false _ c.check.ensures
