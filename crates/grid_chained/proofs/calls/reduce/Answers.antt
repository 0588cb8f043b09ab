-- `grid_chained::calls::reduce` meets its contract, by its ways out (proofs/Entry). Assumes nothing.
use Rattle.refusal.proofs.Chain.{passed_on}
use mathlib.Core.Path.{sym, ◌∙◌}
use native.Mathlib.Omega.{arith}
use lib.Seq.{length-take-le}
use Rattle.grid_chained.proofs.Entry.{reduced-refused, reduced-cramped, working, reduced-many, reduced-at}
use Rattle.grid_chained.proofs.calls.reduce.Goals as goal

pub returns-in_err-check : goal.returns-in_err-check
returns-in_err-check c = rw (passed_on c.from_residual.ensures.1) (reduced-refused c.args.grid _ _ _ (sym c.check.ensures ∙ c.in_err-check.was))

pub need-need-requires : goal.need-need-requires
need-need-requires c = sym c.check.ensures ∙ c.in_ok-check.was

pub returns-then-room-need : goal.returns-then-room-need
returns-then-room-need c = reduced-cramped c.args.grid _ _ (sym c.check.ensures ∙ c.in_ok-check.was) _ c.need-need.ensures c.if-room-need.true

pub slice_bounds-cleared-end-2 : goal.slice_bounds-cleared-end-2
slice_bounds-cleared-end-2 c = sym (length-take-le _ _ (omega (arith, c.if-room-need.false)))

pub cleared-look-requires : goal.cleared-look-requires
cleared-look-requires c = working c.args.grid _ _ (sym c.check.ensures ∙ c.in_ok-check.was) c.need-need.ensures (omega (arith, c.if-room-need.false))

pub returns-then-look-gt-MOST_VERTICES : goal.returns-then-look-gt-MOST_VERTICES
returns-then-look-gt-MOST_VERTICES c = reduced-many c.args.grid _ (sym c.check.ensures ∙ c.in_ok-check.was) _ c.need-need.ensures (omega (arith, c.if-room-need.false)) _ c.cleared-look.ensures.room _ _ _ c.cleared-look.ensures.work c.if-look-gt-MOST_VERTICES.true

pub returns : goal.returns
returns c = reduced-at c.args.grid _ (sym c.check.ensures ∙ c.in_ok-check.was) _ c.need-need.ensures (omega (arith, c.if-room-need.false)) _ c.cleared-look.ensures.room _ _ _ c.cleared-look.ensures.work (omega (arith, c.if-look-gt-MOST_VERTICES.false))
