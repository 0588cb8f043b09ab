-- `grid_chained::listing::listed` meets its contract, by its three ways out (proofs/Entry). Assumes nothing.
use Rattle.refusal.proofs.Chain.{passed_on}
use mathlib.Core.Path.{sym, ◌∙◌}
use native.Mathlib.Omega.{arith}
use Rattle.grid_chained.proofs.Entry.{out-refused, out-cramped, out-ended}
use Rattle.grid_chained.proofs.listing.listed.Goals as goal

pub returns-in_err-check : goal.returns-in_err-check
returns-in_err-check c = rw (passed_on c.from_residual.ensures.1) (out-refused c.args.grid _ _ _ (sym c.check.ensures ∙ c.in_err-check.was))

pub returns-then-room-need : goal.returns-then-room-need
returns-then-room-need c = out-cramped c.args.grid _ _ (sym c.check.ensures ∙ c.in_ok-check.was) _ c.need-need.ensures c.if-room-need.true

pub returns : goal.returns
returns c = out-ended c.args.grid _ (sym c.check.ensures ∙ c.in_ok-check.was) _ c.need-need.ensures (omega (arith, c.if-room-need.false)) _ c.cleared.ensures.room _ _ _ c.cleared.ensures.work
