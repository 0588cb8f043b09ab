use Rattle.std.proofs.Common.{sym, ◌∙◌, arith}
use Rattle.grid_chained.proofs.Searching.{least-none, least-stay, least-there, least-here}
use Rattle.grid_chained.proofs.quick.+least_below.Goals as goal

pub returns-then-a-eq0 : goal.returns-then-a-eq0
returns-then-a-eq0 t c = least-none _ _ _ c.if-a-eq0.true

pub returns-then-not-at_end : goal.returns-then-not-at_end
returns-then-not-at_end t c =
    least-stay _ _ _ _ _ (omega (arith, c.if-a-eq0.false)) c.least_below-here.ensures (sym c.at_end.ensures ∙ c.if-not-at_end.true)

pub returns-then-there-here : goal.returns-then-there-here
returns-then-there-here t c =
    least-there _ _ _ _ _ (omega (arith, c.if-a-eq0.false)) c.least_below-here.ensures _ _ (sym c.at_end.ensures ∙ c.if-not-at_end.false) c.across.ensures.0 c.least_below-there.ensures c.if-there-here.true

pub returns-else-there-here : goal.returns-else-there-here
returns-else-there-here t c =
    least-here _ _ _ _ _ (omega (arith, c.if-a-eq0.false)) c.least_below-here.ensures _ _ (sym c.at_end.ensures ∙ c.if-not-at_end.false) c.across.ensures.0 c.least_below-there.ensures (omega (arith, c.if-there-here.false))
