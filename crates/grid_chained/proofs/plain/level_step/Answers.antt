-- `grid_chained::plain::level_step` meets its contract: where a step leaves its two ends are levelled, elsewhere nothing is done. Assumes nothing.
use mathlib.Core.Path.{sym, ◌∙◌}
use Rattle.grid_chained.proofs.Levelling.{level-pass}
use Rattle.grid_chained.proofs.plain.level_step.Goals as goal

pub returns : goal.returns
returns c =
    let p = c.requires in
    level-pass c.args.grid _ _ c.requires.1 c.requires.2 _ _ _ _ c.requires.3 (sym c.leaves.ensures ∙ c.if-not-leaves.false) c.leads-w.ensures.0 c.level.ensures
