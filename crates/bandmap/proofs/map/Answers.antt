-- `bandmap::map` is safe: what is asked is a grid that is taken. Assumes nothing.
use mathlib.Core.Path.{sym, ◌∙◌}
use Rattle.bandmap.proofs.map.Goals as goal

pub asked-requires : goal.asked-requires
asked-requires c = sym c.check.ensures ∙ c.in_default.is
