-- `grid_chained::check::check` meets its contract: it says what the first mode's check says without its last test. Assumes nothing.
use mathlib.Core.Path.{sym, ◌∙◌}
use Rattle.grid_chained.proofs.Taken.{said-six, said-other}
use Rattle.grid_chained.proofs.check.check.Goals as goal

pub returns-then-eq : goal.returns-then-eq
returns-then-eq c = said-six c.args.grid _ _ c.check-checked.ensures c.if-eq.ensures

pub returns-else-eq : goal.returns-else-eq
returns-else-eq c = said-other c.args.grid _ _ c.check-checked.ensures (sym c.if-eq.false ∙ c.eq.ensures)
