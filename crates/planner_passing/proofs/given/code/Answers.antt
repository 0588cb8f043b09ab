-- `planner_passing::given::code` meets its contract, case by case. Assumes nothing.
use mathlib.Core.Path.{sym, ap}
use Rattle.planner_passing.specs.Given.{glue_code}
use Rattle.planner_passing.proofs.given.code.Goals as goal

pub returns-in-Twisted : goal.returns-in-Twisted
returns-in-Twisted c = sym (ap glue_code c.in-Twisted.is)
