-- How a class is returned to C. Assumes nothing.
use Rattle.std.specs.Prelude.{ℕ}
use Rattle.grid_chained.specs.declared.ClassVertex.{ClassVertex}
use Rattle.grid_chained.specs.Says.{Classed}
use Rattle.planner_passing.specs.Said.{answer_code}

-- a point's class
abbrev pub classed_code : Classed → ℕ
classed_code = answer_code (λ (v : ClassVertex). v.0)
