-- `planner_needs_refinement::births` meets its contract: the lesser of the two. Assumes nothing.
use native.Mathlib.Omega.{arith}
use Rattle.planner_needs_refinement.proofs.births.Goals as goal

pub returns-then-corners-lt-MOST_VERTICES : goal.returns-then-corners-lt-MOST_VERTICES
returns-then-corners-lt-MOST_VERTICES c = omega (arith, c.if-corners-lt-MOST_VERTICES.true)

pub returns : goal.returns
returns c = omega (arith, c.if-corners-lt-MOST_VERTICES.false)
