-- `planner_needs_refinement::counted` meets its contract: one law of proofs/Needed for each way out. Assumes nothing.
use native.Mathlib.Omega.{arith}
use Rattle.refine.proofs.Needed.{counted_none, counted-over, counted-in}
use Rattle.planner_needs_refinement.proofs.counted.Goals as goal

pub returns-then-r-eq0 : goal.returns-then-r-eq0
returns-then-r-eq0 c = counted_none c.args.r (omega arith)

pub returns-then-r-gt-MOST_REFINEMENT : goal.returns-then-r-gt-MOST_REFINEMENT
returns-then-r-gt-MOST_REFINEMENT c = counted-over c.args.r (omega arith)

pub returns : goal.returns
returns c = counted-in c.args.r (omega arith) (omega arith)
