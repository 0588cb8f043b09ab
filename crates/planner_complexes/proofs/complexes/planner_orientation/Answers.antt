-- `planner_complexes::complexes::planner_orientation` meets its contract: the answer is the call's, returned without its looks. Assumes nothing.
use mathlib.Core.Path.{ap, ◌∙◌}
use Rattle.planner_passing.specs.Said.{counted_code}
use Rattle.planner_complexes.proofs.complexes.planner_orientation.Goals as goal

pub returns : goal.returns
returns c =
    record { answer = c.orientation.result; coded = c.counted-2.ensures ∙ ap counted_code c.counted.ensures; meets = c.orientation.ensures }
