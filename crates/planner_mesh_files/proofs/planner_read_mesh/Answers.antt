-- `planner_mesh_files::planner_read_mesh` meets its contract: the answer is the call's. Assumes nothing.
use Rattle.planner_mesh_files.proofs.planner_read_mesh.Goals as goal

pub returns : goal.returns
returns c = record { answer = c.read_mesh-reading.result; coded = c.shaped.ensures.value; meets = (c.read_mesh-reading.ensures, c.shaped.ensures.shape_after) }
