-- `file_mesh_write::births_fit` meets its contract. The invariant: the test of all births is the test of those from birth k on, whose pairs begin at `at`, after the run. Assumes nothing.
use Rattle.file_mesh.specs.Rules.{no_birth, births_fit}
use lib.ListN.{length, drop}
use Prim.Native.Nat.{◌*◌, ◌≤◌}
use mathlib.Core.Path.{◌≡◌}
use Rattle.file_mesh_write.proofs.births_fit.Given as goal

abbrev pub invariant-loop-k : goal.invariant-loop-k
invariant-loop-k l = (l.at ≤ length l.pairs) × (births_fit l.vertices no_birth l.births l.pairs ≡ births_fit l.vertices l.run (drop (l.k * 3) l.births) (drop l.at l.pairs))
