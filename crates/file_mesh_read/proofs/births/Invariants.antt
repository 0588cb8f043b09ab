-- `file_mesh_read::births` meets its contract. The invariant: the births are counted as those from `at` on are, after the run and the counts so far. Assumes nothing.
use Rattle.file_mesh_read.proofs.Records.{counted}
use Rattle.file_mesh_read.specs.Work.{counts_of}
use Rattle.file_mesh.specs.Read.{births_read_from}
use Rattle.file_mesh.specs.Rules.{no_birth}
use lib.ListN.{length, drop}
use Prim.Native.Nat.{◌+◌, ◌*◌, ◌-◌, ◌≤◌}
use mathlib.Core.Path.{◌≡◌}
use Rattle.file_mesh_read.proofs.births.Given as goal

abbrev pub invariant-loop-born : goal.invariant-loop-born
invariant-loop-born l = (l.at ≤ length l.bytes) × (10 + l.many * 14 ≤ l.at) × (l.pairs * 6 ≤ l.at) × (counts_of (births_read_from (length l.bytes) l.vertices no_birth (drop l.from l.bytes)) ≡ counted l.many l.pairs (births_read_from (length l.bytes - l.many) l.vertices l.run (drop l.at l.bytes)))

abbrev pub decreases-loop-born : goal.decreases-loop-born
decreases-loop-born l = length l.bytes - l.at
