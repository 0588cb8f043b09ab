-- `file_mesh_read::pairs_refusal` meets its contract. The invariant: the refusal of all pairs is that of the pairs from pair k on, which begin at `at`, after a sum. Assumes nothing.
use Rattle.file_mesh_read.proofs.Pairs.{summed}
use Rattle.file_mesh_read.specs.Work.{refusal_of, weighed}
use Rattle.file_mesh.specs.Read.{pairs_from}
use lib.ListN.{length, drop}
use Prim.Native.Nat.{◌*◌, ◌-◌, ◌≤◌}
use mathlib.Core.Path.{◌≡◌}
use Rattle.file_mesh_read.proofs.pairs_refusal.Given as goal

abbrev pub invariant-loop-k : goal.invariant-loop-k
invariant-loop-k l = (l.k ≤ l.count) × (l.at ≤ length l.bytes) × (l.sum ≤ l.k * 65535) × (refusal_of (weighed l.r (pairs_from l.first 0 l.count (drop l.from l.bytes))) ≡ summed l.r l.sum (pairs_from l.first l.low (l.count - l.k) (drop l.at l.bytes)))
