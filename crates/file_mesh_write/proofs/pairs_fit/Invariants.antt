-- `file_mesh_write::pairs_fit` meets its contract. The invariant: the test of all pairs is the test of those from pair k on, from `low` on and with `left` to weigh. Assumes nothing.
use Rattle.file_mesh_write.proofs.Fit.{weigh}
use lib.ListN.{drop}
use Prim.Native.Nat.{◌+◌}
use mathlib.Core.Path.{◌≡◌}
use Rattle.file_mesh_write.proofs.pairs_fit.Given as goal

abbrev pub invariant-loop-k : goal.invariant-loop-k
invariant-loop-k l = weigh l.first 0 l.r l.pairs ≡ weigh l.first l.low l.left (drop (l.k + l.k) l.pairs)
