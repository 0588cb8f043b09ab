-- `file_mesh_write::words_rise` meets its contract. The invariant: the test of all words is the test of those from word k on, after word k - 1. Assumes nothing.
use Rattle.file_mesh_write.proofs.Fit.{part}
use Rattle.file_mesh.specs.Rules.{rise}
use lib.ListN.{length, drop}
use mathlib.Core.List.{[]}
use Prim.Native.Nat.{◌+◌, ◌*◌, ◌-◌, ◌/◌}
use mathlib.Core.Path.{◌≡◌}
use Rattle.file_mesh_write.proofs.words_rise.Given as goal

abbrev pub invariant-loop-k : goal.invariant-loop-k
invariant-loop-k l = rise l.d (length l.words / (l.d + 1)) [] l.words ≡ rise l.d (length l.words / (l.d + 1) - l.k) (part l.d l.words (l.k * (l.d + 1) - (l.d + 1))) (drop (l.k * (l.d + 1)) l.words)
