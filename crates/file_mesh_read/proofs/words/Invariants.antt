-- `file_mesh_read::words` meets its contract. The invariant: the words are read as the words from word k on are, after those before it, whose vertices end at `top`. Assumes nothing.
use Rattle.file_mesh_read.proofs.Turns.{topped, place}
use Rattle.file_mesh_read.specs.Work.{worded_of, word_before}
use Rattle.file_mesh.specs.Read.{words_from}
use lib.ListN.{length, drop}
use Prim.Native.Nat.{◌-◌, ◌≤◌}
use mathlib.Core.List.{[]}
use mathlib.Core.Path.{◌≡◌}
use Rattle.file_mesh_read.proofs.words.Given as goal

abbrev pub invariant-loop-k : goal.invariant-loop-k
invariant-loop-k l = (l.k ≤ l.count) × (place l.d l.k ≤ length l.bytes) × (worded_of (words_from l.d l.count [] (drop 10 l.bytes)) ≡ topped l.top (words_from l.d (l.count - l.k) (word_before l.d l.k (place l.d l.k) l.bytes) (drop (place l.d l.k) l.bytes)))
