-- `file_bytes::read_fours` meets its contract. The invariant: the first i numbers are read, and the rest of the list is as it was. Assumes nothing.
use mathlib.Core.Path.{◌≡◌}
use mathlib.Core.List.{◌++◌}
use Prim.Native.Nat.{◌-◌, ◌≤◌}
use lib.ListN.{length, drop}
use Rattle.file_bytes.specs.Bytes.{fours_of}
use Rattle.file_bytes.proofs.read_fours.Given as goal

abbrev pub invariant-loop-i : goal.invariant-loop-i
invariant-loop-i l = l.to ≡ fours_of l.i l.from ++ drop l.i l.initial.to
