-- `file_bytes::put_fours` meets its contract. The invariant: the bytes of the first i numbers are written. Assumes nothing.
use Prim.Native.Nat.{◌*◌, ◌-◌, ◌≤◌}
use lib.ListN.{length, drop}
use Rattle.refine_pattern.proofs.Written.{Written}
use Rattle.file_bytes.specs.Bytes.{fours}
use Rattle.file_bytes.proofs.put_fours.Given as goal

abbrev pub invariant-loop-i : goal.invariant-loop-i
invariant-loop-i l = Written (fours l.from) l.initial.to (fours (drop l.i l.from)) (l.i * 4) l.to
