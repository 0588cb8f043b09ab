-- `complex_mates::across` meets its contract. The loop's invariant: the first x rows are crossed. Assumes nothing.
use Rattle.complex_mates.specs.Table.{Across}
use Prim.Native.Nat.{ℕ, ◌<◌}
use Rattle.complex_mates.proofs.across.Given as goal

abbrev pub invariant-loop-x : goal.invariant-loop-x
invariant-loop-x l = (y : ℕ) → y < l.x → Across l.k l.mates l.other l.flip y
