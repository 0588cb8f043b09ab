-- `complex_facets::across` meets its contract. The loop's invariant: the first x rows are read. Assumes nothing.
use Rattle.complex_facets.specs.WorkAcross.{Crossed}
use Prim.Native.Nat.{ℕ, ◌<◌}
use Rattle.complex_facets.proofs.across.Given as goal

abbrev pub invariant-loop-x : goal.invariant-loop-x
invariant-loop-x l =
    (y : ℕ) → y < l.x → Crossed l.k l.records l.ids l.other l.flip y
