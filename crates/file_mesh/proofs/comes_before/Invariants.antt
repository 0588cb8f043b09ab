-- `file_mesh::comes_before` meets its contract. The invariant: from place i on the words are equal, so the first i numbers decide. Assumes nothing.
use mathlib.Core.Path.{◌≡◌}
use Prim.Native.Nat.{◌≤◌}
use lib.ListN.{length}
use Rattle.complex.specs.Cells.{comes_before}
use Rattle.file_mesh.proofs.comes_before.Given as goal

abbrev pub invariant-loop-i : goal.invariant-loop-i
invariant-loop-i l = comes_before (length l.v) l.v l.w ≡ comes_before l.i l.v l.w
