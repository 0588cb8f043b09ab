-- `complex_descent::descend` meets its contract. The invariant: the faces of dimension e stand in rows, and e is not below k. Assumes nothing.
use mathlib.Core.Path.{◌≡◌}
use Prim.Native.Nat.{suc, ◌≤◌}
use Rattle.lists.specs.Rows.{cut}
use Rattle.complex_faces.specs.Faces.{faces_of}
use Rattle.complex_descent.proofs.descend.Given as goal

abbrev pub invariant-loop-e : goal.invariant-loop-e
invariant-loop-e l = (l.k ≤ l.e) × (cut (suc l.e) l.count l.rows ≡ faces_of (cut (suc l.d) l.m l.initial.rows) l.e)
