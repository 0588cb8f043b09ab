-- `grid_mesh::tangled_at` meets its contract. The invariant: no axis passed is reflected and reflects one. Assumes nothing.
use mathlib.Core.Path.{◌≡◌}
use mathlib.Core.Bool.{false}
use Rattle.quotient.specs.Fold.{some}
use Rattle.grid_mesh.specs.Work.{tangled_by}
use Rattle.grid_mesh.proofs.tangled_at.Given as goal

abbrev pub invariant-loop-b : goal.invariant-loop-b
invariant-loop-b l = some (tangled_by l.grid l.a) l.b ≡ false
