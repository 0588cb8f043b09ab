-- `grid_mesh::tangled` meets its contract. The invariant: no axis passed reflects one that reflects another. Assumes nothing.
use mathlib.Core.Path.{◌≡◌}
use mathlib.Core.Bool.{false}
use Rattle.quotient.specs.Fold.{some}
use Rattle.grid_mesh.specs.Work.{tangled_at}
use Rattle.grid_mesh.proofs.tangled.Given as goal

abbrev pub invariant-loop-a : goal.invariant-loop-a
invariant-loop-a l = some (tangled_at l.grid) l.a ≡ false
