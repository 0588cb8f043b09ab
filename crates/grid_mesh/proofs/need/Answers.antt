-- `grid_mesh::need` meets its contract. Assumes nothing.
use mathlib.Core.Path.{ap, ◌∙◌}
use Prim.Native.Nat.{ℕ}
use native.Mathlib.Omega.{arith}
use Rattle.grid_mesh.proofs.Steps.{corners-few, corners-are}
use Rattle.grid_words.proofs.Corners.{dim}
use Rattle.complex.specs.Room.{need_of}
use Rattle.grid_mesh.proofs.need.Goals as goal

pub overflow_mul-cells : goal.overflow_mul-cells
overflow_mul-cells c = let g = c.args.grid in omega (arith, corners-few g c.requires, corners-are g c.requires _ c.cells.ensures)

pub need-requires : goal.need-requires
need-requires c = let g = c.args.grid in (dim g c.requires, omega (arith, corners-few g c.requires, corners-are g c.requires _ c.cells.ensures))

pub returns : goal.returns
returns c = let g = c.args.grid in c.need.ensures ∙ ap (λ (n : ℕ). need_of g.d n) (corners-are g c.requires _ c.cells.ensures)
