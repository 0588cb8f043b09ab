-- 3×3 with each axis twisted over the other: the grid that has fewer cells than words. Assumes nothing.
use Rattle.std.specs.Prelude.{◌≡◌, false, ℕ, pos, length}
use Rattle.std.specs.Float.{fin}
use Rattle.quotient.specs.declared.Glue.{Glue}
use Rattle.quotient.specs.declared.Glue.TheVariants.{Twisted}
use Rattle.quotient.specs.declared.Axis.{Axis}
use Rattle.quotient.specs.declared.Grid.{Grid}
use Rattle.quotient.specs.Shape.{no_axis, cell_count}
use Rattle.grid_mesh.specs.Words.{glued_cells}

abbrev pub axis : ℕ → Glue → Axis
axis n g = record { count = n; glue = g }

abbrev pub plane : Axis → Axis → Grid
plane a b =
    record {
      d = 2;
      first = a;
      second = b;
      third = no_axis;
      sides = record { first = fin false 1 (pos 0); second = fin false 1 (pos 0); third = fin false 1 (pos 0) };
    }

abbrev pub tangled : Grid
tangled = plane (axis 3 (Twisted 2)) (axis 3 (Twisted 1))

-- 18 words, 17 cells
abbrev pub TangledWords : Type 0
TangledWords = cell_count tangled ≡ 18

abbrev pub TangledCells : Type 0
TangledCells = length (glued_cells tangled) ≡ 17
