-- How a grid is given from C: its dimension, a list with a count and a gluing for each axis in turn, and a list of sides. Assumes nothing.
use Rattle.std.specs.Prelude.{ℕ, ◌+◌, ◌-◌, false, cond, List, [], ◌∷◌, ltb, pos, Float, get_or}
use Rattle.std.specs.Float.{fin}
use Rattle.grid_sides.specs.declared.Sides.{Sides}
use Rattle.quotient.specs.declared.Glue.{Glue}
use Rattle.quotient.specs.declared.Glue.TheVariants.{Open, Periodic, Twisted}
use Rattle.quotient.specs.declared.Glues.{Glues}
use Rattle.quotient.specs.declared.Axis.{Axis}
use Rattle.quotient.specs.declared.Grid.{Grid}
use Rattle.quotient.specs.declared.GridVertex.{GridVertex}
use Rattle.quotient.specs.declared.GluedVertex.{GluedVertex}

-- the mask of every axis: on whatever axis it stands it reflects that axis itself
abbrev pub every_axis : ℕ
every_axis = 255

-- A gluing's number: below 256 open, below 512 periodic, below 768 twisted over the mask that is left above 512.
-- From 768 on the mask would name an axis past the eighth, which is outside every grid: it stands for the mask of every axis, and both are refused with 9
unfoldable pub glue_of : ℕ → Glue
glue_of code = cond (ltb code 256) Open (cond (ltb code 512) Periodic (cond (ltb code 768) (Twisted (code - 512)) (Twisted every_axis)))

-- number i of the list, 0 past its end
unfoldable pub entry : List ℕ → ℕ → ℕ
entry xs i = get_or xs i 0

-- the axis whose count and gluing stand at these places. One that is not in the list is open and has no cells
unfoldable pub axis_given : List ℕ → ℕ → ℕ → Axis
axis_given axes count gluing = record { count = entry axes count; glue = glue_of (entry axes gluing) }

-- side i of the list, 0 past its end
unfoldable pub side_given : List Float → ℕ → Float
side_given xs i = get_or xs i (fin false 0 (pos 0))

unfoldable pub sides_given : List Float → Sides
sides_given xs = record { first = side_given xs 0; second = side_given xs 1; third = side_given xs 2 }

-- the grid
unfoldable pub grid_given : ℕ → List ℕ → List Float → Grid
grid_given d axes sides = record { d = d; first = axis_given axes 0 1; second = axis_given axes 2 3; third = axis_given axes 4 5; sides = sides_given sides }

-- the grid, for a call that reads no sides
abbrev pub plain_given : ℕ → List ℕ → Grid
plain_given d axes = grid_given d axes []

abbrev pub vertex_given : ℕ → GridVertex
vertex_given v = record { 0 = v }

abbrev pub glued_given : ℕ → GluedVertex
glued_given v = record { 0 = v }

-- a gluing for each axis
unfoldable pub glues_given : List ℕ → Glues
glues_given codes = record { first = glue_of (entry codes 0); second = glue_of (entry codes 1); third = glue_of (entry codes 2) }

-- the number of a gluing
abbrev pub glue_code : Glue → ℕ
glue_code Open = 0
glue_code Periodic = 256
glue_code (Twisted m) = 512 + m

-- a grid's axes, a count and a gluing in turn
unfoldable pub axes_of : Grid → List ℕ
axes_of g = g.first.count ∷ glue_code g.first.glue ∷ g.second.count ∷ glue_code g.second.glue ∷ g.third.count ∷ glue_code g.third.glue ∷ []
