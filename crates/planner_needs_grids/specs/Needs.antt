-- How long the lists of a call on a grid must be, in the order of its parameters: result lists at most, and then what the call's own definition needs of the working lists. Assumes nothing.
use Rattle.refusal.specs.Says.{Counted}
use Rattle.std.specs.Prelude.{Ok}
use Rattle.std.specs.Prelude.{List, [], ◌∷◌, ℕ, suc, ◌+◌, ◌*◌, ◌/◌}
use Rattle.complex.specs.Room.{need_of}
use Rattle.quotient.specs.declared.Grid.{Grid}
use Rattle.quotient.specs.Shape.{check_of, counted_after}
use Rattle.grid_mesh.specs.Words.{corners_of}
use Rattle.grid_chained.specs.Shape.{shape_of}
use Rattle.grid_order.specs.Promise.{triangulated_room}
use Rattle.needs.specs.Needs.{lists}

-- each where the grid's words have n corners: the words, in either mode
abbrev pub words_need : ℕ → ℕ → List ℕ
words_need d n = n ∷ lists (need_of d n)

-- a grid's cells, and an order of them
abbrev pub triangulated_need : ℕ → ℕ → List ℕ
triangulated_need d n = n ∷ n ∷ lists (triangulated_room d n)

-- the lengths of a grid's edges: two ends for each edge of each cell
abbrev pub lengths_need : ℕ → ℕ → List ℕ
lengths_need d n = d * n ∷ d * n ∷ d * n ∷ d * n ∷ d * n ∷ []

-- the map file of a band: what opens and closes it, and a feature for each cell
abbrev pub map_need : ℕ → ℕ → List ℕ
map_need d n = (43 + 276 * (n / suc d)) ∷ lists (need_of d n)

-- the class of each grid point, and the room that the classes are found in
abbrev pub classes_need : ℕ → ℕ → List ℕ
classes_need d n = n ∷ n ∷ []

-- how many corners the words of a grid have, or its refusal
unfoldable pub corners_said : Grid → Counted
corners_said g = counted_after (check_of g) (Ok (corners_of g))

-- the same where the grid is glued honestly
unfoldable pub chained_said : Grid → Counted
chained_said g = counted_after (shape_of g) (Ok (corners_of g))
