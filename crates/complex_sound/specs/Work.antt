-- What the inner functions ask of their lists and give. Assumes nothing.
use Rattle.std.specs.Prelude.{Bool, true, false, List, ◌≡◌, ℕ, length}
use Rattle.refusal.specs.Lent.{lengths, Roomy}
use Rattle.complex.specs.Check.{Passed}
use Rattle.complex.specs.Cells.{cells_of}
use Rattle.complex.specs.Facets.{Crowded}
use Rattle.complex.specs.Room.{need_of}

-- a checked word list, and the room for its cells and their facets
pub record Working (d : ℕ) (ws keys rows spare counts : List ℕ) : Type 0 where
  pub passed : Passed d ws
  pub room : Roomy (need_of d (length ws)) (lengths keys rows spare counts)

-- whether no facet lies in three or more cells
pub record Sound (d : ℕ) (ws : List ℕ) (r : Bool) : Type 0 where
  pub yes : r ≡ true → Crowded d (cells_of d ws) → ⊥
  pub no : r ≡ false → Crowded d (cells_of d ws)
