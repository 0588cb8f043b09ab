-- What the inner calls of `file_geojson` ask and give. Assumes nothing.
use Rattle.std.specs.Prelude.{Bool, true, false, cond, List, [], ◌∷◌, ◌++◌, ◌≡◌, ℕ, eqb, ℤ, length}
use Rattle.refusal.specs.Says.{Counted}
use Rattle.refusal.specs.Lent.{onto, Cleared}
use Rattle.complex.specs.Facets.{Crowded}
use Rattle.quotient.specs.declared.Grid.{Grid}
use Rattle.grid_mesh.specs.Words.{glued_cells, grid_need}
use Rattle.grid_words.specs.WorkNumbered.{cell_no}
use Rattle.file_geojson.specs.Words.{opening_word}
use Rattle.file_geojson.specs.File.{feature_of}
use Rattle.file_geojson.specs.Promise.{Drawn}

-- no angle's numerator or denominator is above this
abbrev pub far_angle : ℕ
far_angle = 100000000

-- part x of the file: feature x after the opening, where it is the first, and else after its comma
unfoldable pub part_of : Grid → ℕ → ℕ → ℕ → List ℕ
part_of g low high x = cond (eqb x 0) opening_word (44 ∷ []) ++ feature_of g low high (cell_no g x)

-- whether a facet is crowded, and what is left of the working lists
pub record Asked (g : Grid) (r : Bool) (keys keys' rows rows' spare spare' counts counts' : List ℕ) : Type 0 where
  pub yes : r ≡ true → Crowded g.d (glued_cells g)
  pub no : r ≡ false → Crowded g.d (glued_cells g) → ⊥
  pub room : Cleared (grid_need g) keys keys' rows rows' spare spare' counts counts'

-- the end of the call, and the byte list afterwards
pub record Ended (g : Grid) (south north : ℤ) (r : Counted) (bytes bytes' : List ℕ) : Type 0 where
  pub handed : List ℕ
  pub ends : Drawn g south north (length bytes) r handed
  pub result : bytes' ≡ onto handed bytes
