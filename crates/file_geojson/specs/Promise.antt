-- What the call `geojson` comes to, on every input. Assumes nothing.
use Rattle.refusal.specs.declared.Refusal.TheVariants.{BadLatitudes, CrowdedFacet, OtherGrid, TooShort}
use Rattle.refusal.specs.Says.{Counted}
use Rattle.std.specs.Prelude.{Err, Ok, true, false, List, [], ◌≡◌, ℕ, ◌<◌, ◌≤◌, ℤ, length}
use Rattle.refusal.specs.declared.Room.{Room}
use Rattle.refusal.specs.Lent.{onto, lengths, Cleared}
use Rattle.refusal.specs.Call.{Comes}
use Rattle.complex.specs.Facets.{Crowded}
use Rattle.quotient.specs.declared.Grid.{Grid}
use Rattle.quotient.specs.Shape.{check_of}
use Rattle.grid_mesh.specs.Words.{glued_cells, grid_need}
use Rattle.file_geojson.specs.File.{collection_of}
use Rattle.file_geojson.specs.Kind.{band_grid, from_pole, latitudes_fit}

-- the file between two latitudes
abbrev pub band_file : Grid → ℤ → ℤ → List ℕ
band_file g south north = collection_of g (from_pole south) (from_pole north)

-- how the call ends on a grid with no crowded facet: 18, 19, 12, or the file. `given` is the length of the byte list.
pub data Drawn (g : Grid) (south north : ℤ) (given : ℕ) : Counted → List ℕ → Type 0 where
  -- another kind of grid
  other : band_grid g ≡ false → Drawn g south north given (Err OtherGrid) []
  -- south not below north, or either beyond 90
  beyond : band_grid g ≡ true → latitudes_fit south north ≡ false → Drawn g south north given (Err BadLatitudes) []
  -- the byte list is too short
  short : band_grid g ≡ true → latitudes_fit south north ≡ true → given < length (band_file g south north) → Drawn g south north given (Err TooShort) []
  -- the file is handed out
  drawn : band_grid g ≡ true → latitudes_fit south north ≡ true → length (band_file g south north) ≤ given →
      Drawn g south north given (Ok (length (band_file g south north))) (band_file g south north)

-- how it ends once the grid is checked and there is room: 7 comes first
pub data GeoEnd (g : Grid) (south north : ℤ) (given : ℕ) : Counted → List ℕ → Type 0 where
  -- a facet in three or more cells
  crowded : Crowded g.d (glued_cells g) → GeoEnd g south north given (Err CrowdedFacet) []
  plain : {r : Counted} {h : List ℕ} → (Crowded g.d (glued_cells g) → ⊥) → Drawn g south north given r h → GeoEnd g south north given r h

-- the promise: r is what the call says, and a list with ' is what it holds at exit
pub record GeoJson (g : Grid) (south north : ℤ) (r : Counted) (bytes bytes' keys keys' rows rows' spare spare' counts counts' : List ℕ) : Type 0 where
  pub handed : List ℕ
  pub used : Room
  pub comes : Comes Err [] (check_of g) (grid_need g) (lengths keys rows spare counts) (GeoEnd g south north (length bytes)) r handed used
  pub result : bytes' ≡ onto handed bytes
  pub room : Cleared used keys keys' rows rows' spare spare' counts counts'
