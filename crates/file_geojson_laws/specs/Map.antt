-- Grid points and cells on the map, and what a mapmaker relies on. Assumes nothing.
use Rattle.std.specs.Prelude.{◌≡◌, true, cond, List, [], ◌∷◌, ◌++◌, ℕ, ◌+◌, ◌-◌, ◌*◌, ◌≤◌, ◌<◌, ltb, ℤ, length, get_or, take}
use Rattle.std.proofs.Math.Option.{some}
use Rattle.text.specs.Decimal.{decimal}
use Rattle.quotient.specs.declared.Grid.{Grid}
use Rattle.quotient.specs.Shape.{cells_on}
use Rattle.quotient.specs.Reduce.{coord_at}
use Rattle.grid_words.specs.Cells.{grid_cells}
use Rattle.file_writing.specs.Six.{million}
use Rattle.file_geojson.specs.Degrees.{nearest}
use Rattle.file_geojson.specs.File.{longitude_of, latitude_of, ring_corners, mesh_number}
use Rattle.file_geojson.specs.Kind.{from_pole, latitudes_fit, Mapped}
use Rattle.file_geojson.specs.Promise.{band_file}
use Rattle.file_geojson_laws.specs.Reading.{read_degrees}

-- grid point v stands in column c and row r
abbrev pub At : Grid → ℕ → ℕ → ℕ → Type 0
At g v c r = (coord_at g v 0 ≡ c) × (coord_at g v 1 ≡ r)

-- the two cells of the box at column c and row r, as rings: the lower one goes east and then north, the upper one across, then west and back
pub data Ring (g : Grid) (c r : ℕ) : List ℕ → Type 0 where
  lower : {a b e : ℕ} → At g a c r → At g b (c + 1) r → At g e (c + 1) (r + 1) → Ring g c r (a ∷ b ∷ e ∷ a ∷ [])
  upper : {a b e : ℕ} → At g a c r → At g b (c + 1) (r + 1) → At g e c (r + 1) → Ring g c r (a ∷ b ∷ e ∷ a ∷ [])

-- one of them each
pub record Lower (g : Grid) (c r : ℕ) (vs : List ℕ) : Type 0 where
  pub closed : vs ≡ get_or vs 0 0 ∷ get_or vs 1 0 ∷ get_or vs 2 0 ∷ get_or vs 0 0 ∷ []
  pub south_west : At g (get_or vs 0 0) c r
  pub south_east : At g (get_or vs 1 0) (c + 1) r
  pub north_east : At g (get_or vs 2 0) (c + 1) (r + 1)

pub record Upper (g : Grid) (c r : ℕ) (vs : List ℕ) : Type 0 where
  pub closed : vs ≡ get_or vs 0 0 ∷ get_or vs 1 0 ∷ get_or vs 2 0 ∷ get_or vs 0 0 ∷ []
  pub south_west : At g (get_or vs 0 0) c r
  pub north_east : At g (get_or vs 1 0) (c + 1) (r + 1)
  pub north_west : At g (get_or vs 2 0) c (r + 1)

-- how far grid point v lies east of -180, in parts of a degree, as many as there are columns; and north of the South Pole, as many as there are rows
abbrev pub east_of : Grid → ℕ → ℕ
east_of g v = 360 * coord_at g v 0

abbrev pub north_of : Grid → ℕ → ℕ → ℕ → ℕ
north_of g low high v = low * cells_on g 1 + (high - low) * coord_at g v 1

-- what is printed for (a - b) / den, in millionths of a degree and with 180 degrees added: nothing is signed
unfoldable pub printed_of : ℕ → ℕ → ℕ → ℕ
printed_of a b den = cond (ltb a b) (180 * million - nearest ((b - a) * million) den) (180 * million + nearest ((a - b) * million) den)

-- the printed longitude and latitude of grid point v
abbrev pub printed_east : Grid → ℕ → ℕ
printed_east g v = printed_of (east_of g v) (180 * cells_on g 0) (cells_on g 0)

abbrev pub printed_north : Grid → ℕ → ℕ → ℕ → ℕ
printed_north g low high v = printed_of (north_of g low high v) (90 * cells_on g 1) (cells_on g 1)

-- a whole number of degrees from the South Pole as it is printed, signed and with six zeros after the point
abbrev pub six_zeros : List ℕ
six_zeros = 46 ∷ 48 ∷ 48 ∷ 48 ∷ 48 ∷ 48 ∷ 48 ∷ []

abbrev pub whole_degrees : ℕ → List ℕ
whole_degrees k = cond (ltb k 90) (45 ∷ (decimal (90 - k) ++ six_zeros)) (decimal (k - 90) ++ six_zeros)

-- three points go round counterclockwise: twice the area that they enclose is above zero
abbrev pub Counterclockwise : (ℕ → ℕ) → (ℕ → ℕ) → ℕ → ℕ → ℕ → Type 0
Counterclockwise x y a b c = x b * y a + x c * y b + x a * y c < x a * y b + x b * y c + x c * y a

-- twice the area that they enclose is t
abbrev pub TwiceArea : (ℕ → ℕ) → (ℕ → ℕ) → ℕ → ℕ → ℕ → ℕ → Type 0
TwiceArea x y a b c t = x b * y a + x c * y b + x a * y c + t ≡ x a * y b + x b * y c + x c * y a

-- the ring of grid cell number x of the file
abbrev pub ring_no : Grid → ℕ → List ℕ
ring_no g x = ring_corners (get_or (grid_cells g) x [])

-- what a mapmaker relies on, for one ring: it lies in one box, closes, goes counterclockwise exactly and as read from the file, begins at its lowest grid vertex, and
-- never leaves its two meridians, so none crosses the seam
pub record Drawable (g : Grid) (low high : ℕ) (vs : List ℕ) : Type 0 where
  pub box_column : ℕ
  pub box_row : ℕ
  pub column_within : box_column < cells_on g 0
  pub row_within : box_row < cells_on g 1
  pub ring : Ring g box_column box_row vs
  pub closes : get_or vs 3 0 ≡ get_or vs 0 0
  pub turns : Counterclockwise (east_of g) (north_of g low high) (get_or vs 0 0) (get_or vs 1 0) (get_or vs 2 0)
  pub reads : (k : ℕ) → k < 4 →
      (read_degrees (longitude_of g (get_or vs k 0)) ≡ some (printed_east g (get_or vs k 0))) × (read_degrees (latitude_of g low high (get_or vs k 0)) ≡ some (printed_north g low high (get_or vs k 0)))
  pub turns_printed : Counterclockwise (printed_east g) (printed_north g low high) (get_or vs 0 0) (get_or vs 1 0) (get_or vs 2 0)
  pub lowest_first : (k : ℕ) → k < 4 → get_or vs 0 0 ≤ get_or vs k 0
  pub never_crosses : (k : ℕ) → k < 4 → (box_column ≤ coord_at g (get_or vs k 0) 0) × (coord_at g (get_or vs k 0) 0 ≤ box_column + 1)

-- the id of feature number x
abbrev pub id_no : Grid → ℕ → ℕ
id_no g x = mesh_number g (get_or (grid_cells g) x [])

-- what the call handed out where it said the count n: the file, on a grid and two latitudes of which every law holds
pub record HandedOut (g : Grid) (south north : ℤ) (n : ℕ) (bytes' : List ℕ) : Type 0 where
  pub fits : latitudes_fit south north ≡ true
  pub mapped : Mapped g (from_pole south) (from_pole north)
  pub count : n ≡ length (band_file g south north)
  pub file : take n bytes' ≡ band_file g south north
