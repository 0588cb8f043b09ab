-- The file that the GIS desk reads (RFC 7946; document 02, K1): one polygon for each cell of the grid before gluing. Latitudes are counted in whole degrees from the
-- South Pole, 0 to 180: `low` is the southern edge of the band and `high` the northern one. Assumes nothing.
use Rattle.std.specs.Prelude.{ℕ, ◌+◌, ◌-◌, ◌*◌, cond, List, [], ◌∷◌, ◌++◌, map, eqb, length, get_or}
use Rattle.text.specs.Decimal.{decimal}
use Rattle.lists.specs.Words.{same_word, first_where}
use Rattle.multiindex.specs.Sort.{sort_word}
use Rattle.complex.specs.Facets.{cell_at}
use Rattle.quotient.specs.declared.Grid.{Grid}
use Rattle.quotient.specs.Shape.{cells_on}
use Rattle.quotient.specs.Reduce.{coord_at, vertex_of}
use Rattle.grid_words.specs.Cells.{grid_cells}
use Rattle.grid_mesh.specs.Words.{glued_cells}
use Rattle.file_geojson.specs.Words.{opening_word, closing_word, feature_word, properties_word, geometry_word, end_word}
use Rattle.file_geojson.specs.Degrees.{degrees_of}

-- texts with commas (44) between them
unfoldable pub comma_each : List (List ℕ) → List ℕ
comma_each [] = []
comma_each (x ∷ xs) = 44 ∷ (x ++ comma_each xs)

unfoldable pub joined : List (List ℕ) → List ℕ
joined [] = []
joined (x ∷ xs) = x ++ comma_each xs

-- the longitude of grid point v, from -180 at column 0 to 180 at the last, and its latitude
abbrev pub longitude_of : Grid → ℕ → List ℕ
longitude_of g v = degrees_of (360 * coord_at g v 0) (180 * cells_on g 0) (cells_on g 0)

abbrev pub latitude_of : Grid → ℕ → ℕ → ℕ → List ℕ
latitude_of g low high v = degrees_of (low * cells_on g 1 + (high - low) * coord_at g v 1) (90 * cells_on g 1) (cells_on g 1)

-- [longitude,latitude]
unfoldable pub position_of : Grid → ℕ → ℕ → ℕ → List ℕ
position_of g low high v = 91 ∷ (longitude_of g v ++ (44 ∷ (latitude_of g low high v ++ (93 ∷ []))))

-- the corners of a cell counterclockwise from the lowest grid vertex, and back to it: a cell that steps east first and then north has them in this order already
abbrev pub ring_corners : List ℕ → List ℕ
ring_corners w =
    cond (eqb (get_or w 1 0) (get_or w 0 0 + 1)) (get_or w 0 0 ∷ get_or w 1 0 ∷ get_or w 2 0 ∷ get_or w 0 0 ∷ [])
    (get_or w 0 0 ∷ get_or w 2 0 ∷ get_or w 1 0 ∷ get_or w 0 0 ∷ [])

-- [position,position,position,position]
unfoldable pub ring_of : Grid → ℕ → ℕ → List ℕ → List ℕ
ring_of g low high vs = 91 ∷ (joined (map (position_of g low high) vs) ++ (93 ∷ []))

-- which of the cells a word is: the first that is the word sorted
abbrev pub cell_number : List (List ℕ) → List ℕ → ℕ
cell_number cs w = first_where (λ c. same_word (cell_at cs c) (sort_word w)) (length cs)

-- the mesh's number of the grid cell with the corners w, which signs, parents and sets of cells count by: its place among the cells after gluing
unfoldable pub mesh_number : Grid → List ℕ → ℕ
mesh_number g w = cell_number (glued_cells g) (map (vertex_of g) w)

-- the feature of the grid cell with the corners w
unfoldable pub feature_of : Grid → ℕ → ℕ → List ℕ → List ℕ
feature_of g low high w =
    feature_word ++ (decimal (mesh_number g w) ++ (properties_word ++ (decimal (mesh_number g w) ++ (geometry_word ++ (ring_of g low high (ring_corners w) ++ end_word)))))

-- one feature for each cell, in the order of the sorted grid cells
abbrev pub features_of : Grid → ℕ → ℕ → List (List ℕ)
features_of g low high = map (feature_of g low high) (grid_cells g)

-- the whole file
unfoldable pub collection_of : Grid → ℕ → ℕ → List ℕ
collection_of g low high = opening_word ++ (joined (features_of g low high) ++ closing_word)
