-- What going down from the cells to their faces asks and gives. Assumes nothing.
use Rattle.std.specs.Prelude.{List, ◌≡◌, ℕ, suc, ◌*◌, ◌<◌, ◌≤◌, length, get_or}
use Rattle.lists.specs.Rows.{cut}
use Rattle.complex.specs.Facets.{Cells, slots}
use Rattle.complex.specs.Skeleton.{facet_row_of, facets_of}
use Rattle.complex_cells.specs.WorkNamed.{Named}
use Rattle.complex_faces.specs.Faces.{places_of, faces_of}
use Rattle.complex_faces.specs.Entries.{number_of}

-- f facets, named by their lowest rows, and the number of each row's facet
pub record Classed (e : ℕ) (cs : List (List ℕ)) (f : ℕ) (keys reps ids : List ℕ) : Type 0 where
  pub named : Named (facets_of e cs) e f keys reps
  pub long : length cs * slots e ≤ length ids
  pub number : (x : ℕ) → x < length cs * slots e → get_or ids x 0 ≡ number_of (facets_of e cs) (facet_row_of e cs x)

-- how many faces of dimension e a cell of dimension d has
abbrev pub per_cell : ℕ → ℕ → ℕ
per_cell d e = length (places_of (suc d) (suc e))

-- lists long enough for the faces of m cells in every dimension up to d, and for their facets
pub record Wide (d m b : ℕ) (keys rows spare counts : List ℕ) : Type 0 where
  pub in_keys : (e : ℕ) → e ≤ d → m * per_cell d e * suc e * e ≤ length keys
  pub in_rows : (e : ℕ) → e ≤ d → m * per_cell d e * suc e ≤ length rows
  pub in_spare : (e : ℕ) → e ≤ d → m * per_cell d e * suc e ≤ length spare
  pub in_counts : (e : ℕ) → e ≤ d → m * per_cell d e * suc e ≤ length counts
  pub buckets : b ≤ length counts
  pub few : (e : ℕ) → e ≤ d → m * per_cell d e * suc e < 4294967295
  pub narrow : (e : ℕ) → e ≤ d → m * per_cell d e * suc e * e < 4294967296
  pub small : d < 4294967295

-- what `descend` asks: m cells stand in rows, in colex order, their numbers are below b, and the lists are long enough
pub record Descending (d k m b : ℕ) (keys rows spare counts : List ℕ) : Type 0 where
  pub wide : Wide d m b keys rows spare counts
  pub cells : Cells d (cut (suc d) m rows)
  pub top : faces_of (cut (suc d) m rows) d ≡ cut (suc d) m rows
  pub below : (i : ℕ) → i < m * suc d → get_or rows i 0 < b
  pub high : k ≤ d
