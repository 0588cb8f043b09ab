-- What the flat table of pairs holds. A cell has d·d rows: row x is of cell x / d / d, its vertex number x / d % d + 1 with a lower one, number x % d or, where that
-- is not lower, the one just below; so each two vertices of a cell are a row. Assumes nothing.
use Rattle.std.specs.Prelude.{List, ◌≡◌, ℕ, suc, ◌+◌, ◌*◌, ◌/◌, ◌%◌, ◌<◌, ◌≤◌, min, length, get_or}
use Rattle.lists.specs.Rows.{cut}
use Rattle.complex.specs.Facets.{Cells}

-- row x of keys is a pair of vertices of a cell, where the cells stand one after the other in a flat list
pub record PairAt (d : ℕ) (cells keys : List ℕ) (x : ℕ) : Type 0 where
  pub low : get_or keys (x * 2) 0 ≡ get_or cells (x / d / d * (d + 1) + min (x % d) (x / d % d)) 0
  pub high : get_or keys (x * 2 + 1) 0 ≡ get_or cells (x / d / d * (d + 1) + x / d % d + 1) 0

-- what writing m cells' pairs asks of the lists
pub record Writing (d m : ℕ) (cells keys : List ℕ) : Type 0 where
  pub long : m * suc d ≤ length cells
  pub room : m * d * d * 2 ≤ length keys
  pub small : m * suc d < 4294967296
  pub dim : d < 4294967295

-- what `edges` asks: m cells stand in rows, their numbers are below b, and the lists are long enough
pub record Edging (d m b : ℕ) (keys rows spare counts : List ℕ) : Type 0 where
  pub cells : Cells d (cut (suc d) m rows)
  pub rows_long : m * suc d ≤ length rows
  pub keys_long : m * d * d * 2 ≤ length keys
  pub order_long : m * d * d ≤ length rows
  pub spare_long : m * d * d ≤ length spare
  pub counts_long : m * d * d ≤ length counts
  pub buckets : b ≤ length counts
  pub few : m * d * d * 2 < 4294967296
  pub small : m * suc d < 4294967296
  pub dim : d < 4294967295
  pub below : (i : ℕ) → i < m * suc d → get_or rows i 0 < b
