-- What making the cells asks and gives. Assumes nothing.
use Rattle.std.specs.Prelude.{List, ◌≡◌, ℕ, suc, ◌*◌, ◌<◌, ◌≤◌, length, get_or}
use Rattle.refusal.specs.Limits.{many_corners}
use Rattle.complex.specs.Check.{Passed}
use Rattle.lists.specs.Rows.{cut}
use Rattle.complex.specs.Cells.{cells_of}
use Rattle.complex.specs.Facets.{Cells}

-- a checked word list, and room for its corners
pub record Making (d : ℕ) (ws keys rows spare counts : List ℕ) : Type 0 where
  pub passed : Passed d ws
  pub keys_long : length ws ≤ length keys
  pub rows_long : length ws ≤ length rows
  pub spare_long : length ws ≤ length spare
  pub counts_long : length ws ≤ length counts

-- m cells stand one after the other in rows: they are the cells of the words, and their numbers are below the number of corners
pub record Made (d : ℕ) (ws : List ℕ) (m : ℕ) (rows : List ℕ) : Type 0 where
  pub same : cut (suc d) m rows ≡ cells_of d ws
  pub cells : Cells d (cut (suc d) m rows)
  pub most : m * suc d ≤ length ws
  pub below : (i : ℕ) → i < m * suc d → get_or rows i 0 < length ws
  pub corners : length ws < many_corners
