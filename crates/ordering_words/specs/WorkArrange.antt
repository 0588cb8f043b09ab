-- What arranging an order's words by cell asks and gives. Assumes nothing.
use Rattle.std.specs.Prelude.{Bool, true, false, List, [], ◌≡◌, ℕ, suc, ◌+◌, ◌*◌, ◌<◌, ◌≤◌, ◌^◌, length, get_or, take, drop}
use Rattle.refusal.specs.Limits.{many_corners}
use Rattle.lists.specs.Rows.{cut, rows, flat, row}
use Rattle.complex.specs.Cells.{in_order}
use Rattle.complex_cells.specs.WorkMade.{Made}
use Rattle.ordering_words.specs.Order.{word_of, by_cell, Orders}

-- m order words of n numbers below b, as many cells in `cells`, and room
pub record Matching (n m b : ℕ) (order keys cells spare counts : List ℕ) : Type 0 where
  pub some : 0 < n
  pub size : m * n ≡ length order
  pub low : (i : ℕ) → i < length order → get_or order i 0 < b
  pub keys_long : length order + length order ≤ length keys
  pub cells_long : length order ≤ length cells
  pub spare_long : m ≤ length spare
  pub counts_long : m ≤ length counts
  pub buckets : b ≤ length counts
  pub few : m < 2 ^ 32
  pub short : length order < many_corners

-- the words sorted and in order are the cells; reps has the row of each cell's word
pub record Fits (n m : ℕ) (order cells reps : List ℕ) : Type 0 where
  pub same : in_order n (cut n m order) ≡ cut n m cells
  pub below : (c : ℕ) → c < m → get_or reps c 0 < m
  pub words : (c : ℕ) → c < m → word_of (cut n m order) (get_or (cut n m cells) c []) ≡ row order n (get_or reps c 0)

-- what the comparison says; the cells stand behind the words
pub record Matched (n m : ℕ) (order cells : List ℕ) (r : Bool) (keys reps : List ℕ) : Type 0 where
  pub behind : take (length order) (drop (length order) keys) ≡ take (length order) cells
  pub yes : r ≡ true → Fits n m order cells reps
  pub no : r ≡ false → in_order n (cut n m order) ≡ cut n m cells → ⊥

-- m cells of checked words in `cells`, and room
pub record Arranging (d m b : ℕ) (keys cells spare counts : List ℕ) : Type 0 where
  pub ws : List ℕ
  pub made : Made d ws m cells
  pub bound : b ≡ length ws
  pub keys_long : length ws + length ws ≤ length keys
  pub cells_long : length ws ≤ length cells
  pub spare_long : length ws ≤ length spare
  pub counts_long : length ws ≤ length counts
  pub dim : d < many_corners

-- whether it is an order; if so its words by cell stand in keys, and behind them the cells. The cells stay.
pub record Arranged (d m : ℕ) (order cells : List ℕ) (r : Bool) (keys' cells' : List ℕ) : Type 0 where
  pub kept : take (m * suc d) cells' ≡ take (m * suc d) cells
  pub ordered : r ≡ true → Orders d (cut (suc d) m cells) order
  pub words : r ≡ true → take (m * suc d) keys' ≡ flat (by_cell (rows (suc d) order) (cut (suc d) m cells))
  pub behind : r ≡ true → take (m * suc d) (drop (m * suc d) keys') ≡ take (m * suc d) cells
  pub none : r ≡ false → Orders d (cut (suc d) m cells) order → ⊥
