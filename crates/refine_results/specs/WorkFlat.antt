-- A refinement in flat lists: what the working lists hold once the children's words are found. Assumes nothing.
use Rattle.std.specs.Prelude.{List, ◌≡◌, ℕ, suc, ◌*◌, ◌^◌, ◌≤◌, ◌<◌, length, get_or, take}
use Rattle.refusal.specs.Limits.{most_dimension, most_refinement}
use Rattle.lists.specs.Rows.{cut, flat, row}
use Rattle.multiindex.specs.Sort.{sort_word}
use Rattle.refine_lattice.specs.Complex.{occurrences}
use Rattle.refine_lattice.specs.Pattern.{pattern_of}
use Rattle.refine_lattice.specs.Refine.{words}

-- m cells and the words refined by: each word has its cell's vertices, none twice, all below n
pub record Along (d n m : ℕ) (along cells : List ℕ) : Type 0 where
  pub along_long : m * suc d ≤ length along
  pub cells_long : m * suc d ≤ length cells
  pub below : (i : ℕ) → i < m * suc d → get_or along i 0 < n
  pub plain : (a : ℕ) → a < m → (v : ℕ) → occurrences (row along (suc d) a) v ≤ 1
  pub matched : (a : ℕ) → a < m → sort_word (row along (suc d) a) ≡ row cells (suc d) a

-- the pattern and the children's words
pub record Refining (d R n m : ℕ) (along cells pattern names : List ℕ) : Type 0 where
  pub dim : d ≤ most_dimension
  pub some : 0 < R
  pub most : R ≤ most_refinement
  pub words_of : Along d n m along cells
  pub pattern_is : take (R ^ d * (suc d * suc d)) pattern ≡ flat (pattern_of d R)
  pub names_long : m * R ^ d * suc d ≤ length names
  pub names_are : cut (suc d) (m * R ^ d) names ≡ words d R n (cut (suc d) m along)
