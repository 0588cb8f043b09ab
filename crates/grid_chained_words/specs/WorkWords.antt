-- Inner contracts: what the steps of `cell_words` ask of their lists, and what they give. Assumes nothing.
use Rattle.refusal.specs.Says.{fine}
use Rattle.std.specs.Prelude.{◌≡◌, List, ℕ, suc, ◌*◌, ◌≤◌, length, take}
use Rattle.complex.specs.Check.{Passed}
use Rattle.refusal.specs.Limits.{most_vertices}
use Rattle.quotient.specs.declared.Grid.{Grid}
use Rattle.quotient.specs.Shape.{check_of, cell_count}
use Rattle.quotient.specs.Points.{points_of}
use Rattle.grid_chained.specs.Shape.{shape_of}
use Rattle.grid_chained.specs.Classing.{at, Classes}
use Rattle.grid_chained_words.specs.Words.{flat_by}

-- a grid that is taken, a number for each of its points, and a list as long as its words
pub record Writing (g : Grid) (numbers words : List ℕ) : Type 0 where
  pub taken : check_of g ≡ fine
  pub each : length numbers ≡ points_of g
  pub long : length words ≡ cell_count g * suc g.d

-- a checked word list at the front of the keys, and room for its corners
pub record Sorting (d len : ℕ) (keys rows spare counts : List ℕ) : Type 0 where
  pub front : len ≤ length keys
  pub passed : Passed d (take len keys)
  pub rows_long : len ≤ length rows
  pub spare_long : len ≤ length spare
  pub counts_long : len ≤ length counts

-- a grid that is taken in this mode, a list as long as its words, and a place for each of its points
pub record Laying (g : Grid) (words room : List ℕ) : Type 0 where
  pub taken : shape_of g ≡ fine
  pub long : length words ≡ cell_count g * suc g.d
  pub each : length room ≡ points_of g

-- m classes, and the words by them where they are few enough
pub record Laid (g : Grid) (m : ℕ) (words : List ℕ) : Type 0 where
  pub numbers : List ℕ
  pub classes : Classes g numbers m
  pub written : m ≤ most_vertices → words ≡ flat_by g (at numbers)
