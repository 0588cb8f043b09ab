-- What a refinement is, as facts about the lists that the calls hand out: every cell is split, every child has its parent, every vertex is used and counted once.
-- Assumes nothing.
use Rattle.std.specs.Prelude.{List, ◌≡◌, ℕ, ◌*◌, ◌^◌, ◌<◌, length, get_or}
use Rattle.lists.specs.Rows.{flat}
use Rattle.multiindex.specs.Sort.{sort_word}
use Rattle.complex.specs.Cells.{cells_of}
use Rattle.complex.specs.Facets.{cell_at}
use Rattle.ordering_words.specs.Order.{Orders}
use Rattle.refine_lattice.specs.Lattice.{Child}
use Rattle.lists.specs.Tables.{sum}
use Rattle.lists.specs.Words.{same}
use Rattle.refine_lattice.specs.Complex.{occurrences, Names}
use Rattle.refine_lattice.specs.Refine.{vertices, share}
use Rattle.refine_results.specs.Refined.{coarse, refined_cells, refined_words, parents}
use Rattle.refine_laws.specs.Composition.{Accepted}

-- n vertices and the words ks, one for each cell, refined by R: the children
pub record Split (d R n : ℕ) (ks : List (List ℕ)) : Type 0 where
  -- each cell has R ^ d children, and there are no others: p stands so often among the parents, and there are so many parents
  pub many : length (refined_cells d R n ks) ≡ length ks * R ^ d
  pub listed : length (parents d R n ks) ≡ length (refined_cells d R n ks)
  pub each : (p : ℕ) → p < length ks → occurrences (parents d R n ks) p ≡ R ^ d
  -- no child without a parent, which is one of the cells; and its word is that of a child of the parent's word
  pub parent : (i : ℕ) → i < length (refined_cells d R n ks) → get_or (parents d R n ks) i 0 < length ks
  pub child : (i : ℕ) → i < length (refined_cells d R n ks)
      → (c : List (List ℕ)) × Child d R c × Names R (share d R n ks) (cell_at ks (get_or (parents d R n ks) i 0)) c (cell_at (refined_words d R n ks) i)
  -- which lists the vertices of the refined cell
  pub sorts : (i : ℕ) → i < length (refined_cells d R n ks) → sort_word (cell_at (refined_words d R n ks) i) ≡ cell_at (refined_cells d R n ks) i
  -- no two refined cells are the same
  pub apart : (i j : ℕ) → i < length (refined_cells d R n ks) → j < length (refined_cells d R n ks)
      → cell_at (refined_cells d R n ks) i ≡ cell_at (refined_cells d R n ks) j → i ≡ j

-- and its vertices
pub record Counted (d R n : ℕ) (ks : List (List ℕ)) : Type 0 where
  -- the cells have these vertices and no others
  pub within : (i : ℕ) → i < length (refined_cells d R n ks) → (x : ℕ) → 0 < occurrences (cell_at (refined_cells d R n ks) i) x → x < vertices d R n ks
  pub used : (x : ℕ) → x < vertices d R n ks → (i : ℕ) × (i < length (refined_cells d R n ks)) × (0 < occurrences (cell_at (refined_cells d R n ks) i) x)
  -- a coarse vertex keeps its number and is wholly itself
  pub old : (x : ℕ) → x < n → (v : ℕ) → share d R n ks x v ≡ R * same x v
  -- the shares of a vertex are R together
  pub whole : (x : ℕ) → x < vertices d R n ks → sum n (share d R n ks x) ≡ R
  -- no vertex is counted twice: two with the same shares are one
  pub once : (x y : ℕ) → x < vertices d R n ks → y < vertices d R n ks → ((v : ℕ) → share d R n ks x v ≡ share d R n ks y v) → x ≡ y

-- what is handed out is taken again: none of 1 to 7 applies to the refined cells, their words are an order of them, and their vertices are those that were counted
pub record Taken (d R n : ℕ) (ks : List (List ℕ)) : Type 0 where
  pub accepted : Accepted d (flat (refined_cells d R n ks))
  pub orders : Orders d (cells_of d (flat (refined_cells d R n ks))) (flat (refined_words d R n ks))
  pub counted : coarse (flat (refined_cells d R n ks)) ≡ vertices d R n ks
