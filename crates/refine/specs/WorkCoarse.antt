-- Reading the coarse cells and the words refined by, in two steps: the cells, then their words. Assumes nothing.
use Rattle.refusal.specs.declared.Refusal.TheVariants.{CrowdedFacet}
use Rattle.refusal.specs.Says.{Counted}
use Rattle.std.specs.Prelude.{Bool, true, false, List, ◌≡◌, ℕ, suc, ◌*◌, ◌≤◌, length, Err, Ok}
use Rattle.lists.specs.Rows.{cut}
use Rattle.complex.specs.Check.{Passed}
use Rattle.complex.specs.Cells.{cells_of}
use Rattle.complex.specs.Facets.{Crowded}
use Rattle.complex_cells.specs.WorkMade.{Made}
use Rattle.refine_results.specs.Refined.{coarse}
use Rattle.refine_results.specs.WorkFlat.{Along}

-- checked words, and room for their cells and their facets
pub record Listing (d : ℕ) (ws cells keys rows spare counts : List ℕ) : Type 0 where
  pub passed : Passed d ws
  pub cells_long : length ws ≤ length cells
  pub keys_long : 4 * length ws ≤ length keys
  pub rows_long : length ws ≤ length rows
  pub spare_long : length ws ≤ length spare
  pub counts_long : length ws ≤ length counts

-- 7, or m cells stand in `cells`
pub data Listed (d : ℕ) (ws cells : List ℕ) : Counted → Type 0 where
  crowded : Crowded d (cells_of d ws) → Listed d ws cells (Err CrowdedFacet)
  listed : (m : ℕ) → (Crowded d (cells_of d ws) → ⊥) → Made d ws m cells → Listed d ws cells (Ok m)

-- m cells of checked words stand in `cells`, and there is room for their words
pub record Naming (d m : ℕ) (ws cells along keys spare counts : List ℕ) : Type 0 where
  pub passed : Passed d ws
  pub made : Made d ws m cells
  pub cells_long : length ws ≤ length cells
  pub along_long : length ws ≤ length along
  pub keys_long : 4 * length ws ≤ length keys
  pub spare_long : length ws ≤ length spare
  pub counts_long : length ws ≤ length counts

-- whether 16 does not apply; if so the words refined by stand in `along`
pub record Named (d m : ℕ) (ws : List ℕ) (Ordered : Type 0) (ks : List (List ℕ)) (ok : Bool) (cells along : List ℕ) : Type 0 where
  pub unordered : ok ≡ false → Ordered → ⊥
  pub ordered : ok ≡ true → Ordered
  pub words_of : ok ≡ true → Along d (coarse ws) m along cells
  pub cells_are : ok ≡ true → cut (suc d) m cells ≡ cells_of d ws
  pub words_are : ok ≡ true → cut (suc d) m along ≡ ks
