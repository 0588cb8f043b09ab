-- The coarse cells and the words refined by: what reading them asks and how it ends. Assumes nothing.
use Rattle.refusal.specs.declared.Refusal.TheVariants.{BadOrder, CrowdedFacet}
use Rattle.refusal.specs.Says.{Counted}
use Rattle.std.specs.Prelude.{Bool, true, false, List, ◌≡◌, ℕ, suc, ◌*◌, ◌≤◌, length, Err, Ok}
use Rattle.lists.specs.Rows.{cut}
use Rattle.complex.specs.Check.{Passed}
use Rattle.complex.specs.Cells.{cells_of}
use Rattle.complex.specs.Facets.{Crowded}
use Rattle.ordering_words.specs.Order.{Orders}
use Rattle.refine_results.specs.Refined.{coarse, order_words}
use Rattle.refine_results.specs.WorkFlat.{Along}

-- the words refined by: the caller's where an order is given, else the cells' sorted vertices
abbrev pub words_along : Bool → ℕ → List ℕ → List ℕ → List (List ℕ)
words_along true d ws os = order_words d ws os
words_along false d ws os = cells_of d ws

-- 16 does not apply: where no order is given it never does
abbrev pub OrderedBy : Bool → ℕ → List ℕ → List ℕ → Type 0
OrderedBy true d ws os = Orders d (cells_of d ws) os
OrderedBy false d ws os = Unit {0}

-- checked words, and room for their cells, their facets and an order
pub record Making (d : ℕ) (ws cells along keys rows spare counts : List ℕ) : Type 0 where
  pub passed : Passed d ws
  pub cells_long : length ws ≤ length cells
  pub along_long : length ws ≤ length along
  pub keys_long : 4 * length ws ≤ length keys
  pub rows_long : length ws ≤ length rows
  pub spare_long : length ws ≤ length spare
  pub counts_long : length ws ≤ length counts

-- 7, or 16, or m cells stand in `cells` and their words in `along`
pub data Reads (d : ℕ) (ws : List ℕ) (Ordered : Type 0) (ks : List (List ℕ)) (cells along : List ℕ) : Counted → Type 0 where
  crowded : Crowded d (cells_of d ws) → Reads d ws Ordered ks cells along (Err CrowdedFacet)
  unordered : (Crowded d (cells_of d ws) → ⊥) → (Ordered → ⊥) → Reads d ws Ordered ks cells along (Err BadOrder)
  read : (m : ℕ) → (Crowded d (cells_of d ws) → ⊥) → Ordered → m * suc d ≤ length ws → Along d (coarse ws) m along cells → cut (suc d) m cells ≡ cells_of d ws
      → cut (suc d) m along ≡ ks → Reads d ws Ordered ks cells along (Ok m)
