-- Facet rows in classes: each class is a facet, and its rows are the cells that it lies in. Assumes nothing.
use Rattle.std.specs.Prelude.{List, [], ◌∷◌, ◌++◌, ◌≡◌, ℕ, zero, suc, ◌*◌, ◌<◌, ◌≤◌, eqb, length, get_or, Option, Some, None}
use Rattle.lists.specs.Words.{none}
use Rattle.sorting.specs.Bucket.{cell}
use Rattle.sorting.specs.Distinct.{Distinct}
use Rattle.complex_mates.specs.Table.{Written, Paired, Meet, MateTable}
use Rattle.complex.specs.Facets.{Crowded, slots}
use Rattle.complex.specs.Skeleton.{facets_of, rows_with, only_if}
use Rattle.complex_cells.specs.WorkNamed.{Named}

-- what `others` asks: f classes, each with its first row, and a mate or none for each row
pub record Turning (f : ℕ) (reps mates to : List ℕ) : Type 0 where
  pub in_reps : f ≤ length reps
  pub in_to : f ≤ length to
  pub inside : (i : ℕ) → i < f → get_or reps i 0 < length mates

-- what one pass over the facet rows of m cells leaves where no facet lies in three of them: the rows, the lowest row of each of the f facets, the facet of each row, and the mates
pub record Classed (d m f : ℕ) (cells keys reps ids mates : List ℕ) : Type 0 where
  pub written : Written d (slots d) cells keys (m * slots d)
  pub distinct : Distinct (cell keys d) d (m * slots d) f reps ids
  pub paired : Paired (m * slots d) ids mates

-- the facets of cells: f of them, named by their lowest rows, and the other row of each, or none
pub record Classes (d : ℕ) (cs : List (List ℕ)) (f : ℕ) (keys reps others : List ℕ) : Type 0 where
  pub named : Named (facets_of d cs) d f keys reps
  pub long : f ≤ length others
  pub one : (i : ℕ) → i < f → get_or others i 0 ≡ none → rows_with d cs (get_or (facets_of d cs) i []) ≡ get_or reps i 0 ∷ []
  pub two : (Crowded d cs → ⊥) → (i : ℕ) → i < f → (get_or others i 0 ≡ none → ⊥) → rows_with d cs (get_or (facets_of d cs) i []) ≡ get_or reps i 0 ∷ get_or others i 0 ∷ []
  pub small : (i : ℕ) → i < f → get_or reps i 0 < none
  pub most : f ≤ length cs * slots d

-- and the mates of all rows: those of the lowest rows are the other rows
pub record Pass (d : ℕ) (cs : List (List ℕ)) (f : ℕ) (keys reps others rows : List ℕ) : Type 0 where
  pub classes : Classes d cs f keys reps others
  pub mates : MateTable d cs rows
  pub meet : (i : ℕ) → i < f → (get_or others i 0 ≡ none → ⊥) → Meet d cs (get_or reps i 0) (get_or others i 0)

-- what one pass over the facet rows finds: the facets and how many there are, or that one lies in three cells
pub record Found (d : ℕ) (cs : List (List ℕ)) (found : Option ℕ) (keys reps others rows : List ℕ) : Type 0 where
  pub yes : (f : ℕ) → found ≡ Some f → Pass d cs f keys reps others rows
  pub no : found ≡ None → Crowded d cs

-- the lowest rows of the first f classes that have no other row
unfoldable pub lone_rows : ℕ → List ℕ → List ℕ → List ℕ
lone_rows zero reps others = []
lone_rows (suc f) reps others = lone_rows f reps others ++ only_if (eqb (get_or others f 0) none) (get_or reps f 0)
