-- What the inner functions ask of their lists and give. Assumes nothing.
use Rattle.refusal.specs.Says.{Counted}
use Rattle.std.specs.Prelude.{Bool, true, false, List, [], ◌≡◌, ℕ, zero, suc, ◌+◌, ◌-◌, ◌*◌, ◌<◌, ◌≤◌, eqb, length, get_or, take, set}
use Rattle.refusal.specs.Lent.{onto}
use Rattle.lists.specs.Words.{same_word, none}
use Rattle.complex.specs.Check.{Passed}
use Rattle.complex.specs.Cells.{cells_of}
use Rattle.complex.specs.Facets.{Cells}
use Rattle.complex_facets.specs.WorkClasses.{Pass}
use Rattle.complex_facets.specs.Records.{one_if}
use Rattle.skeleton.specs.Promise.{Ends}
use Rattle.ordering.specs.WorkAgree.{row_word, Reading}
use Rattle.ordering.specs.Promise.{Ready}
use Rattle.ordering_records.specs.Promise.{GivesRecords}

-- 1 where the test holds, else the number
abbrev pub one_or : Bool → ℕ → ℕ
one_or true v = 1
one_or false v = v

-- whether the words of the cells of rows x and y agree on their facet, by a list that has the words by cell and behind them the cells; 1 where there is no row y
abbrev pub agree_at : ℕ → ℕ → ℕ → List ℕ → ℕ → ℕ → ℕ
agree_at d k m list x y = one_or (eqb y none) (one_if (same_word (row_word d k m list x) (row_word d k m list y)))

-- what asking for two rows asks
abbrev pub Asking : ℕ → ℕ → ℕ → List ℕ → ℕ → ℕ → Type 0
Asking d k m list x y = (y ≡ none → ⊥) → Reading d k m list x y

-- records of five numbers, the last of each of the first f set
unfoldable pub tagged : (ℕ → ℕ) → ℕ → List ℕ → List ℕ
tagged g zero records = records
tagged g (suc f) records = set (tagged g f records) (f * 5 + 4) (g f)

-- what setting them asks
pub record Tagging (d k m : ℕ) (list : List ℕ) (f : ℕ) (reps others records : List ℕ) : Type 0 where
  pub in_reps : f ≤ length reps
  pub in_others : f ≤ length others
  pub room : f * 5 ≤ length records
  pub asked : (i : ℕ) → i < f → Asking d k m list (get_or reps i 0) (get_or others i 0)

-- what handing out f facets of m cells asks: one pass over the facet rows found them, and the order's words by cell and the cells stand behind the rows
pub record Handing (d at m f : ℕ) (keys reps others : List ℕ) : Type 0 where
  pub ws : List ℕ
  pub order : List ℕ
  pub rows : List ℕ
  pub passed : Passed d ws
  pub many : m ≡ length (cells_of d ws)
  pub good : Cells d (cells_of d ws)
  pub most : f ≤ length ws
  pub start : at ≤ length keys
  pub small : at < 4294967296
  pub long : m * (d + 1) + m * (d + 1) ≤ length keys - at
  pub pass : Pass d (cells_of d ws) f (take at keys) reps others rows
  pub ready : Ready d at (length ws) (cells_of d ws) order keys rows

-- the work's end, and the result lists afterwards
pub record WorkedWith (d : ℕ) (ws order : List ℕ) (r : Counted) (facets facets' records records' : List ℕ) : Type 0 where
  pub handed : List ℕ × List ℕ
  pub ends : Ends ([], []) d (cells_of d ws) (GivesRecords d (cells_of d ws) order (length facets) (length records)) r handed
  pub result : facets' ≡ onto handed.0 facets
  pub sides : records' ≡ onto handed.1 records
