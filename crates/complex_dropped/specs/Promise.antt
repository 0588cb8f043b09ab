-- What the call `drop_cells` comes to, on every input. Assumes nothing.
use Rattle.complex_dropped.specs.Says.{Dropping, kept_of}
use Rattle.refusal.specs.declared.Refusal.TheVariants.{CrowdedFacet, NoSuchCell, RaggedWords, TooShort}
use Rattle.std.specs.Prelude.{Err}
use Rattle.std.specs.Prelude.{true, false, List, [], ◌≡◌, ℕ, ◌≤◌, length}
use Rattle.refusal.specs.declared.Room.{Room}
use Rattle.refusal.specs.Lent.{onto, lengths, Cleared}
use Rattle.refusal.specs.Call.{Comes}
use Rattle.complex.specs.Check.{answer_of}
use Rattle.complex.specs.Room.{need_of}
use Rattle.complex.specs.Cells.{cells_of}
use Rattle.complex.specs.Facets.{Crowded}
use Rattle.complex_dropped.specs.Kept.{names_missing, staying, kept_words, old_numbers}

-- what is handed out: the words by their new numbers, and the old number for each new one
pub record Lists : Type 0 where
  pub words : List ℕ
  pub old : List ℕ

abbrev pub nothing : Lists
nothing = record { words = []; old = [] }

abbrev pub kept_lists : ℕ → List ℕ → List ℕ → Lists
kept_lists d ws gone = record { words = kept_words d ws gone; old = old_numbers d ws gone }

-- result lists of these lengths are long enough
pub record Fits (l : Lists) (kept-given old-given : ℕ) : Type 0 where
  pub in_kept : length l.words ≤ kept-given
  pub in_old : length l.old ≤ old-given

-- no facet in three or more cells, and every cell of the set is there: neither 7 nor 23 applies
pub record Present (d : ℕ) (ws gone : List ℕ) : Type 0 where
  pub uncrowded : Crowded d (cells_of d ws) → ⊥
  pub there : names_missing (length (cells_of d ws)) gone ≡ false

-- how a call ends once its words are checked and there is room: 7, 23, 2, 12, or the words that stay. `kept` and `old` are the lengths of the result lists.
pub data Ends (d : ℕ) (ws gone : List ℕ) (kept old : ℕ) : Dropping → Lists → Type 0 where
  -- a facet in three or more cells
  crowded : Crowded d (cells_of d ws) → Ends d ws gone kept old (Err CrowdedFacet) nothing
  -- the set names a cell that is not there
  missing : (Crowded d (cells_of d ws) → ⊥) → names_missing (length (cells_of d ws)) gone ≡ true → Ends d ws gone kept old (Err NoSuchCell) nothing
  -- all cells would go
  emptied : Present d ws gone → length (staying d ws gone) ≡ 0 → Ends d ws gone kept old (Err RaggedWords) nothing
  -- a result list is too short
  short : Present d ws gone → (length (staying d ws gone) ≡ 0 → ⊥) → (Fits (kept_lists d ws gone) kept old → ⊥) → Ends d ws gone kept old (Err TooShort) nothing
  -- the words that stay are handed out
  kept_all : Present d ws gone → (length (staying d ws gone) ≡ 0 → ⊥) → Fits (kept_lists d ws gone) kept old →
      Ends d ws gone kept old (kept_of (length (staying d ws gone)) (length (old_numbers d ws gone))) (kept_lists d ws gone)

-- the promise: r is what the call says, and a list with ' is what it holds at exit
pub record DropCells (d : ℕ) (ws gone : List ℕ) (r : Dropping) (kept kept' old old' keys keys' rows rows' spare spare' counts counts' : List ℕ) : Type 0 where
  pub handed : Lists
  pub used : Room
  pub comes : Comes Err nothing (answer_of d ws) (need_of d (length ws)) (lengths keys rows spare counts) (Ends d ws gone (length kept) (length old)) r handed used
  pub in_kept : kept' ≡ onto handed.words kept
  pub in_old : old' ≡ onto handed.old old
  pub room : Cleared used keys keys' rows rows' spare spare' counts counts'
