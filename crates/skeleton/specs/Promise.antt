-- What a call that hands out a list of words comes to, on every input. Assumes nothing.
use Rattle.refusal.specs.declared.Refusal.TheVariants.{CrowdedFacet, TooShort}
use Rattle.refusal.specs.Says.{Counted}
use Rattle.std.specs.Prelude.{Err, Ok}
use Rattle.std.specs.Prelude.{List, [], ◌≡◌, ℕ, ◌<◌, ◌≤◌, length}
use Rattle.refusal.specs.declared.Room.{Room}
use Rattle.refusal.specs.Lent.{onto, lengths, Cleared}
use Rattle.refusal.specs.Call.{Comes}
use Rattle.lists.specs.Rows.{flat}
use Rattle.complex.specs.Check.{answer_of}
use Rattle.complex.specs.Cells.{cells_of}
use Rattle.complex.specs.Facets.{Crowded}
use Rattle.complex.specs.Room.{need_of}
use Rattle.complex.specs.Skeleton.{facets_of}
use Rattle.complex_facets.specs.Sides.{table_of}
use Rattle.complex_facets.specs.Records.{records_of}

-- the words are handed out one after the other, or 12. `given` is the length of the result list.
pub data Gives (words : List (List ℕ)) (given : ℕ) : Counted → List ℕ → Type 0 where
  short : given < length (flat words) → Gives words given (Err TooShort) []
  listed : length (flat words) ≤ given → Gives words given (Ok (length words)) (flat words)

-- the words and their table are handed out, or 12 where either list is too short
pub data GivesBoth (words : List (List ℕ)) (table : List ℕ) (given given' : ℕ) : Counted → List ℕ × List ℕ → Type 0 where
  words_short : given < length (flat words) → GivesBoth words table given given' (Err TooShort) ([], [])
  table_short : given' < length table → GivesBoth words table given given' (Err TooShort) ([], [])
  both_listed : length (flat words) ≤ given → length table ≤ given' → GivesBoth words table given given' (Ok (length words)) (flat words, table)

-- how a call on a list of cells ends, once its words are checked and there is room: 7, or `Rest`
pub data Ends {H : Type 0} (nothing : H) (d : ℕ) (cs : List (List ℕ)) (Rest : Counted → H → Type 0) : Counted → H → Type 0 where
  -- a facet in three or more cells
  crowded : Crowded d cs → Ends nothing d cs Rest (Err CrowdedFacet) nothing
  rest : {r : Counted} {h : H} → (Crowded d cs → ⊥) → Rest r h → Ends nothing d cs Rest r h

-- a call on a list of words of dimension d that says r, hands out h, and leaves the working lists as those with '
pub record Call {H : Type 0} (nothing : H) (need : Room) (Rest : Counted → H → Type 0) (d : ℕ) (ws : List ℕ) (r : Counted) (h : H) (keys keys' rows rows' spare spare' counts counts' : List ℕ) : Type 0 where
  pub used : Room
  pub comes : Comes Err nothing (answer_of d ws) need (lengths keys rows spare counts) (Ends nothing d (cells_of d ws) Rest) r h used
  pub room : Cleared used keys keys' rows rows' spare spare' counts counts'

-- the promise of a call that hands out `words`: r is what it says, and a list with ' is what it holds at exit
pub record Listed (need : Room) (words : List (List ℕ)) (d : ℕ) (ws : List ℕ) (r : Counted) (out out' keys keys' rows rows' spare spare' counts counts' : List ℕ) : Type 0 where
  pub handed : List ℕ
  pub call : Call [] need (Gives words (length out)) d ws r handed keys keys' rows rows' spare spare' counts counts'
  pub result : out' ≡ onto handed out

-- the promise of a call that hands out the facets and what stands beside them
pub record BothListed (beside : List ℕ) (d : ℕ) (ws : List ℕ) (r : Counted) (out out' list list' keys keys' rows rows' spare spare' counts counts' : List ℕ) : Type 0 where
  pub handed : List ℕ × List ℕ
  pub call : Call ([], []) (need_of d (length ws)) (GivesBoth (facets_of d (cells_of d ws)) beside (length out) (length list)) d ws r handed keys keys' rows rows' spare spare' counts counts'
  pub result : out' ≡ onto handed.0 out
  pub sides : list' ≡ onto handed.1 list

-- the facets and the table of their cells
abbrev pub FacetsListed : ℕ → List ℕ → Counted → List ℕ → List ℕ → List ℕ → List ℕ → List ℕ → List ℕ → List ℕ → List ℕ → List ℕ → List ℕ → List ℕ → List ℕ → Type 0
FacetsListed d ws r out out' table table' keys keys' rows rows' spare spare' counts counts' = BothListed (table_of d (cells_of d ws)) d ws r out out' table table' keys keys' rows rows' spare spare' counts counts'

-- the facets and their records, by the cells' own words
abbrev pub RecordsListed : ℕ → List ℕ → Counted → List ℕ → List ℕ → List ℕ → List ℕ → List ℕ → List ℕ → List ℕ → List ℕ → List ℕ → List ℕ → List ℕ → List ℕ → Type 0
RecordsListed d ws r out out' records records' keys keys' rows rows' spare spare' counts counts' = BothListed (records_of d (cells_of d ws) (cells_of d ws)) d ws r out out' records records' keys keys' rows rows' spare spare' counts counts'
