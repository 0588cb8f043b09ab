-- What the call `records` comes to, on every input. Assumes nothing.
use Rattle.refusal.specs.declared.Refusal.TheVariants.{TooShort}
use Rattle.refusal.specs.Says.{Counted}
use Rattle.std.specs.Prelude.{Err, Ok}
use Rattle.std.specs.Prelude.{List, [], ◌≡◌, ℕ, ◌<◌, ◌≤◌, length}
use Rattle.refusal.specs.Lent.{onto}
use Rattle.lists.specs.Rows.{flat}
use Rattle.complex.specs.Cells.{cells_of}
use Rattle.complex.specs.Room.{need_of}
use Rattle.complex.specs.Skeleton.{facets_of}
use Rattle.complex_facets.specs.Records.{records_of}
use Rattle.skeleton.specs.Promise.{Call}
use Rattle.complex_records.specs.declared.FacetRec.{FacetRec}
use Rattle.complex_records.specs.Record.{facet_records}

-- the words and five numbers for each are handed out, or 12 where either list is too short or there is room for fewer records
pub data GivesFew (words : List (List ℕ)) (numbers : List ℕ) (given given' room : ℕ) : Counted → List ℕ × List ℕ → Type 0 where
  words_short : given < length (flat words) → GivesFew words numbers given given' room (Err TooShort) ([], [])
  numbers_short : given' < length numbers → GivesFew words numbers given given' room (Err TooShort) ([], [])
  records_short : room < length words → GivesFew words numbers given given' room (Err TooShort) ([], [])
  all_listed : length (flat words) ≤ given → length numbers ≤ given' → length words ≤ room → GivesFew words numbers given given' room (Ok (length words)) (flat words, numbers)

-- what is promised of the lists of numbers
pub record Numbers (d : ℕ) (ws : List ℕ) (room : ℕ) (r : Counted) (facets facets' list list' keys keys' rows rows' spare spare' counts counts' : List ℕ) : Type 0 where
  pub handed : List ℕ × List ℕ
  pub call : Call ([], []) (need_of d (length ws)) (GivesFew (facets_of d (cells_of d ws)) (records_of d (cells_of d ws) (cells_of d ws)) (length facets) (length list) room) d ws r handed keys keys' rows rows' spare spare' counts counts'
  pub result : facets' ≡ onto handed.0 facets
  pub sides : list' ≡ onto handed.1 list

-- the records that an answer hands out: those of the facets, by the cells' own words, and none for a refusal
abbrev pub records_for : Counted → ℕ → List (List ℕ) → List FacetRec
records_for (Ok n) d cs = facet_records d cs cs
records_for (Err why) d cs = []

-- the promise of `records`: r is what it says, and a list with ' is what it holds at exit
pub record Records (d : ℕ) (ws : List ℕ) (r : Counted) (facets facets' list list' : List ℕ) (records records' : List FacetRec) (keys keys' rows rows' spare spare' counts counts' : List ℕ) : Type 0 where
  pub numbers : Numbers d ws (length records) r facets facets' list list' keys keys' rows rows' spare spare' counts counts'
  pub written : records' ≡ onto (records_for r d (cells_of d ws)) records
