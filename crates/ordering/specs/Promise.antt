-- What the calls `ordering` and `induced_orientation` come to, on every input. Assumes nothing.
use Rattle.std.specs.Prelude.{false}
use Rattle.std.specs.Prelude.{true}
use Rattle.refusal.specs.declared.Refusal.{Refusal}
use Rattle.refusal.specs.declared.Refusal.TheVariants.{BadOrder, CrowdedFacet, TooShort}
use Rattle.refusal.specs.Says.{Counted, Verdict}
use Rattle.std.specs.Prelude.{Err, Ok, Result}
use Rattle.std.specs.Prelude.{List, [], ◌≡◌, ℕ, suc, ◌+◌, ◌*◌, ◌<◌, ◌≤◌, length, take, drop}
use Rattle.refusal.specs.declared.Room.{Room}
use Rattle.refusal.specs.Lent.{onto, lengths, Cleared}
use Rattle.refusal.specs.Call.{Comes}
use Rattle.lists.specs.Rows.{flat}
use Rattle.multiindex.specs.Sort.{inversions}
use Rattle.multiindex.specs.Sign.{Sign, induced}
use Rattle.complex.specs.Check.{answer_of, Passed}
use Rattle.complex.specs.Cells.{cells_of}
use Rattle.complex.specs.Facets.{cell_at, Crowded}
use Rattle.complex_mates.specs.Table.{MateTable}
use Rattle.complex_facets.specs.WorkAcross.{Linked}
use Rattle.orientation_signs.specs.Signs.{Coherent}
use Rattle.ordering.specs.declared.Ordered.{Ordered}
use Rattle.ordering.specs.declared.Ordered.TheVariants.{Agree, Differ}
use Rattle.ordering_words.specs.Order.{words_by, Orders, AgreeOnFacets}

-- what a call on an order needs of its working lists, where n is the number of corners of the words: in keys the facets' records, the words by cell and the cells
abbrev pub order_need : ℕ → Room
order_need n = record { keys = n * 5 + n + n; rows = n; spare = n; counts = n }

-- a word's sign: + for an even number of pairs out of order
abbrev pub word_sign : List ℕ → Sign
word_sign w = induced (inversions w)

-- what the work asks of its lists, of just the lengths that are needed; the keys' last part begins at `at`
pub record Preparing (d at : ℕ) (ws keys rows spare counts : List ℕ) : Type 0 where
  pub passed : Passed d ws
  pub start : at ≡ length ws * 5
  pub keys_long : length keys ≡ length ws * 5 + length ws + length ws
  pub rows_long : length rows ≡ length ws
  pub spare_long : length spare ≡ length ws
  pub counts_long : length counts ≡ length ws

-- the mates stand in rows; the words by cell, and behind them the cells, in the keys' last part
pub record Ready (d at n : ℕ) (cs : List (List ℕ)) (order keys rows : List ℕ) : Type 0 where
  pub free : Crowded d cs → ⊥
  pub ordered : Orders d cs order
  pub mates : MateTable d cs rows
  pub words : take (length cs * suc d) (drop at keys) ≡ flat (words_by d cs order)
  pub behind : take (length cs * suc d) (drop (length cs * suc d) (drop at keys)) ≡ flat cs
  pub long : (c : ℕ) → c < length cs → length (cell_at cs c) ≡ suc d
  pub most : length cs * suc d ≤ n

-- 7, 16, or all is ready
pub data Prepared (d at n : ℕ) (cs : List (List ℕ)) (order keys rows : List ℕ) : Counted → Type 0 where
  crowded : Crowded d cs → Prepared d at n cs order keys rows (Err CrowdedFacet)
  unordered : (Crowded d cs → ⊥) → (Orders d cs order → ⊥) → Prepared d at n cs order keys rows (Err BadOrder)
  ready : Ready d at n cs order keys rows → Prepared d at n cs order keys rows (Ok (length cs))

-- the same, where in place of the mates the cell across each facet row and whether signs differ there are at hand
pub record Joined (d at n : ℕ) (cs : List (List ℕ)) (order keys other flip : List ℕ) (r : Counted) : Type 0 where
  pub mates : List ℕ
  pub prepared : Prepared d at n cs order keys mates r
  pub linked : (m : ℕ) → r ≡ Ok m → Linked d cs other flip

-- how `ordering` ends, once its words are checked and there is room: 7, 16, 12, or the order's words by cell. `given` is the length of the result list.
pub data Ends (d : ℕ) (cs : List (List ℕ)) (order : List ℕ) (given : ℕ) : Result Ordered Refusal → List ℕ → Type 0 where
  -- a facet in three or more cells
  crowded : Crowded d cs → Ends d cs order given (Err CrowdedFacet) []
  -- not one word for each cell, no more
  unordered : (Crowded d cs → ⊥) → (Orders d cs order → ⊥) → Ends d cs order given (Err BadOrder) []
  -- the result list is too short
  short : (Crowded d cs → ⊥) → Orders d cs order → given < length cs * suc d → Ends d cs order given (Err TooShort) []
  -- the order agrees on every facet of two cells
  agreed : (Crowded d cs → ⊥) → Orders d cs order → length cs * suc d ≤ given → AgreeOnFacets d cs (words_by d cs order) → Ends d cs order given (Ok (Agree (length cs))) (flat (words_by d cs order))
  -- on some it does not
  differs : (Crowded d cs → ⊥) → Orders d cs order → length cs * suc d ≤ given → (AgreeOnFacets d cs (words_by d cs order) → ⊥) → Ends d cs order given (Ok (Differ (length cs))) (flat (words_by d cs order))

-- the promise of `ordering`: r is what the call says, and a list with ' is what it holds at exit
pub record Ordering (d : ℕ) (ws order : List ℕ) (r : Result Ordered Refusal) (by by' keys keys' rows rows' spare spare' counts counts' : List ℕ) : Type 0 where
  pub handed : List ℕ
  pub used : Room
  pub comes : Comes Err [] (answer_of d ws) (order_need (length ws)) (lengths keys rows spare counts) (Ends d (cells_of d ws) order (length by)) r handed used
  pub result : by' ≡ onto handed by
  pub room : Cleared used keys keys' rows rows' spare spare' counts counts'

-- the work's end, and the result list afterwards
pub record Worked (d : ℕ) (ws order : List ℕ) (r : Result Ordered Refusal) (by by' : List ℕ) : Type 0 where
  pub handed : List ℕ
  pub ends : Ends d (cells_of d ws) order (length by) r handed
  pub result : by' ≡ onto handed by

-- how `induced_orientation` ends: 7, 16, yes or no
pub data Wound (d : ℕ) (cs : List (List ℕ)) (order : List ℕ) : Verdict → Unit {0} → Type 0 where
  crowded : Crowded d cs → Wound d cs order (Err CrowdedFacet) tt
  unordered : (Crowded d cs → ⊥) → (Orders d cs order → ⊥) → Wound d cs order (Err BadOrder) tt
  -- the words' signs are coherent
  coherent : (Crowded d cs → ⊥) → Orders d cs order → 0 < d → Coherent d cs (λ c. word_sign (cell_at (words_by d cs order) c)) → Wound d cs order (Ok true) tt
  -- they are not, or the dimension is 0
  incoherent : (Crowded d cs → ⊥) → Orders d cs order → (0 < d → Coherent d cs (λ c. word_sign (cell_at (words_by d cs order) c)) → ⊥) → Wound d cs order (Ok false) tt

-- the promise of `induced_orientation`
pub record Induced (d : ℕ) (ws order : List ℕ) (r : Verdict) (keys keys' rows rows' spare spare' counts counts' : List ℕ) : Type 0 where
  pub used : Room
  pub comes : Comes Err tt (answer_of d ws) (order_need (length ws)) (lengths keys rows spare counts) (Wound d (cells_of d ws) order) r tt used
  pub room : Cleared used keys keys' rows rows' spare spare' counts counts'
