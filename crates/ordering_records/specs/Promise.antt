-- What the call `facet_records_with` comes to, on every input. Assumes nothing.
use Rattle.refusal.specs.declared.Refusal.TheVariants.{BadOrder}
use Rattle.refusal.specs.Says.{Counted}
use Rattle.std.specs.Prelude.{Err}
use Rattle.std.specs.Prelude.{List, [], ◌≡◌, ℕ, length}
use Rattle.refusal.specs.Lent.{onto}
use Rattle.complex.specs.Cells.{cells_of}
use Rattle.complex.specs.Skeleton.{facets_of}
use Rattle.complex_facets.specs.Records.{records_of}
use Rattle.skeleton.specs.Promise.{GivesBoth, Call}
use Rattle.ordering_words.specs.Order.{words_by, Orders}
use Rattle.ordering.specs.Promise.{order_need}

-- how a call with an order goes on after 7: 16 where the order's words are not one for each cell, or `Rest`
pub data Along {H : Type 0} (nothing : H) (d : ℕ) (cs : List (List ℕ)) (order : List ℕ) (Rest : Counted → H → Type 0) : Counted → H → Type 0 where
  unordered : (Orders d cs order → ⊥) → Along nothing d cs order Rest (Err BadOrder) nothing
  ordered : {r : Counted} {h : H} → Orders d cs order → Rest r h → Along nothing d cs order Rest r h

-- the facets and their records by the order's words, or 16, or 12 where either list is too short
abbrev pub GivesRecords : ℕ → List (List ℕ) → List ℕ → ℕ → ℕ → Counted → List ℕ × List ℕ → Type 0
GivesRecords d cs order given given' = Along ([], []) d cs order (GivesBoth (facets_of d cs) (records_of d cs (words_by d cs order)) given given')

-- the promise of `facet_records_with`: r is what it says, and a list with ' is what it holds at exit
pub record RecordsWith (d : ℕ) (ws order : List ℕ) (r : Counted) (facets facets' records records' keys keys' rows rows' spare spare' counts counts' : List ℕ) : Type 0 where
  pub handed : List ℕ × List ℕ
  pub call : Call ([], []) (order_need (length ws)) (GivesRecords d (cells_of d ws) order (length facets) (length records)) d ws r handed keys keys' rows rows' spare spare' counts counts'
  pub result : facets' ≡ onto handed.0 facets
  pub sides : records' ≡ onto handed.1 records
