-- What the call `orientation` comes to, on every input. Assumes nothing.
use Rattle.refusal.specs.declared.Refusal.{Refusal}
use Rattle.refusal.specs.declared.Refusal.TheVariants.{CrowdedFacet, NoSigns, TooShort}
use Rattle.refusal.specs.Says.{Counted}
use Rattle.std.specs.Prelude.{Err, Ok, Result}
use Rattle.std.specs.Prelude.{List, [], ◌≡◌, ℕ, ◌*◌, ◌<◌, ◌≤◌, ℤ, length}
use Rattle.refusal.specs.declared.Room.{Room}
use Rattle.refusal.specs.Lent.{onto, lengths, Cleared}
use Rattle.refusal.specs.Call.{Comes}
use Rattle.multiindex.specs.Sign.{Sign}
use Rattle.complex.specs.Check.{answer_of}
use Rattle.complex_facets.specs.Records.{record_need}
use Rattle.complex.specs.Cells.{cells_of}
use Rattle.complex.specs.Facets.{Crowded, slots}
use Rattle.orientation_signs.specs.Signs.{Coherent, Oriented, sign_list}
use Rattle.orientation_signs.specs.Looks.{looks_of}
use Rattle.orientation.specs.declared.Coherence.{Coherence}
use Rattle.orientation.specs.declared.Coherence.TheVariants.{Signs, OneSided}

-- without the looks: no coherent signs is refusal 13 at place 0
abbrev pub counted_of : Result Coherence Refusal → Counted
counted_of (Ok (Signs cells looks)) = Ok cells
counted_of (Ok (OneSided looks)) = Err NoSigns
counted_of (Err why) = Err why

-- how a call on a list of cells ends, once its words are checked and there is room: 7, 13, 12, or one sign a cell. `given` is the length of the sign list.
pub data Ends (d : ℕ) (cs : List (List ℕ)) (given : ℕ) : Result Coherence Refusal → List ℤ → Type 0 where
  -- a facet in three or more cells
  crowded : Crowded d cs → Ends d cs given (Err CrowdedFacet) []
  -- no coherent signs exist: the looks of the defined walk, up to its conflict
  one_sided : (Crowded d cs → ⊥) → ((σ : ℕ → Sign) → Coherent d cs σ → ⊥) → Ends d cs given (Ok (OneSided (looks_of d cs))) []
  -- there are signs, and the sign list is too short for them
  short : (Crowded d cs → ⊥) → (σ : ℕ → Sign) → Oriented d cs σ → given < length cs → Ends d cs given (Err TooShort) []
  -- the signs are handed out: the looks are one a facet of each cell
  signed : (Crowded d cs → ⊥) → (σ : ℕ → Sign) → Oriented d cs σ → length cs ≤ given → Ends d cs given (Ok (Signs (length cs) (length cs * slots d))) (sign_list σ (length cs))

-- the promise: r is what the call says, and a list with ' is what it holds at exit
pub record Orientation (d : ℕ) (ws : List ℕ) (r : Result Coherence Refusal) (signs signs' : List ℤ) (keys keys' rows rows' spare spare' counts counts' : List ℕ) : Type 0 where
  pub handed : List ℤ
  pub used : Room
  pub comes : Comes Err [] (answer_of d ws) (record_need (length ws)) (lengths keys rows spare counts) (Ends d (cells_of d ws) (length signs)) r handed used
  pub result : signs' ≡ onto handed signs
  pub room : Cleared used keys keys' rows rows' spare spare' counts counts'
