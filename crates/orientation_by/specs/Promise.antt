-- What the call `orient_by` comes to, on every input: document 01's "a caller's own signs get yes exactly if coherent, else no, never 13; in dimension 0 every list
-- gets no". Assumes nothing.
use Rattle.std.specs.Prelude.{false}
use Rattle.std.specs.Prelude.{true}
use Rattle.refusal.specs.declared.Refusal.TheVariants.{BadSigns, CrowdedFacet}
use Rattle.refusal.specs.Says.{Verdict}
use Rattle.std.specs.Prelude.{Err, Ok}
use Rattle.std.specs.Prelude.{List, ◌≡◌, ℕ, ◌<◌, ℤ, length}
use Rattle.refusal.specs.declared.Room.{Room}
use Rattle.refusal.specs.Lent.{lengths, Cleared}
use Rattle.refusal.specs.Call.{Comes}
use Rattle.multiindex.specs.Sign.{Sign}
use Rattle.complex.specs.Check.{answer_of}
use Rattle.complex_facets.specs.Records.{record_need}
use Rattle.complex.specs.Cells.{cells_of}
use Rattle.complex.specs.Facets.{Crowded}
use Rattle.orientation_signs.specs.Signs.{Coherent, sign_list}

-- the list is one +1 or -1 for each of n cells: those of σ
abbrev pub Given : List ℤ → ℕ → (ℕ → Sign) → Type 0
Given signs n σ = signs ≡ sign_list σ n

-- how a call on a list of cells ends, once its words are checked and there is room: 7, 14, yes or no. Nothing is handed out.
pub data Ends (d : ℕ) (cs : List (List ℕ)) (signs : List ℤ) : Verdict → Unit {0} → Type 0 where
  -- a facet in three or more cells
  crowded : Crowded d cs → Ends d cs signs (Err CrowdedFacet) tt
  -- not one +1 or -1 for each cell
  unfit : (Crowded d cs → ⊥) → ((σ : ℕ → Sign) → Given signs (length cs) σ → ⊥) → Ends d cs signs (Err BadSigns) tt
  -- the signs are coherent
  agreed : (Crowded d cs → ⊥) → (σ : ℕ → Sign) → Given signs (length cs) σ → 0 < d → Coherent d cs σ → Ends d cs signs (Ok true) tt
  -- they are not, or the dimension is 0
  differs : (Crowded d cs → ⊥) → (σ : ℕ → Sign) → Given signs (length cs) σ → (0 < d → Coherent d cs σ → ⊥) → Ends d cs signs (Ok false) tt

-- the promise: r is what the call says, and a list with ' is what it holds at exit
pub record OrientBy (d : ℕ) (ws : List ℕ) (signs : List ℤ) (r : Verdict) (keys keys' rows rows' spare spare' counts counts' : List ℕ) : Type 0 where
  pub used : Room
  pub comes : Comes Err tt (answer_of d ws) (record_need (length ws)) (lengths keys rows spare counts) (Ends d (cells_of d ws) signs) r tt used
  pub room : Cleared used keys keys' rows rows' spare spare' counts counts'
