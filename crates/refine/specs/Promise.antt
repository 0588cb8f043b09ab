-- What the calls `refine` and `refine_with` come to, on every input. `Ordered` says that 16 does not apply, and ks are the words refined by. Assumes nothing.
use Rattle.refusal.specs.declared.Refusal.{Refusal}
use Rattle.refusal.specs.declared.Refusal.TheVariants.{BadOrder, CrowdedFacet}
use Rattle.std.specs.Prelude.{List, ℕ, ℤ, Float, length, Err, Result}
use Rattle.refusal.specs.Call.{Call}
use Rattle.complex.specs.Check.{answer_of}
use Rattle.complex.specs.Cells.{cells_of}
use Rattle.complex.specs.Facets.{Crowded}
use Rattle.refine_results.specs.declared.Refinement.{Refinement}
use Rattle.refine_results.specs.Refined.{coarse}
use Rattle.refine_results.specs.Results.{Results, nothing, Lengths, lengths_of, Finishes, Stored}
use Rattle.refine.specs.declared.Space.{Space}
use Rattle.refine.specs.Space.{space_of, unused, lent, Enough, Emptied}

-- how a call ends, once its words are checked and there is room
pub data Ends (d R : ℕ) (ws : List ℕ) (Ordered : Type 0) (ks : List (List ℕ)) (given : Lengths) : Result Refinement Refusal → Results → Type 0 where
  -- a facet in three or more cells
  crowded : Crowded d (cells_of d ws) → Ends d R ws Ordered ks given (Err CrowdedFacet) nothing
  -- the order words are not one for each cell
  unordered : (Crowded d (cells_of d ws) → ⊥) → (Ordered → ⊥) → Ends d R ws Ordered ks given (Err BadOrder) nothing
  -- the words are refined: 11, 3, 6, 12, or the results
  finished : {r : Result Refinement Refusal} {h : Results} → (Crowded d (cells_of d ws) → ⊥) → Ordered → Finishes d R (coarse ws) (cells_of d ws) ks given r h → Ends d R ws Ordered ks given r h

-- what a call comes to: what it says, what it hands out, and how much of the working lists is made zero
abbrev pub Comes : (d R : ℕ) (ws : List ℕ) (Ordered : Type 0) (ks : List (List ℕ)) (given : Lengths) (have : Space) → Result Refinement Refusal → Results → Space → Type 0
Comes d R ws Ordered ks given have =
    Call Err nothing unused (answer_of d ws) (space_of d (length ws) R) (Enough (space_of d (length ws) R) have) (Ends d R ws Ordered ks given)

-- the promise: r is what the call says, and a list with ' is what it holds at exit
pub record Refining (d : ℕ) (ws : List ℕ) (R : ℕ) (Ordered : Type 0) (ks : List (List ℕ)) (r : Result Refinement Refusal) (out_cells out-cells' out_words out-words' parents parents' : List ℕ) (jacobians jacobians' : List Float) (wholes wholes' : List ℤ) (vertices vertices' weights weights' : List ℕ) (shares shares' : List Float) (cells cells' along along' pattern pattern' keys keys' rows rows' spare spare' counts counts' sorted sorted' firsts firsts' buckets buckets' : List ℕ) : Type 0 where
  pub handed : Results
  pub used : Space
  pub comes : Comes d R ws Ordered ks (lengths_of out_cells out_words parents jacobians wholes vertices weights shares)
      (lent cells along pattern keys rows spare counts sorted firsts buckets) r handed used
  pub stored : Stored handed out_cells out-cells' out_words out-words' parents parents' jacobians jacobians' wholes wholes' vertices vertices' weights weights' shares shares'
  pub room : Emptied used cells cells' along along' pattern pattern' keys keys' rows rows' spare spare' counts counts' sorted sorted' firsts firsts' buckets buckets'
