-- Document 01, "Refinement": the eight result lists of a refinement, and how it ends once the coarse cells and the words refined by are known. Assumes nothing.
use Rattle.refusal.specs.declared.Refusal.{Refusal}
use Rattle.refusal.specs.declared.Refusal.TheVariants.{BadRefinement, TooManyCells, TooManyVertices, TooShort}
use Rattle.std.specs.Prelude.{List, [], map, ◌≡◌, ℕ, suc, ◌*◌, ◌^◌, ◌≤◌, ◌<◌, ℤ, Float, length, Result, Err}
use Rattle.refusal.specs.Limits.{most_cells, most_vertices, most_refinement}
use Rattle.refusal.specs.Lent.{onto}
use Rattle.lists.specs.Rows.{flat}
use Rattle.refine_lattice.specs.Refine.{births, vertices}
use Rattle.refine_births.specs.Promise.{birth_vertices_of, birth_weights_of}
use Rattle.refine_jacobian.specs.Entries.{share_of}
use Rattle.refine_results.specs.declared.Refinement.{Refinement}
use Rattle.refine_results.specs.Says.{sizes}
use Rattle.refine_results.specs.Refined.{refined_cells, refined_words, parents, wholes, jacobians}

-- what is handed out
pub record Results : Type 0 where
  pub cells_out : List ℕ
  pub words_out : List ℕ
  pub parents_out : List ℕ
  pub jacobians_out : List Float
  pub wholes_out : List ℤ
  pub birth_vertices : List ℕ
  pub birth_weights : List ℕ
  pub birth_shares : List Float

-- a refusal hands out nothing
abbrev pub nothing : Results
nothing = record { cells_out = []; words_out = []; parents_out = []; jacobians_out = []; wholes_out = []; birth_vertices = []; birth_weights = []; birth_shares = [] }

-- the results of n vertices and the words ks of the cells cs, refined by R: by refined cell in colex order, and by birth in the order of their numbers
abbrev pub results_of : ℕ → ℕ → ℕ → List (List ℕ) → List (List ℕ) → Results
results_of d R n cs ks =
    record {
      cells_out = flat (refined_cells d R n ks);
      words_out = flat (refined_words d R n ks);
      parents_out = parents d R n ks;
      jacobians_out = jacobians d R n cs ks;
      wholes_out = wholes d R n cs ks;
      birth_vertices = birth_vertices_of (suc d) (births d R n ks);
      birth_weights = birth_weights_of (suc d) (births d R n ks);
      birth_shares = map (share_of R) (birth_weights_of (suc d) (births d R n ks));
    }

-- the lengths of the lent result lists
pub record Lengths : Type 0 where
  pub cells_lent : ℕ
  pub words_lent : ℕ
  pub parents_lent : ℕ
  pub jacobians_lent : ℕ
  pub wholes_lent : ℕ
  pub vertices_lent : ℕ
  pub weights_lent : ℕ
  pub shares_lent : ℕ

abbrev pub lengths_of : List ℕ → List ℕ → List ℕ → List Float → List ℤ → List ℕ → List ℕ → List Float → Lengths
lengths_of cells words parents jacobians wholes vertices weights shares =
    record {
      cells_lent = length cells;
      words_lent = length words;
      parents_lent = length parents;
      jacobians_lent = length jacobians;
      wholes_lent = length wholes;
      vertices_lent = length vertices;
      weights_lent = length weights;
      shares_lent = length shares;
    }

-- no lent result list is too short
pub record Holds (given : Lengths) (h : Results) : Type 0 where
  pub of_cells : length h.cells_out ≤ given.cells_lent
  pub of_words : length h.words_out ≤ given.words_lent
  pub of_parents : length h.parents_out ≤ given.parents_lent
  pub of_jacobians : length h.jacobians_out ≤ given.jacobians_lent
  pub of_wholes : length h.wholes_out ≤ given.wholes_lent
  pub of_vertices : length h.birth_vertices ≤ given.vertices_lent
  pub of_weights : length h.birth_weights ≤ given.weights_lent
  pub of_shares : length h.birth_shares ≤ given.shares_lent

-- R is a refinement number: 11 does not apply
pub record Inside (R : ℕ) : Type 0 where
  pub least : 1 ≤ R
  pub most : R ≤ most_refinement

-- n vertices and the words ks, refined by R: none of 11, 3 and 6 applies
pub record Refines (d R n : ℕ) (ks : List (List ℕ)) : Type 0 where
  pub least : 1 ≤ R
  pub most : R ≤ most_refinement
  pub few_cells : length ks * R ^ d ≤ most_cells
  pub few_vertices : vertices d R n ks ≤ most_vertices

-- how the refinement of n vertices and the words ks of the cells cs by R ends: 11, 3, 6, 12, or the results
pub data Finishes (d R n : ℕ) (cs ks : List (List ℕ)) (given : Lengths) : Result Refinement Refusal → Results → Type 0 where
  -- R is 0 or more than 64
  outside : (Inside R → ⊥) → Finishes d R n cs ks given (Err BadRefinement) nothing
  -- too many children
  many_cells : Inside R → most_cells < length ks * R ^ d → Finishes d R n cs ks given (Err TooManyCells) nothing
  -- too many vertices
  many_vertices : Inside R → length ks * R ^ d ≤ most_cells → most_vertices < vertices d R n ks → Finishes d R n cs ks given (Err TooManyVertices) nothing
  -- a result list is too short
  short : Refines d R n ks → (Holds given (results_of d R n cs ks) → ⊥) → Finishes d R n cs ks given (Err TooShort) nothing
  -- the results are handed out; the call says how many children and how many vertices there are
  made : Refines d R n ks → Holds given (results_of d R n cs ks) → Finishes d R n cs ks given (sizes (length (refined_cells d R n ks)) (vertices d R n ks)) (results_of d R n cs ks)

-- each lent result list afterwards: what is handed out stands at its start
pub record Stored (h : Results) (cells cells' words words' parents parents' : List ℕ) (jacobians jacobians' : List Float) (wholes wholes' : List ℤ) (vertices vertices' weights weights' : List ℕ) (shares shares' : List Float) : Type 0 where
  pub in_cells : cells' ≡ onto h.cells_out cells
  pub in_words : words' ≡ onto h.words_out words
  pub in_parents : parents' ≡ onto h.parents_out parents
  pub in_jacobians : jacobians' ≡ onto h.jacobians_out jacobians
  pub in_wholes : wholes' ≡ onto h.wholes_out wholes
  pub in_vertices : vertices' ≡ onto h.birth_vertices vertices
  pub in_weights : weights' ≡ onto h.birth_weights weights
  pub in_shares : shares' ≡ onto h.birth_shares shares
