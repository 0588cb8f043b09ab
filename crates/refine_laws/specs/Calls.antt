-- What three calls of a tower say and hand out: the words of demand 3, which Demand states over the calls' promise and the caller's lists. Assumes nothing.
use Rattle.refusal.specs.declared.Refusal.{Refusal}
use Rattle.std.specs.Prelude.{List, ◌≡◌, ℕ, suc, ◌*◌, ◌-◌, ltb, length, Result}
use Rattle.lists.specs.Rows.{rows, row}
use Rattle.complex.specs.Cells.{cells_of}
use Rattle.ordering_words.specs.Order.{Orders}
use Rattle.refine_lattice.specs.Children.{pick}
use Rattle.lists.specs.Words.{same}
use Rattle.refine_lattice.specs.Complex.{weigh, through}
use Rattle.refine_results.specs.declared.Refinement.{Refinement}
use Rattle.refine_results.specs.Says.{sizes}
use Rattle.refine_results.specs.Refined.{coarse, order_words}
use Rattle.refine_results.specs.Results.{Results, Lengths, Holds, results_of}
use Rattle.refine.specs.declared.Space.{Space}
use Rattle.refine.specs.Space.{space_of, Enough}
use Rattle.refine.specs.Promise.{Comes}
use Rattle.refine_laws.specs.Composition.{Renamed}

-- a call that says r and hands out h, by its promise, with working lists and result lists that are long enough
pub record Called (d R : ℕ) (ws : List ℕ) (Ordered : Type 0) (ks : List (List ℕ)) (r : Result Refinement Refusal) (h : Results) : Type 0 where
  pub given : Lengths
  pub have : Space
  pub used : Space
  pub comes : Comes d R ws Ordered ks given have r h used
  pub roomy : Enough (space_of d (length ws) R) have
  pub long : Holds given (results_of d R (coarse ws) (cells_of d ws) ks)

-- a call of `refine`
abbrev pub Refine : ℕ → ℕ → List ℕ → Result Refinement Refusal → Results → Type 0
Refine d R ws r h = Called d R ws (Unit {0}) (cells_of d ws) r h

-- a call of `refine_with`
abbrev pub RefineWith : ℕ → ℕ → List ℕ → List ℕ → Result Refinement Refusal → Results → Type 0
RefineWith d R ws os r h = Called d R ws (Orders d (cells_of d ws) os) (order_words d ws os) r h

-- the share of the vertex v in the vertex x over R, as the lists h of a refinement of n vertices tell it: one of the n is wholly itself, a birth has a row of vertices and weights
abbrev pub told : ℕ → ℕ → ℕ → Results → ℕ → ℕ → ℕ
told d R n h x v = pick (ltb x n) (R * same x v) (weigh (row h.birth_vertices (suc d) (x - n)) (row h.birth_weights (suc d) (x - n)) v)

-- the calls by a, then by b, against the call by a * b, which said that it made m children and N vertices and handed out h
pub record Tower (d a b : ℕ) (ws : List ℕ) (m N : ℕ) (h : Results) (r₁ : Result Refinement Refusal) (h₁ : Results) (r₂ : Result Refinement Refusal) (h₂ : Results) : Type 0 where
  -- the call by a is accepted, and counts the vertices that its cells have
  pub children : ℕ
  pub first : r₁ ≡ sizes children (coarse h₁.cells_out)
  -- the call by b is accepted, and counts what the single call counts
  pub second : r₂ ≡ sizes m N
  -- and its words are the single call's, up to a one-to-one renaming of the vertices that fixes the coarse ones and keeps every vertex's shares, multiplied through the middle step
  pub words : Renamed (coarse ws) N N (rows (suc d) h₂.words_out) (rows (suc d) h.words_out)
      (through (coarse h₁.cells_out) (told d a (coarse ws) h₁) (told d b (coarse h₁.cells_out) h₂)) (told d (a * b) (coarse ws) h)
