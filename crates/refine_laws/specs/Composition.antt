-- Demand 3 over the definitions that the refinement calls promise: refining by a, then by b along the children's own words, against refining once by a times b.
-- Assumes nothing.
use Rattle.refusal.specs.Says.{fine}
use Rattle.std.specs.Prelude.{List, map, ◌≡◌, ℕ, ◌*◌, ◌<◌, length}
use Rattle.lists.specs.Rows.{flat}
use Rattle.complex.specs.Cells.{cells_of}
use Rattle.complex.specs.Check.{answer_of}
use Rattle.complex.specs.Facets.{Crowded}
use Rattle.ordering_words.specs.Order.{Orders, AgreeOnFacets}
use Rattle.refine_lattice.specs.Complex.{through}
use Rattle.refine_lattice.specs.Refine.{vertices, share, In}
use Rattle.refine_results.specs.Refined.{coarse, order_words, refined_cells, refined_words}
use Rattle.refine_results.specs.Results.{Refines}

-- an accepted complex: none of 1 to 7 applies
pub record Accepted (d : ℕ) (ws : List ℕ) : Type 0 where
  pub fine : answer_of d ws ≡ fine
  pub uncrowded : Crowded d (cells_of d ws) → ⊥

-- an order of it that agrees on every facet of two cells: 16 does not apply
pub record Ordered (d : ℕ) (ws os : List ℕ) : Type 0 where
  pub orders : Orders d (cells_of d ws) os
  pub agrees : AgreeOnFacets d (cells_of d ws) (order_words d ws os)

-- The words ts over N vertices are the words cs over N', up to a one-to-one renaming of the vertices that fixes the first n and keeps every vertex's shares: renamed
-- by `to`, vertex by vertex, each word of ts is a word of cs, and each word of cs comes back by `from`.
pub record Renamed (n N N' : ℕ) (ts cs : List (List ℕ)) (share share' : ℕ → ℕ → ℕ) : Type 0 where
  pub to : ℕ → ℕ
  pub from : ℕ → ℕ
  pub into : (x : ℕ) → x < N → to x < N'
  pub back : (y : ℕ) → y < N' → from y < N
  pub from_to : (x : ℕ) → x < N → from (to x) ≡ x
  pub to_from : (y : ℕ) → y < N' → to (from y) ≡ y
  pub fixes : (x : ℕ) → x < n → to x ≡ x
  pub keeps : (x : ℕ) → x < N → (v : ℕ) → share' (to x) v ≡ share x v
  pub words : (w : List ℕ) → In ts w → In cs (map to w)
  pub words_back : (y : List ℕ) → In cs y → In ts (map from y)

-- The three calls. n vertices and the words ks are refined by a; the refined cells ws₁, with the children's words os₁ as their order, by b; and ks by a * b.
pub record Composes (d a b n : ℕ) (ks : List (List ℕ)) (ws₁ os₁ : List ℕ) : Type 0 where
  -- the first call is not refused
  pub first : Refines d a n ks
  -- what it hands out is an accepted complex again, its words an order of it that agrees again, and its vertices those that the first call counted
  pub accepted : Accepted d ws₁
  pub ordered : Ordered d ws₁ os₁
  pub counted : coarse ws₁ ≡ vertices d a n ks
  -- so the second call is not refused either
  pub second : Refines d b (coarse ws₁) (order_words d ws₁ os₁)
  -- and it hands out as many cells and vertices as the single call
  pub as_many_cells : length (refined_cells d b (coarse ws₁) (order_words d ws₁ os₁)) ≡ length (refined_cells d (a * b) n ks)
  pub as_many_vertices : vertices d b (coarse ws₁) (order_words d ws₁ os₁) ≡ vertices d (a * b) n ks
  -- which are the same up to the numbers of the vertices, a vertex's shares multiplied through the middle step
  pub same : Renamed n (vertices d b (coarse ws₁) (order_words d ws₁ os₁)) (vertices d (a * b) n ks)
      (refined_words d b (coarse ws₁) (order_words d ws₁ os₁)) (refined_words d (a * b) n ks)
      (through (coarse ws₁) (share d a n ks) (share d b (coarse ws₁) (order_words d ws₁ os₁))) (share d (a * b) n ks)

-- THE COMPOSITION LAW, for an order. The premises are demand 3's: an accepted complex, which has dimension 0 to 3, an order that agrees, and the single refinement
unfoldable pub Law : ℕ → ℕ → ℕ → List ℕ → List ℕ → Type 0
Law d a b ws os =
    let n : ℕ = coarse ws in
    let ks : List (List ℕ) = order_words d ws os in
    Accepted d ws → Ordered d ws os → Refines d (a * b) n ks
    → Composes d a b n ks (flat (refined_cells d a n ks)) (flat (refined_words d a n ks))

-- and where no order is given: then the words are the cells, and they always agree
unfoldable pub LawSorted : ℕ → ℕ → ℕ → List ℕ → Type 0
LawSorted d a b ws =
    let n : ℕ = coarse ws in
    let ks : List (List ℕ) = cells_of d ws in
    Accepted d ws → Refines d (a * b) n ks
    → Composes d a b n ks (flat (refined_cells d a n ks)) (flat (refined_words d a n ks))
