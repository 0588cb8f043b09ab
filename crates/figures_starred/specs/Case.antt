-- The kinds of figures, and what each says in the definitions that the promises cite. Assumes nothing.
use Rattle.refusal.specs.declared.Refusal.{Refusal}
use Rattle.refusal.specs.Says.{Answer}
use Rattle.std.specs.Prelude.{Result}
use Rattle.std.specs.Prelude.{List, [], ◌∷◌, map, ◌≡◌, ℕ, suc, ℤ, length, get_or, replicate}
use Rattle.lists.specs.Rows.{flat}
use Rattle.lists.specs.Tables.{upto}
use Rattle.lists.specs.Words.{without}
use Rattle.complex.specs.Facets.{cell_at, facet_at}
use Rattle.orientation.specs.declared.Coherence.{Coherence}
use Rattle.orientation.specs.Promise as Orientation
use Rattle.quotient.specs.declared.Grid.{Grid}
use Rattle.quotient.specs.Shape.{check_of}
use Rattle.quotient.specs.Reduce.{vertex_of}
use Rattle.grid_words.specs.Cells.{words_of}
use Rattle.grid_mesh.specs.Words.{glued_cells}
use Rattle.grid_order.specs.declared.Triangulated.{Triangulated}
use Rattle.grid_order.specs.Promise as Order
use Rattle.refine_lattice.specs.Refine as Refine
use Rattle.bandsum_lines.specs.declared.Summary.{Summary}
use Rattle.bandsum_lines.specs.Lines.{lines_of}
use Rattle.bandsum_sums.specs.Promise.{Prints}
use Rattle.refine_results.specs.declared.Refinement.{Refinement}
use Rattle.refine_results.specs.Refined.{refined_cells, refined_words}
use Rattle.refine_results.specs.Results.{Lengths, nothing, Finishes}

-- A figure. A cell is refined along its one word, whose vertices are 0 to d.
pub data Case : Type 0 where
  -- whether the grid is taken
  checked : Grid → Answer → Case
  -- the vertices of its points 0, 1, ..
  reduced : Grid → List ℕ → Case
  -- its words, and its cells
  has_words : Grid → List (List ℕ) → Case
  has_cells : Grid → List (List ℕ) → Case
  -- what `orientation` says of its words, looks included, and the signs that it hands out
  oriented : Grid → Result Coherence Refusal → List ℤ → Case
  -- what `triangulate_ordered` says of it, and the words that it hands out as an order
  ordered : Grid → Result Triangulated Refusal → List (List ℕ) → Case
  -- cell and position: the facet without that position, and the sequence in which the cell's word lists its vertices
  reads : Grid → ℕ → ℕ → List ℕ → List ℕ → Case
  -- dimension, R and word: the births, each by its weights at the vertices
  births : ℕ → ℕ → List ℕ → List (List ℕ) → Case
  -- the children's words and the refined cells
  child_words : ℕ → ℕ → List ℕ → List (List ℕ) → Case
  child_cells : ℕ → ℕ → List ℕ → List (List ℕ) → Case
  -- a point has one child for each R from 1 to this one
  one_child : ℕ → Case
  -- what refinement says, however long the result lists are, where it hands out nothing
  refused : ℕ → ℕ → List ℕ → Result Refinement Refusal → Case
  -- the program's bytes, and the six things that it prints
  prints : List ℕ → Summary → Case

-- what it says; the result lists are as long as needed
abbrev pub Holds : Case → Type 0
Holds (checked g a) = check_of g ≡ a
Holds (reduced g vs) = map (vertex_of g) (upto (length vs)) ≡ vs
Holds (has_words g ws) = words_of g ≡ ws
Holds (has_cells g cs) = glued_cells g ≡ cs
Holds (oriented g r signs) = Orientation.Ends g.d (glued_cells g) (length (glued_cells g)) r signs
Holds (ordered g r ws) = Order.Ends g (Order.cells_length g) (Order.cells_length g) r (record { cells = flat (glued_cells g); order = flat ws })
Holds (reads g c i f r) = (facet_at (cell_at (glued_cells g) c) i ≡ f) × (without (get_or (cell_at (glued_cells g) c) i 0) (cell_at (Order.words_by_cell g) c) ≡ r)
Holds (births d R w bs) = Refine.births d R (suc d) (w ∷ []) ≡ bs
Holds (child_words d R w ws) = refined_words d R (suc d) (w ∷ []) ≡ ws
Holds (child_cells d R w cs) = refined_cells d R (suc d) (w ∷ []) ≡ cs
Holds (one_child most) = map (λ r. refined_words 0 (suc r) 1 ((0 ∷ []) ∷ [])) (upto most) ≡ replicate most ((0 ∷ []) ∷ [])
Holds (refused d R w r) = (given : Lengths) → Finishes d R (suc d) (w ∷ []) (w ∷ []) given r nothing
Holds (prints bs s) = Prints bs (lines_of s)

-- each of the figures
abbrev pub All : List Case → Type 0
All [] = Unit {0}
All (c ∷ cs) = Holds c × All cs
