-- What the steps of a refinement ask and give: the children's words are found, the result lists are measured, and the children and the births are written. Assumes nothing.
use Rattle.refusal.specs.declared.Refusal.TheVariants.{BadRefinement, TooManyCells, TooManyVertices}
use Rattle.std.specs.Prelude.{Bool, true, false, List, map, ◌≡◌, ℕ, suc, ◌+◌, ◌*◌, ◌/◌, ◌^◌, ◌≤◌, ◌<◌, ℤ, Float, length, get_or, take, Err, Ok, Result}
use Rattle.refusal.specs.Limits.{most_dimension, most_cells, most_vertices, square_most}
use Rattle.refusal.specs.Lent.{onto}
use Rattle.lists.specs.Rows.{cut, flat}
use Rattle.sorting.specs.Gather.{rows_of}
use Rattle.lists.specs.Tables.{tab}
use Rattle.refine_lattice.specs.Pattern.{pattern_of}
use Rattle.refine_lattice.specs.Refine.{births, vertices}
use Rattle.refine_jacobian.specs.Entries.{share_of}
use Rattle.refine_children.specs.WorkFamily.{joined, whole_at, float_at, Families}
use Rattle.refine_births.specs.Promise.{Supports, Resolved, birth_vertices_of, birth_weights_of}
use Rattle.refusal.specs.declared.Refusal.{Refusal}
use Rattle.refine_results.specs.declared.Counts.{Counts}
use Rattle.refine_results.specs.WorkFlat.{Refining}
use Rattle.refine_results.specs.Results.{Results, Lengths, Holds, Inside}
use Rattle.refine_results.specs.WorkStage.{Ready}

-- the test whether R is a refinement number
pub record Tested (R : ℕ) (r : Bool) : Type 0 where
  pub yes : r ≡ true → Inside R
  pub no : r ≡ false → Inside R → ⊥

-- ---- the children's words

-- the lists that finding the children's words needs are those of a refinement that is ready
pub record Seeking (d R n m : ℕ) (along pattern keys rows spare counts : List ℕ) : Type 0 where
  pub cells : List ℕ
  pub sorted : List ℕ
  pub firsts : List ℕ
  pub buckets : List ℕ
  pub ready : Ready d R n m cells along pattern keys rows spare counts sorted firsts buckets

-- the pattern, the children's words in `corners` and the births, which `fresh` names in keys, are found, and none of 11, 3 and 6 applies
pub record Found (d R n m : ℕ) (along pattern keys fresh corners : List ℕ) (born : ℕ) : Type 0 where
  pub within : Inside R
  pub few_cells : m * R ^ d ≤ most_cells
  pub few_vertices : n + born ≤ most_vertices
  pub pattern_is : take (R ^ d * (suc d * suc d)) pattern ≡ flat (pattern_of d R)
  pub resolved : Resolved d R n m (R ^ d * suc d) (cut (suc d) m along) born keys fresh corners

-- 11, 3 or 6, or how many children and how many births there are
pub data Sought (d R n m : ℕ) (along pattern keys fresh corners : List ℕ) : Result Counts Refusal → Type 0 where
  outside : (Inside R → ⊥) → Sought d R n m along pattern keys fresh corners (Err BadRefinement)
  many_cells : Inside R → most_cells < m * R ^ d → Sought d R n m along pattern keys fresh corners (Err TooManyCells)
  many_vertices : Inside R → m * R ^ d ≤ most_cells → most_vertices < vertices d R n (cut (suc d) m along) → Sought d R n m along pattern keys fresh corners (Err TooManyVertices)
  found : (born : ℕ) → Found d R n m along pattern keys fresh corners born → Sought d R n m along pattern keys fresh corners (Ok (record { children = m * R ^ d; births = born }))

-- ---- the lengths of the results

-- results of m refined cells of dimension d and b births
pub record Sized (d m b : ℕ) (h : Results) : Type 0 where
  pub cells_size : length h.cells_out ≡ m * suc d
  pub words_size : length h.words_out ≡ m * suc d
  pub parents_size : length h.parents_out ≡ m
  pub jacobians_size : length h.jacobians_out ≡ m * square_most
  pub wholes_size : length h.wholes_out ≡ m * square_most
  pub vertices_size : length h.birth_vertices ≡ b * suc d
  pub weights_size : length h.birth_weights ≡ b * suc d
  pub shares_size : length h.birth_shares ≡ b * suc d

abbrev pub lent : ℕ → ℕ → ℕ → ℕ → ℕ → ℕ → ℕ → ℕ → Lengths
lent cells words parents jacobians wholes vertices weights shares =
    record {
      cells_lent = cells;
      words_lent = words;
      parents_lent = parents;
      jacobians_lent = jacobians;
      wholes_lent = wholes;
      vertices_lent = vertices;
      weights_lent = weights;
      shares_lent = shares;
    }

-- the test whether lists of these lengths take the results of m refined cells and b births
pub record Fits (d m b : ℕ) (given : Lengths) (r : Bool) : Type 0 where
  pub yes : r ≡ true → (h : Results) → Sized d m b h → Holds given h
  pub no : r ≡ false → (h : Results) → Sized d m b h → Holds given h → ⊥

-- ---- writing

-- the first m of `firsts` name children, and there is room for what is written of each
pub record Writing (d size m : ℕ) (firsts pattern names sorted along coarse cells words parents : List ℕ) (jacobians : List Float) (wholes : List ℤ) : Type 0 where
  pub dim : d ≤ most_dimension
  pub few : m ≤ most_cells
  pub some : 0 < size
  pub families : Families d size m firsts pattern names sorted along coarse
  pub in_cells : m * suc d ≤ length cells
  pub in_words : m * suc d ≤ length words
  pub in_parents : m ≤ length parents
  pub in_jacobians : m * square_most ≤ length jacobians
  pub in_wholes : m * square_most ≤ length wholes

-- of each of them its sorted word, its word, its parent and its Jacobian are written
pub record Wrote (d R size m : ℕ) (firsts pattern names sorted along coarse cells cells' words words' parents parents' : List ℕ) (jacobians jacobians' : List Float) (wholes wholes' : List ℤ) : Type 0 where
  pub in_cells : cells' ≡ onto (rows_of sorted (suc d) (take m firsts)) cells
  pub in_words : words' ≡ onto (rows_of names (suc d) (take m firsts)) words
  pub in_parents : parents' ≡ onto (tab m (λ i. get_or firsts i 0 / size)) parents
  pub in_jacobians : jacobians' ≡ onto (joined m (λ i. float_at d R size pattern names sorted along coarse (get_or firsts i 0))) jacobians
  pub in_wholes : wholes' ≡ onto (joined m (λ i. whole_at d size pattern names sorted along coarse (get_or firsts i 0))) wholes

-- `fresh` names count births in keys, and there is room for them
pub record Bears (d count : ℕ) (keys fresh vertices weights : List ℕ) (shares : List Float) : Type 0 where
  pub dim : d ≤ most_dimension
  pub few : count ≤ most_vertices
  pub fresh_long : count ≤ length fresh
  pub inside : (b : ℕ) → b < count → get_or fresh b 0 * (suc d + suc d) + (suc d + suc d) ≤ length keys
  pub in_vertices : count * suc d ≤ length vertices
  pub in_weights : count * suc d ≤ length weights
  pub in_shares : count * suc d ≤ length shares

-- the births bs are written
pub record Bore (d R : ℕ) (bs : List (List ℕ)) (vertices vertices' weights weights' : List ℕ) (shares shares' : List Float) : Type 0 where
  pub in_vertices : vertices' ≡ onto (birth_vertices_of (suc d) bs) vertices
  pub in_weights : weights' ≡ onto (birth_weights_of (suc d) bs) weights
  pub in_shares : shares' ≡ onto (map (share_of R) (birth_weights_of (suc d) bs)) shares

-- the children's words stand in `names` and the births in keys, where `fresh` names them, and there is room to bring the refined cells into colex order
pub record Finishing (d R n m born : ℕ) (cells along pattern keys rows fresh names sorted firsts buckets : List ℕ) : Type 0 where
  pub refining : Refining d R n m along cells pattern names
  pub few_cells : m * R ^ d ≤ most_cells
  pub few_vertices : n + born ≤ most_vertices
  pub named : m * R ^ d * suc d ≡ length names
  pub below : (i : ℕ) → i < length names → get_or names i 0 < n + born
  pub fresh_long : born ≤ length fresh
  pub inside : (b : ℕ) → b < born → get_or fresh b 0 * (suc d + suc d) + (suc d + suc d) ≤ length keys
  pub supports : Supports (suc d) n born (births d R n (cut (suc d) m along)) keys fresh
  pub sorted_long : length sorted ≡ length names
  pub rows_long : m * R ^ d ≤ length rows
  pub firsts_long : m * R ^ d ≤ length firsts
  pub buckets_long : n + born ≤ length buckets
  pub classes_long : m * R ^ d ≤ length buckets
