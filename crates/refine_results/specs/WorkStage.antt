-- What the refinement of words that stand in the working lists asks of these lists, and what it gives. Assumes nothing.
use Rattle.refusal.specs.declared.Refusal.{Refusal}
use Rattle.std.specs.Prelude.{List, ℕ, suc, ◌+◌, ◌*◌, ◌^◌, ◌≤◌, ℤ, Float, length, Result}
use Rattle.refusal.specs.Limits.{most_dimension, most_cells, most_vertices}
use Rattle.lists.specs.Rows.{cut}
use Rattle.refine_results.specs.declared.Refinement.{Refinement}
use Rattle.refine_results.specs.WorkFlat.{Along}
use Rattle.refine_results.specs.Results.{Results, lengths_of, Inside, Finishes, Stored}

-- room for c children of cells of dimension d with n vertices, refined by R
pub record Spacious (d R n c : ℕ) (pattern keys rows spare counts sorted firsts buckets : List ℕ) : Type 0 where
  pub pattern_long : R ^ d * (suc d * suc d) ≤ length pattern
  pub keys_long : c * suc d * (suc d + suc d) ≤ length keys
  pub rows_long : c * suc d ≤ length rows
  pub spare_long : c * suc d ≤ length spare
  pub counts_long : c * suc d ≤ length counts
  pub weights_long : n + R + 1 ≤ length counts
  pub sorted_long : c * suc d ≤ length sorted
  pub firsts_long : c ≤ length firsts
  pub buckets_long : n + c * suc d ≤ length buckets
  pub kinds_long : R ^ d * suc d ≤ length buckets

-- m cells stand in `cells` and their words in `along`, and there is room where the limits let the children through
pub record Ready (d R n m : ℕ) (cells along pattern keys rows spare counts sorted firsts buckets : List ℕ) : Type 0 where
  pub dim : d ≤ most_dimension
  pub few : m ≤ most_cells
  pub low : n ≤ most_vertices
  pub words_of : Along d n m along cells
  pub room : Inside R → m * R ^ d ≤ most_cells → Spacious d R n (m * R ^ d) pattern keys rows spare counts sorted firsts buckets

-- r is what is said, and a result list with ' is what it holds at exit
pub record Handed (d R n m : ℕ) (cells along : List ℕ) (r : Result Refinement Refusal) (out_cells out-cells' out_words out-words' parents parents' : List ℕ) (jacobians jacobians' : List Float) (wholes wholes' : List ℤ) (vertices vertices' weights weights' : List ℕ) (shares shares' : List Float) : Type 0 where
  pub handed : Results
  pub ends : Finishes d R n (cut (suc d) m cells) (cut (suc d) m along) (lengths_of out_cells out_words parents jacobians wholes vertices weights shares) r handed
  pub stored : Stored handed out_cells out-cells' out_words out-words' parents parents' jacobians jacobians' wholes wholes' vertices vertices' weights weights' shares shares'
