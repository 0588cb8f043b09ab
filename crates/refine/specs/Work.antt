-- What the work of a refinement asks of its lists, of just the lengths that are needed, and what it gives. Assumes nothing.
use Rattle.refusal.specs.declared.Refusal.{Refusal}
use Rattle.std.specs.Prelude.{List, ◌≡◌, ℕ, ℤ, Float, length, replicate, Result}
use Rattle.complex.specs.Check.{Passed}
use Rattle.refine_results.specs.declared.Refinement.{Refinement}
use Rattle.refine_results.specs.Results.{Results, lengths_of, Stored}
use Rattle.refine.specs.Space.{space_of}
use Rattle.refine.specs.Promise.{Ends}

pub record Working (d : ℕ) (ws : List ℕ) (R : ℕ) (cells along pattern keys rows spare counts sorted firsts buckets : List ℕ) : Type 0 where
  pub passed : Passed d ws
  pub cells_long : length cells ≡ (space_of d (length ws) R).cells
  pub along_long : length along ≡ (space_of d (length ws) R).along
  pub pattern_long : length pattern ≡ (space_of d (length ws) R).pattern
  pub keys_long : length keys ≡ (space_of d (length ws) R).keys
  pub rows_long : length rows ≡ (space_of d (length ws) R).rows
  pub spare_long : length spare ≡ (space_of d (length ws) R).spare
  pub counts_long : length counts ≡ (space_of d (length ws) R).counts
  pub sorted_long : length sorted ≡ (space_of d (length ws) R).sorted
  pub firsts_long : length firsts ≡ (space_of d (length ws) R).firsts
  pub buckets_long : length buckets ≡ (space_of d (length ws) R).buckets

-- the call on checked words with room, and the result lists afterwards
pub record Worked (d : ℕ) (ws : List ℕ) (R : ℕ) (Ordered : Type 0) (ks : List (List ℕ)) (r : Result Refinement Refusal) (out_cells out-cells' out_words out-words' parents parents' : List ℕ) (jacobians jacobians' : List Float) (wholes wholes' : List ℤ) (vertices vertices' weights weights' : List ℕ) (shares shares' : List Float) : Type 0 where
  pub handed : Results
  pub ends : Ends d R ws Ordered ks (lengths_of out_cells out_words parents jacobians wholes vertices weights shares) r handed
  pub stored : Stored handed out_cells out-cells' out_words out-words' parents parents' jacobians jacobians' wholes wholes' vertices vertices' weights weights' shares shares'

-- ten lists made zero: each list with ' has as many zeros as the list before it had numbers
pub record AllTen (cells cells' along along' pattern pattern' keys keys' rows rows' spare spare' counts counts' sorted sorted' firsts firsts' buckets buckets' : List ℕ) : Type 0 where
  pub zero_cells : cells' ≡ replicate (length cells) 0
  pub zero_along : along' ≡ replicate (length along) 0
  pub zero_pattern : pattern' ≡ replicate (length pattern) 0
  pub zero_keys : keys' ≡ replicate (length keys) 0
  pub zero_rows : rows' ≡ replicate (length rows) 0
  pub zero_spare : spare' ≡ replicate (length spare) 0
  pub zero_counts : counts' ≡ replicate (length counts) 0
  pub zero_sorted : sorted' ≡ replicate (length sorted) 0
  pub zero_firsts : firsts' ≡ replicate (length firsts) 0
  pub zero_buckets : buckets' ≡ replicate (length buckets) 0
