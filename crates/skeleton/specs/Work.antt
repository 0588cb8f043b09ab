-- What the inner functions ask of their lists and give. Assumes nothing.
use Rattle.refusal.specs.Says.{Counted}
use Rattle.std.specs.Prelude.{Bool, true, false, List, [], ◌≡◌, ℕ, suc, ◌*◌, ◌<◌, ◌≤◌, length}
use Rattle.refusal.specs.declared.Room.{Room}
use Rattle.refusal.specs.Lent.{onto, lengths, Roomy}
use Rattle.complex.specs.Check.{Passed}
use Rattle.complex.specs.Cells.{cells_of}
use Rattle.complex.specs.Facets.{Crowded}
use Rattle.complex.specs.Skeleton.{facets_of}
use Rattle.skeleton.specs.declared.Beside.{Beside}
use Rattle.skeleton.specs.Parts.{width_of}
use Rattle.skeleton.specs.Promise.{Gives, GivesBoth, Ends}

-- a checked word list, and that room
pub record Working (need : Room) (d : ℕ) (ws keys rows spare counts : List ℕ) : Type 0 where
  pub passed : Passed d ws
  pub room : Roomy need (lengths keys rows spare counts)

-- whether no facet lies in three or more cells
pub record Sound (d : ℕ) (ws : List ℕ) (r : Bool) : Type 0 where
  pub yes : r ≡ true → Crowded d (cells_of d ws) → ⊥
  pub no : r ≡ false → Crowded d (cells_of d ws)

-- the words are handed out, or the result list is too short for them
pub record Handed (words : List (List ℕ)) (r : Counted) (out out' : List ℕ) : Type 0 where
  pub handed : List ℕ
  pub gives : Gives words (length out) r handed
  pub result : out' ≡ onto handed out

-- the same, after 7
pub record Worked (d : ℕ) (ws : List ℕ) (words : List (List ℕ)) (r : Counted) (out out' : List ℕ) : Type 0 where
  pub handed : List ℕ
  pub ends : Ends [] d (cells_of d ws) (Gives words (length out)) r handed
  pub result : out' ≡ onto handed out

-- what writing beside f facets asks: k rows a cell, the facets' lowest rows and their other rows
pub record Besides (beside : Beside) (d k f : ℕ) (reps others list : List ℕ) : Type 0 where
  pub some : 0 < f → 0 < k
  pub few : k ≤ suc d
  pub dim : d < 4294967295
  pub in_reps : f ≤ length reps
  pub in_others : f ≤ length others
  pub room : f * width_of beside ≤ length list

-- the facets and what stands beside them, after 7
pub record WorkedBoth (beside : List ℕ) (d : ℕ) (ws : List ℕ) (r : Counted) (out out' list list' : List ℕ) : Type 0 where
  pub handed : List ℕ × List ℕ
  pub ends : Ends ([], []) d (cells_of d ws) (GivesBoth (facets_of d (cells_of d ws)) beside (length out) (length list)) r handed
  pub result : out' ≡ onto handed.0 out
  pub sides : list' ≡ onto handed.1 list
