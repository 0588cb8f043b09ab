-- The weights of a child's corners as they stand in the pattern, and what the Jacobian's functions ask. Assumes nothing.
use Rattle.std.specs.Prelude.{List, [], ◌∷◌, ◌≡◌, ℕ, zero, suc, ◌+◌, ◌*◌, ◌≤◌, ◌<◌, eqb, length, get_or}
use Rattle.refusal.specs.Limits.{most_dimension}
use Rattle.lists.specs.Words.{found_at}

-- where v stands in the word; its length, where it is not there
unfoldable pub place_of : List ℕ → ℕ → ℕ
place_of [] v = zero
place_of (x ∷ w) v = found_at (eqb x v) (place_of w v)

-- The weight of vertex v of the parent's word in vertex x of the child's word `names`. The child's corners stand one after the other, each by its weights over the
-- places of the parent's word.
abbrev pub weight_of : List ℕ → List ℕ → List ℕ → ℕ → ℕ → ℕ
weight_of corners names word x v = get_or corners (place_of names x * length word + place_of word v) 0

-- a child in its parent: its corners' weights, its word and its sorted vertices, the parent's word and its sorted vertices
pub record Seated (d : ℕ) (corners names word parent cell : List ℕ) : Type 0 where
  pub dim : d ≤ most_dimension
  pub corners_long : length corners ≡ suc d * suc d
  pub small : (i : ℕ) → i < length corners → get_or corners i 0 < 2147483648
  pub names_long : length names ≡ suc d
  pub word_long : length word ≡ suc d
  pub parent_long : length parent ≡ suc d
  pub cell_long : length cell ≡ suc d
  pub named : (j : ℕ) → j ≤ d → place_of names (get_or cell j 0) ≤ d
  pub worded : (l : ℕ) → l ≤ d → place_of word (get_or parent l 0) ≤ d

-- a corner's weight, found by the places of the two vertices: seats and slots have them for the child's and for the parent's sorted vertices
abbrev pub entry_at : ℕ → List ℕ → List ℕ → List ℕ → ℕ → ℕ → ℕ
entry_at d corners seats slots j l = get_or corners (get_or seats j 0 * suc d + get_or slots l 0) 0

-- the weights of d + 1 corners, and places within them
pub record Placed (d : ℕ) (corners seats slots : List ℕ) : Type 0 where
  pub dim : d ≤ most_dimension
  pub corners_long : length corners ≡ suc d * suc d
  pub small : (i : ℕ) → i < length corners → get_or corners i 0 < 2147483648
  pub seat : (j : ℕ) → j ≤ d → get_or seats j 0 ≤ d
  pub slot : (l : ℕ) → l ≤ d → get_or slots l 0 ≤ d
