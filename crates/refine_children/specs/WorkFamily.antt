-- The children by number, where size children go to a parent: child x has its parent's number x / size, and x % size is its place in the pattern. Assumes nothing.
use Rattle.std.specs.Prelude.{List, [], ◌++◌, ℕ, zero, suc, ◌+◌, ◌*◌, ◌/◌, ◌%◌, ◌≤◌, ◌<◌, ℤ, Float, length, get_or}
use Rattle.lists.specs.Rows.{row}
use Rattle.refine_jacobian.specs.Entries.{whole_of, float_of}
use Rattle.refine_jacobian.specs.WorkWeights.{weight_of, Seated}

-- the lists `f 0`, `f 1`, .. `f (m - 1)`, one after the other
abbrev pub joined : {A : Type 0} → ℕ → (ℕ → List A) → List A
joined zero f = []
joined (suc m) f = joined m f ++ f m

-- The weights of child x: its corners in the pattern, its word in `words`, its parent's word in `along`.
abbrev pub weights_at : ℕ → ℕ → List ℕ → List ℕ → List ℕ → ℕ → ℕ → ℕ → ℕ
weights_at d size pattern words along x = weight_of (row pattern (suc d * suc d) (x % size)) (row words (suc d) x) (row along (suc d) (x / size))

-- its Jacobian, where `sorted` has the children's sorted words and `cells` the parents'
abbrev pub whole_at : ℕ → ℕ → List ℕ → List ℕ → List ℕ → List ℕ → List ℕ → ℕ → List ℤ
whole_at d size pattern words sorted along cells x = whole_of d (weights_at d size pattern words along x) (row cells (suc d) (x / size)) (row sorted (suc d) x)

abbrev pub float_at : ℕ → ℕ → ℕ → List ℕ → List ℕ → List ℕ → List ℕ → List ℕ → ℕ → List Float
float_at d R size pattern words sorted along cells x = float_of d R (weights_at d size pattern words along x) (row cells (suc d) (x / size)) (row sorted (suc d) x)

-- child x sits in its parent, and the lists reach so far
pub record Family (d size : ℕ) (pattern words sorted along cells : List ℕ) (x : ℕ) : Type 0 where
  pub some : 0 < size
  pub seated : Seated d (row pattern (suc d * suc d) (x % size)) (row words (suc d) x) (row along (suc d) (x / size)) (row cells (suc d) (x / size)) (row sorted (suc d) x)
  pub in_pattern : suc (x % size) * (suc d * suc d) ≤ length pattern
  pub in_words : suc x * suc d ≤ length words
  pub in_sorted : suc x * suc d ≤ length sorted
  pub in_along : suc (x / size) * suc d ≤ length along
  pub in_cells : suc (x / size) * suc d ≤ length cells

-- the first m of `firsts` name such children
pub record Families (d size m : ℕ) (firsts pattern words sorted along cells : List ℕ) : Type 0 where
  pub long : m ≤ length firsts
  pub each : (i : ℕ) → i < m → Family d size pattern words sorted along cells (get_or firsts i 0)
