-- What the crate promises: the words of the children and the births of a complex refined by R. Assumes nothing.
use Rattle.std.specs.Prelude.{◌≡◌, List, [], map, ℕ, suc, ◌+◌, ◌*◌, ◌^◌, ◌≤◌, ◌<◌, length, get_or, take}
use Rattle.lists.specs.Rows.{flat, row}
use Rattle.refine_lattice.specs.Pattern.{pattern_of}
use Rattle.refine_lattice.specs.Refine.{births, words}
use Rattle.lists.specs.Words.{none}
use Rattle.refine_births.specs.Support.{supporters, shares, padded, row_of, Named}

-- the vertices of the births, one row of `size` numbers each: those of the support, rising, then none
abbrev pub birth_vertices_of : ℕ → List (List ℕ) → List ℕ
birth_vertices_of size bs = flat (map (λ l. padded size none (supporters 0 l)) bs)

-- their shares over R, then 0
abbrev pub birth_weights_of : ℕ → List (List ℕ) → List ℕ
birth_weights_of size bs = flat (map (λ l. padded size 0 (shares l)) bs)

-- what `resolve` asks: m words of d + 1 vertices below n, the pattern's p rows of d + 1 weights, and room
pub record Resolving (d R n m p : ℕ) (words pattern keys rows spare counts : List ℕ) : Type 0 where
  pub dim : suc d < none
  pub long : m * suc d ≤ length words
  pub below : (i : ℕ) → i < m * suc d → get_or words i 0 < n
  pub corners : p ≡ R ^ d * suc d
  pub reads : take (p * suc d) pattern ≡ flat (pattern_of d R)
  pub few : n + R + m * p < none
  pub keys_long : m * p * (suc d + suc d) ≤ length keys
  pub rows_long : m * p ≤ length rows
  pub spare_long : m * p ≤ length spare
  pub counts_long : m * p ≤ length counts
  pub buckets : n + R + 1 ≤ length counts

-- the rows that `fresh` names in keys are those of the births `bs`
pub record Supports (size n count : ℕ) (bs : List (List ℕ)) (keys fresh : List ℕ) : Type 0 where
  pub long : length bs ≡ count
  pub sized : (b : ℕ) → b < count → length (get_or bs b []) ≡ n
  pub rows : (b : ℕ) → b < count → row keys (size + size) (get_or fresh b 0) ≡ row_of size n (get_or bs b [])

-- what writing count births asks of the lists
pub record Bearing (size count : ℕ) (keys fresh vertices weights : List ℕ) : Type 0 where
  pub small : size < none
  pub fresh_long : count ≤ length fresh
  pub inside : (b : ℕ) → b < count → get_or fresh b 0 * (size + size) + (size + size) ≤ length keys
  pub vertices_long : length vertices ≡ count * size
  pub weights_long : length weights ≡ count * size

-- the words of the children stand in `corners`, in visiting order, and the rows of the births where `fresh` says
pub record Resolved (d R n m p : ℕ) (ks : List (List ℕ)) (count : ℕ) (keys fresh corners : List ℕ) : Type 0 where
  pub most : count ≤ m * p
  pub reads : take (m * p) corners ≡ flat (words d R n ks)
  pub below : (b : ℕ) → b < count → get_or fresh b 0 < m * p
  pub supports : Supports (suc d) n count (births d R n ks) keys fresh

-- one birth is written from a row
pub record Born (n : ℕ) (row : List ℕ) (size : ℕ) (vertices weights : List ℕ) : Type 0 where
  pub vertices_long : length vertices ≡ size
  pub weights_long : length weights ≡ size
  pub vertex : (j : ℕ) → j < size → Named n (get_or row j 0) (get_or vertices j 0)
  pub weight : (j : ℕ) → j < size → get_or weights j 0 ≡ get_or row (size + j) 0
