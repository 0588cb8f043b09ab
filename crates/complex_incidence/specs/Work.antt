-- What the inner functions ask of their lists and give: corners by vertex, and the index from them. Assumes nothing.
use Rattle.refusal.specs.Says.{Counted}
use Rattle.std.specs.Prelude.{Bool, true, false, List, [], ◌≡◌, ℕ, suc, ◌*◌, ◌<◌, ◌≤◌, length, get_or, take}
use Rattle.refusal.specs.Lent.{onto}
use Rattle.lists.specs.Tables.{upto}
use Rattle.lists.specs.Rows.{cut}
use Rattle.sorting.specs.Bucket.{bucket_sort, cell}
use Rattle.complex.specs.Cells.{cells_of}
use Rattle.complex.specs.Facets.{Cells}
use Rattle.skeleton.specs.Promise.{GivesBoth, Ends}
use Rattle.complex_faces.specs.Index.{index_of, starts_of, word_index}

-- how many of the first `long` corners have a vertex below v
abbrev pub corners_below : List ℕ → ℕ → ℕ → ℕ
corners_below corners long v = length (bucket_sort (cell corners 1 0) v (upto long))

-- the first `long` of the order are numbers of corners
pub record CornerOrder (long : ℕ) (corners order : List ℕ) : Type 0 where
  pub fits : long ≤ length order
  pub inside : (i : ℕ) → i < long → get_or order i 0 < length corners

-- whether place i is one of them and its vertex is below v
pub record IsBelow (v i long : ℕ) (corners order : List ℕ) (r : Bool) : Type 0 where
  pub yes : r ≡ true → (i < long) × (get_or corners (get_or order i 0) 0 < v)
  pub no : r ≡ false → i < long → v ≤ get_or corners (get_or order i 0) 0

-- and they stand by rising vertex, then by rising number
pub record ByVertex (vertices long : ℕ) (corners order : List ℕ) : Type 0 where
  pub ordered : CornerOrder long corners order
  pub few : long < 4294967296
  pub some : vertices < 4294967295
  pub sorted : take long order ≡ bucket_sort (cell corners 1 0) vertices (upto long)
  pub below : (i : ℕ) → i < long → get_or corners i 0 < vertices
  pub corners_long : long ≤ length corners

-- what sorting the corners in `rows` asks
pub record Sorting (long vertices : ℕ) (keys rows spare counts : List ℕ) : Type 0 where
  pub few : long < 4294967296
  pub some : vertices < 4294967295
  pub in_keys : long ≤ length keys
  pub in_rows : long ≤ length rows
  pub in_spare : long ≤ length spare
  pub buckets : vertices ≤ length counts
  pub below : (i : ℕ) → i < long → get_or rows i 0 < vertices

-- the corners are those of the cells, n a cell
pub record Handing (n long vertices : ℕ) (corners : List ℕ) (cs : List (List ℕ)) : Type 0 where
  pub d : ℕ
  pub size : n ≡ suc d
  pub all : long ≡ length cs * suc d
  pub same : cs ≡ cut (suc d) (length cs) corners
  pub cells : Cells d cs

-- the index of n vertices is handed out, or a result list is too short for it
pub record Handed (cs : List (List ℕ)) (n : ℕ) (r : Counted) (touching touching' starts starts' : List ℕ) : Type 0 where
  pub handed : List ℕ × List ℕ
  pub gives : GivesBoth (index_of cs n) (starts_of (index_of cs n)) (length touching) (length starts) r handed
  pub result : touching' ≡ onto handed.0 touching
  pub sides : starts' ≡ onto handed.1 starts

-- the same, after 7
pub record Worked (d : ℕ) (ws : List ℕ) (r : Counted) (touching touching' starts starts' : List ℕ) : Type 0 where
  pub handed : List ℕ × List ℕ
  pub ends : Ends ([], []) d (cells_of d ws) (GivesBoth (word_index d ws) (starts_of (word_index d ws)) (length touching) (length starts)) r handed
  pub result : touching' ≡ onto handed.0 touching
  pub sides : starts' ≡ onto handed.1 starts
