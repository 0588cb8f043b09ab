-- Which row of one list is which row of another. Assumes nothing.
use Rattle.std.specs.Prelude.{List, ◌≡◌, ℕ, ◌≤◌, ◌<◌, length, get_or, take}
use Rattle.lists.specs.Rows.{row}

-- y is the number of the first row, from number `from` on, that is equal to r; the number of rows where there is none
pub record First (width : ℕ) (r among : List ℕ) (count from y : ℕ) : Type 0 where
  pub at_most : y ≤ count
  pub before : (k : ℕ) → from ≤ k → k < y → row among width k ≡ r → ⊥
  pub equal : y < count → row among width y ≡ r

-- y is the number of the one row that is equal to r; or it is no row's number
pub record Only (width : ℕ) (r among : List ℕ) (count y : ℕ) : Type 0 where
  pub at_most : y ≤ count
  pub equal : y < count → row among width y ≡ r
  pub no_other : y < count → (k : ℕ) → k < count → row among width k ≡ r → k ≡ y

-- row x is that row of the others whose number is names x, that one alone, and no two have one name
pub record Matched (width count : ℕ) (rows among names : List ℕ) : Type 0 where
  pub below : (x : ℕ) → x < count → get_or names x 0 < count
  pub equal : (x : ℕ) → x < count → row among width (get_or names x 0) ≡ row rows width x
  pub no_other : (x : ℕ) → x < count → (k : ℕ) → k < count → row among width k ≡ row rows width x → k ≡ get_or names x 0
  pub apart : (x y : ℕ) → x < y → y < count → get_or names x 0 ≡ get_or names y 0 → ⊥

-- the words with the names for the vertices stand at the front of the list, and every vertex has a name
pub record Renamed (names words renamed : List ℕ) : Type 0 where
  pub named : (i : ℕ) → i < length words → get_or words i 0 < length names
  pub renamed_at : (i : ℕ) → i < length words → get_or renamed i 0 ≡ get_or names (get_or words i 0) 0

-- the n vertices of one table are those of the other by their shares, each row 32, and the m words with their names are the other words, each in its vertex order
pub record Carried (width n m : ℕ) (words table fine-words fine : List ℕ) : Type 0 where
  pub names : List ℕ
  pub renamed : List ℕ
  pub places : List ℕ
  pub vertices : Matched 32 n table fine names
  pub words_renamed : Renamed (take n names) words renamed
  pub found : Matched width m renamed fine-words places
