-- The numbers of visits that stand in classes, one class for one point. Assumes nothing.
use Rattle.std.specs.Prelude.{◌≡◌, List, [], ℕ, ◌+◌, ◌*◌, ◌≤◌, ◌<◌, length, get_or}
use Rattle.lists.specs.Rows.{row}
use Rattle.sorting.specs.Order.{Table}
use Rattle.refine_lattice.specs.Refine.{positives, births_from, number}
use Rattle.lists.specs.Words.{none}
use Rattle.refine_births.specs.Support.{row_of}

-- what telling the classes of `many` rows of numbers below b asks
pub record Classing (stride many b : ℕ) (keys rows spare counts : List ℕ) : Type 0 where
  pub table : Table keys stride many b
  pub rows_long : many ≤ length rows
  pub spare_long : many ≤ length spare
  pub counts_long : many ≤ length counts
  pub buckets : b ≤ length counts

-- two rows are in one class exactly where they are equal
pub record Classed (stride many : ℕ) (keys classes : List ℕ) : Type 0 where
  pub below : (x : ℕ) → x < many → get_or classes x 0 < many
  pub one : (x y : ℕ) → x < many → y < many → get_or classes x 0 ≡ get_or classes y 0 → row keys stride x ≡ row keys stride y
  pub apart : (x y : ℕ) → x < many → y < many → row keys stride x ≡ row keys stride y → get_or classes x 0 ≡ get_or classes y 0

-- what numbering asks of the lists: classes below the length of their numbers, none of which has a number yet
pub record Numbering (size n many : ℕ) (keys numbers fresh classes : List ℕ) : Type 0 where
  pub some : 0 < size
  pub small : size < none
  pub few : n + many < none
  pub room : many * (size + size) ≤ length keys
  pub fresh_long : many ≤ length fresh
  pub long : many ≤ length classes
  pub below : (x : ℕ) → x < many → get_or classes x 0 < length numbers
  pub blank : (c : ℕ) → c < length numbers → get_or numbers c 0 ≡ none

-- `points` are the points of the visits: their rows stand in keys, and two are in one class exactly where they are equal
pub record Told (size n many : ℕ) (points : List (List ℕ)) (keys classes : List ℕ) : Type 0 where
  pub long : length points ≡ many
  pub sized : (x : ℕ) → x < many → length (get_or points x []) ≡ n
  pub fits : (x : ℕ) → x < many → positives (get_or points x []) ≤ size
  pub rows : (x : ℕ) → x < many → row keys (size + size) x ≡ row_of size n (get_or points x [])
  pub one : (x y : ℕ) → x < many → y < many → get_or classes x 0 ≡ get_or classes y 0 → get_or points x [] ≡ get_or points y []
  pub apart : (x y : ℕ) → x < many → y < many → get_or points x [] ≡ get_or points y [] → get_or classes x 0 ≡ get_or classes y 0

-- the visits are numbered: `fresh` names the first visit of each birth, and `corners` has the number of each visit
pub record Numbered (n : ℕ) (points : List (List ℕ)) (count : ℕ) (fresh corners : List ℕ) : Type 0 where
  pub many : count ≡ length (births_from [] points)
  pub below : (b : ℕ) → b < count → get_or fresh b 0 < length points
  pub born : (b : ℕ) → b < count → get_or (births_from [] points) b [] ≡ get_or points (get_or fresh b 0) []
  pub done : (x : ℕ) → x < length points → get_or corners x 0 ≡ number n (births_from [] points) (get_or points x [])
