-- What bringing the children's cells into colex order asks and gives. Assumes nothing.
use Rattle.std.specs.Prelude.{List, ◌≡◌, ℕ, ◌*◌, ◌^◌, ◌≤◌, ◌<◌, length, get_or}
use Rattle.sorting.specs.Bucket.{cell}
use Rattle.sorting.specs.Distinct.{Distinct}
use Rattle.multiindex.specs.Sort.{sort_words}

-- count words of n numbers below b, and room
pub record Arranging (n count b : ℕ) (words sorted order firsts buckets : List ℕ) : Type 0 where
  pub some : 0 < n
  pub whole : count * n ≡ length words
  pub low : (i : ℕ) → i < length words → get_or words i 0 < b
  pub few : count < 2 ^ 32
  pub sorted_long : length sorted ≡ length words
  pub order_long : count ≤ length order
  pub firsts_long : count ≤ length firsts
  pub buckets_long : b ≤ length buckets
  pub classes_long : count ≤ length buckets

-- `sorted` has the words sorted, and `firsts` the first word of each of the m different cells, in colex order
pub record Arranged (n count : ℕ) (words : List ℕ) (m : ℕ) (sorted firsts : List ℕ) : Type 0 where
  pub ids : List ℕ
  pub keys : sorted ≡ sort_words n count words
  pub distinct : Distinct (cell sorted n) n count m firsts ids
