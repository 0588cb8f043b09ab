-- How much of a flat list is lent on where there is room for a number of records. Assumes nothing.
use Rattle.std.specs.Prelude.{ℕ, ◌*◌, ◌≤◌}

-- r numbers of `long`: five for each of n facets have room there exactly if they have room in the list and there are n records
pub record Shared (long room r : ℕ) : Type 0 where
  pub within : r ≤ long
  pub all : (n : ℕ) → n * 5 ≤ long → n ≤ room → n * 5 ≤ r
  pub few : (n : ℕ) → n * 5 ≤ r → n ≤ room
