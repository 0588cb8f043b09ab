-- What a refinement needs of its ten working lists, and what becomes of them. Assumes nothing.
use Rattle.std.specs.Prelude.{Bool, true, false, ◌&&◌, List, ◌≡◌, ℕ, suc, ◌+◌, ◌*◌, ◌/◌, ◌^◌, ◌≤◌, ltb, length}
use Rattle.refusal.specs.Limits.{most_cells, most_refinement, row_most}
use Rattle.refusal.specs.Lent.{zeroed}
use Rattle.refine_lattice.specs.Children.{pick}
use Rattle.refine.specs.declared.Space.{Space}

-- R as the need counts it: 1 where 11 follows
abbrev pub counted : ℕ → ℕ
counted R = pick (ltb 0 R && ltb R (suc most_refinement)) R 1

-- how many children of m words there is room for: no more than the limit lets through
abbrev pub children_room : ℕ → ℕ → ℕ → ℕ
children_room d m R = pick (ltb most_cells (m * counted R ^ d)) most_cells (m * counted R ^ d)

-- where c is the number of children and n the number of corners of the words
abbrev pub space_for : ℕ → ℕ → ℕ → Space
space_for d n c =
    record {
      cells = n;
      along = n;
      pattern = c * suc d * suc d;
      keys = 4 * n + 2 * row_most * (c * suc d);
      rows = n + c * suc d;
      spare = n + c * suc d;
      counts = n + c * suc d + suc most_refinement;
      sorted = c * suc d;
      firsts = c;
      buckets = n + c * suc d;
    }

-- what a refinement by R of words with n corners needs
abbrev pub space_of : ℕ → ℕ → ℕ → Space
space_of d n R = space_for d n (children_room d (n / suc d) R)

-- nothing of any list
abbrev pub unused : Space
unused = record { cells = 0; along = 0; pattern = 0; keys = 0; rows = 0; spare = 0; counts = 0; sorted = 0; firsts = 0; buckets = 0 }

-- the lengths of the ten working lists
abbrev pub lent : List ℕ → List ℕ → List ℕ → List ℕ → List ℕ → List ℕ → List ℕ → List ℕ → List ℕ → List ℕ → Space
lent cells along pattern keys rows spare counts sorted firsts buckets =
    record {
      cells = length cells;
      along = length along;
      pattern = length pattern;
      keys = length keys;
      rows = length rows;
      spare = length spare;
      counts = length counts;
      sorted = length sorted;
      firsts = length firsts;
      buckets = length buckets;
    }

-- lists of these lengths have that room
pub record Enough (need have : Space) : Type 0 where
  pub in_cells : need.cells ≤ have.cells
  pub in_along : need.along ≤ have.along
  pub in_pattern : need.pattern ≤ have.pattern
  pub in_keys : need.keys ≤ have.keys
  pub in_rows : need.rows ≤ have.rows
  pub in_spare : need.spare ≤ have.spare
  pub in_counts : need.counts ≤ have.counts
  pub in_sorted : need.sorted ≤ have.sorted
  pub in_firsts : need.firsts ≤ have.firsts
  pub in_buckets : need.buckets ≤ have.buckets

-- the test of the working lists' lengths
pub record IsEnough (need have : Space) (r : Bool) : Type 0 where
  pub yes : r ≡ true → Enough need have
  pub no : r ≡ false → Enough need have → ⊥

-- the ten working lists afterwards: what is used of each is all zero, and the rest is as it was
pub record Emptied (used : Space) (cells cells' along along' pattern pattern' keys keys' rows rows' spare spare' counts counts' sorted sorted' firsts firsts' buckets buckets' : List ℕ) : Type 0 where
  pub of_cells : cells' ≡ zeroed used.cells cells
  pub of_along : along' ≡ zeroed used.along along
  pub of_pattern : pattern' ≡ zeroed used.pattern pattern
  pub of_keys : keys' ≡ zeroed used.keys keys
  pub of_rows : rows' ≡ zeroed used.rows rows
  pub of_spare : spare' ≡ zeroed used.spare spare
  pub of_counts : counts' ≡ zeroed used.counts counts
  pub of_sorted : sorted' ≡ zeroed used.sorted sorted
  pub of_firsts : firsts' ≡ zeroed used.firsts firsts
  pub of_buckets : buckets' ≡ zeroed used.buckets buckets
