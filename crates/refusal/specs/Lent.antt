-- What becomes of lent lists. Assumes nothing.
use Rattle.std.specs.Prelude.{◌≡◌, Bool, true, false, ℕ, ◌≤◌, List, ◌++◌, length, drop, replicate}
use Rattle.refusal.specs.declared.Room.{Room}

-- a lent list with l stored from its start on: past l's length it keeps its values, and with l empty it is as it was
abbrev pub onto : {A : Type 0} → List A → List A → List A
onto l xs = l ++ drop (length l) xs

-- working space with its first n numbers zero: past n it keeps its values, and with n = 0 it is as it was
abbrev pub zeroed : ℕ → List ℕ → List ℕ
zeroed n xs = replicate n 0 ++ drop n xs

-- nothing of any of the four working lists
abbrev pub untouched : Room
untouched = record { keys = 0; rows = 0; spare = 0; counts = 0 }

-- the lengths of the four working lists
abbrev pub lengths : List ℕ → List ℕ → List ℕ → List ℕ → Room
lengths keys rows spare counts = record { keys = length keys; rows = length rows; spare = length spare; counts = length counts }

-- lists of these lengths have that room
pub record Roomy (need have : Room) : Type 0 where
  pub in_keys : need.keys ≤ have.keys
  pub in_rows : need.rows ≤ have.rows
  pub in_spare : need.spare ≤ have.spare
  pub in_counts : need.counts ≤ have.counts

-- the test of the working lists' lengths
pub record HasRoom (need have : Room) (r : Bool) : Type 0 where
  pub yes : r ≡ true → Roomy need have
  pub no : r ≡ false → Roomy need have → ⊥

-- the four working lists afterwards: what is used of each is all zero, and the rest is as it was
pub record Cleared (used : Room) (keys keys' rows rows' spare spare' counts counts' : List ℕ) : Type 0 where
  pub of_keys : keys' ≡ zeroed used.keys keys
  pub of_rows : rows' ≡ zeroed used.rows rows
  pub of_spare : spare' ≡ zeroed used.spare spare
  pub of_counts : counts' ≡ zeroed used.counts counts
