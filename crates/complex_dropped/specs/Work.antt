-- What the inner functions of `drop_cells` ask and give, in lists of just the lengths that are needed. Assumes nothing.
use Rattle.complex_dropped.specs.Says.{Dropping, kept_of}
use Rattle.refusal.specs.declared.Refusal.TheVariants.{TooShort}
use Rattle.std.specs.Prelude.{Err}
use Rattle.std.specs.Prelude.{true, not, List, ◌++◌, map, ◌≡◌, ℕ, ◌+◌, ◌*◌, ◌/◌, ◌<◌, ◌≤◌, ◌^◌, eqb, length, get_or, take, drop}
use Rattle.lists.specs.Rows.{row}
use Rattle.refusal.specs.Lent.{onto}
use Rattle.lists.specs.Words.{among}
use Rattle.complex.specs.Check.{Passed}
use Rattle.complex.specs.Room.{key_room}
use Rattle.complex.specs.Cells.{cells_of}
use Rattle.complex.specs.Skeleton.{numbers}
use Rattle.complex_dropped.specs.Kept.{cell_number, staying, corners, in_use, new_number}
use Rattle.complex_dropped.specs.Promise.{Lists, Present, Ends}

-- the numbers are below n
abbrev pub Within : List ℕ → ℕ → Type 0
Within xs n = (i : ℕ) → i < length xs → get_or xs i 0 < n

-- each word's cell
abbrev pub WordCells : ℕ → List ℕ → List ℕ → Type 0
WordCells d ws ids = (k : ℕ) → k < length ws / (d + 1) → get_or ids k 0 ≡ cell_number (cells_of d ws) (row ws (d + 1) k)

-- what the list of the words that stay asks
pub record Staying (count : ℕ) (ids marks list : List ℕ) : Type 0 where
  pub few : count < 2 ^ 32
  pub ids_long : count ≤ length ids
  pub list_long : count ≤ length list
  pub below : (k : ℕ) → k < count → get_or ids k 0 < length marks

-- the marked places are listed, and each mark is replaced by how many are below it
pub record Numbered (marks places : List ℕ) (r : ℕ) (marks' places' : List ℕ) : Type 0 where
  pub many : r ≡ length (numbers (λ v. not (eqb (get_or marks v 0) 0)) (length marks))
  pub listed : places' ≡ numbers (λ v. not (eqb (get_or marks v 0) 0)) (length marks) ++ drop r places
  pub each : (v : ℕ) → v < length marks → not (eqb (get_or marks v 0) 0) ≡ true → get_or marks' v 0 ≡ length (numbers (λ u. not (eqb (get_or marks u 0) 0)) v)

-- a checked word list, and lists of just the lengths that are needed
pub record Working (d : ℕ) (ws keys rows spare counts : List ℕ) : Type 0 where
  pub passed : Passed d ws
  pub keys_long : length keys ≡ key_room d (length ws)
  pub rows_long : length rows ≡ length ws
  pub spare_long : length spare ≡ length ws
  pub counts_long : length counts ≡ length ws

-- where neither 7 nor 23 applies
pub record Gathering (d : ℕ) (ws gone keys rows spare counts : List ℕ) : Type 0 where
  pub working : Working d ws keys rows spare counts
  pub present : Present d ws gone
  pub few_cells : length (cells_of d ws) ≤ length ws

-- r words stay, and they stand at the front of keys
pub record Gathered (d : ℕ) (ws gone : List ℕ) (r : ℕ) (keys : List ℕ) : Type 0 where
  pub many : r ≡ length (staying d ws gone)
  pub front : take (r * (d + 1)) keys ≡ corners d ws gone
  pub fits : r * (d + 1) ≤ length ws

pub record Numbering (xs rows spare : List ℕ) : Type 0 where
  pub low : Within xs (length spare)
  pub rows_long : length spare ≤ length rows
  pub few : length spare < 2 ^ 32

-- the new number of each vertex of xs, and the old number for each of the r new ones
pub record Renumbered (xs : List ℕ) (r : ℕ) (rows spare : List ℕ) : Type 0 where
  pub many : r ≡ length (in_use xs)
  pub old : take r rows ≡ in_use xs
  pub most : r ≤ length rows
  pub new : (v : ℕ) → among v xs ≡ true → get_or spare v 0 ≡ new_number xs v

pub record Handing (n : ℕ) (xs new old : List ℕ) : Type 0 where
  pub low : Within xs (length new)
  pub named : (v : ℕ) → among v xs ≡ true → get_or new v 0 ≡ new_number xs v
  pub few : n < 2 ^ 32
  pub few_old : length old < 2 ^ 32

-- n words with these corners are handed out by their new numbers, with the old numbers, or a result list is too short
pub data HandedOut (n : ℕ) (xs places : List ℕ) (kept old : List ℕ) : Dropping → List ℕ → List ℕ → Type 0 where
  no_room : (length xs ≤ length kept → length places ≤ length old → ⊥) → HandedOut n xs places kept old (Err TooShort) kept old
  all_out : {kept' old' : List ℕ} → length xs ≤ length kept → length places ≤ length old → kept' ≡ onto (map (new_number xs) xs) kept → old' ≡ onto places old →
      HandedOut n xs places kept old (kept_of n (length places)) kept' old'

-- the call on the cells, and the result lists afterwards
pub record Worked (d : ℕ) (ws gone : List ℕ) (r : Dropping) (kept kept' old old' : List ℕ) : Type 0 where
  pub handed : Lists
  pub ends : Ends d ws gone (length kept) (length old) r handed
  pub in_kept : kept' ≡ onto handed.words kept
  pub in_old : old' ≡ onto handed.old old
