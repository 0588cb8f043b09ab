-- Document 02, K11: given a set of cells to remove, keep the others with their words, and renumber vertices densely in their old order. Assumes nothing.
use Rattle.std.specs.Prelude.{Bool, false, not, ◌||◌, List, [], ◌∷◌, map, ℕ, suc, ◌+◌, leb, length}
use Rattle.lists.specs.Words.{among, largest_of, first_where, same_word}
use Rattle.lists.specs.Rows.{flat, rows}
use Rattle.multiindex.specs.Sort.{sort_word}
use Rattle.complex.specs.Cells.{cells_of}
use Rattle.complex.specs.Facets.{cell_at}
use Rattle.complex.specs.Skeleton.{numbers, keep}

-- which of the cells a word is: the first that is the word sorted
abbrev pub cell_number : List (List ℕ) → List ℕ → ℕ
cell_number cs w = first_where (λ c. same_word (cell_at cs c) (sort_word w)) (length cs)

-- the words whose cell does not go, in their order
abbrev pub staying : ℕ → List ℕ → List ℕ → List (List ℕ)
staying d ws gone = keep (λ w. not (among (cell_number (cells_of d ws) w) gone)) (rows (d + 1) ws)

-- the different numbers of a list, rising
abbrev pub in_use : List ℕ → List ℕ
in_use xs = numbers (λ v. among v xs) (suc (largest_of xs))

-- the new number of v: how many of the numbers in use are below it
abbrev pub new_number : List ℕ → ℕ → ℕ
new_number xs v = length (numbers (λ u. among u xs) v)

-- the vertices of the words that stay, by their old numbers
abbrev pub corners : ℕ → List ℕ → List ℕ → List ℕ
corners d ws gone = flat (staying d ws gone)

-- the words handed back, by their new numbers
abbrev pub kept_words : ℕ → List ℕ → List ℕ → List ℕ
kept_words d ws gone = map (new_number (corners d ws gone)) (corners d ws gone)

-- the old number for each new one
abbrev pub old_numbers : ℕ → List ℕ → List ℕ → List ℕ
old_numbers d ws gone = in_use (corners d ws gone)

-- whether the set names a cell that is not there, where there are m
unfoldable pub names_missing : ℕ → List ℕ → Bool
names_missing m [] = false
names_missing m (c ∷ gone) = leb m c || names_missing m gone

-- the numbers of the cells that do not go, rising
abbrev pub cells_left : List (List ℕ) → List ℕ → List ℕ
cells_left cs gone = numbers (λ c. not (among c gone)) (length cs)
