-- Document 02, K13: a boundary operator as a Matrix Market file. Assumes nothing.
use Rattle.std.specs.Prelude.{List, [], ◌∷◌, ◌++◌, map, ℕ, ◌+◌, ◌-◌, length, ℤ, pos, negsuc}
use Rattle.lists.specs.Rows.{flat}
use Rattle.text.specs.Decimal.{decimal}
use Rattle.complex.specs.Cells.{cells_of}
use Rattle.complex_faces.specs.Faces.{faces_of}
use Rattle.complex_faces.specs.Entries.{Entry, entries_of}

-- %%MatrixMarket matrix coordinate integer general, and the line feed
abbrev pub head_word : List ℕ
head_word = 37 ∷ 37 ∷ 77 ∷ 97 ∷ 116 ∷ 114 ∷ 105 ∷ 120 ∷ 77 ∷ 97 ∷ 114 ∷ 107 ∷ 101 ∷ 116 ∷ 32 ∷ 109 ∷ 97 ∷ 116 ∷ 114 ∷ 105 ∷ 120 ∷ 32 ∷ 99 ∷ 111 ∷ 111 ∷ 114 ∷ 100 ∷ 105 ∷ 110 ∷ 97 ∷ 116 ∷ 101 ∷ 32 ∷ 105 ∷ 110 ∷ 116 ∷ 101 ∷ 103 ∷ 101 ∷ 114 ∷ 32 ∷ 103 ∷ 101 ∷ 110 ∷ 101 ∷ 114 ∷ 97 ∷ 108 ∷ 10 ∷ []

-- a text and one byte after it: 32 is the space and 10 the line feed
abbrev pub followed_by : List ℕ → ℕ → List ℕ
followed_by x b = x ++ (b ∷ [])

-- a line of three texts
abbrev pub line_of_three : List ℕ → List ℕ → List ℕ → List ℕ
line_of_three x y z = followed_by x 32 ++ (followed_by y 32 ++ followed_by z 10)

-- a whole number in decimal, with a minus (45) where it is below zero; negsuc n is -(n + 1)
abbrev pub signed_of : ℤ → List ℕ
signed_of (pos n) = decimal n
signed_of (negsuc n) = 45 ∷ decimal (n + 1)

-- face, coface and sign: rows and columns are counted from one
abbrev pub entry_line : Entry → List ℕ
entry_line e = line_of_three (decimal (e.face + 1)) (decimal (e.coface + 1)) (signed_of e.sign)

-- one line after the other
abbrev pub entry_lines : List Entry → List ℕ
entry_lines es = flat (map entry_line es)

-- a matrix of so many rows and columns: its first line, its sizes, and one line an entry
unfoldable pub matrix_file : ℕ → ℕ → List Entry → List ℕ
matrix_file rows columns es = head_word ++ (line_of_three (decimal rows) (decimal columns) (decimal (length es)) ++ entry_lines es)

-- the operator from the faces of dimension k to those of dimension k - 1: a row for each of these, and a column for each of those
abbrev pub market_of : ℕ → ℕ → List ℕ → List ℕ
market_of d k ws = matrix_file (length (faces_of (cells_of d ws) (k - 1))) (length (faces_of (cells_of d ws) k)) (entries_of (cells_of d ws) k)
