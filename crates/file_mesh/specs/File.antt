-- The bytes of a mesh file. Assumes nothing.
use Rattle.std.specs.Prelude.{ℕ, zero, suc, ◌+◌, ◌*◌, List, [], ◌∷◌, ◌++◌, length, take, drop}
use Rattle.file_bytes.specs.Bytes.{little, fours}
use Rattle.file_mesh.specs.Mesh.{Mesh, cell_count}

-- the kinds: `src/lib.rt` has the same numbers
abbrev pub head_kind : ℕ
head_kind = 1

abbrev pub word_kind : ℕ
word_kind = 2

abbrev pub birth_kind : ℕ
birth_kind = 3

abbrev pub end_kind : ℕ
end_kind = 4

-- the lengths of the records: what follows the four bytes of the length
abbrev pub head_length : ℕ
head_length = 6

abbrev pub word_length : ℕ → ℕ
word_length d = 2 + (d + 1) * 4

abbrev pub birth_length : ℕ → ℕ
birth_length pairs = 10 + pairs * 6

abbrev pub end_length : ℕ
end_length = 2

-- a record: the length of what follows it in four bytes, a kind in two, and the rest
unfoldable pub record_of : ℕ → List ℕ → List ℕ
record_of kind rest = little 4 (2 + length rest) ++ (little 2 kind ++ rest)

-- kind 1: the dimension and the number of cells
unfoldable pub header_of : ℕ → ℕ → List ℕ
header_of d count = record_of head_kind (little 2 d ++ little 2 count)

-- kind 2: a word
unfoldable pub word_of : List ℕ → List ℕ
word_of w = record_of word_kind (fours w)

unfoldable pub words_of : ℕ → ℕ → List ℕ → List ℕ
words_of d zero ws = []
words_of d (suc count) ws = word_of (take (d + 1) ws) ++ words_of d count (drop (d + 1) ws)

-- kind 3: a birth
unfoldable pub pairs_of : List ℕ → List ℕ
pairs_of [] = []
pairs_of (v ∷ []) = []
pairs_of (v ∷ (w ∷ ps)) = little 4 v ++ (little 2 w ++ pairs_of ps)

unfoldable pub birth_of : ℕ → ℕ → ℕ → List ℕ → List ℕ
birth_of n r c ps = record_of birth_kind (little 4 n ++ (little 2 r ++ (little 2 c ++ pairs_of ps)))

unfoldable pub births_of : List ℕ → List ℕ → List ℕ
births_of [] ps = []
births_of (n ∷ []) ps = []
births_of (n ∷ (r ∷ [])) ps = []
births_of (n ∷ (r ∷ (c ∷ bs))) ps = birth_of n r c (take (c + c) ps) ++ births_of bs (drop (c + c) ps)

-- kind 4: the end
unfoldable pub end_of : List ℕ
end_of = record_of end_kind []

-- the record that opens the file of a mesh: the one place where its kind is chosen
abbrev pub head_of : Mesh → List ℕ
head_of m = header_of m.d (cell_count m)

-- the file of a mesh
unfoldable pub file_of : Mesh → List ℕ
file_of m = head_of m ++ (words_of m.d (cell_count m) m.words ++ (births_of m.births m.pairs ++ end_of))
