-- What the program `bandsum` prints (document 01, "Figures to check by"). Assumes nothing.
use Rattle.std.specs.Prelude.{ℕ, Bool, cond, List, [], ◌∷◌, ◌++◌}
use Rattle.text.specs.Decimal.{line_of}
use Rattle.bandsum_lines.specs.declared.Summary.{Summary}

-- the words, each with a space after it
abbrev pub cells_word : List ℕ
cells_word = 99 ∷ 101 ∷ 108 ∷ 108 ∷ 115 ∷ 32 ∷ []

abbrev pub vertices_word : List ℕ
vertices_word = 118 ∷ 101 ∷ 114 ∷ 116 ∷ 105 ∷ 99 ∷ 101 ∷ 115 ∷ 32 ∷ []

abbrev pub edges_word : List ℕ
edges_word = 101 ∷ 100 ∷ 103 ∷ 101 ∷ 115 ∷ 32 ∷ []

abbrev pub border_word : List ℕ
border_word = 98 ∷ 111 ∷ 114 ∷ 100 ∷ 101 ∷ 114 ∷ 32 ∷ []

abbrev pub sides_word : List ℕ
sides_word = 115 ∷ 105 ∷ 100 ∷ 101 ∷ 115 ∷ 32 ∷ []

abbrev pub refused_word : List ℕ
refused_word = 114 ∷ 101 ∷ 102 ∷ 117 ∷ 115 ∷ 101 ∷ 100 ∷ 32 ∷ []

-- the last line: `ordered yes` or `ordered no`
abbrev pub ordered_line : Bool → List ℕ
ordered_line told =
    cond told (111 ∷ 114 ∷ 100 ∷ 101 ∷ 114 ∷ 101 ∷ 100 ∷ 32 ∷ 121 ∷ 101 ∷ 115 ∷ 10 ∷ [])
    (111 ∷ 114 ∷ 100 ∷ 101 ∷ 114 ∷ 101 ∷ 100 ∷ 32 ∷ 110 ∷ 111 ∷ 10 ∷ [])

-- the six lines
abbrev pub lines_of : Summary → List ℕ
lines_of s =
    line_of cells_word s.cells ++ (line_of vertices_word s.vertices ++ (line_of edges_word s.edges ++ (line_of border_word s.border ++ (line_of sides_word s.sides
    ++ ordered_line s.ordered))))

-- the one line of a refusal
abbrev pub refused_line : ℕ → List ℕ
refused_line n = line_of refused_word n
