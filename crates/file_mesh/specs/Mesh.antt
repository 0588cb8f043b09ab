-- A mesh as the lists that the calls take and hand out. Assumes nothing.
use Rattle.std.specs.Prelude.{ℕ, suc, max, ◌+◌, ◌/◌, List, [], ◌∷◌, length}

-- the words are flat, d+1 vertices each; a birth is its number, R and its count of pairs; a pair is a vertex and a weight, and the pairs of one birth follow those of
-- the birth before it
pub record Mesh : Type 0 where
  pub d : ℕ
  pub words : List ℕ
  pub births : List ℕ
  pub pairs : List ℕ

-- how many cells, births and pairs its lists have
abbrev pub cell_count : Mesh → ℕ
cell_count m = length m.words / (m.d + 1)

abbrev pub birth_count : Mesh → ℕ
birth_count m = length m.births / 3

abbrev pub pair_count : Mesh → ℕ
pair_count m = length m.pairs / 2

-- one past the last vertex: 0 where there are no words
unfoldable pub past : List ℕ → ℕ
past [] = 0
past (v ∷ vs) = max (suc v) (past vs)
