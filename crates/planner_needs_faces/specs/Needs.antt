-- How long the lists of a call must be, in the order of its parameters: result lists at most, and then what the call's own definition needs of the working lists. Assumes nothing.
use Rattle.std.specs.Prelude.{List, ◌∷◌, ℕ, suc, ◌+◌, ◌*◌}
use Rattle.complex.specs.Room.{need_of}
use Rattle.complex_boundary.specs.Need.{face_need}
use Rattle.needs.specs.Needs.{lists}

-- each on words with n corners: where each vertex's cells start and, last, where they end, and the cells of all vertices
abbrev pub index_need : ℕ → ℕ → List ℕ
index_need d n = suc n ∷ n ∷ lists (need_of d n)

-- the faces of one dimension: no more numbers than the rows have
abbrev pub faces_need : ℕ → ℕ → List ℕ
faces_need d n = (face_need d n).rows ∷ lists (face_need d n)

-- the entries of a boundary operator: a sign, a face and a coface each
abbrev pub boundary_need : ℕ → ℕ → List ℕ
boundary_need d n = (face_need d n).rows ∷ (face_need d n).rows ∷ (face_need d n).rows ∷ lists (face_need d n)

-- the same as a file: its two first lines, and one line an entry
abbrev pub market_need : ℕ → ℕ → List ℕ
market_need d n = (83 + 34 * (face_need d n).rows) ∷ lists (face_need d n)

-- the words that stay, and the old numbers of their vertices
abbrev pub dropped_need : ℕ → ℕ → List ℕ
dropped_need d n = n ∷ n ∷ lists (need_of d n)
