-- How long the lists of a refinement must be, in the order of its parameters: result lists at most, and then what the call's own definition needs of the working lists. Assumes nothing.
use Rattle.std.specs.Prelude.{cond, List, [], ◌∷◌, ℕ, suc, ◌*◌, ◌/◌, min, ltb}
use Rattle.refusal.specs.Limits.{most_dimension, most_vertices, square_most}
use Rattle.refine.specs.declared.Space.{Space}
use Rattle.refine.specs.Space.{children_room, space_of}

-- the ten working lists
abbrev pub ten : Space → List ℕ
ten s =
    s.cells ∷ s.along ∷ s.pattern ∷ s.keys ∷ s.rows ∷ s.spare ∷ s.counts ∷ s.sorted ∷ s.firsts ∷ s.buckets ∷ []

-- the eight result lists of c children at most: cells and words, parents, Jacobians as floats and as whole numbers, and of the births vertices, weights and shares. No more
-- vertices are born than the children have corners, and no more than there may be.
abbrev pub eight : ℕ → ℕ → List ℕ → List ℕ
eight d c rest =
    c * suc d ∷ c * suc d ∷ c ∷ c * square_most ∷ c * square_most ∷ min (c * suc d) most_vertices * suc d ∷ min (c * suc d) most_vertices * suc d ∷ min (c * suc d) most_vertices * suc d ∷ rest

-- a refinement by R of words with n corners
abbrev pub refine_need : ℕ → ℕ → ℕ → List ℕ
refine_need d n R = eight d (children_room d (n / suc d) R) (ten (space_of d n R))

-- the pattern of one cell: none where the dimension is refused
unfoldable pub corners_need : ℕ → ℕ → List ℕ
corners_need d R = cond (ltb most_dimension d) 0 (children_room d 1 R * suc d * suc d) ∷ []
