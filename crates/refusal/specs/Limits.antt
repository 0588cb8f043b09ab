-- Document 01's limits, in one place: `src/lib.rt` has the same numbers as constants. Assumes nothing.
use Rattle.std.specs.Prelude.{ℕ, suc, ◌*◌}

abbrev pub most_dimension : ℕ
most_dimension = 3

abbrev pub most_cells : ℕ
most_cells = 4096

abbrev pub most_vertices : ℕ
most_vertices = 4096

abbrev pub most_refinement : ℕ
most_refinement = 64

-- the most numbers in a word, and in a square of numbers such as a Jacobian
abbrev pub row_most : ℕ
row_most = suc most_dimension

abbrev pub square_most : ℕ
square_most = most_dimension * most_dimension

-- the most corners of a cell list
abbrev pub most_corners : ℕ
most_corners = most_cells * row_most

-- more than any cell list has corners, and so little that 256 times as many stay below 2 ^ 32: what proofs and inner functions read of the limits
abbrev pub many_corners : ℕ
many_corners = 16777216

-- bandsum's and bandmap's own limits, which are document 01's whatever the library takes
abbrev pub band_dimension : ℕ
band_dimension = 3

abbrev pub band_cells : ℕ
band_cells = 4096

abbrev pub band_vertices : ℕ
band_vertices = 4096
