-- How long the lists of the calls on mesh files must be, in the order of their parameters: result lists at most, and then what the call's own definition needs of the working lists. Assumes nothing.
use Rattle.std.specs.Prelude.{cond, List, [], ◌∷◌, ℕ, suc, ◌+◌, ◌*◌, ◌/◌, ltb}
use Rattle.refusal.specs.Limits.{most_dimension, most_vertices, most_refinement}
use Rattle.complex.specs.Room.{need_of}
use Rattle.needs.specs.Needs.{lists}

-- the most bytes that the births of a mesh take: fourteen each, and six for each of their pairs
abbrev pub most_birth_bytes : ℕ
most_birth_bytes = (14 + 6 * most_refinement) * most_vertices

-- the numbers of a list of births or pairs that a call can come to write: none where the births of no mesh have as many
unfoldable pub within : ℕ → ℕ
within n = cond (ltb most_birth_bytes n) 0 n

-- the file of words with n corners and of births and pairs with so many numbers
abbrev pub written_need : ℕ → ℕ → ℕ → ℕ → List ℕ
written_need d n births pairs = (16 + n / suc d * (10 + 4 * d) + within births / 3 * 14 + within pairs / 2 * 6) ∷ lists (need_of d n)

-- the lists of a file of so many bytes; its dimension is not known yet
abbrev pub read_need : ℕ → List ℕ
read_need bytes = bytes / 4 ∷ bytes / 8 ∷ bytes / 3 ∷ most_dimension * (bytes / 4) ∷ bytes / 4 ∷ bytes / 4 ∷ bytes / 4 ∷ []
