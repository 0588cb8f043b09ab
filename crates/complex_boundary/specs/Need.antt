-- What the calls on faces need of their working lists. Assumes nothing.
use Rattle.std.specs.Prelude.{ℕ, zero, suc, ◌*◌, ◌/◌, max}
use Rattle.refusal.specs.declared.Room.{Room}
use Rattle.complex_descent.specs.Down.{per_cell}

-- the largest of f 0, f 1, .. f n
unfoldable pub most_up_to : (ℕ → ℕ) → ℕ → ℕ
most_up_to f zero = f zero
most_up_to f (suc n) = max (most_up_to f n) (f (suc n))

-- the vertices of the faces of one dimension of a cell, and the numbers of all their facets: the most that some dimension has
abbrev pub face_rows : ℕ → ℕ
face_rows d = most_up_to (λ e. per_cell d e * suc e) d

abbrev pub face_keys : ℕ → ℕ
face_keys d = max (suc d) (most_up_to (λ e. per_cell d e * suc e * e) d)

-- where n is the number of corners of the words
abbrev pub face_need : ℕ → ℕ → Room
face_need d n = record { keys = face_keys d * (n / suc d); rows = face_rows d * (n / suc d); spare = face_rows d * (n / suc d); counts = face_rows d * (n / suc d) }
