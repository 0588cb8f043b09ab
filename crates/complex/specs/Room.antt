-- What a call on a cell list needs of its working lists. Assumes nothing.
use Rattle.std.specs.Prelude.{ℕ, zero, suc, ◌*◌}
use Rattle.refusal.specs.declared.Room.{Room}

-- the keys of the facet rows: d numbers for each of the n corners of the words, and one where d = 0
abbrev pub key_room : ℕ → ℕ → ℕ
key_room zero n = n
key_room (suc d) n = suc d * n

-- where n is the number of corners of the words
abbrev pub need_of : ℕ → ℕ → Room
need_of d n = record { keys = key_room d n; rows = n; spare = n; counts = n }
