-- How long the lists of a call must be, in the order of its parameters: result lists at most, and then what the call's own definition needs of the working lists. Assumes nothing.
use Rattle.std.specs.Prelude.{List, ◌∷◌, ℕ, suc, ◌*◌, ◌/◌}
use Rattle.complex.specs.Room.{key_room, need_of}
use Rattle.complex_facets.specs.Records.{record_need}
use Rattle.skeleton.specs.Parts.{edge_need}
use Rattle.ordering.specs.Promise.{order_need}
use Rattle.needs.specs.Needs.{lists}

-- each on words with n corners: cells
abbrev pub cells_need : ℕ → ℕ → List ℕ
cells_need d n = n ∷ lists (need_of d n)

-- edges
abbrev pub edges_need : ℕ → ℕ → List ℕ
edges_need d n = key_room d n ∷ lists (edge_need d n)

-- facets, and the table of their cells
abbrev pub facets_need : ℕ → ℕ → List ℕ
facets_need d n = d * n ∷ 4 * n ∷ lists (need_of d n)

-- the border
abbrev pub border_need : ℕ → ℕ → List ℕ
border_need d n = d * n ∷ lists (need_of d n)

-- signs
abbrev pub signs_need : ℕ → ℕ → List ℕ
signs_need d n = n / suc d ∷ lists (record_need n)

-- a caller's own signs: no result list
abbrev pub plain_need : ℕ → List ℕ
plain_need n = lists (record_need n)

-- the words of an order by cell
abbrev pub ordered_need : ℕ → List ℕ
ordered_need n = n ∷ lists (order_need n)

-- the signs of an order's words: no result list
abbrev pub turns_need : ℕ → List ℕ
turns_need n = lists (order_need n)
