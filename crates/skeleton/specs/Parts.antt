-- The lists of words that a complex has, and what working room each call needs. Assumes nothing.
use Rattle.std.specs.Prelude.{List, ℕ, ◌*◌}
use Rattle.refusal.specs.declared.Room.{Room}
use Rattle.complex.specs.Room.{key_room, need_of}
use Rattle.complex.specs.Skeleton.{edges_of, border_of}
use Rattle.complex_facets.specs.Sides.{table_of}
use Rattle.complex_facets.specs.WorkSides.{fours}
use Rattle.complex_facets.specs.Records.{records_of}
use Rattle.complex_facets.specs.WorkRecords.{fives}
use Rattle.skeleton.specs.declared.Beside.{Beside}
use Rattle.skeleton.specs.declared.Beside.TheVariants.{Places, Signs}
use Rattle.skeleton.specs.declared.Part.{Part}
use Rattle.skeleton.specs.declared.Part.TheVariants.{Cells, Edges, Border}

-- the call `edges`, where n is the number of corners of the words
abbrev pub edge_need : ℕ → ℕ → Room
edge_need d n = record { keys = key_room d n * 2; rows = key_room d n; spare = key_room d n; counts = key_room d n }

-- a part's need, and its words
abbrev pub need_for : Part → ℕ → ℕ → Room
need_for Cells d n = need_of d n
need_for Edges d n = edge_need d n
need_for Border d n = need_of d n

abbrev pub words_for : Part → ℕ → List (List ℕ) → List (List ℕ)
words_for Cells d cs = cs
words_for Edges d cs = edges_of cs
words_for Border d cs = border_of d cs

-- what stands beside a facet: four numbers, its cells and the positions dropped there; or a record of five, its cells, the induced signs there and whether the cells agree
abbrev pub width_of : Beside → ℕ
width_of Places = 4
width_of Signs = 5

abbrev pub beside_for : Beside → ℕ → List (List ℕ) → List ℕ
beside_for Places d cs = table_of d cs
beside_for Signs d cs = records_of d cs cs

-- the same as the code has it, by row numbers
abbrev pub beside_as : Beside → ℕ → ℕ → ℕ → List ℕ → List ℕ → List ℕ
beside_as Places d k f reps others = fours d k f reps others
beside_as Signs d k f reps others = fives d k f reps others
