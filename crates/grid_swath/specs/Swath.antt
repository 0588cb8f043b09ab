-- Document 02, K10: one glued number for each grid point of a list, equal in every place to the single call's. Assumes nothing.
use Rattle.refusal.specs.declared.Refusal.TheVariants.{TooShort}
use Rattle.refusal.specs.Says.{Answer, fine}
use Rattle.std.specs.Prelude.{Err, Ok, List, [], map, ℕ, ltb, length}
use Rattle.refusal.specs.Refuse.{refuse}
use Rattle.quotient.specs.declared.Grid.{Grid}
use Rattle.quotient.specs.Shape.{check_of}
use Rattle.quotient.specs.Reduce.{vertex_of}

-- the vertex of each point
abbrev pub swath_of : Grid → List ℕ → List ℕ
swath_of g ps = map (vertex_of g) ps

-- a refusal stands as it is, and where there is none the answer is x
abbrev pub after : Answer → Answer → Answer
after (Ok _) x = x
after (Err why) x = Err why

-- what the call says, where the result list is `room` numbers long: the grid's refusal, then 12 where it is too short for all results
abbrev pub swath_says : Grid → List ℕ → ℕ → Answer
swath_says g ps room = after (check_of g) (refuse (ltb room (length ps)) TooShort fine)

-- the list where nothing is refused, else nothing
abbrev pub unrefused : Answer → List ℕ → List ℕ
unrefused (Ok _) l = l
unrefused (Err why) l = []

-- what it hands out
abbrev pub swath_hands : Grid → List ℕ → ℕ → List ℕ
swath_hands g ps room = unrefused (swath_says g ps room) (swath_of g ps)
