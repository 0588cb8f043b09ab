-- What is known of an edge once its values are met, one after the other: a later value replaces the earlier if they agree; else they clash. Assumes nothing.
use Rattle.refusal.specs.declared.Refusal.{Refusal}
use Rattle.refusal.specs.Says.{Answer, fine}
use Rattle.std.specs.Prelude.{Result, Err, Ok, Bool, true, false, cond, List, [], ◌∷◌, ◌++◌, ◌≡◌, ℕ, zero, suc, Float}
use Rattle.grid_sides.specs.Lengths.{agrees}
use Rattle.quotient.specs.declared.Grid.{Grid}
use Rattle.quotient.specs.declared.GluedVertex.{GluedVertex}
use Rattle.quotient.specs.Shape.{sides_check_of}
use Rattle.grid_lengths.specs.declared.EdgeLength.{EdgeLength}
use Rattle.grid_lengths.specs.declared.EdgeLength.TheVariants.{Length, Clash, NoEdge}
use Rattle.grid_lengths.specs.Edges.{visits_of, square_at, visits_edge, EdgeAmong}

-- one value more
abbrev pub met_by : EdgeLength → Float → EdgeLength
met_by (Length x) later = cond (agrees x later) (Length later) (Clash x later)
met_by (Clash x y) later = Clash x y
met_by NoEdge later = Length later

unfoldable pub settle_from : EdgeLength → List Float → EdgeLength
settle_from known [] = known
settle_from known (x ∷ xs) = settle_from (met_by known x) xs

-- an edge's values in visiting order come to this: no edge where there is none
abbrev pub settle : List Float → EdgeLength
settle xs = settle_from NoEdge xs

-- x alone where the test passed
abbrev pub only_if : Bool → Float → List Float
only_if true x = x ∷ []
only_if false x = []

-- the squares met for the glued edge between a and b in the first n visits, and in all of them
unfoldable pub values_to : Grid → ℕ → ℕ → ℕ → List Float
values_to g a b zero = []
values_to g a b (suc r) = values_to g a b r ++ only_if (visits_edge g a b r) (square_at g r)

-- what is known of the edge between a and b after visit r
abbrev pub after_visit : Grid → ℕ → ℕ → ℕ → EdgeLength → EdgeLength
after_visit g a b r known = cond (visits_edge g a b r) (met_by known (square_at g r)) known

abbrev pub edge_values : Grid → ℕ → ℕ → List Float
edge_values g a b = values_to g a b (visits_of g)

-- a refusal stands as it is, and where there is none the answer is x
abbrev pub edge_after : Answer → EdgeLength → Result EdgeLength Refusal
edge_after (Ok _) x = Ok x
edge_after (Err why) x = Err why

-- the answer to the question of one edge
unfoldable pub edge_length_of : Grid → GluedVertex → GluedVertex → Result EdgeLength Refusal
edge_length_of g a b = edge_after (sides_check_of g) (settle (edge_values g a.0 b.0))

-- the answer is that there is no edge exactly where the two are not the ends of one
pub record NoEdgeExactly (g : Grid) (a b : GluedVertex) : Type 0 where
  pub only : edge_length_of g a b ≡ Ok NoEdge → EdgeAmong g a.0 b.0 → ⊥
  pub all : sides_check_of g ≡ fine → (EdgeAmong g a.0 b.0 → ⊥) → edge_length_of g a b ≡ Ok NoEdge
