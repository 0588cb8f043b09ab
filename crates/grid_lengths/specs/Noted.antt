-- The last visit of each edge, noted as one more than its number, and 0 for none. Assumes nothing.
use Rattle.refusal.specs.Says.{fine}
use Rattle.std.specs.Prelude.{Bool, true, false, cond, List, ◌≡◌, ℕ, zero, suc, ◌*◌, ◌/◌, ◌%◌, ◌<◌, ◌≤◌, eqb, Float, length, get_or}
use Rattle.lists.specs.Tables.{tab}
use Rattle.quotient.specs.declared.Grid.{Grid}
use Rattle.quotient.specs.Shape.{check_of}
use Rattle.quotient.specs.Reduce.{vertex_of}
use Rattle.grid_lengths.specs.declared.EdgeLength.{EdgeLength}
use Rattle.grid_lengths.specs.declared.EdgeLength.TheVariants.{Length, Clash, NoEdge}
use Rattle.grid_lengths.specs.Edges.{visits_of, from_at, to_at, square_at, visits_edge}
use Rattle.grid_lengths.specs.Settled.{settle, edge_values}

-- the ends of the edges of all visits, two a visit, one after the other
abbrev pub end_of : Grid → ℕ → ℕ
end_of g i = cond (eqb (i % 2) 0) (vertex_of g (from_at g (i / 2))) (vertex_of g (to_at g (i / 2)))

abbrev pub ends_of : Grid → List ℕ
ends_of g = tab (visits_of g * 2) (end_of g)

-- what a note tells of an edge
abbrev pub told : Grid → ℕ → EdgeLength
told g zero = NoEdge
told g (suc r) = Length (square_at g r)

abbrev pub is_length : EdgeLength → Bool
is_length (Length x) = true
is_length (Clash x y) = false
is_length NoEdge = false

-- visit y is one of the edge of visit x
abbrev pub one_edge : Grid → ℕ → ℕ → Bool
one_edge g x y = visits_edge g (vertex_of g (from_at g x)) (vertex_of g (to_at g x)) y

-- what all visits of the edge of visit x come to
abbrev pub came_to : Grid → ℕ → EdgeLength
came_to g x = settle (edge_values g (vertex_of g (from_at g x)) (vertex_of g (to_at g x)))

-- the visits in classes, one for each edge, and no note yet
pub record Noting (g : Grid) (ids last : List ℕ) : Type 0 where
  pub taken : check_of g ≡ fine
  pub long : visits_of g ≤ length ids
  pub below : (x : ℕ) → x < visits_of g → get_or ids x 0 < length last
  pub same : (x y : ℕ) → x < visits_of g → y < visits_of g → get_or ids x 0 ≡ get_or ids y 0 → one_edge g x y ≡ true
  pub other : (x y : ℕ) → x < visits_of g → y < visits_of g → one_edge g x y ≡ true → get_or ids x 0 ≡ get_or ids y 0
  pub blank : (x : ℕ) → x < visits_of g → get_or last (get_or ids x 0) 0 ≡ 0

-- every edge has a length: that of the visit noted
pub record Noted (g : Grid) (ids last : List ℕ) : Type 0 where
  pub visit : ℕ → ℕ
  pub within : (x : ℕ) → x < visits_of g → visit x < visits_of g
  pub note : (x : ℕ) → x < visits_of g → get_or last (get_or ids x 0) 0 ≡ suc (visit x)
  pub length_is : (x : ℕ) → x < visits_of g → came_to g x ≡ Length (square_at g (visit x))

-- two lengths of an edge clash
pub record Clashed (g : Grid) : Type 0 where
  pub visit : ℕ
  pub first : Float
  pub second : Float
  pub within : visit < visits_of g
  pub clash : came_to g visit ≡ Clash first second
