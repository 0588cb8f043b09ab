-- What the work on a grid that is taken asks of its lists, of just the lengths that are needed, and what it gives. Assumes nothing.
use Rattle.refusal.specs.Says.{Counted, fine}
use Rattle.std.specs.Prelude.{List, [], ◌∷◌, true, cond, ◌≡◌, ℕ, ◌*◌, ◌/◌, ◌%◌, ◌<◌, ◌≤◌, min, max, eqb, Float, length, get_or}
use Rattle.refusal.specs.Lent.{onto}
use Rattle.quotient.specs.declared.Grid.{Grid}
use Rattle.quotient.specs.Shape.{check_of}
use Rattle.quotient.specs.Reduce.{vertex_of}
use Rattle.quotient.specs.Points.{points_of}
use Rattle.lists.specs.Tables.{tab}
use Rattle.grid_words.specs.WorkNumbered.{each_box}
use Rattle.grid_lengths.specs.declared.EdgeLength.{EdgeLength}
use Rattle.grid_lengths.specs.Edges.{edges_each, visits_of, from_at, to_at, square_at, edges_of}
use Rattle.grid_lengths.specs.Settled.{settle, values_to}
use Rattle.grid_lengths.specs.Noted.{one_edge}
use Rattle.grid_lengths.specs.Lengths.{ends_room, LengthsEnd}

-- how many visits a box has
abbrev pub visits_each : Grid → ℕ
visits_each g = each_box g * edges_each g.d

-- the grid point at end i, and those of the visits of the first box
abbrev pub end_point : Grid → ℕ → ℕ
end_point g i = cond (eqb (i % 2) 0) (from_at g (i / 2)) (to_at g (i / 2))

abbrev pub end_reach : Grid → List ℕ
end_reach g = tab (visits_each g * 2) (end_point g)

-- what the visits before start came to is known, and those before end are to come
pub record Settling (g : Grid) (a b start end : ℕ) (known : EdgeLength) : Type 0 where
  pub taken : check_of g ≡ fine
  pub rising : start ≤ end
  pub within : end ≤ visits_of g
  pub so_far : known ≡ settle (values_to g a b start)

-- values has what each visit of the first box measures, and so what every visit does
pub record Valued (g : Grid) (values : List Float) : Type 0 where
  pub taken : check_of g ≡ fine
  pub some : 0 < length values
  pub tells : (r : ℕ) (z : Float) → r < visits_of g → get_or values (r % length values) z ≡ square_at g r

pub record EndsLent (g : Grid) (keys table : List ℕ) : Type 0 where
  pub taken : check_of g ≡ fine
  pub keys_long : length keys ≡ visits_of g * 2
  pub table_long : points_of g ≤ length table

pub record Working (g : Grid) (keys rows spare counts : List ℕ) : Type 0 where
  pub taken : check_of g ≡ fine
  pub keys_long : length keys ≡ ends_room g
  pub rows_long : length rows ≡ ends_room g
  pub spare_long : length spare ≡ ends_room g
  pub counts_long : length counts ≡ ends_room g

-- edge i is that of visit x
pub record VisitOf (g : Grid) (ids : List ℕ) (i : ℕ) : Type 0 where
  pub visit : ℕ
  pub within : visit < visits_of g
  pub id : get_or ids visit 0 ≡ i
  pub ends : get_or (edges_of g) i [] ≡ min (vertex_of g (from_at g visit)) (vertex_of g (to_at g visit)) ∷ max (vertex_of g (from_at g visit)) (vertex_of g (to_at g visit)) ∷ []

-- ids has the number of each visit's edge, and there are m edges
pub record Classed (g : Grid) (m : ℕ) (ids : List ℕ) : Type 0 where
  pub many : length (edges_of g) ≡ m
  pub few : m ≤ visits_of g
  pub below : (x : ℕ) → x < visits_of g → get_or ids x 0 < m
  pub same : (x y : ℕ) → x < visits_of g → y < visits_of g → get_or ids x 0 ≡ get_or ids y 0 → one_edge g x y ≡ true
  pub other : (x y : ℕ) → x < visits_of g → y < visits_of g → one_edge g x y ≡ true → get_or ids x 0 ≡ get_or ids y 0
  pub of : (i : ℕ) → i < m → VisitOf g ids i

-- each of m edges has the note of a visit
pub record Handing (g : Grid) (m : ℕ) (last : List ℕ) : Type 0 where
  pub taken : check_of g ≡ fine
  pub long : m ≤ length last
  pub some : (i : ℕ) → i < m → 0 < get_or last i 0
  pub low : (i : ℕ) → i < m → get_or last i 0 ≤ visits_of g

-- the end of the work, and the length list afterwards
pub record Worked (g : Grid) (r : Counted) (out out' : List Float) : Type 0 where
  pub handed : List Float
  pub ends : LengthsEnd g (length out) r handed
  pub result : out' ≡ onto handed out
