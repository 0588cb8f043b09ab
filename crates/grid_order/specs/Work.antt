-- What the steps of `triangulate_ordered` ask and give, on a grid that is taken. Assumes nothing.
use Rattle.refusal.specs.declared.Refusal.{Refusal}
use Rattle.refusal.specs.declared.Refusal.TheVariants.{TooShort}
use Rattle.refusal.specs.Says.{fine}
use Rattle.std.specs.Prelude.{Err, Ok, Result, Bool, true, false, List, [], ◌≡◌, ℕ, suc, ◌+◌, ◌*◌, ◌<◌, ◌≤◌, length, get_or, take, drop}
use Rattle.refusal.specs.Limits.{many_corners}
use Rattle.refusal.specs.Lent.{onto}
use Rattle.sorting.specs.Gather.{rows_of}
use Rattle.complex.specs.Room.{key_room}
use Rattle.complex.specs.Facets.{slots}
use Rattle.quotient.specs.declared.Grid.{Grid}
use Rattle.quotient.specs.Shape.{check_of, cell_count}
use Rattle.quotient.specs.Points.{points_of}
use Rattle.grid_words.specs.Cells.{flat_words}
use Rattle.grid_mesh.specs.Words.{corners_of}
use Rattle.ordering.specs.WorkAgree.{AgreesAt, Clash}
use Rattle.grid_order.specs.declared.Triangulated.{Triangulated}
use Rattle.grid_order.specs.declared.Triangulated.TheVariants.{Ordered, Unordered}
use Rattle.grid_order.specs.Promise.{Handed, nothing, Ends}

-- room for the words by cell and the cells behind them, and for the vertex of each point
pub record Laying (g : Grid) (m : ℕ) (list rows reps table : List ℕ) : Type 0 where
  pub taken : check_of g ≡ fine
  pub few : m ≤ cell_count g
  pub list_long : corners_of g + corners_of g ≤ length list
  pub rows_long : length rows ≡ corners_of g
  pub reps_long : m ≤ length reps
  pub table_long : points_of g ≤ length table
  pub below : (c : ℕ) → c < m → get_or reps c 0 < cell_count g

-- there they stand, and the cells stay
pub record Laid (g : Grid) (m : ℕ) (rows reps list' rows' : List ℕ) : Type 0 where
  pub words : take (m * suc g.d) list' ≡ rows_of (flat_words g) (suc g.d) (take m reps)
  pub behind : take (m * suc g.d) (drop (m * suc g.d) list') ≡ take (m * suc g.d) rows
  pub kept : take (m * suc g.d) rows' ≡ take (m * suc g.d) rows

-- as many cells as words and no clash, or not
pub record Decided (d m count : ℕ) (mates list : List ℕ) (r : Bool) : Type 0 where
  pub many : r ≡ true → m ≡ count
  pub all : r ≡ true → (x : ℕ) → x < m * slots d → AgreesAt d m mates list x
  pub not : r ≡ false → m ≡ count → Clash d m mates list

-- the words by cell and the cells behind them are to be handed out
pub record Handing (size m : ℕ) (list : List ℕ) : Type 0 where
  pub long : size + size ≤ length list
  pub small : size < many_corners
  pub few : m < many_corners

-- what is handed out
pub data Out (size m : ℕ) (list : List ℕ) (cells order : ℕ) : Bool → Result Triangulated Refusal → Handed → Type 0 where
  short : {b : Bool} → cells < size → Out size m list cells order b (Err TooShort) nothing
  short_order : order < size → Out size m list cells order true (Err TooShort) nothing
  ordered : size ≤ cells → size ≤ order → Out size m list cells order true (Ok (Ordered m)) (record { cells = take size (drop size list); order = take size list })
  unordered : size ≤ cells → Out size m list cells order false (Ok (Unordered m)) (record { cells = take size (drop size list); order = [] })

pub record HandedOut (size m : ℕ) (list : List ℕ) (b : Bool) (r : Result Triangulated Refusal) (cells cells' order order' : List ℕ) : Type 0 where
  pub handed : Handed
  pub out : Out size m list (length cells) (length order) b r handed
  pub the_cells : cells' ≡ onto handed.cells cells
  pub the_order : order' ≡ onto handed.order order

-- working lists of just the lengths that are needed; the keys' last part begins at `at`
pub record Working (g : Grid) (at : ℕ) (keys rows spare counts : List ℕ) : Type 0 where
  pub taken : check_of g ≡ fine
  pub start : at ≡ key_room g.d (corners_of g)
  pub keys_long : length keys ≡ key_room g.d (corners_of g) + corners_of g + corners_of g
  pub rows_long : length rows ≡ corners_of g
  pub spare_long : length spare ≡ corners_of g
  pub counts_long : length counts ≡ corners_of g

-- the end of `triangulate_ordered`, and the result lists afterwards
pub record Worked (g : Grid) (r : Result Triangulated Refusal) (cells cells' order order' : List ℕ) : Type 0 where
  pub handed : Handed
  pub ends : Ends g (length cells) (length order) r handed
  pub the_cells : cells' ≡ onto handed.cells cells
  pub the_order : order' ≡ onto handed.order order
