-- What the flat tables of facet rows hold. A cell has k = slots d rows; row x is the facet of cell x / k without position d - x % k, so that slots go from
-- the last position dropped to the first. Assumes nothing.
use Rattle.std.specs.Prelude.{List, ◌≡◌, ℕ, suc, ◌+◌, ◌-◌, ◌*◌, ◌/◌, ◌%◌, ◌<◌, ◌≤◌, length, get_or}
use Rattle.complex.specs.Facets.{facet_at, slots, Mates, Cells}
use Rattle.lists.specs.Rows.{cut, row}
use Rattle.lists.specs.Words.{none}

-- number j of a cell without position skip stands at r in the cell
pub record Kept (skip j r : ℕ) : Type 0 where
  pub before : j < skip → r ≡ j
  pub after : skip ≤ j → r ≡ suc j
  pub most : r ≤ suc j

-- the vertices of facet row x, where the cells stand one after the other in a flat list
abbrev pub facet_row : ℕ → ℕ → List ℕ → ℕ → List ℕ
facet_row d k cells x = facet_at (row cells (suc d) (x / k)) (d - x % k)

-- the first n facet rows stand one after the other in keys
abbrev pub Written : ℕ → ℕ → List ℕ → List ℕ → ℕ → Type 0
Written d k cells keys n = (x : ℕ) → x < n → row keys d x ≡ facet_row d k cells x

-- what writing m cells' facet rows asks of the lists
pub record Writing (d k m : ℕ) (cells keys : List ℕ) : Type 0 where
  pub few : k ≤ suc d
  pub long : m * suc d ≤ length cells
  pub room : m * k * d ≤ length keys
  pub small : m * suc d < 4294967295
  pub dim : d < 4294967295

-- n rows in classes: ids has each row's class, reps each class's first row
pub record Grouped (n : ℕ) (reps ids : List ℕ) : Type 0 where
  pub few : n < none
  pub long : n ≤ length ids
  pub below : (x : ℕ) → x < n → get_or ids x 0 < length reps
  pub first : (x : ℕ) → x < n → get_or reps (get_or ids x 0) 0 ≤ x
  pub same : (x : ℕ) → x < n → get_or ids (get_or reps (get_or ids x 0) 0) 0 ≡ get_or ids x 0

-- among the first n rows each row's mate is the one other row of its class, or none
pub record Paired (n : ℕ) (ids mates : List ℕ) : Type 0 where
  pub below : (x : ℕ) → x < n → (get_or mates x 0 ≡ none → ⊥) → get_or mates x 0 < n
  pub other : (x : ℕ) → x < n → (get_or mates x 0 ≡ none → ⊥) → get_or mates x 0 ≡ x → ⊥
  pub same : (x : ℕ) → x < n → (get_or mates x 0 ≡ none → ⊥) → get_or ids (get_or mates x 0) 0 ≡ get_or ids x 0
  pub all : (x y : ℕ) → x < n → y < n → (x ≡ y → ⊥) → get_or ids x 0 ≡ get_or ids y 0 → get_or mates x 0 ≡ y

-- three rows of one class
pub record Three (n : ℕ) (ids : List ℕ) : Type 0 where
  pub x : ℕ
  pub y : ℕ
  pub z : ℕ
  pub x_below : x < n
  pub y_below : y < n
  pub z_below : z < n
  pub xy : x ≡ y → ⊥
  pub xz : x ≡ z → ⊥
  pub yz : y ≡ z → ⊥
  pub x_y : get_or ids x 0 ≡ get_or ids y 0
  pub x_z : get_or ids x 0 ≡ get_or ids z 0

-- rows x and y are one facet of two cells
abbrev pub Meet : ℕ → List (List ℕ) → ℕ → ℕ → Type 0
Meet d cs x y = Mates d cs (x / slots d) (d - x % slots d) (y / slots d) (d - y % slots d)

-- the table of mates: one number a row, the row that it meets, or none
pub record MateTable (d : ℕ) (cs : List (List ℕ)) (mates : List ℕ) : Type 0 where
  pub below : (x : ℕ) → x < length cs * slots d → (get_or mates x 0 ≡ none → ⊥) → get_or mates x 0 < length cs * slots d
  pub meet : (x : ℕ) → x < length cs * slots d → (get_or mates x 0 ≡ none → ⊥) → Meet d cs x (get_or mates x 0)
  pub all : (x y : ℕ) → x < length cs * slots d → y < length cs * slots d → Meet d cs x y → get_or mates x 0 ≡ y

-- across row x: the cell there and whether the two signs differ; none where the row has no mate
pub record Across (k : ℕ) (mates other flip : List ℕ) (x : ℕ) : Type 0 where
  pub edge : get_or mates x 0 ≡ none → get_or other x 0 ≡ none
  pub to : (get_or mates x 0 ≡ none → ⊥) → get_or other x 0 ≡ get_or mates x 0 / k
  pub by : (get_or mates x 0 ≡ none → ⊥) → get_or flip x 0 ≡ (x % k + get_or mates x 0 % k + 1) % 2

-- what `across` asks
pub record Crossing (k n : ℕ) (mates other flip : List ℕ) : Type 0 where
  pub mates_long : n ≤ length mates
  pub other_long : n ≤ length other
  pub flip_long : n ≤ length flip
  pub few : n < none
  pub below : (x : ℕ) → x < n → (get_or mates x 0 ≡ none → ⊥) → get_or mates x 0 < n
  pub some : (x : ℕ) → x < n → 0 < k

-- what `mates` asks: m cells stand in rows, their numbers are below b, and the lists are long enough
pub record Meeting (d m b : ℕ) (keys rows spare counts : List ℕ) : Type 0 where
  pub cells : Cells d (cut (suc d) m rows)
  pub rows_long : m * suc d ≤ length rows
  pub keys_long : m * slots d * d ≤ length keys
  pub spare_long : m * suc d ≤ length spare
  pub counts_long : m * suc d ≤ length counts
  pub buckets : b ≤ length counts
  pub few : m * suc d < none
  pub small : d < none
  pub below : (i : ℕ) → i < m * suc d → get_or rows i 0 < b
