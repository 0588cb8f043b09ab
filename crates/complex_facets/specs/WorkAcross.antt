-- The cell across each facet row and whether signs differ across it, read from the facet records. Assumes nothing.
use Rattle.std.specs.Prelude.{Bool, true, false, List, [], ◌⊎◌, ◌≡◌, ℕ, ◌+◌, ◌*◌, ◌/◌, ◌<◌, ◌≤◌, eqb, length, get_or, take}
use Rattle.lists.specs.Words.{none}
use Rattle.complex.specs.Facets.{slots}
use Rattle.complex.specs.Skeleton.{facet_row_of, facets_of}
use Rattle.complex_mates.specs.Table.{MateTable, Across, Meeting}
use Rattle.complex_facets.specs.WorkSides.{cell_of}
use Rattle.complex_facets.specs.Records.{one_if, records_of}
use Rattle.complex_facets.specs.WorkRecords.{sign_at}

-- what keeping the records of m cells' facets asks: m cells stand in rows, and there are five numbers of keys for each of their rows
pub record Keeping (d m b : ℕ) (keys rows spare counts : List ℕ) : Type 0 where
  pub meeting : Meeting d m b keys rows spare counts
  pub narrow : m * slots d * d < 4294967296
  pub room : m * slots d * 5 ≤ length keys

-- row x and its mate stand in the record at place p, the lower row first
pub record Told (d k : ℕ) (mates records : List ℕ) (p x : ℕ) : Type 0 where
  pub lower : ℕ
  pub upper : ℕ
  pub cell : get_or records p 0 ≡ cell_of k lower
  pub sign : get_or records (p + 1) 0 ≡ sign_at d k lower
  pub other : get_or records (p + 1 + 1) 0 ≡ cell_of k upper
  pub other_sign : get_or records (p + 1 + 1 + 1) 0 ≡ sign_at d k upper
  pub which : ((lower ≡ x) × (upper ≡ get_or mates x 0)) ⊎ ((lower ≡ get_or mates x 0) × (upper ≡ x))

-- the records of all facets of cells stand one after the other, ids has the facet of each row, and the rows' mates are told by the records
pub record Recorded (d : ℕ) (cs : List (List ℕ)) (records ids : List ℕ) : Type 0 where
  pub same : take (length (records_of d cs cs)) records ≡ records_of d cs cs
  pub facet : (x : ℕ) → x < length cs * slots d → get_or (facets_of d cs) (get_or ids x 0) [] ≡ facet_row_of d cs x
  pub inside : (x : ℕ) → x < length cs * slots d → get_or ids x 0 * 5 + 5 ≤ length records
  pub mates : List ℕ
  pub table : MateTable d cs mates
  pub told : (x : ℕ) → x < length cs * slots d → Told d (slots d) mates records (get_or ids x 0 * 5) x

-- the first where the test holds, else the second
abbrev pub choose : Bool → ℕ → ℕ → ℕ
choose true a b = a
choose false a b = b

-- the other of a facet's two cells
abbrev pub other_cell : ℕ → ℕ → ℕ → ℕ
other_cell cell lower upper = choose (eqb lower cell) upper lower

-- what reading the records for n rows asks, k rows a cell
pub record Crossing (k n : ℕ) (records ids other flip : List ℕ) : Type 0 where
  pub ids_long : n ≤ length ids
  pub other_long : n ≤ length other
  pub flip_long : n ≤ length flip
  pub few : n < none
  pub inside : (x : ℕ) → x < n → get_or ids x 0 * 5 + 5 ≤ length records
  pub some : (x : ℕ) → x < n → 0 < k

-- across row x: the other cell of its facet's record, and 1 where the record's two signs are equal
pub record Crossed (k : ℕ) (records ids other flip : List ℕ) (x : ℕ) : Type 0 where
  pub to : get_or other x 0 ≡ other_cell (x / k) (get_or records (get_or ids x 0 * 5) 0) (get_or records (get_or ids x 0 * 5 + 1 + 1) 0)
  pub by : get_or flip x 0 ≡ one_if (eqb (get_or records (get_or ids x 0 * 5 + 1) 0) (get_or records (get_or ids x 0 * 5 + 1 + 1 + 1) 0))

-- the cell across each row of cells, and whether signs differ there
pub record Linked (d : ℕ) (cs : List (List ℕ)) (other flip : List ℕ) : Type 0 where
  pub mates : List ℕ
  pub table : MateTable d cs mates
  pub across : (x : ℕ) → x < length cs * slots d → Across (slots d) mates other flip x
