-- What the inner functions ask and give. Assumes nothing.
use Rattle.refusal.specs.declared.Refusal.{Refusal}
use Rattle.refusal.specs.declared.Refusal.TheVariants.{CrowdedFacet}
use Rattle.refusal.specs.Says.{fine}
use Rattle.std.specs.Prelude.{Err, Ok, Result}
use Rattle.std.specs.Prelude.{Bool, List, ◌≡◌, ℕ, suc, ◌*◌, ◌≤◌, length, take}
use Rattle.refusal.specs.Limits.{band_dimension, band_cells}
use Rattle.complex.specs.Facets.{Crowded}
use Rattle.orientation.specs.declared.Coherence.{Coherence}
use Rattle.quotient.specs.declared.Grid.{Grid}
use Rattle.quotient.specs.Shape.{check_of}
use Rattle.grid_words.specs.Cells.{flat_words}
use Rattle.grid_mesh.specs.Words.{glued_cells}
use Rattle.grid_order.specs.declared.Triangulated.{Triangulated}
use Rattle.grid_order.specs.declared.Triangulated.TheVariants.{Ordered, Unordered}
use Rattle.grid_order.specs.Promise.{HandsOut}
use Rattle.bandsum_lines.specs.declared.Summary.{Summary}
use Rattle.bandsum_sums.specs.Promise.{Sound, SidesOf, summary_of}

-- the most corners that the words of a grid have within bandsum's limits
abbrev pub band_corners : ℕ
band_corners = band_cells * suc band_dimension

-- the most numbers that its edges have, or its border
abbrev pub band_listed : ℕ
band_listed = band_dimension * band_corners

-- the most numbers that its facets' records have room for: five for each corner
abbrev pub band_recorded : ℕ
band_recorded = band_corners * 5

-- the sides, by what `orientation` says
abbrev pub sides_as : Result Coherence Refusal → ℕ
sides_as (Ok (Coherence.Signs cells looks)) = 2
sides_as (Ok (Coherence.OneSided looks)) = 1
sides_as (Err why) = 0

-- what `triangulate_ordered` says where every list is long enough
pub data Triangulates (g : Grid) : Result Triangulated Refusal → Type 0 where
  refused : {why : Refusal} → check_of g ≡ Err why → Triangulates g (Err why)
  crowded : check_of g ≡ fine → Crowded g.d (glued_cells g) → Triangulates g (Err CrowdedFacet)
  ordered : Sound g → HandsOut g → Triangulates g (Ok (Ordered (length (glued_cells g))))
  unordered : Sound g → (HandsOut g → ⊥) → Triangulates g (Ok (Unordered (length (glued_cells g))))

-- a list that holds the words of any grid
pub record Fitting (g : Grid) (words : List ℕ) : Type 0 where
  pub sound : Sound g
  pub long : band_corners ≤ length words

-- the list begins with the words of the grid, which have n numbers
pub record Glued (g : Grid) (n : ℕ) (words : List ℕ) : Type 0 where
  pub many : n ≤ length words
  pub begins : take n words ≡ flat_words g

-- the words are those of the grid
pub record HasWords (g : Grid) (words : List ℕ) : Type 0 where
  pub sound : Sound g
  pub same : words ≡ flat_words g

-- the number is that of the grid's cells
pub record HasCells (g : Grid) (cells : ℕ) : Type 0 where
  pub sound : Sound g
  pub same : cells ≡ length (glued_cells g)

-- the six things, with the sides that the grid has
pub record Tells (g : Grid) (ordered : Bool) (s : Summary) : Type 0 where
  pub sides : ℕ
  pub right : SidesOf g sides
  pub same : s ≡ summary_of g sides ordered
