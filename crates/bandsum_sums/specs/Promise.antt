-- What the program `bandsum` tells of a grid, and what it prints for the bytes that it reads (document 01, "Figures to check by"). Assumes nothing.
use Rattle.refusal.specs.declared.Refusal.TheVariants.{CrowdedFacet}
use Rattle.bandsum_sums.specs.Says.{Sum}
use Rattle.refusal.specs.declared.Refusal.{Refusal}
use Rattle.refusal.specs.Table.{number_of}
use Rattle.refusal.specs.Says.{fine}
use Rattle.std.specs.Prelude.{Err, Ok}
use Rattle.std.specs.Prelude.{Bool, true, false, List, ◌≡◌, ℕ, length}
use Rattle.multiindex.specs.Sign.{Sign}
use Rattle.complex.specs.Facets.{Crowded}
use Rattle.complex.specs.Skeleton.{edges_of, border_of}
use Rattle.orientation_signs.specs.Signs.{Coherent}
use Rattle.quotient.specs.declared.Grid.{Grid}
use Rattle.quotient.specs.Shape.{check_of, vertices_of}
use Rattle.grid_mesh.specs.Words.{glued_cells}
use Rattle.grid_order.specs.Promise.{HandsOut}
use Rattle.bandsum_line.specs.Grammar.{read_line}
use Rattle.text.specs.declared.Text.{Text}
use Rattle.text.specs.Adds.{holding}
use Rattle.bandsum_lines.specs.declared.Summary.{Summary}
use Rattle.bandsum_lines.specs.Lines.{lines_of, refused_line}

-- the sides: 2 exactly where coherent signs of the glued cells exist, else 1
pub data SidesOf (g : Grid) : ℕ → Type 0 where
  two : (σ : ℕ → Sign) → Coherent g.d (glued_cells g) σ → SidesOf g 2
  one : ((σ : ℕ → Sign) → Coherent g.d (glued_cells g) σ → ⊥) → SidesOf g 1

-- the six things: the numbers of glued cells, vertices and edges, of facets in one cell, the sides, and whether there is an order
abbrev pub summary_of : Grid → ℕ → Bool → Summary
summary_of g sides ordered =
    record {
      cells = length (glued_cells g);
      vertices = vertices_of g;
      edges = length (edges_of (glued_cells g));
      border = length (border_of g.d (glued_cells g));
      sides = sides;
      ordered = ordered;
    }

-- the grid is taken, and no facet lies in three or more of its cells
pub record Sound (g : Grid) : Type 0 where
  pub taken : check_of g ≡ fine
  pub free : Crowded g.d (glued_cells g) → ⊥

-- what is told of a grid, on every grid
pub data SumsOf (g : Grid) : Sum → Type 0 where
  -- 1, 9, 8, 3 or 6
  refused : {why : Refusal} → check_of g ≡ Err why → SumsOf g (Err why)
  -- a facet in three or more cells
  crowded : check_of g ≡ fine → Crowded g.d (glued_cells g) → SumsOf g (Err CrowdedFacet)
  -- the six things, where an order is handed out, and where none is
  ordered : {sides : ℕ} → Sound g → SidesOf g sides → HandsOut g → SumsOf g (Ok (summary_of g sides true))
  unordered : {sides : ℕ} → Sound g → SidesOf g sides → (HandsOut g → ⊥) → SumsOf g (Ok (summary_of g sides false))

-- what is printed for the bytes bs
pub data Prints (bs : List ℕ) : List ℕ → Type 0 where
  -- the line is refused: 1 or 17
  unread : {why : Refusal} → read_line bs ≡ Err why → Prints bs (refused_line (number_of why))
  -- its grid is refused
  refusal : {g : Grid} {why : Refusal} → read_line bs ≡ Ok g → SumsOf g (Err why) → Prints bs (refused_line (number_of why))
  -- the six lines
  six : {g : Grid} {s : Summary} → read_line bs ≡ Ok g → SumsOf g (Ok s) → Prints bs (lines_of s)

-- the text holds what is printed
pub record Printed (bs : List ℕ) (t : Text) : Type 0 where
  pub lines : List ℕ
  pub prints : Prints bs lines
  pub holds : t ≡ holding lines
