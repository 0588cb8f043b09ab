-- What the work on a grid that is taken asks of its lists, of just the lengths that are needed, and what it gives. Assumes nothing.
use Rattle.refusal.specs.Says.{Counted, fine}
use Rattle.std.specs.Prelude.{Bool, true, false, not, ◌&&◌, List, ◌≡◌, ℕ, suc, ◌<◌, ◌≤◌, eqb, length, get_or}
use Rattle.refusal.specs.Lent.{onto}
use Rattle.lists.specs.Rows.{row}
use Rattle.multiindex.specs.Sort.{sort_word}
use Rattle.complex.specs.Room.{key_room}
use Rattle.complex.specs.Facets.{Crowded, cell_at}
use Rattle.complex_cells.specs.WorkMade.{Made}
use Rattle.quotient.specs.declared.Grid.{Grid}
use Rattle.quotient.specs.Fold.{member, some}
use Rattle.quotient.specs.Shape.{mask_at, check_of, cell_count}
use Rattle.grid_words.specs.Cells.{flat_words}
use Rattle.grid_mesh.specs.Words.{glued_cells, corners_of, WordsEnd}

-- axis a reflects axis b, and b reflects one itself; a reflects such an axis; some axis does
abbrev pub tangled_by : Grid → ℕ → ℕ → Bool
tangled_by g a b = member (mask_at g a) b && not (eqb (mask_at g b) 0)

abbrev pub tangled_at : Grid → ℕ → Bool
tangled_at g a = some (tangled_by g a) g.d

abbrev pub is_tangled : Grid → Bool
is_tangled g = some (tangled_at g) g.d

-- room for the cells of the words
pub record Finding (g : Grid) (keys rows spare counts : List ℕ) : Type 0 where
  pub taken : check_of g ≡ fine
  pub keys_long : corners_of g ≤ length keys
  pub rows_long : length rows ≡ corners_of g
  pub spare_long : length spare ≡ corners_of g
  pub counts_long : length counts ≡ corners_of g

-- m cells stand in rows, and in reps the number of the first word that sorts to each
pub record Found (g : Grid) (m : ℕ) (rows reps : List ℕ) : Type 0 where
  pub made : Made g.d (flat_words g) m rows
  pub few : m ≤ cell_count g
  pub below : (c : ℕ) → c < m → get_or reps c 0 < cell_count g
  pub sorts : (c : ℕ) → c < m → sort_word (row (flat_words g) (suc g.d) (get_or reps c 0)) ≡ cell_at (glued_cells g) c
  pub first : (c t : ℕ) → c < m → t < get_or reps c 0 → sort_word (row (flat_words g) (suc g.d) t) ≡ cell_at (glued_cells g) c → ⊥

-- r tells whether a facet lies in three or more cells
pub record IsCrowded (g : Grid) (r : Bool) : Type 0 where
  pub yes : r ≡ true → Crowded g.d (glued_cells g)
  pub no : r ≡ false → Crowded g.d (glued_cells g) → ⊥

pub record Working (g : Grid) (keys rows spare counts : List ℕ) : Type 0 where
  pub taken : check_of g ≡ fine
  pub keys_long : length keys ≡ key_room g.d (corners_of g)
  pub rows_long : length rows ≡ corners_of g
  pub spare_long : length spare ≡ corners_of g
  pub counts_long : length counts ≡ corners_of g

-- the end of `cell_words`, and the word list afterwards
pub record Worked (g : Grid) (r : Counted) (words words' : List ℕ) : Type 0 where
  pub handed : List ℕ
  pub ends : WordsEnd g (length words) r handed
  pub result : words' ≡ onto handed words
