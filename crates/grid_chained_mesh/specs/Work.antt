-- What the work on a grid that is taken asks of its lists, of just the lengths that are needed, and what it gives. Assumes nothing.
use Rattle.refusal.specs.declared.Refusal.TheVariants.{TooManyVertices, VertexTwice}
use Rattle.refusal.specs.Says.{Answer, Counted}
use Rattle.refusal.specs.Says as Says
use Rattle.std.specs.Prelude.{Err, List, ◌≡◌, ℕ, ◌<◌, length, take}
use Rattle.refusal.specs.Limits.{most_vertices}
use Rattle.refusal.specs.Lent.{onto}
use Rattle.complex.specs.Room.{key_room}
use Rattle.quotient.specs.declared.Grid.{Grid}
use Rattle.quotient.specs.Shape.{cell_count}
use Rattle.grid_chained.specs.Shape.{shape_of, need_of}
use Rattle.grid_chained.specs.Classing.{Classes}
use Rattle.grid_chained_mesh.specs.Words.{ClassWords, first_twice, Apart, WordsEnd}

pub record Working (g : Grid) (keys rows spare counts : List ℕ) : Type 0 where
  pub taken : shape_of g ≡ Says.fine
  pub keys_long : length keys ≡ key_room g.d (need_of g)
  pub rows_long : length rows ≡ need_of g
  pub spare_long : length spare ≡ need_of g
  pub counts_long : length counts ≡ need_of g

-- a grid that is taken, a list as long as its words, and room for its points
pub record Laying (g : Grid) (words room : List ℕ) : Type 0 where
  pub taken : shape_of g ≡ Says.fine
  pub long : length words ≡ need_of g
  pub points : length room ≡ need_of g

-- what is said of the words, and the list afterwards: 6, 4 at the first word that names a class twice, or nothing, and then the words stand there
pub data Said (g : Grid) (words : List ℕ) : Answer → Type 0 where
  many : (numbers : List ℕ) (m : ℕ) → Classes g numbers m → most_vertices < m → Said g words (Err TooManyVertices)
  twice : ClassWords g words → first_twice g words < cell_count g → Said g words (Err (VertexTwice (first_twice g words)))
  fine : Apart g words → Said g words Says.fine

-- words that stand at the front of the keys, and working lists of just the lengths that are needed
pub record Standing (g : Grid) (keys rows spare counts : List ℕ) : Type 0 where
  pub room : Working g keys rows spare counts
  pub apart : Apart g (take (need_of g) keys)

-- the list has the words, where there are such
abbrev pub Handed : Grid → List ℕ → Type 0
Handed g list = (ws : List ℕ) → ClassWords g ws → list ≡ ws

-- the end of `cell_words`, and the word list afterwards
pub record Worked (g : Grid) (r : Counted) (words words' : List ℕ) : Type 0 where
  pub handed : List ℕ
  pub ends : WordsEnd g (length words) r handed
  pub result : words' ≡ onto handed words
