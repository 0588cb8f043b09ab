-- What reading a mesh file comes to, on every input. Assumes nothing.
use Rattle.refusal.specs.declared.Refusal.{Refusal}
use Rattle.refusal.specs.declared.Refusal.TheVariants.{CrowdedFacet, TooShort}
use Rattle.refusal.specs.Says.{Answer}
use Rattle.std.specs.Prelude.{List, [], ◌≡◌, ℕ, ◌<◌, ◌≤◌, length, Err, Ok, Result}
use Rattle.refusal.specs.declared.Room.{Room}
use Rattle.refusal.specs.Lent.{onto, lengths, Cleared}
use Rattle.refusal.specs.Call.{Comes}
use Rattle.complex.specs.Check.{answer_of}
use Rattle.complex.specs.Cells.{cells_of}
use Rattle.complex.specs.Facets.{Crowded}
use Rattle.complex.specs.Room.{need_of}
use Rattle.file_mesh.specs.Mesh.{Mesh, cell_count, birth_count, pair_count}
use Rattle.file_mesh.specs.Read.{Part, no, got, read_file}
use Rattle.file_mesh_read.specs.declared.Reading.{Reading}

-- the mesh of a file; no mesh's lists are empty
abbrev pub mesh_in : Part Mesh → Mesh
mesh_in (no why) = record { d = 0; words = []; births = []; pairs = [] }
mesh_in (got m r) = m

-- the refusals before the room: those of the bytes, and then those of the cell list
abbrev pub refused_in : Part Mesh → Answer
refused_in (no why) = Err why
refused_in (got m r) = answer_of m.d m.words

-- the lists that are handed out: words, births, pairs
pub record Lists : Type 0 where
  pub words : List ℕ
  pub births : List ℕ
  pub pairs : List ℕ

abbrev pub none : Lists
none = record { words = []; births = []; pairs = [] }

-- what is said of a mesh: its dimension, and how many cells, births and pairs it has
abbrev pub reading : Mesh → Reading
reading m = record { dimension = m.d; cells = cell_count m; births = birth_count m; pairs = pair_count m }

-- after the room's test: 7, or 12 where a result list is too short, or the lists. `given` are the result lists as they were.
pub data Gives (m : Mesh) (given : Lists) : Result Reading Refusal → Lists → Type 0 where
  crowded : Crowded m.d (cells_of m.d m.words) → Gives m given (Err CrowdedFacet) none
  words_short : (Crowded m.d (cells_of m.d m.words) → ⊥) → length given.words < length m.words → Gives m given (Err TooShort) none
  births_short : (Crowded m.d (cells_of m.d m.words) → ⊥) → length given.births < length m.births → Gives m given (Err TooShort) none
  pairs_short : (Crowded m.d (cells_of m.d m.words) → ⊥) → length given.pairs < length m.pairs → Gives m given (Err TooShort) none
  read : (Crowded m.d (cells_of m.d m.words) → ⊥) → length m.words ≤ length given.words → length m.births ≤ length given.births → length m.pairs ≤ length given.pairs →
      Gives m given (Ok (reading m)) (record { words = m.words; births = m.births; pairs = m.pairs })

-- the promise of the call: r is what it says, and a list with ' is what it holds at exit
pub record MeshRead (bytes : List ℕ) (r : Result Reading Refusal) (words words' births births' pairs pairs' keys keys' rows rows' spare spare' counts counts' : List ℕ) : Type 0 where
  pub handed : Lists
  pub used : Room
  pub comes :
      Comes Err none (refused_in (read_file bytes)) (need_of (mesh_in (read_file bytes)).d (length (mesh_in (read_file bytes)).words)) (lengths keys rows spare counts)
      (Gives (mesh_in (read_file bytes)) (record { words = words; births = births; pairs = pairs })) r handed used
  pub room : Cleared used keys keys' rows rows' spare spare' counts counts'
  pub of_words : words' ≡ onto handed.words words
  pub of_births : births' ≡ onto handed.births births
  pub of_pairs : pairs' ≡ onto handed.pairs pairs
