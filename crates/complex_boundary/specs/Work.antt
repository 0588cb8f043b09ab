-- What the inner functions ask of their lists and give. Assumes nothing.
use Rattle.refusal.specs.Says.{Counted}
use Rattle.std.specs.Prelude.{List, [], ◌≡◌, ℕ, suc, ◌+◌, ◌-◌, ◌*◌, ◌/◌, ◌%◌, ◌<◌, ◌≤◌, length, get_or, ℤ}
use Rattle.refusal.specs.Lent.{onto}
use Rattle.lists.specs.Rows.{cut}
use Rattle.lists.specs.Tables.{tab}
use Rattle.multiindex.specs.Sign.{induced, sign_number}
use Rattle.complex.specs.Cells.{cells_of}
use Rattle.complex.specs.Facets.{Cells, slots}
use Rattle.complex_mates.specs.Table.{Meeting}
use Rattle.skeleton.specs.Promise.{Gives, Ends}
use Rattle.skeleton.specs.Work.{Working}
use Rattle.complex_faces.specs.Faces.{faces_of}
use Rattle.complex_faces.specs.Entries.{Entry, entries_of, signs_in, faces_in, cofaces_in}
use Rattle.complex_boundary.specs.Need.{face_need}
use Rattle.complex_boundary.specs.Promise.{Within, GivesEntries}

-- a checked word list and room, and a dimension that its cells have
pub record Reaching (d k : ℕ) (ws keys rows spare counts : List ℕ) : Type 0 where
  pub work : Working (face_need d (length ws)) d ws keys rows spare counts
  pub high : k ≤ d

-- f faces of dimension k stand in rows, and there is room for their facets
pub record Reached (d k : ℕ) (ws : List ℕ) (f : ℕ) (keys rows spare counts : List ℕ) : Type 0 where
  pub cells : Cells d (cells_of d ws)
  pub same : cut (suc k) f rows ≡ faces_of (cells_of d ws) k
  pub many : length (faces_of (cells_of d ws) k) ≡ f
  pub fits : f * (k + 1) ≤ length rows
  pub few : f * (k + 1) < 4294967295
  pub meeting : Meeting k f (length ws) keys rows spare counts
  pub narrow : f * slots k * k < 4294967296

-- how `faces` ends
pub record FacesWorked (d k : ℕ) (ws : List ℕ) (r : Counted) (out out' : List ℕ) : Type 0 where
  pub handed : List ℕ
  pub ends : Ends [] d (cells_of d ws) (Within [] (k ≤ d) (Gives (faces_of (cells_of d ws) k) (length out))) r handed
  pub result : out' ≡ onto handed out

-- the entries of f cofaces of dimension k as three lists, where ids has the facets of a coface from the last position dropped to the first
pub record EntryLists (k f : ℕ) (ids : List ℕ) (es : List Entry) : Type 0 where
  pub signs_are : signs_in es ≡ tab (f * (k + 1)) (λ x. sign_number (induced (x % (k + 1))))
  pub faces_are : faces_in es ≡ tab (f * (k + 1)) (λ x. get_or ids (x / (k + 1) * (k + 1) + (k - x % (k + 1))) 0)
  pub cofaces_are : cofaces_in es ≡ tab (f * (k + 1)) (λ x. x / (k + 1))

-- the entries are handed out
pub record EntriesHanded (es : List Entry) (r : Counted) (signs signs' : List ℤ) (faces faces' cofaces cofaces' : List ℕ) : Type 0 where
  pub handed : List ℤ × List ℕ × List ℕ
  pub gives : GivesEntries es (length signs) (length faces) (length cofaces) r handed
  pub signs_are : signs' ≡ onto handed.0 signs
  pub faces_are : faces' ≡ onto handed.1 faces
  pub cofaces_are : cofaces' ≡ onto handed.2 cofaces

-- how `boundary` ends
pub record EntriesWorked (d k : ℕ) (ws : List ℕ) (r : Counted) (signs signs' : List ℤ) (faces faces' cofaces cofaces' : List ℕ) : Type 0 where
  pub handed : List ℤ × List ℕ × List ℕ
  pub ends : Ends ([], [], []) d (cells_of d ws) (Within ([], [], []) ((1 ≤ k) × (k ≤ d)) (GivesEntries (entries_of (cells_of d ws) k) (length signs) (length faces) (length cofaces))) r handed
  pub signs_are : signs' ≡ onto handed.0 signs
  pub faces_are : faces' ≡ onto handed.1 faces
  pub cofaces_are : cofaces' ≡ onto handed.2 cofaces
