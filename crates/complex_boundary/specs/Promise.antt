-- What the calls `faces` and `boundary` come to, on every input. Assumes nothing.
use Rattle.refusal.specs.declared.Refusal.TheVariants.{BadFaces, TooShort}
use Rattle.refusal.specs.Says.{Counted}
use Rattle.std.specs.Prelude.{Err, Ok}
use Rattle.std.specs.Prelude.{List, [], ◌≡◌, ℕ, ◌<◌, ◌≤◌, length, ℤ}
use Rattle.refusal.specs.Lent.{onto}
use Rattle.complex.specs.Cells.{cells_of}
use Rattle.skeleton.specs.Promise.{Gives, Call}
use Rattle.complex_faces.specs.Faces.{faces_of}
use Rattle.complex_faces.specs.Entries.{Entry, entries_of, signs_in, faces_in, cofaces_in}
use Rattle.complex_boundary.specs.Need.{face_need}

-- 24, or `Rest` where the dimension is there
pub data Within {H : Type 0} (nothing : H) (There : Type 0) (Rest : Counted → H → Type 0) : Counted → H → Type 0 where
  outside : (There → ⊥) → Within nothing There Rest (Err BadFaces) nothing
  inside : {r : Counted} {h : H} → There → Rest r h → Within nothing There Rest r h

-- the promise of `faces`: r is what it says, and a list with ' is what it holds at exit
pub record Faced (d k : ℕ) (ws : List ℕ) (r : Counted) (out out' keys keys' rows rows' spare spare' counts counts' : List ℕ) : Type 0 where
  pub handed : List ℕ
  pub call : Call [] (face_need d (length ws)) (Within [] (k ≤ d) (Gives (faces_of (cells_of d ws) k) (length out))) d ws r handed keys keys' rows rows' spare spare' counts counts'
  pub result : out' ≡ onto handed out

-- the entries are handed out as three lists, or 12 where one of them is too short
pub data GivesEntries (es : List Entry) (given given' given'' : ℕ) : Counted → List ℤ × List ℕ × List ℕ → Type 0 where
  signs_short : given < length es → GivesEntries es given given' given'' (Err TooShort) ([], [], [])
  faces_short : given' < length es → GivesEntries es given given' given'' (Err TooShort) ([], [], [])
  cofaces_short : given'' < length es → GivesEntries es given given' given'' (Err TooShort) ([], [], [])
  entries_listed : length es ≤ given → length es ≤ given' → length es ≤ given'' → GivesEntries es given given' given'' (Ok (length es)) (signs_in es, faces_in es, cofaces_in es)

-- the promise of `boundary`
pub record Bounded (d k : ℕ) (ws : List ℕ) (r : Counted) (signs signs' : List ℤ) (faces faces' cofaces cofaces' keys keys' rows rows' spare spare' counts counts' : List ℕ) : Type 0 where
  pub handed : List ℤ × List ℕ × List ℕ
  pub call : Call ([], [], []) (face_need d (length ws)) (Within ([], [], []) ((1 ≤ k) × (k ≤ d)) (GivesEntries (entries_of (cells_of d ws) k) (length signs) (length faces) (length cofaces))) d ws r handed keys keys' rows rows' spare spare' counts counts'
  pub signs_are : signs' ≡ onto handed.0 signs
  pub faces_are : faces' ≡ onto handed.1 faces
  pub cofaces_are : cofaces' ≡ onto handed.2 cofaces
