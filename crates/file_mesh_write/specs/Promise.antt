-- What writing a mesh comes to, on every input. Assumes nothing.
use Rattle.refusal.specs.declared.Refusal.TheVariants.{BadFile, TooShort}
use Rattle.refusal.specs.Says.{Counted}
use Rattle.std.specs.Prelude.{true, false, List, [], ◌≡◌, ℕ, ◌<◌, ◌≤◌, length, Err, Ok}
use Rattle.refusal.specs.Lent.{onto}
use Rattle.complex.specs.Room.{need_of}
use Rattle.skeleton.specs.Promise.{Call}
use Rattle.file_mesh.specs.Mesh.{Mesh}
use Rattle.file_mesh.specs.Rules.{rules}
use Rattle.file_mesh.specs.File.{file_of}

-- the mesh is written, or 22 where its lists break the rules, or 12. `given` is the length of the byte list.
pub data Writes (m : Mesh) (given : ℕ) : Counted → List ℕ → Type 0 where
  broken : rules m ≡ false → Writes m given (Err BadFile) []
  short : rules m ≡ true → given < length (file_of m) → Writes m given (Err TooShort) []
  written : rules m ≡ true → length (file_of m) ≤ given → Writes m given (Ok (length (file_of m))) (file_of m)

-- the promise of the call: r is what it says, and a list with ' is what it holds at exit. The checks of the cell list come first (1, 2, 3, 4, 6, 5), then the room (12),
-- then 7, then these.
pub record MeshWritten (m : Mesh) (r : Counted) (bytes bytes' keys keys' rows rows' spare spare' counts counts' : List ℕ) : Type 0 where
  pub handed : List ℕ
  pub call : Call [] (need_of m.d (length m.words)) (Writes m (length bytes)) m.d m.words r handed keys keys' rows rows' spare spare' counts counts'
  pub result : bytes' ≡ onto handed bytes

-- the lists of a mesh
abbrev pub mesh_of : ℕ → List ℕ → List ℕ → List ℕ → Mesh
mesh_of d words births pairs = record { d = d; words = words; births = births; pairs = pairs }
