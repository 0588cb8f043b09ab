-- A file that is read is written again byte by byte, over the promises of the two calls. Assumes nothing.
use Rattle.refusal.specs.declared.Refusal.{Refusal}
use Rattle.refusal.specs.Says.{Counted}
use Rattle.std.specs.Prelude.{Err, Ok, Result}
use mathlib.Core.Path.{◌≡◌, refl, sym, ap, subst, ◌∙◌}
use mathlib.Core.List.{List}
use Prim.Native.Nat.{ℕ, ◌≤◌}
use lib.ListN.{length}
use Rattle.refusal.specs.declared.Room.{Room}
use Rattle.refusal.specs.Lent.{onto, lengths, Roomy}
use Rattle.refusal.specs.Call.{Comes, refused, cramped, ended}
use Rattle.complex.specs.Room.{need_of}
use Rattle.file_bytes.proofs.Laws.{Bytes}
use Rattle.file_mesh.specs.Mesh.{Mesh}
use Rattle.file_mesh.specs.File.{file_of}
use Rattle.file_mesh.specs.Read.{Part, no, got, read_file}
use Rattle.file_mesh.proofs.Accepted.{read-written}
use Rattle.file_mesh_write.specs.Promise.{MeshWritten}
use Rattle.file_mesh_read.specs.declared.Reading.{Reading}
use Rattle.file_mesh_read.specs.Promise.{reading, mesh_in, refused_in, Lists, none, Gives, crowded, words_short, births_short, pairs_short, read, MeshRead}
use Rattle.file_mesh_laws.proofs.Calls.{Takes}
use Rattle.file_mesh_laws.proofs.Written.{taken-written}

-- a mesh whose file was read
pub record Came (bytes : List ℕ) (r : Result Reading Refusal) (h : Lists) : Type 0 where
  pub mesh : Mesh
  pub takes : Takes mesh
  pub file : bytes ≡ file_of mesh
  pub said : r ≡ Ok (reading mesh)
  pub lists : h ≡ record { words = mesh.words; births = mesh.births; pairs = mesh.pairs }

module _ (bytes : List ℕ) (a : Bytes bytes) (given : Lists) (need have : Room) (said : Reading) where
  read-in : (p : Part Mesh) → read_file bytes ≡ p → (r : Result Reading Refusal) (h : Lists) (used : Room) → Comes Err none (refused_in p) need have (Gives (mesh_in p) given) r h used → r ≡ Ok said → Came bytes r h
  read-in p e r h used (refused x) f = cc
  read-in p e r h used (cramped x g) f = cc
  read-in (no why) e r h used (ended x g y) f = cc
  read-in (got m t) e r h used (ended x g (crowded y)) f = cc
  read-in (got m t) e r h used (ended x g (words_short y l)) f = cc
  read-in (got m t) e r h used (ended x g (births_short y l)) f = cc
  read-in (got m t) e r h used (ended x g (pairs_short y l)) f = cc
  read-in (got m t) e r h used (ended x g (read y k l n)) f =
      let w = read-written m bytes t a e in
      record { mesh = m; takes = record { kept = w.kept; fine = x; uncrowded = y }; file = w.whole; said = refl; lists = refl }

module _ (bytes : List ℕ) (a : Bytes bytes) (said : Reading) (words words' births births' pairs pairs' keys keys' rows rows' spare spare' counts counts' : List ℕ)
    (k : MeshRead bytes (Ok said) words words' births births' pairs pairs' keys keys' rows rows' spare spare' counts counts') where
  -- the file that was read is that of the lists that were handed out
  pub came : Came bytes (Ok said) k.handed
  came =
      read-in bytes a (record { words = words; births = births; pairs = pairs }) (need_of (mesh_in (read_file bytes)).d (length (mesh_in (read_file bytes)).words)) (lengths keys rows spare counts) said (read_file bytes) refl (Ok said) k.handed k.used k.comes refl

  -- and with room writing that mesh gives the bytes again
  pub read-then-written : (r : Counted) (out out' keys₂ keys₂' rows₂ rows₂' spare₂ spare₂' counts₂ counts₂' : List ℕ) → MeshWritten came.mesh r out out' keys₂ keys₂' rows₂ rows₂' spare₂ spare₂' counts₂ counts₂' →
      Roomy (need_of came.mesh.d (length came.mesh.words)) (lengths keys₂ rows₂ spare₂ counts₂) → length bytes ≤ length out → (r ≡ Ok (length bytes)) × (out' ≡ onto bytes out)
  read-then-written r out out' keys₂ keys₂' rows₂ rows₂' spare₂ spare₂' counts₂ counts₂' w room long =
      let f = came.file in
      let e = taken-written came.mesh r out out' keys₂ keys₂' rows₂ rows₂' spare₂ spare₂' counts₂ counts₂' came.takes w room (subst (λ (l : List ℕ). length l ≤ length out) f long) in
      (e.0 ∙ ap (λ (l : List ℕ). Ok (length l)) (sym f), e.1 ∙ ap (λ (l : List ℕ). onto l out) (sym f))
