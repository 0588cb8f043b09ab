-- A refinement by R ≥ 2 is written: with room, the call that writes says the length of the file. Assumes nothing.
use Rattle.refusal.specs.Says.{Counted}
use Rattle.std.specs.Prelude.{Err, Ok}
use mathlib.Core.Path.{◌≡◌, refl, sym, ap, ◌∙◌}
use mathlib.Core.Bool.{false≢true}
use mathlib.Core.List.{List, []}
use Prim.Native.Nat.{ℕ, ◌≤◌}
use native.Mathlib.Omega.{arith}
use lib.ListN.{length}
use Rattle.refusal.specs.declared.Room.{Room}
use Rattle.refusal.specs.Lent.{onto, lengths, Roomy}
use Rattle.refusal.proofs.Chain.{fine-refused}
use Rattle.refusal.specs.Call.{Comes, refused, cramped, ended}
use Rattle.complex.specs.Check.{answer_of}
use Rattle.complex.specs.Cells.{cells_of}
use Rattle.complex.specs.Room.{need_of}
use Rattle.skeleton.specs.Promise.{Ends}
use Rattle.skeleton.specs.Promise as Skeleton
use Rattle.file_mesh.specs.Mesh.{Mesh}
use Rattle.file_mesh.specs.File.{file_of}
use Rattle.file_mesh_write.specs.Promise.{Writes, broken, short, written, MeshWritten}
use Rattle.file_mesh_laws.proofs.Calls.{Takes}

module _ (m : Mesh) (t : Takes m) (given : ℕ) (long : length (file_of m) ≤ given) (need have : Room) (room : Roomy need have) where
  ends-written : (r : Counted) (h : List ℕ) (used : Room) → Comes Err [] (answer_of m.d m.words) need have (Ends [] m.d (cells_of m.d m.words) (Writes m given)) r h used →
      (r ≡ Ok (length (file_of m))) × (h ≡ file_of m)
  ends-written r h used (refused {why = why} e) = absurd (fine-refused why (sym e ∙ t.fine))
  ends-written r h used (cramped e g) = absurd (g room)
  ends-written r h used (ended e g (Skeleton.crowded x)) = absurd (t.uncrowded x)
  ends-written r h used (ended e g (Skeleton.rest y (broken f))) = absurd (false≢true (sym f ∙ t.kept))
  ends-written r h used (ended e g (Skeleton.rest y (short f l))) = absurd (omega arith)
  ends-written r h used (ended e g (Skeleton.rest y (written f l))) = (refl, refl)

-- with the room that it needs
pub taken-written : (m : Mesh) (r : Counted) (bytes bytes' keys keys' rows rows' spare spare' counts counts' : List ℕ) → Takes m → MeshWritten m r bytes bytes' keys keys' rows rows' spare spare' counts counts' →
    Roomy (need_of m.d (length m.words)) (lengths keys rows spare counts) → length (file_of m) ≤ length bytes → (r ≡ Ok (length (file_of m))) × (bytes' ≡ onto (file_of m) bytes)
taken-written m r bytes bytes' keys keys' rows rows' spare spare' counts counts' t w room long =
    let e = ends-written m t (length bytes) long (need_of m.d (length m.words)) (lengths keys rows spare counts) room r w.handed w.call.used w.call.comes in
    (e.0, w.result ∙ ap (λ (l : List ℕ). onto l bytes) e.1)
