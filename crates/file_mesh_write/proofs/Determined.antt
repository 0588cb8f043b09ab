-- The promise determines what is said and every list: two calls on equal inputs end alike. Assumes nothing.
use Rattle.refusal.specs.Says.{Counted}
use mathlib.Core.Bool.{false≢true}
use mathlib.Core.List.{List, []}
use mathlib.Core.Path.{◌≡◌, refl, sym, ap, ◌∙◌}
use Prim.Native.Nat.{ℕ}
use native.Mathlib.Omega.{arith}
use lib.ListN.{length}
use Rattle.refusal.specs.Lent.{onto}
use Rattle.complex.specs.Room.{need_of}
use Rattle.skeleton.proofs.Determined.{call-one}
use Rattle.file_mesh.specs.Mesh.{Mesh}
use Rattle.file_mesh_write.specs.Promise.{Writes, broken, short, written, MeshWritten}

writes_one : (m : Mesh) (given : ℕ) (r r' : Counted) (l l' : List ℕ) → Writes m given r l → Writes m given r' l' → (r ≡ r') × (l ≡ l')
writes_one m given r r' l l' (broken e) (broken f) = (refl, refl)
writes_one m given r r' l l' (broken e) (short f h) = absurd (false≢true (sym e ∙ f))
writes_one m given r r' l l' (broken e) (written f h) = absurd (false≢true (sym e ∙ f))
writes_one m given r r' l l' (short e h) (broken f) = absurd (false≢true (sym f ∙ e))
writes_one m given r r' l l' (short e h) (short f k) = (refl, refl)
writes_one m given r r' l l' (short e h) (written f k) = absurd (omega arith)
writes_one m given r r' l l' (written e h) (broken f) = absurd (false≢true (sym f ∙ e))
writes_one m given r r' l l' (written e h) (short f k) = absurd (omega arith)
writes_one m given r r' l l' (written e h) (written f k) = (refl, refl)

-- two exits of one call
pub written_one : (m : Mesh) (r r' : Counted) (bytes b b' keys k k' rows o o' spare p p' counts c c' : List ℕ) → MeshWritten m r bytes b keys k rows o spare p counts c → MeshWritten m r' bytes b' keys k' rows o' spare p' counts c' →
    (r ≡ r') × (b ≡ b') × ((k ≡ k') × (o ≡ o') × (p ≡ p') × (c ≡ c'))
written_one m r r' bytes b b' keys k k' rows o o' spare p p' counts c c' x y =
    let e = call-one [] m.d (Writes m (length bytes)) (writes_one m (length bytes)) (need_of m.d (length m.words)) m.words r r' x.handed y.handed keys k k' rows o o' spare p p' counts c c' x.call y.call in
    (e.0, x.result ∙ ap (λ (l : List ℕ). onto l bytes) e.1 ∙ sym y.result, e.2)
