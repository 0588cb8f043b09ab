-- The promise determines what is said and every list: two calls on equal inputs end alike. Assumes nothing.
use Rattle.refusal.specs.declared.Refusal.{Refusal}
use Rattle.std.specs.Prelude.{Err, Result}
use mathlib.Core.List.{List}
use mathlib.Core.Path.{◌≡◌, refl, sym, ap, ◌∙◌}
use Prim.Native.Nat.{ℕ}
use native.Mathlib.Omega.{arith}
use lib.ListN.{length}
use Rattle.refusal.specs.Lent.{onto, lengths}
use Rattle.refusal.proofs.Determined.{comes-one, cleared-one}
use Rattle.complex.specs.Room.{need_of}
use Rattle.file_mesh.specs.Mesh.{Mesh}
use Rattle.file_mesh.specs.Read.{read_file}
use Rattle.file_mesh_read.specs.declared.Reading.{Reading}
use Rattle.file_mesh_read.specs.Promise.{mesh_in, refused_in, Lists, none, Gives, crowded, words_short, births_short, pairs_short, read, MeshRead}

gives_one : (m : Mesh) (given : Lists) (r r' : Result Reading Refusal) (l l' : Lists) → Gives m given r l → Gives m given r' l' → (r ≡ r') × (l ≡ l')
gives_one m given r r' l l' (crowded x) (crowded x') = (refl, refl)
gives_one m given r r' l l' (crowded x) (words_short n' h') = absurd (n' x)
gives_one m given r r' l l' (crowded x) (births_short n' h') = absurd (n' x)
gives_one m given r r' l l' (crowded x) (pairs_short n' h') = absurd (n' x)
gives_one m given r r' l l' (crowded x) (read n' a' b' c') = absurd (n' x)
gives_one m given r r' l l' (words_short n h) (crowded x') = absurd (n x')
gives_one m given r r' l l' (words_short n h) (words_short n' h') = (refl, refl)
gives_one m given r r' l l' (words_short n h) (births_short n' h') = (refl, refl)
gives_one m given r r' l l' (words_short n h) (pairs_short n' h') = (refl, refl)
gives_one m given r r' l l' (words_short n h) (read n' a' b' c') = absurd (omega arith)
gives_one m given r r' l l' (births_short n h) (crowded x') = absurd (n x')
gives_one m given r r' l l' (births_short n h) (words_short n' h') = (refl, refl)
gives_one m given r r' l l' (births_short n h) (births_short n' h') = (refl, refl)
gives_one m given r r' l l' (births_short n h) (pairs_short n' h') = (refl, refl)
gives_one m given r r' l l' (births_short n h) (read n' a' b' c') = absurd (omega arith)
gives_one m given r r' l l' (pairs_short n h) (crowded x') = absurd (n x')
gives_one m given r r' l l' (pairs_short n h) (words_short n' h') = (refl, refl)
gives_one m given r r' l l' (pairs_short n h) (births_short n' h') = (refl, refl)
gives_one m given r r' l l' (pairs_short n h) (pairs_short n' h') = (refl, refl)
gives_one m given r r' l l' (pairs_short n h) (read n' a' b' c') = absurd (omega arith)
gives_one m given r r' l l' (read n a b c) (crowded x') = absurd (n x')
gives_one m given r r' l l' (read n a b c) (words_short n' h') = absurd (omega arith)
gives_one m given r r' l l' (read n a b c) (births_short n' h') = absurd (omega arith)
gives_one m given r r' l l' (read n a b c) (pairs_short n' h') = absurd (omega arith)
gives_one m given r r' l l' (read n a b c) (read n' a' b' c') = (refl, refl)

-- two exits of one call
pub read_one : (bytes : List ℕ) (r r' : Result Reading Refusal) (words w w' births b b' pairs q q' keys k k' rows o o' spare p p' counts c c' : List ℕ) →
    MeshRead bytes r words w births b pairs q keys k rows o spare p counts c → MeshRead bytes r' words w' births b' pairs q' keys k' rows o' spare p' counts c' →
    (r ≡ r') × ((w ≡ w') × (b ≡ b') × (q ≡ q')) × ((k ≡ k') × (o ≡ o') × (p ≡ p') × (c ≡ c'))
read_one bytes r r' words w w' births b b' pairs q q' keys k k' rows o o' spare p p' counts c c' x y =
    let m = mesh_in (read_file bytes) in
    let given : Lists = record { words = words; births = births; pairs = pairs } in
    let e = comes-one Err none (refused_in (read_file bytes)) (need_of m.d (length m.words)) (lengths keys rows spare counts) (Gives m given) (gives_one m given) x.comes y.comes in (
      e.0,
      (
        x.of_words ∙ ap (λ (l : Lists). onto l.words words) e.1 ∙ sym y.of_words,
        x.of_births ∙ ap (λ (l : Lists). onto l.births births) e.1 ∙ sym y.of_births,
        x.of_pairs ∙ ap (λ (l : Lists). onto l.pairs pairs) e.1 ∙ sym y.of_pairs,
      ),
      cleared-one x.used y.used keys k k' rows o o' spare p p' counts c c' e.2 x.room y.room,
    )
