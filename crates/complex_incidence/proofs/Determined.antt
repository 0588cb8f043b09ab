-- The promise determines what is said and every list: two calls on equal inputs end alike. Assumes nothing.
use Rattle.refusal.specs.Says.{Counted}
use mathlib.Core.List.{List, []}
use mathlib.Core.Path.{◌≡◌, refl, sym, ap, ◌∙◌}
use Prim.Native.Nat.{ℕ}
use native.Mathlib.Omega.{arith}
use lib.ListN.{length}
use Rattle.refusal.specs.Lent.{onto}
use Rattle.complex.specs.Room.{need_of}
use Rattle.skeleton.specs.Promise.{GivesBoth, words_short, table_short, both_listed}
use Rattle.skeleton.proofs.Determined.{call-one}
use Rattle.complex_faces.specs.Index.{starts_of, word_index}
use Rattle.complex_incidence.specs.Promise.{Indexed}

both_one : (words : List (List ℕ)) (table : List ℕ) (g t : ℕ) (r r' : Counted) (l l' : List ℕ × List ℕ) → GivesBoth words table g t r l → GivesBoth words table g t r' l' → (r ≡ r') × (l ≡ l')
both_one words table g t r r' l l' (words_short h) (words_short k) = (refl, refl)
both_one words table g t r r' l l' (words_short h) (table_short k) = (refl, refl)
both_one words table g t r r' l l' (words_short h) (both_listed k m) = absurd (omega arith)
both_one words table g t r r' l l' (table_short h) (words_short k) = (refl, refl)
both_one words table g t r r' l l' (table_short h) (table_short k) = (refl, refl)
both_one words table g t r r' l l' (table_short h) (both_listed k m) = absurd (omega arith)
both_one words table g t r r' l l' (both_listed h m) (words_short k) = absurd (omega arith)
both_one words table g t r r' l l' (both_listed h m) (table_short k) = absurd (omega arith)
both_one words table g t r r' l l' (both_listed h m) (both_listed k n) = (refl, refl)

pub incidence-one : (d : ℕ) (ws : List ℕ) (r r' : Counted) (out s s' starts t t' keys k k' rows o o' spare p p' counts c c' : List ℕ) → Indexed d ws r out s starts t keys k rows o spare p counts c → Indexed d ws r' out s' starts t' keys k' rows o' spare p' counts c' →
    (r ≡ r') × (s ≡ s') × (t ≡ t') × ((k ≡ k') × (o ≡ o') × (p ≡ p') × (c ≡ c'))
incidence-one d ws r r' out s s' starts t t' keys k k' rows o o' spare p p' counts c c' a b =
    let w = call-one ([], []) d (GivesBoth (word_index d ws) (starts_of (word_index d ws)) (length out) (length starts)) (both_one (word_index d ws) (starts_of (word_index d ws)) (length out) (length starts)) (need_of d (length ws)) ws r r' a.handed b.handed keys k k' rows o o' spare p p' counts c c' a.call b.call in
    (w.0, a.result ∙ ap (λ (l : List ℕ × List ℕ). onto l.0 out) w.1 ∙ sym b.result, a.sides ∙ ap (λ (l : List ℕ × List ℕ). onto l.1 starts) w.1 ∙ sym b.sides, w.2)
