-- The promises determine what is said and every list: two calls on equal inputs end alike. Assumes nothing.
use Rattle.refusal.specs.Says.{Counted}
use mathlib.Core.List.{List, []}
use mathlib.Core.Path.{◌≡◌, refl, sym, ap, ◌∙◌}
use Prim.Native.Nat.{ℕ, ◌≤◌}
use native.Mathlib.Omega.{arith}
use lib.ListN.{length}
use lib.IntN.{ℤ}
use Rattle.refusal.specs.Lent.{onto}
use Rattle.complex.specs.Cells.{cells_of}
use Rattle.skeleton.specs.Promise.{Gives, short, listed}
use Rattle.skeleton.proofs.Determined.{call-one}
use Rattle.complex_faces.specs.Faces.{faces_of}
use Rattle.complex_faces.specs.Entries.{Entry, entries_of}
use Rattle.complex_boundary.specs.Need.{face_need}
use Rattle.complex_boundary.specs.Promise.{Within, outside, inside, Faced, GivesEntries, signs_short, faces_short, cofaces_short, entries_listed, Bounded}

pub within-one : {H : Type 0} (nothing : H) (There : Type 0) (Rest : Counted → H → Type 0) (one : (r r' : Counted) (h h' : H) → Rest r h → Rest r' h' → (r ≡ r') × (h ≡ h')) (r r' : Counted) (h h' : H) → Within nothing There Rest r h → Within nothing There Rest r' h' → (r ≡ r') × (h ≡ h')
within-one nothing There Rest one r r' h h' (outside n) (outside m) = (refl, refl)
within-one nothing There Rest one r r' h h' (outside n) (inside t x) = absurd (n t)
within-one nothing There Rest one r r' h h' (inside t x) (outside n) = absurd (n t)
within-one nothing There Rest one r r' h h' (inside t x) (inside u y) = one r r' h h' x y

gives_one : (words : List (List ℕ)) (g : ℕ) (r r' : Counted) (l l' : List ℕ) → Gives words g r l → Gives words g r' l' → (r ≡ r') × (l ≡ l')
gives_one words g r r' l l' (short h) (short k) = (refl, refl)
gives_one words g r r' l l' (short h) (listed k) = absurd (omega arith)
gives_one words g r r' l l' (listed h) (short k) = absurd (omega arith)
gives_one words g r r' l l' (listed h) (listed k) = (refl, refl)

entries-one : (es : List Entry) (a b c : ℕ) (r r' : Counted) (l l' : List ℤ × List ℕ × List ℕ) → GivesEntries es a b c r l → GivesEntries es a b c r' l' → (r ≡ r') × (l ≡ l')
entries-one es a b c r r' l l' (signs_short h) (signs_short k) = (refl, refl)
entries-one es a b c r r' l l' (signs_short h) (faces_short k) = (refl, refl)
entries-one es a b c r r' l l' (signs_short h) (cofaces_short k) = (refl, refl)
entries-one es a b c r r' l l' (signs_short h) (entries_listed x y z) = absurd (omega arith)
entries-one es a b c r r' l l' (faces_short h) (signs_short k) = (refl, refl)
entries-one es a b c r r' l l' (faces_short h) (faces_short k) = (refl, refl)
entries-one es a b c r r' l l' (faces_short h) (cofaces_short k) = (refl, refl)
entries-one es a b c r r' l l' (faces_short h) (entries_listed x y z) = absurd (omega arith)
entries-one es a b c r r' l l' (cofaces_short h) (signs_short k) = (refl, refl)
entries-one es a b c r r' l l' (cofaces_short h) (faces_short k) = (refl, refl)
entries-one es a b c r r' l l' (cofaces_short h) (cofaces_short k) = (refl, refl)
entries-one es a b c r r' l l' (cofaces_short h) (entries_listed x y z) = absurd (omega arith)
entries-one es a b c r r' l l' (entries_listed x y z) (signs_short k) = absurd (omega arith)
entries-one es a b c r r' l l' (entries_listed x y z) (faces_short k) = absurd (omega arith)
entries-one es a b c r r' l l' (entries_listed x y z) (cofaces_short k) = absurd (omega arith)
entries-one es a b c r r' l l' (entries_listed x y z) (entries_listed u v w) = (refl, refl)

pub faces-one : (d e : ℕ) (ws : List ℕ) (r r' : Counted) (out s s' keys k k' rows o o' spare p p' counts c c' : List ℕ) → Faced d e ws r out s keys k rows o spare p counts c → Faced d e ws r' out s' keys k' rows o' spare p' counts c' →
    (r ≡ r') × (s ≡ s') × ((k ≡ k') × (o ≡ o') × (p ≡ p') × (c ≡ c'))
faces-one d e ws r r' out s s' keys k k' rows o o' spare p p' counts c c' a b =
    let w = call-one [] d (Within [] (e ≤ d) (Gives (faces_of (cells_of d ws) e) (length out))) (within-one [] (e ≤ d) (Gives (faces_of (cells_of d ws) e) (length out)) (gives_one (faces_of (cells_of d ws) e) (length out))) (face_need d (length ws)) ws r r' a.handed b.handed keys k k' rows o o' spare p p' counts c c' a.call b.call in
    (w.0, a.result ∙ ap (λ (l : List ℕ). onto l out) w.1 ∙ sym b.result, w.2)

pub boundary-one : (d e : ℕ) (ws : List ℕ) (r r' : Counted) (signs s s' : List ℤ) (faces f f' cofaces g g' keys k k' rows o o' spare p p' counts c c' : List ℕ) → Bounded d e ws r signs s faces f cofaces g keys k rows o spare p counts c → Bounded d e ws r' signs s' faces f' cofaces g' keys k' rows o' spare p' counts c' →
    (r ≡ r') × (s ≡ s') × (f ≡ f') × (g ≡ g') × ((k ≡ k') × (o ≡ o') × (p ≡ p') × (c ≡ c'))
boundary-one d e ws r r' signs s s' faces f f' cofaces g g' keys k k' rows o o' spare p p' counts c c' a b =
    let w = call-one ([], [], []) d (Within ([], [], []) ((1 ≤ e) × (e ≤ d)) (GivesEntries (entries_of (cells_of d ws) e) (length signs) (length faces) (length cofaces))) (within-one ([], [], []) ((1 ≤ e) × (e ≤ d)) (GivesEntries (entries_of (cells_of d ws) e) (length signs) (length faces) (length cofaces)) (entries-one (entries_of (cells_of d ws) e) (length signs) (length faces) (length cofaces))) (face_need d (length ws)) ws r r' a.handed b.handed keys k k' rows o o' spare p p' counts c c' a.call b.call in
    (w.0, a.signs_are ∙ ap (λ (l : List ℤ × List ℕ × List ℕ). onto l.0 signs) w.1 ∙ sym b.signs_are, a.faces_are ∙ ap (λ (l : List ℤ × List ℕ × List ℕ). onto l.1 faces) w.1 ∙ sym b.faces_are, a.cofaces_are ∙ ap (λ (l : List ℤ × List ℕ × List ℕ). onto l.2 cofaces) w.1 ∙ sym b.cofaces_are, w.2)
