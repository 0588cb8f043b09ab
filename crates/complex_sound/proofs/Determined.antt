-- The promise of the checks determines what they say and what the working lists hold. Assumes nothing.
use Rattle.refusal.specs.Says.{Answer}
use Rattle.std.specs.Prelude.{Err}
use mathlib.Core.List.{List}
use mathlib.Core.Path.{◌≡◌, refl}
use Prim.Native.Nat.{ℕ}
use lib.ListN.{length}
use Rattle.refusal.specs.Lent.{lengths}
use Rattle.refusal.proofs.Determined.{comes-one, cleared-one}
use Rattle.complex.specs.Check.{answer_of}
use Rattle.complex.specs.Cells.{cells_of}
use Rattle.complex.specs.Room.{need_of}
use Rattle.complex_sound.specs.Promise.{Facets, crowded, free, Checked}

facets-one : (d : ℕ) (cs : List (List ℕ)) (r r' : Answer) (h h' : Unit {0}) → Facets d cs r h → Facets d cs r' h' → (r ≡ r') × (h ≡ h')
facets-one d cs r r' h h' (crowded x) (crowded y) = (refl, refl)
facets-one d cs r r' h h' (crowded x) (free y) = absurd (y x)
facets-one d cs r r' h h' (free x) (crowded y) = absurd (x y)
facets-one d cs r r' h h' (free x) (free y) = (refl, refl)

-- two exits of one call agree
pub checked-one : (d : ℕ) (ws : List ℕ) (r r' : Answer) (keys k k' rows o o' spare p p' counts c c' : List ℕ) → Checked d ws r keys k rows o spare p counts c → Checked d ws r' keys k' rows o' spare p' counts c' →
    (r ≡ r') × ((k ≡ k') × (o ≡ o') × (p ≡ p') × (c ≡ c'))
checked-one d ws r r' keys k k' rows o o' spare p p' counts c c' a b =
    let w = comes-one Err (tt {0}) (answer_of d ws) (need_of d (length ws)) (lengths keys rows spare counts) (Facets d (cells_of d ws)) (facets-one d (cells_of d ws)) a.comes b.comes in
    (w.0, cleared-one a.used b.used keys k k' rows o o' spare p p' counts c c' w.2 a.room b.room)
