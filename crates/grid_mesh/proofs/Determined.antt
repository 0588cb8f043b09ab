-- The promise of `cell_words` determines what it says and every list: two calls on equal inputs end alike. Assumes nothing.
use Rattle.refusal.specs.Says.{Counted}
use Rattle.std.specs.Prelude.{Err}
use mathlib.Core.List.{List, []}
use mathlib.Core.Path.{◌≡◌, refl, sym, ap, ◌∙◌}
use Prim.Native.Nat.{ℕ}
use native.Mathlib.Omega.{arith}
use lib.ListN.{length}
use Rattle.refusal.specs.Lent.{onto, lengths}
use Rattle.refusal.proofs.Determined.{comes-one, cleared-one}
use Rattle.quotient.specs.declared.Grid.{Grid}
use Rattle.quotient.specs.Shape.{check_of}
use Rattle.grid_mesh.specs.Words.{grid_need, WordsEnd, crowded, short, written, CellWords}

pub ends-one : (g : Grid) (n : ℕ) (r r' : Counted) (l l' : List ℕ) → WordsEnd g n r l → WordsEnd g n r' l' → (r ≡ r') × (l ≡ l')
ends-one g n r r' l l' (crowded x) (crowded y) = (refl, refl)
ends-one g n r r' l l' (crowded x) (short f h) = absurd (f x)
ends-one g n r r' l l' (crowded x) (written f h) = absurd (f x)
ends-one g n r r' l l' (short f h) (crowded x) = absurd (f x)
ends-one g n r r' l l' (short f h) (short f' h') = (refl, refl)
ends-one g n r r' l l' (short f h) (written f' h') = absurd (omega arith)
ends-one g n r r' l l' (written f h) (crowded x) = absurd (f x)
ends-one g n r r' l l' (written f h) (short f' h') = absurd (omega arith)
ends-one g n r r' l l' (written f h) (written f' h') = (refl, refl)

-- two exits of one call: what is said, the word lists and the working lists are equal
pub cell-words-one : (g : Grid) (r r' : Counted) (words w w' keys k k' rows o o' spare p p' counts c c' : List ℕ) → CellWords g r words w keys k rows o spare p counts c → CellWords g r' words w' keys k' rows o' spare p' counts c' →
    (r ≡ r') × (w ≡ w') × ((k ≡ k') × (o ≡ o') × (p ≡ p') × (c ≡ c'))
cell-words-one g r r' words w w' keys k k' rows o o' spare p p' counts c c' a b =
    let e = comes-one Err [] (check_of g) (grid_need g) (lengths keys rows spare counts) (WordsEnd g (length words)) (ends-one g (length words)) a.comes b.comes in (
      e.0,
      a.result ∙ ap (λ (l : List ℕ). onto l words) e.1 ∙ sym b.result,
      cleared-one a.used b.used keys k k' rows o o' spare p p' counts c c' e.2 a.room b.room,
    )
