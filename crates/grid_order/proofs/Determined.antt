-- The promise of `triangulate_ordered` determines what it says and every list: two calls on equal inputs end alike. Assumes nothing.
use Rattle.refusal.specs.declared.Refusal.{Refusal}
use Rattle.std.specs.Prelude.{Err, Result}
use mathlib.Core.List.{List}
use mathlib.Core.Path.{◌≡◌, refl, sym, ap, ◌∙◌}
use Prim.Native.Nat.{ℕ}
use native.Mathlib.Omega.{arith}
use lib.ListN.{length}
use Rattle.refusal.specs.Lent.{onto, lengths}
use Rattle.refusal.proofs.Determined.{comes-one, cleared-one}
use Rattle.quotient.specs.declared.Grid.{Grid}
use Rattle.quotient.specs.Shape.{check_of}
use Rattle.grid_order.specs.declared.Triangulated.{Triangulated}
use Rattle.grid_order.specs.Promise.{order_room, Handed, nothing, Ends, crowded, short, short_order, ordered, unordered, TriangulateOrdered}

pub ends-one : (g : Grid) (n k : ℕ) (r r' : Result Triangulated Refusal) (l l' : Handed) → Ends g n k r l → Ends g n k r' l' → (r ≡ r') × (l ≡ l')
ends-one g n k r r' l l' (crowded x) (crowded y) = (refl, refl)
ends-one g n k r r' l l' (crowded x) (short f h) = absurd (f x)
ends-one g n k r r' l l' (crowded x) (short_order f o h) = absurd (f x)
ends-one g n k r r' l l' (crowded x) (ordered f o h i) = absurd (f x)
ends-one g n k r r' l l' (crowded x) (unordered f o h) = absurd (f x)
ends-one g n k r r' l l' (short f h) (crowded x) = absurd (f x)
ends-one g n k r r' l l' (short f h) (short f' h') = (refl, refl)
ends-one g n k r r' l l' (short f h) (short_order f' o' h') = (refl, refl)
ends-one g n k r r' l l' (short f h) (ordered f' o' h' i') = absurd (omega arith)
ends-one g n k r r' l l' (short f h) (unordered f' o' h') = absurd (omega arith)
ends-one g n k r r' l l' (short_order f o h) (crowded x) = absurd (f x)
ends-one g n k r r' l l' (short_order f o h) (short f' h') = (refl, refl)
ends-one g n k r r' l l' (short_order f o h) (short_order f' o' h') = (refl, refl)
ends-one g n k r r' l l' (short_order f o h) (ordered f' o' h' i') = absurd (omega arith)
ends-one g n k r r' l l' (short_order f o h) (unordered f' o' h') = absurd (o' o)
ends-one g n k r r' l l' (ordered f o h i) (crowded x) = absurd (f x)
ends-one g n k r r' l l' (ordered f o h i) (short f' h') = absurd (omega arith)
ends-one g n k r r' l l' (ordered f o h i) (short_order f' o' h') = absurd (omega arith)
ends-one g n k r r' l l' (ordered f o h i) (ordered f' o' h' i') = (refl, refl)
ends-one g n k r r' l l' (ordered f o h i) (unordered f' o' h') = absurd (o' o)
ends-one g n k r r' l l' (unordered f o h) (crowded x) = absurd (f x)
ends-one g n k r r' l l' (unordered f o h) (short f' h') = absurd (omega arith)
ends-one g n k r r' l l' (unordered f o h) (short_order f' o' h') = absurd (o o')
ends-one g n k r r' l l' (unordered f o h) (ordered f' o' h' i') = absurd (o o')
ends-one g n k r r' l l' (unordered f o h) (unordered f' o' h') = (refl, refl)

-- two exits of one call: what is said, the result lists and the working lists are equal
pub triangulate-ordered-one : (g : Grid) (r r' : Result Triangulated Refusal) (cells w w' order q q' keys k k' rows o o' spare p p' counts c c' : List ℕ) → TriangulateOrdered g r cells w order q keys k rows o spare p counts c →
    TriangulateOrdered g r' cells w' order q' keys k' rows o' spare p' counts c' → (r ≡ r') × (w ≡ w') × (q ≡ q') × ((k ≡ k') × (o ≡ o') × (p ≡ p') × (c ≡ c'))
triangulate-ordered-one g r r' cells w w' order q q' keys k k' rows o o' spare p p' counts c c' a b =
    let e = comes-one Err nothing (check_of g) (order_room g) (lengths keys rows spare counts) (Ends g (length cells) (length order)) (ends-one g (length cells) (length order)) a.comes b.comes in (
      e.0,
      a.the_cells ∙ ap (λ (l : Handed). onto l.cells cells) e.1 ∙ sym b.the_cells,
      a.the_order ∙ ap (λ (l : Handed). onto l.order order) e.1 ∙ sym b.the_order,
      cleared-one a.used b.used keys k k' rows o o' spare p p' counts c c' e.2 a.room b.room,
    )
