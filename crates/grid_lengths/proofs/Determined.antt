-- The promise of `edge_lengths_sq` determines what it says and every list: two calls on equal inputs end alike. Assumes nothing.
use Rattle.refusal.specs.Says.{Counted}
use Rattle.std.specs.Prelude.{Err}
use mathlib.Core.List.{List, [], ◌∷◌, map}
use mathlib.Core.Path.{◌≡◌, refl, sym, ap, ◌∙◌}
use Prim.Native.Nat.{ℕ}
use native.Mathlib.Omega.{arith}
use lib.Ieee.{Float}
use lib.ListN.{length}
use Rattle.refusal.specs.Lent.{onto, lengths}
use Rattle.refusal.proofs.Determined.{comes-one, cleared-one}
use Rattle.quotient.specs.declared.Grid.{Grid}
use Rattle.quotient.specs.Shape.{sides_check_of}
use Rattle.grid_lengths.specs.declared.EdgeLength.TheVariants.{Length}
use Rattle.grid_lengths.specs.Lengths.{lengths_need, LengthsEnd, clashing, short, listed, EdgeLengths}

-- lengths are known by what they say
pub lengths-one : (xs ys : List Float) → map Length xs ≡ map Length ys → xs ≡ ys
lengths-one [] [] e = refl
lengths-one [] (y ∷ ys) e = absurd (let z : ◌≡◌ {A = ℕ} 0 1 = cc in omega arith)
lengths-one (x ∷ xs) [] e = absurd (let z : ◌≡◌ {A = ℕ} 0 1 = cc in omega arith)
lengths-one (x ∷ xs) (y ∷ ys) e = let h : x ≡ y = cc in let t : map Length xs ≡ map Length ys = cc in let r = lengths-one xs ys t in cc

pub ends-one : (g : Grid) (n : ℕ) (r r' : Counted) (l l' : List Float) → LengthsEnd g n r l → LengthsEnd g n r' l' → (r ≡ r') × (l ≡ l')
ends-one g n r r' l l' (clashing x) (clashing y) = (refl, refl)
ends-one g n r r' l l' (clashing x) (short f h) = absurd (f x)
ends-one g n r r' l l' (clashing x) (listed f h e) = absurd (f x)
ends-one g n r r' l l' (short f h) (clashing x) = absurd (f x)
ends-one g n r r' l l' (short f h) (short f' h') = (refl, refl)
ends-one g n r r' l l' (short f h) (listed f' h' e) = absurd (omega arith)
ends-one g n r r' l l' (listed f h e) (clashing x) = absurd (f x)
ends-one g n r r' l l' (listed f h e) (short f' h') = absurd (omega arith)
ends-one g n r r' l l' (listed f h e) (listed f' h' e') = (refl, lengths-one l l' (sym e ∙ e'))

-- two exits of one call: what is said, the length lists and the working lists are equal
pub edge-lengths-one : (g : Grid) (r r' : Counted) (out o o' : List Float) (keys k k' rows w w' spare p p' counts c c' : List ℕ) → EdgeLengths g r out o keys k rows w spare p counts c → EdgeLengths g r' out o' keys k' rows w' spare p' counts c' →
    (r ≡ r') × (o ≡ o') × ((k ≡ k') × (w ≡ w') × (p ≡ p') × (c ≡ c'))
edge-lengths-one g r r' out o o' keys k k' rows w w' spare p p' counts c c' a b =
    let e = comes-one Err [] (sides_check_of g) (lengths_need g) (lengths keys rows spare counts) (LengthsEnd g (length out)) (ends-one g (length out)) a.comes b.comes in (
      e.0,
      a.result ∙ ap (λ (l : List Float). onto l out) e.1 ∙ sym b.result,
      cleared-one a.used b.used keys k k' rows w w' spare p p' counts c c' e.2 a.room b.room,
    )
