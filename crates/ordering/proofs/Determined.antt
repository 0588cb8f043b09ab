-- The promise of `ordering` determines what it says and every list; an order is told to agree exactly if it does. Assumes nothing.
use Rattle.refusal.specs.declared.Refusal.{Refusal}
use Rattle.std.specs.Prelude.{Err, Ok, Result}
use mathlib.Core.List.{List, []}
use mathlib.Core.Path.{◌≡◌, refl, sym, ap, ◌∙◌}
use Prim.Native.Nat.{ℕ, suc, ◌*◌, ◌≤◌}
use native.Mathlib.Omega.{arith}
use lib.ListN.{length}
use Rattle.refusal.specs.Lent.{onto, lengths}
use Rattle.refusal.proofs.Determined.{comes-one, cleared-one}
use Rattle.complex.specs.Check.{answer_of}
use Rattle.complex.specs.Cells.{cells_of}
use Rattle.complex.specs.Facets.{Crowded}
use Rattle.ordering.specs.declared.Ordered.{Ordered}
use Rattle.ordering.specs.declared.Ordered.TheVariants.{Agree}
use Rattle.ordering_words.specs.Order.{words_by, Orders, AgreeOnFacets}
use Rattle.ordering.specs.Promise.{order_need, Ends, Ordering}
use Rattle.ordering.specs.Promise.Ends.{crowded as ends-crowded, unordered as ends-unordered, short as ends-short, agreed as ends-agreed, differs as ends-differs}

module _ (d : ℕ) (cs : List (List ℕ)) (order : List ℕ) (given : ℕ) where
  pub ends-one : (r r' : Result Ordered Refusal) (h h' : List ℕ) → Ends d cs order given r h → Ends d cs order given r' h' → (r ≡ r') × (h ≡ h')
  ends-one r r' h h' (ends-crowded x) (ends-crowded x') = (refl, refl)
  ends-one r r' h h' (ends-crowded x) (ends-unordered n' f') = absurd (n' x)
  ends-one r r' h h' (ends-crowded x) (ends-short n' o' l') = absurd (n' x)
  ends-one r r' h h' (ends-crowded x) (ends-agreed n' o' l' a') = absurd (n' x)
  ends-one r r' h h' (ends-crowded x) (ends-differs n' o' l' g') = absurd (n' x)
  ends-one r r' h h' (ends-unordered n f) (ends-crowded x') = absurd (n x')
  ends-one r r' h h' (ends-unordered n f) (ends-unordered n' f') = (refl, refl)
  ends-one r r' h h' (ends-unordered n f) (ends-short n' o' l') = absurd (f o')
  ends-one r r' h h' (ends-unordered n f) (ends-agreed n' o' l' a') = absurd (f o')
  ends-one r r' h h' (ends-unordered n f) (ends-differs n' o' l' g') = absurd (f o')
  ends-one r r' h h' (ends-short n o l) (ends-crowded x') = absurd (n x')
  ends-one r r' h h' (ends-short n o l) (ends-unordered n' f') = absurd (f' o)
  ends-one r r' h h' (ends-short n o l) (ends-short n' o' l') = (refl, refl)
  ends-one r r' h h' (ends-short n o l) (ends-agreed n' o' l' a') = absurd (omega arith)
  ends-one r r' h h' (ends-short n o l) (ends-differs n' o' l' g') = absurd (omega arith)
  ends-one r r' h h' (ends-agreed n o l a) (ends-crowded x') = absurd (n x')
  ends-one r r' h h' (ends-agreed n o l a) (ends-unordered n' f') = absurd (f' o)
  ends-one r r' h h' (ends-agreed n o l a) (ends-short n' o' l') = absurd (omega arith)
  ends-one r r' h h' (ends-agreed n o l a) (ends-agreed n' o' l' a') = (refl, refl)
  ends-one r r' h h' (ends-agreed n o l a) (ends-differs n' o' l' g') = absurd (g' a)
  ends-one r r' h h' (ends-differs n o l g) (ends-crowded x') = absurd (n x')
  ends-one r r' h h' (ends-differs n o l g) (ends-unordered n' f') = absurd (f' o)
  ends-one r r' h h' (ends-differs n o l g) (ends-short n' o' l') = absurd (omega arith)
  ends-one r r' h h' (ends-differs n o l g) (ends-agreed n' o' l' a') = absurd (g a')
  ends-one r r' h h' (ends-differs n o l g) (ends-differs n' o' l' g') = (refl, refl)

-- where nothing is refused, agreement is told exactly if the order agrees on every facet of two cells
module _ (d : ℕ) (cs : List (List ℕ)) (order : List ℕ) (given : ℕ) (free : Crowded d cs → ⊥) (ordered : Orders d cs order) (fits : length cs * suc d ≤ given) where
  pub agree-exactly : (r : Result Ordered Refusal) (h : List ℕ) → Ends d cs order given r h → (r ≡ (Ok (Agree (length cs))) → AgreeOnFacets d cs (words_by d cs order)) × (AgreeOnFacets d cs (words_by d cs order) → r ≡ (Ok (Agree (length cs))))
  agree-exactly r h (ends-crowded x) = absurd (free x)
  agree-exactly r h (ends-unordered n f) = absurd (f ordered)
  agree-exactly r h (ends-short n o l) = absurd (omega arith)
  agree-exactly r h (ends-agreed n o l a) = (λ e. a, λ a'. refl)
  agree-exactly r h (ends-differs n o l g) = (λ e. cc, λ a. absurd (g a))

-- two exits of one call agree in everything
pub ordering-one : (d : ℕ) (ws order : List ℕ) (r r' : Result Ordered Refusal) (by b b' keys k k' rows o o' spare p p' counts c c' : List ℕ) → Ordering d ws order r by b keys k rows o spare p counts c → Ordering d ws order r' by b' keys k' rows o' spare p' counts c' → (r ≡ r') × (b ≡ b') × (k ≡ k') × (o ≡ o') × (p ≡ p') × (c ≡ c')
ordering-one d ws order r r' by b b' keys k k' rows o o' spare p p' counts c c' x y =
    let w = comes-one Err [] (answer_of d ws) (order_need (length ws)) (lengths keys rows spare counts) (Ends d (cells_of d ws) order (length by)) (ends-one d (cells_of d ws) order (length by)) x.comes y.comes in
    let z = cleared-one x.used y.used keys k k' rows o o' spare p p' counts c c' w.2 x.room y.room in
    (w.0, x.result ∙ ap (λ (h : List ℕ). onto h by) w.1 ∙ sym y.result, z.0, z.1, z.2, z.3)
