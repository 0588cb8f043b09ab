-- The promise of `orientation` determines what it says and every list: two calls on equal inputs end alike. Assumes nothing.
use Rattle.refusal.specs.declared.Refusal.{Refusal}
use Rattle.std.specs.Prelude.{Err, Result}
use mathlib.Core.List.{List, []}
use mathlib.Core.Path.{◌≡◌, refl, sym, ap, ◌∙◌}
use Prim.Native.Nat.{ℕ}
use native.Mathlib.Omega.{arith}
use lib.IntN.{ℤ}
use lib.ListN.{length}
use Rattle.orientation.specs.declared.Coherence.{Coherence}
use Rattle.refusal.specs.Lent.{onto, lengths}
use Rattle.refusal.proofs.Determined.{comes-one, cleared-one}
use Rattle.complex.specs.Check.{answer_of}
use Rattle.complex_facets.specs.Records.{record_need}
use Rattle.complex.specs.Cells.{cells_of}
use Rattle.orientation_signs.proofs.Unique.{one_list}
use Rattle.orientation.specs.Promise.{Ends, crowded, one_sided, short, signed, Orientation}

pub ends-one : (d : ℕ) (cs : List (List ℕ)) (g : ℕ) (r r' : Result Coherence Refusal) (l l' : List ℤ) → Ends d cs g r l → Ends d cs g r' l' → (r ≡ r') × (l ≡ l')
ends-one d cs g r r' l l' (crowded x) (crowded y) = (refl, refl)
ends-one d cs g r r' l l' (crowded x) (one_sided n f) = absurd (n x)
ends-one d cs g r r' l l' (crowded x) (short n σ o h) = absurd (n x)
ends-one d cs g r r' l l' (crowded x) (signed n σ o h) = absurd (n x)
ends-one d cs g r r' l l' (one_sided n f) (crowded x) = absurd (n x)
ends-one d cs g r r' l l' (one_sided n f) (one_sided n' f') = (refl, refl)
ends-one d cs g r r' l l' (one_sided n f) (short n' σ o h) = absurd (f σ o.coherent)
ends-one d cs g r r' l l' (one_sided n f) (signed n' σ o h) = absurd (f σ o.coherent)
ends-one d cs g r r' l l' (short n σ o h) (crowded x) = absurd (n x)
ends-one d cs g r r' l l' (short n σ o h) (one_sided n' f) = absurd (f σ o.coherent)
ends-one d cs g r r' l l' (short n σ o h) (short n' τ p k) = (refl, refl)
ends-one d cs g r r' l l' (short n σ o h) (signed n' τ p k) = absurd (omega arith)
ends-one d cs g r r' l l' (signed n σ o h) (crowded x) = absurd (n x)
ends-one d cs g r r' l l' (signed n σ o h) (one_sided n' f) = absurd (f σ o.coherent)
ends-one d cs g r r' l l' (signed n σ o h) (short n' τ p k) = absurd (omega arith)
ends-one d cs g r r' l l' (signed n σ o h) (signed n' τ p k) = (refl, one_list d cs σ τ o p)

-- two exits of one call: what is said, the sign lists and the working lists are equal
pub orientation-one : (d : ℕ) (ws : List ℕ) (r r' : Result Coherence Refusal) (signs s s' : List ℤ) (keys k k' rows o o' spare p p' counts c c' : List ℕ) → Orientation d ws r signs s keys k rows o spare p counts c → Orientation d ws r' signs s' keys k' rows o' spare p' counts c' →
    (r ≡ r') × (s ≡ s') × ((k ≡ k') × (o ≡ o') × (p ≡ p') × (c ≡ c'))
orientation-one d ws r r' signs s s' keys k k' rows o o' spare p p' counts c c' a b =
    let w = comes-one Err [] (answer_of d ws) (record_need (length ws)) (lengths keys rows spare counts) (Ends d (cells_of d ws) (length signs)) (ends-one d (cells_of d ws) (length signs)) a.comes b.comes in (
      w.0,
      a.result ∙ ap (λ (l : List ℤ). onto l signs) w.1 ∙ sym b.result,
      cleared-one a.used b.used keys k k' rows o o' spare p p' counts c c' w.2 a.room b.room,
    )
