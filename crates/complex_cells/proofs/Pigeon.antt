-- In a list with no gap the largest number is below the length. Assumes nothing.
use mathlib.Core.Bool.{Bool, true, false, ◌||◌}
use mathlib.Core.List.{List, [], ◌∷◌}
use mathlib.Core.Path.{◌≡◌, refl, sym, ap, ◌∙◌, subst}
use mathlib.Core.Logic.{inl, inr, ⊎_elim}
use Prim.Native.Nat.{ℕ, zero, suc, ◌<◌, ◌≤◌, max}
use native.Mathlib.Decide.{dec_lt}
use native.Mathlib.Omega.{arith}
use lib.Dec.{eqb}
use lib.ListN.{length}
use borrow.Author.Tests.{eqb-true}
use Rattle.lists.proofs.Members.{Mem}
use Rattle.lists.specs.Words.{among, largest_of}

among-mem : (v : ℕ) (ws : List ℕ) → among v ws ≡ true → Mem v ws
unfolding among
among-mem v [] e = let z : ◌≡◌ {A = ℕ} 0 1 = cc in absurd (omega arith)
among-mem v (x ∷ xs) e = go (eqb x v) refl e (among-mem v xs)
  where
    go : (t : Bool) → eqb x v ≡ t → (t || among v xs) ≡ true → (among v xs ≡ true → Mem v xs) → Mem v (x ∷ xs)
    go true p e r = inl (eqb-true x v p)
    go false p e r = inr (r e)

-- a member taken out: one place less, and every other number is still there
taken : (v : ℕ) (ws : List ℕ) → Mem v ws → (us : List ℕ) × (length ws ≡ suc (length us)) × ((u : ℕ) → (u ≡ v → ⊥) → Mem u ws → Mem u us)
taken v [] m = absurd m
taken v (x ∷ xs) (inl e) = (xs, refl, λ u ne m. ⊎_elim (λ (f : x ≡ u). absurd (ne (sym f ∙ e))) (λ k. k) m)
taken v (x ∷ xs) (inr m) =
    let r = taken v xs m in
    (x ∷ r.0, ap suc r.1, λ u ne k. ⊎_elim (λ (f : x ≡ u). inl f) (λ j. inr (r.2 u ne j)) k)

pub pigeon : (n : ℕ) (ws : List ℕ) → ((v : ℕ) → v < n → Mem v ws) → n ≤ length ws
pigeon zero ws f = omega arith
pigeon (suc n) ws f =
    let r = taken n ws (f n (omega arith)) in
    let q : n ≤ length r.0 = pigeon n r.0 (λ v h. r.2 v (λ e. omega arith) (f v (omega arith))) in
    omega (arith, r.1)

largest-mem : (ws : List ℕ) → (length ws ≡ 0 → ⊥) → Mem (largest_of ws) ws
unfolding largest_of
largest-mem [] h = absurd (h refl)
largest-mem (x ∷ []) h = inl (omega arith)
largest-mem (x ∷ y ∷ ws) h =
    let r : Mem (largest_of (y ∷ ws)) (y ∷ ws) = largest-mem (y ∷ ws) (λ e. omega arith) in
    elim (dec_lt x (largest_of (y ∷ ws))) [
      | yes l ↦ let e : largest_of (y ∷ ws) ≡ max x (largest_of (y ∷ ws)) = omega arith in inr (subst (λ (z : ℕ). Mem z (y ∷ ws)) e r)
      | no l ↦ inl (omega arith)
    ]

pub largest-low : (ws : List ℕ) → (length ws ≡ 0 → ⊥) → ((v : ℕ) → v < largest_of ws → among v ws ≡ true) → largest_of ws < length ws
largest-low ws h used =
    pigeon (suc (largest_of ws)) ws (λ v l. elim (dec_lt v (largest_of ws)) [ yes k ↦ among-mem v ws (used v k) | no k ↦ let e : largest_of ws ≡ v = omega arith in subst (λ (z : ℕ). Mem z ws) e (largest-mem ws h) ])
