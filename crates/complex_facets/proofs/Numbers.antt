-- The numbers that pass a test where one or two do. Assumes nothing.
use mathlib.Core.Bool.{Bool, true, false}
use mathlib.Core.List.{List, [], ◌∷◌, ◌++◌}
use mathlib.Core.Path.{◌≡◌, refl, sym, ap, subst}
use mathlib.Core.Logic.{◌⊎◌, inl, inr, ⊎_elim}
use Prim.Native.Nat.{ℕ, zero, suc, ◌<◌}
use native.Mathlib.Nat.{eq-or-lt_of_le}
use native.Mathlib.Decide.{ℕ_discrete}
use native.Mathlib.Omega.{arith}
use Rattle.lists.specs.Tables.{tab}
use Rattle.lists.proofs.Tables.{tab-more}
use Rattle.complex.specs.Skeleton.{numbers}
use Rattle.complex_cells.proofs.Words.{Word, In}

-- ---- numbers that pass a test
module _ (p : ℕ → Bool) where
  numbers-none : (n : ℕ) → ((z : ℕ) → z < n → p z ≡ false) → numbers p n ≡ []
  unfolding numbers
  numbers-none zero h = refl
  numbers-none (suc n) h = rw (h n (omega arith), numbers-none n (λ z l. h z (omega arith)))

  pub numbers-one : (n x : ℕ) → x < n → p x ≡ true → ((z : ℕ) → z < n → (z ≡ x → ⊥) → p z ≡ false) → numbers p n ≡ x ∷ []
  unfolding numbers
  numbers-one zero x l t h = absurd (omega arith)
  numbers-one (suc n) x l t h =
      elim (ℕ_discrete n x) [
        | yes e ↦ let t' : p n ≡ true = rw e t in rw (t', numbers-none n (λ z k. h z (omega arith) (λ q. omega arith))) (ap (λ (y : ℕ). y ∷ []) e)
        | no e ↦ rw (h n (omega arith) e, numbers-one n x (omega arith) t (λ z k q. h z (omega arith) q))
      ]

  pub numbers-two : (n x y : ℕ) → x < y → y < n → p x ≡ true → p y ≡ true → ((z : ℕ) → z < n → (z ≡ x → ⊥) → (z ≡ y → ⊥) → p z ≡ false) → numbers p n ≡ x ∷ y ∷ []
  unfolding numbers
  numbers-two zero x y k l t u h = absurd (omega arith)
  numbers-two (suc n) x y k l t u h =
      elim (ℕ_discrete n y) [
        | yes e ↦ let u' : p n ≡ true = rw e u in rw (u', numbers-one n x (omega arith) t (λ z q r. h z (omega arith) r (λ s. omega arith))) (ap (λ (v : ℕ). x ∷ v ∷ []) e)
        | no e ↦ rw (h n (omega arith) (λ q. omega arith) e, numbers-two n x y k (omega arith) t u (λ z q r s. h z (omega arith) r s))
      ]

-- ---- tabulated words
in_left : (r : Word) (xs ys : List Word) → In r xs → In r (xs ++ ys)
in_left r [] ys m = absurd m
in_left r (x ∷ xs) ys (inl e) = inl e
in_left r (x ∷ xs) ys (inr m) = inr (in_left r xs ys m)

in-last : (r : Word) (xs : List Word) → In r (xs ++ (r ∷ []))
in-last r [] = inl refl
in-last r (x ∷ xs) = inr (in-last r xs)

in-snoc : (r y : Word) (xs : List Word) → In r (xs ++ (y ∷ [])) → In r xs ⊎ (y ≡ r)
in-snoc r y [] (inl e) = inr e
in-snoc r y [] (inr m) = absurd m
in-snoc r y (x ∷ xs) (inl e) = inl (inl e)
in-snoc r y (x ∷ xs) (inr m) = ⊎_elim (λ k. inl (inr k)) (λ e. inr e) (in-snoc r y xs m)

pub tab-in : (n : ℕ) (f : ℕ → Word) (x : ℕ) → x < n → In (f x) (tab n f)
tab-in zero f x h = absurd (omega arith)
tab-in (suc n) f x h =
    subst (In (f x)) (sym (tab-more n f))
    (⊎_elim (λ (e : x ≡ n). rw e (in-last (f n) (tab n f))) (λ (l : x < n). in_left (f x) (tab n f) (f n ∷ []) (tab-in n f x l)) (eq-or-lt_of_le (omega arith)))

pub in-tab : (n : ℕ) (f : ℕ → Word) (w : Word) → In w (tab n f) → (x : ℕ) × (x < n) × (f x ≡ w)
in-tab zero f w m = absurd m
in-tab (suc n) f w m =
    ⊎_elim (λ (k : In w (tab n f)). let r = in-tab n f w k in (r.0, omega (arith, r.1), r.2)) (λ (e : f n ≡ w). (n, omega arith, e)) (in-snoc w (f n) (tab n f) (subst (In w) (tab-more n f) m))
