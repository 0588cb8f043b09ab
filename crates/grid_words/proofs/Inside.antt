-- The cells of one box, before each other: the axis of the last step decides, then the one before it. A step along a later axis is longer, so the later order comes
-- first. Assumes nothing.
use mathlib.Core.Path.{◌≡◌}
use mathlib.Core.Logic.{inl, inr}
use mathlib.Core.List.{List, [], ◌∷◌}
use Prim.Native.Nat.{ℕ, zero, suc, ◌+◌, ◌≤◌, ◌<◌}
use native.Mathlib.Omega.{arith}
use lib.ListN.{length}
use Rattle.multiindex.specs.Permutation.{orders, order_of}
use Rattle.complex_cells.proofs.Order.{Colex}

-- the numbers met from o on, where a step along axis a adds s a
abbrev pub plain : (ℕ → ℕ) → ℕ → List ℕ → List ℕ
plain s o [] = o ∷ []
plain s o (a ∷ os) = o ∷ plain s (o + s a) os

fourth : (x y z t x' y' z' t' : ℕ) → t ≡ t' → z < z' → Colex 4 (x ∷ y ∷ z ∷ t ∷ []) (x' ∷ y' ∷ z' ∷ t' ∷ [])
fourth x y z t x' y' z' t' e l = inr (e, inl l)

third : (x y z t x' y' z' t' : ℕ) → t ≡ t' → z ≡ z' → y < y' → Colex 4 (x ∷ y ∷ z ∷ t ∷ []) (x' ∷ y' ∷ z' ∷ t' ∷ [])
third x y z t x' y' z' t' e f l = inr (e, inr (f, inl l))

two-before : (s : ℕ → ℕ) (o : ℕ) → s 0 < s 1 → (t u : ℕ) → u < t → t < 2 → Colex 3 (plain s o (order_of 2 t)) (plain s o (order_of 2 u))
two-before s o p (suc zero) zero h l = inr (omega arith, inl (omega arith))
two-before s o p zero u h l = absurd (let w : ⊥ = omega arith in w)
two-before s o p (suc zero) (suc u) h l = absurd (let w : ⊥ = omega arith in w)
two-before s o p (suc (suc t)) u h l = absurd (let w : ⊥ = omega arith in w)

three-before : (s : ℕ → ℕ) (o : ℕ) → s 0 < s 1 → s 1 < s 2 → (t u : ℕ) → u < t → t < 6 → Colex 4 (plain s o (order_of 3 t)) (plain s o (order_of 3 u))
three-before s o p q zero zero h l = absurd (let w : ⊥ = omega arith in w)
three-before s o p q zero (suc zero) h l = absurd (let w : ⊥ = omega arith in w)
three-before s o p q zero (suc (suc zero)) h l = absurd (let w : ⊥ = omega arith in w)
three-before s o p q zero (suc (suc (suc zero))) h l = absurd (let w : ⊥ = omega arith in w)
three-before s o p q zero (suc (suc (suc (suc zero)))) h l = absurd (let w : ⊥ = omega arith in w)
three-before s o p q zero (suc (suc (suc (suc (suc zero))))) h l = absurd (let w : ⊥ = omega arith in w)
three-before s o p q zero (suc (suc (suc (suc (suc (suc u)))))) h l = absurd (let w : ⊥ = omega arith in w)
three-before s o p q (suc zero) zero h l = third _ _ _ _ _ _ _ _ (omega arith) (omega arith) (omega arith)
three-before s o p q (suc zero) (suc zero) h l = absurd (let w : ⊥ = omega arith in w)
three-before s o p q (suc zero) (suc (suc zero)) h l = absurd (let w : ⊥ = omega arith in w)
three-before s o p q (suc zero) (suc (suc (suc zero))) h l = absurd (let w : ⊥ = omega arith in w)
three-before s o p q (suc zero) (suc (suc (suc (suc zero)))) h l = absurd (let w : ⊥ = omega arith in w)
three-before s o p q (suc zero) (suc (suc (suc (suc (suc zero))))) h l = absurd (let w : ⊥ = omega arith in w)
three-before s o p q (suc zero) (suc (suc (suc (suc (suc (suc u)))))) h l = absurd (let w : ⊥ = omega arith in w)
three-before s o p q (suc (suc zero)) zero h l = fourth _ _ _ _ _ _ _ _ (omega arith) (omega arith)
three-before s o p q (suc (suc zero)) (suc zero) h l = fourth _ _ _ _ _ _ _ _ (omega arith) (omega arith)
three-before s o p q (suc (suc zero)) (suc (suc zero)) h l = absurd (let w : ⊥ = omega arith in w)
three-before s o p q (suc (suc zero)) (suc (suc (suc zero))) h l = absurd (let w : ⊥ = omega arith in w)
three-before s o p q (suc (suc zero)) (suc (suc (suc (suc zero)))) h l = absurd (let w : ⊥ = omega arith in w)
three-before s o p q (suc (suc zero)) (suc (suc (suc (suc (suc zero))))) h l = absurd (let w : ⊥ = omega arith in w)
three-before s o p q (suc (suc zero)) (suc (suc (suc (suc (suc (suc u)))))) h l = absurd (let w : ⊥ = omega arith in w)
three-before s o p q (suc (suc (suc zero))) zero h l = fourth _ _ _ _ _ _ _ _ (omega arith) (omega arith)
three-before s o p q (suc (suc (suc zero))) (suc zero) h l = fourth _ _ _ _ _ _ _ _ (omega arith) (omega arith)
three-before s o p q (suc (suc (suc zero))) (suc (suc zero)) h l = third _ _ _ _ _ _ _ _ (omega arith) (omega arith) (omega arith)
three-before s o p q (suc (suc (suc zero))) (suc (suc (suc zero))) h l = absurd (let w : ⊥ = omega arith in w)
three-before s o p q (suc (suc (suc zero))) (suc (suc (suc (suc zero)))) h l = absurd (let w : ⊥ = omega arith in w)
three-before s o p q (suc (suc (suc zero))) (suc (suc (suc (suc (suc zero))))) h l = absurd (let w : ⊥ = omega arith in w)
three-before s o p q (suc (suc (suc zero))) (suc (suc (suc (suc (suc (suc u)))))) h l = absurd (let w : ⊥ = omega arith in w)
three-before s o p q (suc (suc (suc (suc zero)))) zero h l = fourth _ _ _ _ _ _ _ _ (omega arith) (omega arith)
three-before s o p q (suc (suc (suc (suc zero)))) (suc zero) h l = fourth _ _ _ _ _ _ _ _ (omega arith) (omega arith)
three-before s o p q (suc (suc (suc (suc zero)))) (suc (suc zero)) h l = fourth _ _ _ _ _ _ _ _ (omega arith) (omega arith)
three-before s o p q (suc (suc (suc (suc zero)))) (suc (suc (suc zero))) h l = fourth _ _ _ _ _ _ _ _ (omega arith) (omega arith)
three-before s o p q (suc (suc (suc (suc zero)))) (suc (suc (suc (suc zero)))) h l = absurd (let w : ⊥ = omega arith in w)
three-before s o p q (suc (suc (suc (suc zero)))) (suc (suc (suc (suc (suc zero))))) h l = absurd (let w : ⊥ = omega arith in w)
three-before s o p q (suc (suc (suc (suc zero)))) (suc (suc (suc (suc (suc (suc u)))))) h l = absurd (let w : ⊥ = omega arith in w)
three-before s o p q (suc (suc (suc (suc (suc zero))))) zero h l = fourth _ _ _ _ _ _ _ _ (omega arith) (omega arith)
three-before s o p q (suc (suc (suc (suc (suc zero))))) (suc zero) h l = fourth _ _ _ _ _ _ _ _ (omega arith) (omega arith)
three-before s o p q (suc (suc (suc (suc (suc zero))))) (suc (suc zero)) h l = fourth _ _ _ _ _ _ _ _ (omega arith) (omega arith)
three-before s o p q (suc (suc (suc (suc (suc zero))))) (suc (suc (suc zero))) h l = fourth _ _ _ _ _ _ _ _ (omega arith) (omega arith)
three-before s o p q (suc (suc (suc (suc (suc zero))))) (suc (suc (suc (suc zero)))) h l = third _ _ _ _ _ _ _ _ (omega arith) (omega arith) (omega arith)
three-before s o p q (suc (suc (suc (suc (suc zero))))) (suc (suc (suc (suc (suc zero))))) h l = absurd (let w : ⊥ = omega arith in w)
three-before s o p q (suc (suc (suc (suc (suc zero))))) (suc (suc (suc (suc (suc (suc u)))))) h l = absurd (let w : ⊥ = omega arith in w)
three-before s o p q (suc (suc (suc (suc (suc (suc t)))))) u h l = absurd (let w : ⊥ = omega arith in w)

pub inside-before : (d : ℕ) (s : ℕ → ℕ) (o : ℕ) → d ≤ 3 → ((k : ℕ) → suc k < d → s k < s (suc k)) → (t u : ℕ) → u < t → t < length (orders d) → Colex (suc d) (plain s o (order_of d t)) (plain s o (order_of d u))
inside-before zero s o m p t u h l = absurd (let w : ⊥ = omega arith in w)
inside-before (suc zero) s o m p t u h l = absurd (let w : ⊥ = omega arith in w)
inside-before (suc (suc zero)) s o m p t u h l = two-before s o (p 0 (omega arith)) t u h l
inside-before (suc (suc (suc zero))) s o m p t u h l = three-before s o (p 0 (omega arith)) (p 1 (omega arith)) t u h l
inside-before (suc (suc (suc (suc d)))) s o m p t u h l = absurd (let w : ⊥ = omega arith in w)
