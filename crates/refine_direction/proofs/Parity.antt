-- Signs as parities: the induced sign of a number is + where the number is even, and products of signs are sums of numbers. Assumes nothing.
use mathlib.Core.Path.{◌≡◌, refl, sym, ap, ◌∙◌}
use mathlib.Core.Logic.{◌⊎◌, inl, inr, ⊎_elim}
use Prim.Native.Nat.{ℕ, zero, suc, ◌+◌, ◌-◌}
use native.Mathlib.Nat.{zero-add, suc-add}
use native.Mathlib.Omega.{arith}
use lib.IntN.{ℤ, pos, negsuc, neg_ℤ, ◌*ℤ◌}
use Rattle.multiindex.specs.Sign.{Sign, plus, minus, opposite, times, induced, sign_number}
use Rattle.refine_lattice.specs.Signs.{Even, Odd}
use Rattle.refine_lattice.specs.Jacobian.{flips}
use Rattle.refine_direction.specs.Direction.{sign_of_whole}

-- a number with a given sign
abbrev pub bit : Sign → ℕ
bit plus = 0
bit minus = 1

pub induced-bit : (a : Sign) → induced (bit a) ≡ a
induced-bit plus = refl
induced-bit minus = refl

-- even and odd
parity : (n : ℕ) → (((h : ℕ) × (n ≡ h + h)) × (induced n ≡ plus)) ⊎ (((h : ℕ) × (n ≡ suc (h + h))) × (induced n ≡ minus))
parity zero = inl ((0, refl), refl)
parity (suc n) =
    ⊎_elim (λ p. inr ((p.0.0, ap suc p.0.1), ap opposite p.1)) (λ p. inl ((suc p.0.0, omega (arith, p.0.1)), ap opposite p.1)) (parity n)

apart : {A : Type 0} (a : Sign) → a ≡ plus → a ≡ minus → A
apart a e f = let z : ◌≡◌ {A = ℕ} 0 1 = cc in absurd (omega arith)

pub induced-even : (m n : ℕ) → induced m ≡ induced n → Even (m + n)
unfolding Even
induced-even m n e =
    ⊎_elim
    (λ p. ⊎_elim (λ q. (p.0.0 + q.0.0, omega (arith, p.0.1, q.0.1))) (λ q. apart (induced n) (sym e ∙ p.1) q.1) (parity n))
    (λ p. ⊎_elim (λ q. apart (induced n) q.1 (sym e ∙ p.1)) (λ q. (suc (p.0.0 + q.0.0), omega (arith, p.0.1, q.0.1))) (parity n))
    (parity m)

induced-odd : (m n : ℕ) → induced m ≡ opposite (induced n) → Odd (m + n)
unfolding Even Odd
induced-odd m n e = let (h, f) = induced-even m (suc n) e in (h - 1, omega (arith, f))

odd-induced : (m n : ℕ) → Odd (m + n) → induced m ≡ opposite (induced n)
unfolding Odd
odd-induced m n o =
    ⊎_elim
    (λ p. ⊎_elim (λ q. absurd (omega (arith, p.0.1, q.0.1, o.1))) (λ q. p.1 ∙ sym (ap opposite q.1)) (parity n))
    (λ p. ⊎_elim (λ q. p.1 ∙ sym (ap opposite q.1)) (λ q. absurd (omega (arith, p.0.1, q.0.1, o.1))) (parity n))
    (parity m)

-- sums and products
times-opposite : (a b : Sign) → times (opposite a) b ≡ opposite (times a b)
times-opposite plus b = refl
times-opposite minus plus = refl
times-opposite minus minus = refl

induced-sum : (a b : ℕ) → induced (a + b) ≡ times (induced a) (induced b)
induced-sum zero b = ap induced (zero-add b)
induced-sum (suc a) b = ap induced (suc-add a b) ∙ ap opposite (induced-sum a b) ∙ sym (times-opposite (induced a) (induced b))

-- s and r are numbers with the signs a and b
module _ (a b : Sign) (s r : ℕ) (sa : induced s ≡ a) (rb : induced r ≡ b) (i j : ℕ) where
  pub opposed-odd : times a (induced i) ≡ opposite (times b (induced j)) → Odd (s + i + (r + j))
  opposed-odd e =
      induced-odd (s + i) (r + j)
      (induced-sum s i ∙ ap (λ (x : Sign). times x (induced i)) sa ∙ e ∙ ap opposite (sym (induced-sum r j ∙ ap (λ (x : Sign). times x (induced j)) rb)))

  pub odd-opposed : Odd (s + i + (r + j)) → times a (induced i) ≡ opposite (times b (induced j))
  odd-opposed o =
      sym (induced-sum s i ∙ ap (λ (x : Sign). times x (induced i)) sa)
      ∙ odd-induced (s + i) (r + j) o
      ∙ ap opposite (induced-sum r j ∙ ap (λ (x : Sign). times x (induced j)) rb)

-- signs as numbers
turned : (a : Sign) → neg_ℤ (sign_number a) ≡ sign_number (opposite a)
turned plus = refl
turned minus = refl

pub flips-induced : (n : ℕ) → flips n (pos 1) ≡ sign_number (induced n)
flips-induced zero = refl
flips-induced (suc n) = ap neg_ℤ (flips-induced n) ∙ turned (induced n)

pub product : (a : Sign) (x : ℤ) → (x ≡ pos 1) ⊎ (x ≡ negsuc 0) → sign_number (times a (sign_of_whole x)) ≡ sign_number a *ℤ x
product a x u =
    ⊎_elim (λ e. ap (λ (y : ℤ). sign_number (times a (sign_of_whole y))) e ∙ one a ∙ ap (λ (y : ℤ). sign_number a *ℤ y) (sym e))
    (λ e. ap (λ (y : ℤ). sign_number (times a (sign_of_whole y))) e ∙ other a ∙ ap (λ (y : ℤ). sign_number a *ℤ y) (sym e)) u
  where
    one : (a : Sign) → sign_number (times a plus) ≡ sign_number a *ℤ pos 1
    one plus = refl
    one minus = refl

    other : (a : Sign) → sign_number (times a minus) ≡ sign_number a *ℤ negsuc 0
    other plus = refl
    other minus = refl
