-- Sums and products of whole numbers. Assumes nothing.
use mathlib.Core.Path.{◌≡◌, refl, sym, ap, ◌∙◌}
use mathlib.Core.Bool.{Bool}
use mathlib.Core.Logic.{⊎_elim}
use Prim.Native.Nat.{ℕ, zero, suc, ◌+◌, ◌*◌, ◌<◌}
use native.Mathlib.Nat.{eq-or-lt_of_le}
use native.Mathlib.Omega.{arith}
use lib.Dec.{eqb}
use borrow.Author.Tests.{eq-eqb, ne_eqb}
use lib.IntN.{ℤ, pos, negsuc, neg_ℤ, ◌+ℤ◌, ◌-ℤ◌, ◌*ℤ◌, neg_ℤ-+ℤ, +ℤ_assoc, +ℤ_comm, +ℤ_idl, +ℤ_idr, +ℤ_invr, +ℤ_invl, zero-*ℤ, *ℤ-zero, *ℤ-one, suc_ℤ-*ℤ, pred_ℤ-*ℤ, +ℤ_one, -ℤ_one, *ℤ_comm, ℤ_ind, one}
use Rattle.complex_faces.specs.Entries.{sum_of, or_zero}

pub four : (a b c e : ℤ) → (a +ℤ b) +ℤ (c +ℤ e) ≡ (a +ℤ c) +ℤ (b +ℤ e)
four a b c e =
    +ℤ_assoc a b (c +ℤ e)
    ∙ ap (λ (x : ℤ). a +ℤ x) (sym (+ℤ_assoc b c e) ∙ ap (λ (x : ℤ). x +ℤ e) (+ℤ_comm b c) ∙ +ℤ_assoc c b e)
    ∙ sym (+ℤ_assoc a c (b +ℤ e))

times-sum : (a b c : ℤ) → (a +ℤ b) *ℤ c ≡ a *ℤ c +ℤ b *ℤ c
times-sum a b c =
    ℤ_ind (λ (x : ℤ). (a +ℤ x) *ℤ c ≡ a *ℤ c +ℤ x *ℤ c)
    (ap (λ (x : ℤ). x *ℤ c) (+ℤ_idr a) ∙ sym (ap (λ (x : ℤ). a *ℤ c +ℤ x) (zero-*ℤ c) ∙ +ℤ_idr (a *ℤ c)))
    (λ n h. up (pos n) h)
    (λ n h. down (neg_ℤ (pos n)) h)
    b
  where
    up : (x : ℤ) → (a +ℤ x) *ℤ c ≡ a *ℤ c +ℤ x *ℤ c → (a +ℤ (x +ℤ pos 1)) *ℤ c ≡ a *ℤ c +ℤ (x +ℤ pos 1) *ℤ c
    up x h =
        ap (λ (y : ℤ). y *ℤ c) (sym (+ℤ_assoc a x (pos 1)) ∙ +ℤ_one (a +ℤ x))
        ∙ suc_ℤ-*ℤ (a +ℤ x) c
        ∙ ap (λ (y : ℤ). y +ℤ c) h
        ∙ +ℤ_assoc (a *ℤ c) (x *ℤ c) c
        ∙ ap (λ (y : ℤ). a *ℤ c +ℤ y) (sym (suc_ℤ-*ℤ x c) ∙ ap (λ (y : ℤ). y *ℤ c) (sym (+ℤ_one x)))

    down : (x : ℤ) → (a +ℤ x) *ℤ c ≡ a *ℤ c +ℤ x *ℤ c → (a +ℤ (x +ℤ negsuc 0)) *ℤ c ≡ a *ℤ c +ℤ (x +ℤ negsuc 0) *ℤ c
    down x h =
        ap (λ (y : ℤ). y *ℤ c) (sym (+ℤ_assoc a x (negsuc 0)) ∙ -ℤ_one (a +ℤ x))
        ∙ pred_ℤ-*ℤ (a +ℤ x) c
        ∙ ap (λ (y : ℤ). y -ℤ c) h
        ∙ +ℤ_assoc (a *ℤ c) (x *ℤ c) (neg_ℤ c)
        ∙ ap (λ (y : ℤ). a *ℤ c +ℤ y) (sym (pred_ℤ-*ℤ x c) ∙ ap (λ (y : ℤ). y *ℤ c) (sym (-ℤ_one x)))

pub sum-times : (c a b : ℤ) → c *ℤ (a +ℤ b) ≡ c *ℤ a +ℤ c *ℤ b
sum-times c a b =
    *ℤ_comm c (a +ℤ b) ∙ times-sum a b c ∙ ap (λ (x : ℤ). x +ℤ b *ℤ c) (*ℤ_comm a c) ∙ ap (λ (x : ℤ). c *ℤ a +ℤ x) (*ℤ_comm b c)

-- what is added to p to make 0 is p negated
opposite-one : (p q : ℤ) → p +ℤ q ≡ pos 0 → q ≡ neg_ℤ p
opposite-one p q e =
    sym (+ℤ_idl q) ∙ ap (λ (x : ℤ). x +ℤ q) (sym (+ℤ_invl p)) ∙ +ℤ_assoc (neg_ℤ p) p q ∙ ap (λ (x : ℤ). neg_ℤ p +ℤ x) e ∙ +ℤ_idr (neg_ℤ p)

pub times-neg : (c a : ℤ) → c *ℤ neg_ℤ a ≡ neg_ℤ (c *ℤ a)
times-neg c a = opposite-one (c *ℤ a) (c *ℤ neg_ℤ a) (sym (sum-times c a (neg_ℤ a)) ∙ ap (λ (x : ℤ). c *ℤ x) (+ℤ_invr a) ∙ *ℤ-zero c)

-- ---- sums
pub sum-ext : (n : ℕ) (f g : ℕ → ℤ) → ((m : ℕ) → m < n → f m ≡ g m) → sum_of n f ≡ sum_of n g
sum-ext zero f g h = refl
sum-ext (suc n) f g h =
    ap (λ (x : ℤ). x +ℤ f n) (sum-ext n f g (λ m l. h m (omega arith))) ∙ ap (λ (x : ℤ). sum_of n g +ℤ x) (h n (omega arith))

pub sum-zero : (n : ℕ) (f : ℕ → ℤ) → ((m : ℕ) → m < n → f m ≡ pos 0) → sum_of n f ≡ pos 0
sum-zero zero f h = refl
sum-zero (suc n) f h = ap (λ (x : ℤ). x +ℤ f n) (sum-zero n f (λ m l. h m (omega arith))) ∙ +ℤ_idl (f n) ∙ h n (omega arith)

pub sum-neg : (n : ℕ) (f : ℕ → ℤ) → sum_of n (λ m. neg_ℤ (f m)) ≡ neg_ℤ (sum_of n f)
sum-neg zero f = refl
sum-neg (suc n) f = ap (λ (x : ℤ). x +ℤ neg_ℤ (f n)) (sum-neg n f) ∙ sym (neg_ℤ-+ℤ (sum_of n f) (f n))

pub sum-front : (n : ℕ) (f : ℕ → ℤ) → sum_of (suc n) f ≡ f 0 +ℤ sum_of n (λ i. f (suc i))
sum-front zero f = +ℤ_comm (pos 0) (f 0)
sum-front (suc n) f = ap (λ (x : ℤ). x +ℤ f (suc n)) (sum-front n f) ∙ +ℤ_assoc (f 0) (sum_of n (λ i. f (suc i))) (f (suc n))

pub *ℤ-unit : (x : ℤ) → x *ℤ pos 1 ≡ x
unfolding one
*ℤ-unit x = *ℤ-one x

-- of a sum of numbers, each times whether it is number j, number j is left
pub sum_one : (n j : ℕ) (a : ℕ → ℤ) → j < n → sum_of n (λ m. a m *ℤ or_zero (eqb j m) (pos 1)) ≡ a j
sum_one zero j a h = absurd (omega arith)
sum_one (suc n) j a h =
    ⊎_elim
    (λ (e : j ≡ n).
    ap (λ (x : ℤ). x +ℤ a n *ℤ or_zero (eqb j n) (pos 1)) (sum-zero n (λ m. a m *ℤ or_zero (eqb j m) (pos 1)) (λ m l. ap (λ (t : Bool). a m *ℤ or_zero t (pos 1)) (ne_eqb j m (λ z. omega arith)) ∙ *ℤ-zero (a m)))
    ∙ +ℤ_idl (a n *ℤ or_zero (eqb j n) (pos 1))
    ∙ ap (λ (t : Bool). a n *ℤ or_zero t (pos 1)) (eq-eqb j n e)
    ∙ *ℤ-unit (a n)
    ∙ ap a (sym e))
    (λ (l : j < n).
    ap (λ (x : ℤ). x +ℤ a n *ℤ or_zero (eqb j n) (pos 1)) (sum_one n j a l)
    ∙ ap (λ (t : Bool). a j +ℤ a n *ℤ or_zero t (pos 1)) (ne_eqb j n (λ z. omega arith))
    ∙ ap (λ (x : ℤ). a j +ℤ x) (*ℤ-zero (a n))
    ∙ +ℤ_idr (a j))
    (eq-or-lt_of_le (omega arith))
