-- Powers of ten, and a number's digits from the first one down. Assumes nothing.
use mathlib.Core.Path.{◌≡◌, refl, sym, ap, subst, ◌∙◌}
use mathlib.Core.Bool.{Bool, true, false, cond}
use mathlib.Core.List.{List, [], ◌∷◌, ◌++◌, append_assoc}
use Prim.Native.Nat.{ℕ, zero, suc, ◌+◌, ◌-◌, ◌/◌, ◌%◌, ◌≤◌, ◌<◌, ◌^◌}
use native.Mathlib.Nat.{pow-le-pow_right}
use native.Mathlib.Omega.{arith}
use lib.ListN.{length, length-append}
use lib.Dec.{ltb}
use borrow.Author.Tests.{lt-ltb, le-ltb}
use Rattle.text.specs.declared.Text.{Text}
use Rattle.text.specs.Decimal.{digit_at, digits_down, decimal_down}
use Rattle.text.specs.Adds.{Adds}
use Rattle.text.proofs.Adding.{adds_none, adds-more}

pub power-fits : (k : ℕ) → k < 10 → 10 ^ k ≤ 1000000000
power-fits k h = pow-le-pow_right {n = 10} (omega arith) {i = k} {j = 9} (omega arith)

pub power_pos : (i p : ℕ) → p ≡ 10 ^ i → 0 < p
power_pos i p e = subst (λ (x : ℕ). 0 < x) (sym e) (pow-le-pow_right {n = 10} (omega arith) {i = 0} {j = i} (omega arith))

-- ---- where the digits begin

module _ (n : ℕ) (x : List ℕ) where
  pub top-here : (k : ℕ) → 0 < k → 10 ^ k ≤ n → decimal_down k n ≡ x → digits_down k n ≡ x
  unfolding decimal_down
  top-here zero h l e = absurd (omega arith)
  top-here (suc j) h l e = rw (le-ltb n (10 ^ suc j) l) at e

  pub top-next : (k : ℕ) → 0 < k → n < 10 ^ k → decimal_down k n ≡ x → decimal_down (k - 1) n ≡ x
  unfolding decimal_down
  top-next zero h l e = absurd (omega arith)
  top-next (suc j) h l e =
      let q : suc j - 1 ≡ j = omega arith in
      ap (λ (i : ℕ). decimal_down i n) q ∙ (rw (lt-ltb n (10 ^ suc j) l) at e)

  pub top-last : (k : ℕ) → k ≤ 0 → decimal_down k n ≡ x → digits_down k n ≡ x
  unfolding decimal_down
  top-last zero h e = e
  top-last (suc j) h e = absurd (omega arith)

-- ---- the digits one by one: t is s with those of n from 10 ^ k down to the one before 10 ^ j

pub record Down (k n j : ℕ) (s t : Text) : Type 0 where
  pub done : List ℕ
  pub added : Adds done s t
  pub rest : done ++ digits_down j n ≡ digits_down k n
  pub count : length done + j ≡ k

pub down-none : (k n : ℕ) (s : Text) → Down k n k s s
down-none k n s = record { done = []; added = adds_none s; rest = refl; count = omega arith }

digits-next : (n j : ℕ) → 0 < j → digits_down j n ≡ digit_at j n ∷ digits_down (j - 1) n
unfolding digits_down
digits-next n zero h = absurd (omega arith)
digits-next n (suc i) h =
    let q : suc i - 1 ≡ i = omega arith in
    ap (λ (m : ℕ). digit_at (suc i) n ∷ digits_down m n) (sym q)

pub down-len : {k n j : ℕ} {s t : Text} → Down k n j s t → t.len + j ≡ s.len + k
down-len w = omega (arith, w.added.len, w.count)

pub down-more : (k n j p : ℕ) {s t u : Text} → s.len ≤ length s.bytes → 0 < j → p ≡ 10 ^ j → Down k n j s t → Adds ((48 + n / p % 10) ∷ []) t u → Down k n (j - 1) s u
down-more k n j p {s} {t} {u} r h e w a = record {
  done = w.done ++ (digit_at j n ∷ []);
  added = adds-more r w.added (subst (λ (x : ℕ). Adds ((48 + n / x % 10) ∷ []) t u) e a);
  rest = append_assoc w.done (digit_at j n ∷ []) (digits_down (j - 1) n) ∙ ap (λ (r : List ℕ). w.done ++ r) (sym (digits-next n j h)) ∙ w.rest;
  count = omega (arith, w.count, length-append w.done (digit_at j n ∷ []));
}

pub down-last : (k n j : ℕ) {s t u : Text} → s.len ≤ length s.bytes → j ≤ 0 → Down k n j s t → Adds ((48 + n % 10) ∷ []) t u → Adds (digits_down k n) s u
unfolding digits_down
down-last k n zero {s} {t} {u} r h w a = subst (λ (x : List ℕ). Adds x s u) w.rest (adds-more r w.added a)
down-last k n (suc i) r h w a = absurd (omega arith)

-- ---- how long they are

digits_long : (k n : ℕ) → length (digits_down k n) ≤ suc k
unfolding digits_down
digits_long zero n = omega arith
digits_long (suc k) n = omega (arith, digits_long k n)

one_of : (b : Bool) (x y : List ℕ) (m : ℕ) → length x ≤ m → length y ≤ m → length (cond b x y) ≤ m
one_of true x y m h l = h
one_of false x y m h l = l

pub decimal-long : (k n : ℕ) → length (decimal_down k n) ≤ suc k
unfolding decimal_down
decimal-long zero n = digits_long zero n
decimal-long (suc k) n = one_of (ltb n (10 ^ suc k)) (decimal_down k n) (digits_down (suc k) n) (suc (suc k)) (omega (arith, decimal-long k n)) (digits_long (suc k) n)
