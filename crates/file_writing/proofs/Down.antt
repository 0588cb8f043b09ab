-- A number's digits one by one, and how many there are. Assumes nothing.
use mathlib.Core.Path.{◌≡◌, refl, sym, ap, subst, ◌∙◌}
use mathlib.Core.List.{List, [], ◌∷◌, ◌++◌, append_assoc}
use Prim.Native.Nat.{ℕ, zero, suc, ◌+◌, ◌-◌, ◌/◌, ◌%◌, ◌≤◌, ◌<◌, ◌^◌}
use native.Mathlib.Omega.{arith}
use lib.ListN.{length, length-append}
use Rattle.text.specs.Decimal.{digit_at, digits_down, decimal}
use Rattle.text.proofs.Decimals.{decimal-long}
use Rattle.file_writing.specs.Wrote.{Wrote}
use Rattle.file_writing.specs.Six.{million, six_decimals}
use Rattle.file_writing.proofs.Laws.{wrote_none, wrote-more, wrote-same}

-- the digits of n from 10 ^ k down to the one before 10 ^ j are written
pub record Down (k n j at : ℕ) (to : List ℕ) (r : ℕ) (to' : List ℕ) : Type 0 where
  pub done : List ℕ
  pub wrote : Wrote done at to r to'
  pub rest : done ++ digits_down j n ≡ digits_down k n
  pub count : length done + j ≡ k

pub down-none : (k n at : ℕ) (to : List ℕ) → Down k n k at to at to
down-none k n at to = record { done = []; wrote = wrote_none at to; rest = refl; count = omega arith }

digits-next : (n j : ℕ) → 0 < j → digits_down j n ≡ digit_at j n ∷ digits_down (j - 1) n
unfolding digits_down
digits-next n zero h = absurd (omega arith)
digits-next n (suc i) h =
    let q : suc i - 1 ≡ i = omega arith in
    ap (λ (m : ℕ). digit_at (suc i) n ∷ digits_down m n) (sym q)

pub down-place : {k n j at : ℕ} {to : List ℕ} {r : ℕ} {to' : List ℕ} → Down k n j at to r to' → r + j ≡ at + k
down-place w = omega (arith, w.wrote.next, w.count)

pub down-more : (k n j p : ℕ) {at : ℕ} {to : List ℕ} {r : ℕ} {to' : List ℕ} {s : ℕ} {to'' : List ℕ} → 0 < j → p ≡ 10 ^ j → Down k n j at to r to' → Wrote ((48 + n / p % 10) ∷ []) r to' s to'' →
    Down k n (j - 1) at to s to''
down-more k n j p {at} {to} {r} {to'} {s} {to''} h e w a = record {
  done = w.done ++ (digit_at j n ∷ []);
  wrote = wrote-more w.wrote (subst (λ (x : ℕ). Wrote ((48 + n / x % 10) ∷ []) r to' s to'') e a);
  rest = append_assoc w.done (digit_at j n ∷ []) (digits_down (j - 1) n) ∙ ap (λ (l : List ℕ). w.done ++ l) (sym (digits-next n j h)) ∙ w.rest;
  count = omega (arith, w.count, length-append w.done (digit_at j n ∷ []));
}

pub down-last : (k n j : ℕ) {at : ℕ} {to : List ℕ} {r : ℕ} {to' : List ℕ} {s : ℕ} {to'' : List ℕ} → j ≤ 0 → Down k n j at to r to' → Wrote ((48 + n % 10) ∷ []) r to' s to'' → Wrote (digits_down k n) at to s to''
unfolding digits_down
down-last k n zero h w a = wrote-same w.rest (wrote-more w.wrote a)
down-last k n (suc i) h w a = absurd (omega arith)

-- ---- how many

pub digits-count : (k n : ℕ) → length (digits_down k n) ≡ suc k
unfolding digits_down
digits-count zero n = refl
digits-count (suc k) n = ap suc (digits-count k n)

pub six-long : (m : ℕ) → length (six_decimals m) ≤ 17
six-long m = omega (arith, length-append (decimal (m / million)) (46 ∷ digits_down 5 (m % million)), decimal-long 9 (m / million), digits-count 5 (m % million))

pub number-long : (n : ℕ) {at : ℕ} {to : List ℕ} {r : ℕ} {to' : List ℕ} → Wrote (decimal n) at to r to' → r ≤ at + 10
number-long n a = omega (arith, a.next, decimal-long 9 n)
