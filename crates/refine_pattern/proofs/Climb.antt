-- How many falling points there are: with all orders of the axes (R + 1) (R + 2) .. (R + d). Assumes nothing.
use mathlib.Core.Path.{◌≡◌, refl, sym, ap, ◌∙◌}
use mathlib.Core.List.{List, [], ◌∷◌, ◌++◌, map}
use Prim.Native.Nat.{ℕ, zero, suc, ◌+◌, ◌*◌, ◌-◌, ◌^◌, ◌≤◌}
use native.Mathlib.Nat.{add-mul, mul_assoc, mul_comm, mul-add, mul-le-mul, pow-zero, pow-suc}
use native.Mathlib.Omega.{arith}
use lib.ListN.{length}
use Rattle.lists.specs.Tables.{tab}
use Rattle.multiindex.specs.Permutation.{gather}
use Rattle.multiindex.proofs.Digits.{power-most}
use Rattle.refine_pattern.specs.WorkChains.{top, falling}
use Rattle.refine_pattern.proofs.Falling.{block}

-- A point counts 1 without further coordinates; with one more in front it counts what the points that it then has count: their first coordinates go from its own to R.
abbrev sums : ℕ → (ℕ → ℕ) → ℕ
sums zero g = g zero
sums (suc n) g = g (suc n) + sums n g

abbrev pile : ℕ → ℕ → ℕ
pile n zero = 1
pile n (suc k) = sums n (λ j. pile j k)

abbrev mass : ℕ → ℕ → List (List ℕ) → ℕ
mass R k [] = 0
mass R k (s ∷ l) = pile (R - top s) k + mass R k l

mass-append : (R k : ℕ) (l m : List (List ℕ)) → mass R k (l ++ m) ≡ mass R k l + mass R k m
mass-append R k [] m = omega arith
mass-append R k (s ∷ l) m = omega (arith, mass-append R k l m)

mass-one : (R : ℕ) (l : List (List ℕ)) → mass R 0 l ≡ length l
mass-one R [] = refl
mass-one R (s ∷ l) = omega (arith, mass-one R l)

mass-block : (R k : ℕ) (s : List ℕ) (n : ℕ) (h : ℕ → ℕ) → ((i : ℕ) → R - h i ≡ n - i) → mass R k (map (λ x. x ∷ s) (tab (suc n) h)) ≡ pile n (suc k)
mass-block R k s zero h e = let q : R - h 0 ≡ 0 = omega (arith, e 0) in omega (arith, ap (λ (x : ℕ). pile x k) q)
mass-block R k s (suc n) h e =
    let q : R - h 0 ≡ suc n = omega (arith, e 0) in
    omega (arith, ap (λ (x : ℕ). pile x k) q, mass-block R k s n (λ i. h (suc i)) (λ i. omega (arith, e (suc i))))

mass-down : (R k : ℕ) (l : List (List ℕ)) → mass R k (gather (block R) l) ≡ mass R (suc k) l
mass-down R k [] = refl
mass-down R k (s ∷ l) =
    mass-append R k (block R s) (gather (block R) l)
    ∙ omega (arith, mass-block R k s (R - top s) (λ i. top s + i) (λ i. omega arith), mass-down R k l)

mass-falling : (d R k : ℕ) → mass R k (falling d R) ≡ pile R (k + d)
mass-falling zero R k =
    let a : R - 0 ≡ R = omega arith in
    let b : k + 0 ≡ k = omega arith in
    omega (arith, ap (λ (x : ℕ). pile x k) a, ap (pile R) b)
mass-falling (suc d) R k = mass-down R k (falling d R) ∙ mass-falling d R (suc k) ∙ ap (pile R) {x = suc k + d} {y = k + suc d} (omega arith)

-- (n + 1) (n + 2) .. (n + k)
abbrev pub climb : ℕ → ℕ → ℕ
climb n zero = 1
climb n (suc k) = climb n k * (n + suc k)

abbrev pub ways : ℕ → ℕ
ways zero = 1
ways (suc k) = ways k * suc k

climb-front : (n k : ℕ) → climb n (suc k) ≡ suc n * climb (suc n) k
climb-front n zero = omega arith
climb-front n (suc k) =
    ap (λ (x : ℕ). x * (n + suc (suc k))) (climb-front n k)
    ∙ mul_assoc (suc n) (climb (suc n) k) (n + suc (suc k))
    ∙ ap (λ (x : ℕ). suc n * (climb (suc n) k * x)) {x = n + suc (suc k)} {y = suc n + suc k} (omega arith)

module _ (k : ℕ) (h : (n : ℕ) → pile n k * ways k ≡ climb n k) where
  row : (n : ℕ) → pile n k * ways (suc k) ≡ climb n k * suc k
  row n = sym (mul_assoc (pile n k) (ways k) (suc k)) ∙ ap (λ (x : ℕ). x * suc k) (h n)

  climb-step : (n : ℕ) → pile n (suc k) * ways (suc k) ≡ climb n (suc k)
  climb-step zero = row 0 ∙ ap (λ (x : ℕ). climb 0 k * x) {x = suc k} {y = 0 + suc k} (omega arith)
  climb-step (suc n) =
      let c : ℕ = climb (suc n) k in
      add-mul (pile (suc n) k) (pile n (suc k)) (ways (suc k))
      ∙ omega (arith, row (suc n), climb-step n, climb-front n k, mul_comm (suc n) c, mul-add c (suc n) (suc k))

pile-climb : (k n : ℕ) → pile n k * ways k ≡ climb n k
pile-climb zero n = refl
pile-climb (suc k) n = climb-step k (pile-climb k) n

pub falling-count : (d R : ℕ) → length (falling d R) * ways d ≡ climb R d
falling-count d R =
    ap (λ (x : ℕ). x * ways d) (sym (mass-one R (falling d R)) ∙ mass-falling d R 0 ∙ ap (pile R) {x = 0 + d} {y = d} (omega arith))
    ∙ pile-climb d R

-- which is no large number
climb-most : (n k : ℕ) → n + k ≤ 128 → climb n k ≤ 128 ^ k
climb-most n zero h = omega (arith, pow-zero 128)
climb-most n (suc k) h =
    let a : n + suc k ≤ 128 = omega arith in
    omega (arith, mul-le-mul (climb-most n k (omega arith)) a, pow-suc 128 k)

pub climb-fits : (n k : ℕ) → n ≤ 64 → k ≤ 3 → climb n k ≤ 281474976710656
climb-fits n k h l = omega (arith, climb-most n k (omega arith), power-most k 128 l (omega arith))
