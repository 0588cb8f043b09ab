-- The step function. Assumes nothing.
use mathlib.Core.Path.{◌≡◌, refl}
use Prim.Native.Nat.{ℕ, zero, suc, ◌≤◌, ◌<◌, suc-le-suc}
use native.Mathlib.Nat.{le_of_suc-le-suc}
use native.Mathlib.Omega.{arith}

-- 1 where t < k, and else 0
abbrev pub step : ℕ → ℕ → ℕ
step t zero = 0
step zero (suc k) = 1
step (suc t) (suc k) = step t k

pub step-le : (t k : ℕ) → step t k ≤ 1
step-le t zero = omega arith
step-le zero (suc k) = omega arith
step-le (suc t) (suc k) = step-le t k

pub step-yes : (t k : ℕ) → t < k → step t k ≡ 1
step-yes t zero h = omega arith
step-yes zero (suc k) h = refl
step-yes (suc t) (suc k) h = step-yes t k (le_of_suc-le-suc h)

pub step-no : (t k : ℕ) → k ≤ t → step t k ≡ 0
step-no t zero h = refl
step-no zero (suc k) h = omega arith
step-no (suc t) (suc k) h = step-no t k (le_of_suc-le-suc h)

pub step-one : (t k : ℕ) → step t k ≡ 1 → t < k
step-one t zero h = omega arith
step-one zero (suc k) h = omega arith
step-one (suc t) (suc k) h = suc-le-suc (step-one t k h)
