-- A corner's weights taken out one by one. Assumes nothing.
use mathlib.Core.Path.{◌≡◌, refl, sym, ap}
use mathlib.Core.List.{List}
use Prim.Native.Nat.{ℕ, zero, suc, ◌+◌, ◌-◌, ◌/◌, ◌%◌, ◌≤◌, ◌<◌}
use native.Mathlib.Nat.{le_of_eq}
use native.Mathlib.Omega.{arith}
use lib.ListN.{length, set}
use Rattle.refine_pattern.specs.Table.{unpacked}
use Rattle.refine_pattern.proofs.Written.{Written, written_none, written-length, written-put, written_same, written-whole}

unpacked-length : (n corner : ℕ) → length (unpacked n corner) ≡ n
unpacked-length zero corner = refl
unpacked-length (suc n) corner = ap suc (unpacked-length n (corner / 16))

-- The first j weights are written, and `rest` holds the others.
pub record Unpacked (corner : ℕ) (before : List ℕ) (j rest : ℕ) (to : List ℕ) : Type 0 where
  pub turn : j ≤ length before
  pub written : Written (unpacked (length before) corner) before (unpacked (length before - j) rest) j to

pub unpacked-none : (corner : ℕ) (before : List ℕ) → Unpacked corner before 0 corner before
unpacked-none corner before =
    let s : length before ≡ length before - 0 = omega arith in
    record {
      turn = omega arith;
      written = written_same _ _ _ _ _ _ (ap (λ (n : ℕ). unpacked n corner) s) (written_none (unpacked (length before) corner) before);
    }

module _ (corner : ℕ) (before : List ℕ) (j rest : ℕ) (to : List ℕ) (w : Unpacked corner before j rest to) where
  pub unpacked-long : length to ≡ length before
  unpacked-long = written-length _ _ _ _ _ (le_of_eq (unpacked-length (length before) corner)) w.written

  pub unpacked-next : j < length before → Unpacked corner before (j + 1) (rest / 16) (set to j (rest % 16))
  unpacked-next h = record {
    turn = omega arith;
    written =
        let s : length before - j ≡ suc (length before - (j + 1)) = omega arith in
        written-put _ _ _ _ _ (le_of_eq (unpacked-length (length before) corner)) w.written (rest % 16)
        (unpacked (length before - (j + 1)) (rest / 16)) (ap (λ (n : ℕ). unpacked n rest) s);
  }

  pub unpacked-end : length before ≤ j → to ≡ unpacked (length before) corner
  unpacked-end h =
      let s : length before - j ≡ 0 = omega arith in
      written-whole (unpacked (length before) corner) before j to (sym (unpacked-length (length before) corner))
      (written_same _ _ _ _ _ _ (ap (λ (n : ℕ). unpacked n rest) s) w.written)
