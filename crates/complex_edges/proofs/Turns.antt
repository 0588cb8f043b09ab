-- The table of pairs, one row at a time. Assumes nothing.
use mathlib.Core.List.{List}
use mathlib.Core.Path.{◌≡◌, ap, ◌∙◌}
use mathlib.Core.Logic.{⊎_elim}
use Prim.Native.Nat.{ℕ, suc, ◌+◌, ◌*◌, ◌/◌, ◌%◌, ◌<◌, ◌≤◌, min}
use native.Mathlib.Nat.{eq-or-lt_of_le, mul-suc}
use native.Mathlib.Numerals.{add-one}
use native.Mathlib.Omega.{arith}
use lib.ListN.{length, get_or, set, length-set}
use lib.Seq.{get_or-set_same, get_or-set_other}
use Rattle.lists.proofs.Rows.{row_fits, row-cell-below, row-slot-below, slots-some}
use Rattle.complex_edges.specs.WorkPairs.{PairAt, Writing}

-- what a turn of the loop knows
pub record Turn (d : ℕ) (cells keys : List ℕ) (x : ℕ) : Type 0 where
  pub some : 0 < d
  pub slot : x / d % d < d
  pub cell : x / d / d * (d + 1) + (d + 1) ≤ length cells
  pub fits : x * 2 + 2 ≤ length keys

pub turn : (d m : ℕ) (cells keys keys' : List ℕ) (x : ℕ) → Writing d m cells keys → length keys' ≡ length keys → x < m * d * d → Turn d cells keys' x
turn d m cells keys keys' x w e h =
    record {
      some = slots-some x (m * d) d h;
      slot = row-slot-below (x / d) m d (row-cell-below x (m * d) d h);
      cell = rw (add-one d) (row_fits (x / d / d) m (suc d) (length cells) (row-cell-below (x / d) m d (row-cell-below x (m * d) d h)) w.long);
      fits = rw e (row_fits x (m * d * d) 2 (length keys) h w.room);
    }

-- a product of the code fits
pub few-blocks : (d m : ℕ) (cells keys : List ℕ) → Writing d m cells keys → m * d < 4294967296
few-blocks d m cells keys w = omega (arith, w.small, mul-suc m d)

pub few-rows : (d m : ℕ) (cells keys : List ℕ) → Writing d m cells keys → m * d * d ≤ length keys
few-rows d m cells keys w = omega (arith, w.room)

-- one row more
pub pair-more : (d : ℕ) (cells keys : List ℕ) (x low : ℕ) → x * 2 + 2 ≤ length keys → low ≡ min (x % d) (x / d % d) → ((y : ℕ) → y < x → PairAt d cells keys y) →
    (y : ℕ) → y < x + 1 → PairAt d cells (set (set keys (x * 2) (get_or cells (x / d / d * (d + 1) + low) 0)) (x * 2 + 1) (get_or cells (x / d / d * (d + 1) + x / d % d + 1) 0)) y
pair-more d cells keys x low room e old y h =
    ⊎_elim
    (λ (s : y ≡ x). rw s
    (record {
      low = get_or-set_other (set keys (x * 2) (a low)) (x * 2 + 1) (x * 2) b 0 (λ z. omega arith) ∙ get_or-set_same keys (x * 2) (a low) 0 (omega arith) ∙ ap a e;
      high = get_or-set_same (set keys (x * 2) (a low)) (x * 2 + 1) b 0 (rw length-set (omega arith));
    }))
    (λ (l : y < x).
    record {
      low = get_or-set_other (set keys (x * 2) (a low)) (x * 2 + 1) (y * 2) b 0 (λ z. omega arith) ∙ get_or-set_other keys (x * 2) (y * 2) (a low) 0 (λ z. omega arith) ∙ (old y l).low;
      high = get_or-set_other (set keys (x * 2) (a low)) (x * 2 + 1) (y * 2 + 1) b 0 (λ z. omega arith) ∙ get_or-set_other keys (x * 2) (y * 2 + 1) (a low) 0 (λ z. omega arith) ∙ (old y l).high;
    })
    (eq-or-lt_of_le (omega arith))
  where
    a : ℕ → ℕ
    a l = get_or cells (x / d / d * (d + 1) + l) 0

    b : ℕ
    b = get_or cells (x / d / d * (d + 1) + x / d % d + 1) 0
