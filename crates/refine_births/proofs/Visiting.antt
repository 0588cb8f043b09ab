-- The rows of the visits, written one after the other. Assumes nothing.
use mathlib.Core.Path.{◌≡◌, sym, ap, ◌∙◌}
use mathlib.Core.Logic.{◌⊎◌, ⊎_elim}
use mathlib.Core.List.{List, ◌++◌}
use Prim.Native.Nat.{ℕ, ◌+◌, ◌*◌, ◌-◌, ◌/◌, ◌%◌, ◌≤◌, ◌<◌}
use native.Mathlib.Nat.{suc-mul, mul-le-mul_right, eq-or-lt_of_le, add-sub_cancel_left}
use native.Mathlib.Omega.{arith}
use lib.ListN.{length, get_or, take, drop}
use Rattle.lists.specs.Rows.{row}
use Rattle.sorting.proofs.Colex.{row-length, row-cell}
use Rattle.lists.proofs.Rows.{row_fits, row-cell-below, row-slot-below, slots-some}
use Rattle.complex_mates.proofs.Laws.{put-before, put-here, put-length}
use Rattle.lists.specs.Tables.{tab}
use Rattle.refine_lattice.specs.Complex.{weigh}
use Rattle.refine_births.specs.Support.{row_of, Supporting}
use Rattle.refine_births.specs.WorkVisits.{visit_at, Visiting, Visited}
use Rattle.refine_births.proofs.Points.{row-long}

-- what a turn of the loop knows
pub record Turn (size m p : ℕ) (words pattern keys : List ℕ) (x : ℕ) : Type 0 where
  pub some : 0 < p
  pub parent : x / p < m
  pub corner : x % p < p
  pub word : x / p * size + size ≤ length words
  pub weights : x % p * size + size ≤ length pattern
  pub fits : x * (size + size) + (size + size) ≤ length keys

pub visit-turn : (size n m p : ℕ) (words pattern keys keys' : List ℕ) (x : ℕ) → Visiting size n m p words pattern keys → length keys' ≡ length keys → x < m * p → Turn size m p words pattern keys' x
visit-turn size n m p words pattern keys keys' x v e h =
    record {
      some = slots-some x m p h;
      parent = row-cell-below x m p h;
      corner = row-slot-below x m p h;
      word = row_fits (x / p) m size (length words) (row-cell-below x m p h) v.long;
      weights = row_fits (x % p) p size (length pattern) (row-slot-below x m p h) v.wide;
      fits = rw e (row_fits x (m * p) (size + size) (length keys) h v.room);
    }

-- a part of a list that is a row of it
pub part-is-row : (l : List ℕ) (x size : ℕ) → take (x * size + size - x * size) (drop (x * size) l) ≡ row l size x
part-is-row l x size = rw (add-sub_cancel_left (x * size) size)

module _ (size n m p : ℕ) (words pattern keys keys₀ : List ℕ) (x : ℕ) (v : Visiting size n m p words pattern keys₀) (t : Turn size m p words pattern keys x) where
  word_below : (i : ℕ) → i < size → get_or (row words size (x / p)) i 0 < n
  word_below i h =
      rw (row-cell words size (x / p) i h)
      (v.below (x / p * size + i) (omega (arith, suc-mul (x / p) size, mul-le-mul_right size t.parent)))

  by_rows : Supporting (row words size (x / p)) (row pattern size (x % p)) n (row keys (size + size) x)
  by_rows =
      let a : length (row words size (x / p)) ≡ size = row-length words size (x / p) t.word in
      let b : length (row pattern size (x % p)) ≡ size = row-length pattern size (x % p) t.weights in
      let c : length (row keys (size + size) x) ≡ size + size = row-length keys (size + size) x t.fits in
      record {
        weighing = record { long = b ∙ sym a; small = v.light (x % p) t.corner };
        below = λ i h. word_below i (omega arith);
        few = v.named;
        long = omega arith;
      }

  pub visit-supporting :
      Supporting (take (x / p * size + size - x / p * size) (drop (x / p * size) words)) (take (x % p * size + size - x % p * size) (drop (x % p * size) pattern)) n
      (take (x * (size + size) + (size + size) - x * (size + size)) (drop (x * (size + size)) keys))
  visit-supporting = rw (part-is-row words (x / p) size, part-is-row pattern (x % p) size, part-is-row keys x (size + size)) by_rows

  -- what a turn writes
  module _ (ys : List ℕ) (e : ys ≡ row_of (length (take (x / p * size + size - x / p * size) (drop (x / p * size) words))) n (tab n (weigh (take (x / p * size + size - x / p * size) (drop (x / p * size) words)) (take (x % p * size + size - x % p * size) (drop (x % p * size) pattern))))) where
    wrote : ys ≡ row_of size n (visit_at size n p words pattern x)
    wrote =
        e
        ∙ ap (λ (k : List ℕ). row_of (length k) n (tab n (weigh k (take (x % p * size + size - x % p * size) (drop (x % p * size) pattern))))) (part-is-row words (x / p) size)
        ∙ ap (λ (w : List ℕ). row_of (length (row words size (x / p))) n (tab n (weigh (row words size (x / p)) w))) (part-is-row pattern (x % p) size)
        ∙ ap (λ (s : ℕ). row_of s n (visit_at size n p words pattern x)) (row-length words size (x / p) t.word)

    long : length ys ≡ size + size
    long = ap length wrote ∙ row-long size n (visit_at size n p words pattern x)

    pub visited-long : length (take (x * (size + size)) keys ++ (ys ++ drop (size + size) (drop (x * (size + size)) keys))) ≡ length keys
    visited-long = put-length (size + size) x keys ys t.fits long

    pub visited-more : Visited size n p words pattern keys x → Visited size n p words pattern (take (x * (size + size)) keys ++ (ys ++ drop (size + size) (drop (x * (size + size)) keys))) (x + 1)
    visited-more w y h =
        ⊎_elim (λ (q : y ≡ x). rw q (put-here (size + size) x keys ys t.fits long ∙ wrote))
        (λ (l : y < x). put-before (size + size) x keys ys t.fits long y l ∙ w y l)
        (eq-or-lt_of_le (omega arith))
