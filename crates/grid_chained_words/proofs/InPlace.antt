-- Making the cells of words that stand at the front of the keys: what each call asks follows from what the calls before it gave. Assumes nothing.
use mathlib.Core.List.{List, ◌++◌}
use mathlib.Core.Path.{◌≡◌, sym, ap, ◌∙◌, subst}
use Prim.Native.Nat.{ℕ, ◌+◌, ◌*◌, ◌/◌, ◌<◌, ◌≤◌}
use native.Mathlib.Nat.{mul-le-mul_right, le_trans, div-le_self}
use native.Mathlib.Omega.{arith}
use lib.ListN.{length, take, drop, take-append-drop}
use lib.Seq.{length-take-le}
use Rattle.refusal.specs.Limits.{many_corners}
use Rattle.multiindex.specs.Sort.{sort_words}
use Rattle.multiindex.proofs.WordsLaws.{words-length}
use Rattle.sorting.specs.Bucket.{cell}
use Rattle.sorting.specs.Order.{Table}
use Rattle.sorting.specs.Distinct.{Distinct}
use Rattle.sorting.specs.Gather.{rows_of}
use Rattle.sorting.proofs.Rows.{pos-room}
use Rattle.complex_cells.specs.WorkMade.{Made}
use Rattle.complex_cells.proofs.Making.{whole_words, few-corners, words-table, made}
use Rattle.grid_chained_words.specs.WorkWords.{Sorting}

module _ (d len : ℕ) (keys rows spare counts : List ℕ) (k : Sorting d len keys rows spare counts) where
  long : length (take len keys) ≡ len
  long = length-take-le len keys k.front

  pub few : len < many_corners
  few = subst (λ (n : ℕ). n < many_corners) long (few-corners d (take len keys) k.passed)

  pub whole : len / (d + 1) * (d + 1) ≡ len
  whole = subst (λ (n : ℕ). n / (d + 1) * (d + 1) ≡ n) long (whole_words d (take len keys) k.passed)

  pub fewer : len / (d + 1) ≤ len
  fewer = div-le_self len (d + 1)

  module _ (K : List ℕ) (e : K ≡ sort_words (d + 1) (len / (d + 1)) keys) where
    as-sorted : K ≡ sort_words (d + 1) (length (take len keys) / (d + 1)) (take len keys ++ drop len keys)
    as-sorted =
        e ∙ ap (λ (n : ℕ). sort_words (d + 1) (n / (d + 1)) keys) (sym long) ∙ ap (λ (l : List ℕ). sort_words (d + 1) (length (take len keys) / (d + 1)) l) (sym (take-append-drop len keys))

    pub table : Table K (d + 1) (len / (d + 1)) len
    table =
        subst (λ (n : ℕ). Table K (d + 1) (n / (d + 1)) n) long
        (subst (λ (l : List ℕ). Table l (d + 1) (length (take len keys) / (d + 1)) (length (take len keys))) (sym as-sorted) (words-table d (take len keys) k.passed (drop len keys)))

    pub keys-hold : len ≤ length K
    keys-hold = omega (arith, ap length e, words-length (d + 1) (len / (d + 1)) keys, k.front)

    pub row_fits : (r : ℕ) → r < len / (d + 1) → r * (d + 1) + (d + 1) ≤ length K
    row_fits r h = le_trans (pos-room r (len / (d + 1)) (d + 1) h) (omega (arith, whole, keys-hold))

    pub in_place : (m : ℕ) (reps ids rows' tail : List ℕ) → Distinct (cell K (d + 1)) (d + 1) (len / (d + 1)) m reps ids → m ≤ length reps → rows' ≡ rows_of K (d + 1) (take m reps) ++ tail → len ≤ length rows' → Made d (take len keys) m rows'
    in_place m reps ids rows' tail q l f room =
        made d (take len keys) k.passed (drop len keys) m reps ids rows' tail
        (subst (λ (n : ℕ). Distinct (cell (sort_words (d + 1) (length (take len keys) / (d + 1)) (take len keys ++ drop len keys)) (d + 1)) (d + 1) (n / (d + 1)) m reps ids) (sym long)
        (subst (λ (x : List ℕ). Distinct (cell x (d + 1)) (d + 1) (len / (d + 1)) m reps ids) as-sorted q))
        l
        (f ∙ ap (λ (x : List ℕ). rows_of x (d + 1) (take m reps) ++ tail) as-sorted)
        (subst (λ (n : ℕ). n ≤ length rows') (sym long) room)

  pub most-rows : (m : ℕ) → m ≤ len / (d + 1) → m * (d + 1) ≤ len
  most-rows m h = omega (arith, mul-le-mul_right (d + 1) h, whole)
