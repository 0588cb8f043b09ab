-- A facet's numbers, and rows of a flat list that is written row by row. Assumes nothing.
use mathlib.Core.List.{List, ◌++◌}
use mathlib.Core.Path.{◌≡◌, sym, ap, ◌∙◌}
use mathlib.Core.Logic.{⊎_elim}
use Prim.Native.Nat.{ℕ, suc, ◌+◌, ◌-◌, ◌*◌, ◌/◌, ◌%◌, ◌<◌, ◌≤◌}
use native.Mathlib.Nat.{suc-mul, mul-le-mul_right, eq-or-lt_of_le}
use native.Mathlib.Omega.{arith}
use lib.ListN.{length, get_or, take, drop, length-append, length-drop, take-append-drop, get_or-append}
use lib.Seq.{length-take-le, get_or-take, get_or-drop, get_or-append-add, take_at, drop_at}
use Rattle.lists.proofs.Laws.{front-part}
use Rattle.lists.specs.Rows.{row}
use Rattle.sorting.proofs.Colex.{row-length}
use Rattle.lists.proofs.Rows.{row_fits, slots-some, row-cell-below, row-slot-below, part-row}
use Rattle.complex.specs.Facets.{facet_at}
use Rattle.complex_mates.specs.Table.{Kept, facet_row, Written, Writing}
use native.Mathlib.Numerals.{add-one}
use native.Mathlib.Nat.{mul-le-mul_left}
use native.Mathlib.Decide.{dec_lt}

-- ---- a facet
pub facet-length : (w : List ℕ) (i : ℕ) → i < length w → length (facet_at w i) + 1 ≡ length w
facet-length w i h = omega (arith, length-append (take i w) (drop (suc i) w), length-take-le i w (omega arith), length-drop (suc i) w)

pub facet-before : (w : List ℕ) (i j : ℕ) → i < length w → j < i → get_or (facet_at w i) j 0 ≡ get_or w j 0
facet-before w i j h l = get_or-append (take i w) (drop (suc i) w) 0 j (omega (arith, length-take-le i w (omega arith))) ∙ get_or-take i w j 0 l

pub facet-after : (w : List ℕ) (i j : ℕ) → i < length w → i ≤ j → get_or (facet_at w i) j 0 ≡ get_or w (suc j) 0
facet-after w i j h l =
    let e : length (take i w) ≡ i = length-take-le i w (omega arith) in
    let f : j ≡ length (take i w) + (j - i) = omega arith in
    let g : suc i + (j - i) ≡ suc j = omega arith in
    ap (λ (n : ℕ). get_or (facet_at w i) n 0) f ∙ get_or-append-add (take i w) (drop (suc i) w) (j - i) 0 ∙ get_or-drop (suc i) w (j - i) 0 ∙ ap (λ (n : ℕ). get_or w n 0) g

pub facet-kept : (w : List ℕ) (i j r : ℕ) → i < length w → Kept i j r → get_or w r 0 ≡ get_or (facet_at w i) j 0
facet-kept w i j r h q =
    elim (dec_lt j i) [
      | yes l ↦ ap (λ (n : ℕ). get_or w n 0) (q.before l) ∙ sym (facet-before w i j h l)
      | no l ↦ let g : i ≤ j = omega arith in ap (λ (n : ℕ). get_or w n 0) (q.after g) ∙ sym (facet-after w i j h g)
    ]

-- two positions of a word whose numbers rise give two facets
pub facets-differ : (w : List ℕ) (i j : ℕ) → i < j → j < length w → get_or w i 0 < get_or w (suc i) 0 → facet_at w i ≡ facet_at w j → ⊥
facets-differ w i j l h up e =
    omega (arith, facet-after w i i (omega arith) (omega arith), facet-before w j i h l, ap (λ (v : List ℕ). get_or v i 0) e)

-- ---- rows
-- what a turn of the loop that writes rows knows
pub record Turn (d k m : ℕ) (cells keys : List ℕ) (x : ℕ) : Type 0 where
  pub some : 0 < k
  pub cell : x / k * (d + 1) + (d + 1) ≤ length cells
  pub fits : x * d + d ≤ length keys
  pub slot : x % k ≤ d

-- a row that is written leaves those before it, and is there
module _ (d x : ℕ) (keys ys : List ℕ) (fits : x * d + d ≤ length keys) (long : length ys ≡ d) where
  put : List ℕ
  put = take (x * d) keys ++ (ys ++ drop d (drop (x * d) keys))

  pub put-before : (y : ℕ) → y < x → row (take (x * d) keys ++ (ys ++ drop d (drop (x * d) keys))) d y ≡ row keys d y
  put-before y l =
      let q : y * d + d ≤ x * d = omega (arith, suc-mul y d, mul-le-mul_right d l) in
      let e : length (take (x * d) keys) ≡ x * d = length-take-le (x * d) keys (omega arith) in
      front-part (take (x * d) keys) (ys ++ drop d (drop (x * d) keys)) (y * d) d (omega arith)
      ∙ sym (front-part (take (x * d) keys) (drop (x * d) keys) (y * d) d (omega arith))
      ∙ ap (λ (l : List ℕ). row l d y) (take-append-drop (x * d) keys)

  pub put-here : row (take (x * d) keys ++ (ys ++ drop d (drop (x * d) keys))) d x ≡ ys
  put-here =
      let e : length (take (x * d) keys) ≡ x * d = length-take-le (x * d) keys (omega arith) in
      ap (take d) (drop_at (take (x * d) keys) (ys ++ drop d (drop (x * d) keys)) (x * d) e) ∙ take_at ys (drop d (drop (x * d) keys)) d long

  pub put-length : length (take (x * d) keys ++ (ys ++ drop d (drop (x * d) keys))) ≡ length keys
  put-length =
      omega (arith, length-append (take (x * d) keys) (ys ++ drop d (drop (x * d) keys)), length-append ys (drop d (drop (x * d) keys)), length-drop d (drop (x * d) keys), length-drop (x * d) keys, length-take-le (x * d) keys (omega arith))

-- one row more
pub written-more : (d k : ℕ) (cells keys keys' : List ℕ) (x : ℕ) → Written d k cells keys x → ((y : ℕ) → y < x → row keys' d y ≡ row keys d y) → row keys' d x ≡ facet_row d k cells x → Written d k cells keys' (x + 1)
written-more d k cells keys keys' x w old new y h =
    ⊎_elim (λ (e : y ≡ x). rw e new) (λ (l : y < x). old y l ∙ w y l) (eq-or-lt_of_le (omega arith))

pub writing-few : (d k m : ℕ) (cells keys : List ℕ) → Writing d k m cells keys → m * k < 4294967295
writing-few d k m cells keys w = omega (arith, mul-le-mul_left m w.few, w.small)

pub writing-turn : (d k m : ℕ) (cells keys keys' : List ℕ) (x : ℕ) → Writing d k m cells keys → length keys' ≡ length keys → x < m * k → Turn d k m cells keys' x
writing-turn d k m cells keys keys' x w e h =
    record {
      some = slots-some x m k h;
      cell = rw (add-one d) (row_fits (x / k) m (suc d) (length cells) (row-cell-below x m k h) w.long);
      fits = rw e (row_fits x (m * k) d (length keys) h w.room);
      slot = omega (arith, row-slot-below x m k h, w.few);
    }

-- what a turn wrote
module _ (d k m : ℕ) (cells keys : List ℕ) (x : ℕ) (t : Turn d k m cells keys x) (ys : List ℕ) (e : ys ≡ facet_at (take (x / k * (d + 1) + (d + 1) - x / k * (d + 1)) (drop (x / k * (d + 1)) cells)) (d - x % k)) where
  pub wrote : ys ≡ facet_row d k cells x
  wrote = e ∙ ap (λ (w : List ℕ). facet_at w (d - x % k)) (part-row cells (d + 1) (x / k) ∙ ap (λ (n : ℕ). row cells n (x / k)) (add-one d))

  pub wrote-length : length ys ≡ d
  wrote-length =
      let r : length (row cells (suc d) (x / k)) ≡ suc d = row-length cells (suc d) (x / k) (rw (add-one d) at t.cell) in
      omega (arith, ap length wrote, facet-length (row cells (suc d) (x / k)) (d - x % k) (omega arith))
