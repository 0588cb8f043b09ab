-- The work of a refinement, step by step: what each call asks follows from what the calls before it gave. Assumes nothing.
use Rattle.refusal.specs.declared.Refusal.{Refusal}
use Rattle.std.specs.Prelude.{Err, Ok, Result}
use mathlib.Core.Bool.{Bool, true, false}
use mathlib.Core.List.{List, [], ◌∷◌}
use mathlib.Core.Path.{◌≡◌, sym, ap, ◌∙◌, subst}
use Prim.Native.Nat.{ℕ, suc, ◌+◌, ◌*◌, ◌/◌, ◌^◌, ◌≤◌, ◌<◌}
use native.Mathlib.Nat.{mul-le-mul_left, mul-le-mul_right, zero-mul, mul_assoc, zero-lt-suc, le_trans, le-div_iff_mul-le}
use native.Mathlib.Decide.{dec_lt}
use native.Mathlib.Numerals.{add-one}
use native.Mathlib.Omega.{arith}
use lib.IntN.{ℤ}
use lib.Ieee.{Float}
use lib.ListN.{length}
use Rattle.refusal.specs.Limits.{most_dimension, most_cells, row_most}
use Rattle.lists.specs.Rows.{cut}
use Rattle.lists.proofs.Rows.{cut-length}
use Rattle.complex.specs.Check.{Passed}
use Rattle.complex.specs.Cells.{place, placed, in_order, cells_of, comes_before}
use Rattle.complex.specs.Facets.{Crowded}
use Rattle.complex_cells.proofs.Making.{whole_words}
use Rattle.complex_cells.proofs.Pigeon.{largest-low}
use Rattle.refine_results.specs.declared.Refinement.{Refinement}
use Rattle.refine_results.specs.Refined.{coarse}
use Rattle.refine_results.specs.WorkFlat.{Along}
use Rattle.refine_results.specs.Results.{nothing, Lengths, lengths_of, Inside, Finishes}
use Rattle.refine_results.specs.WorkStage.{Spacious, Ready, Handed}
use Rattle.refine.specs.Space.{children_room}
use Rattle.refine.specs.WorkReading.{Making, Reads, crowded, unordered, read}
use Rattle.refine.specs.Promise as promise
use Rattle.refine.specs.Work.{Working, Worked}
use Rattle.refine.proofs.Needed.{children-fit}
use Rattle.refine.proofs.Entry.{none-stored}

-- ---- there is a cell where there is a word
place-some : (n : ℕ) (w : List ℕ) (cs : List (List ℕ)) → 0 < length (place n w cs)
unfolding place placed
place-some n w [] = omega arith
place-some n w (c ∷ cs) = go (comes_before n w c) (comes_before n c w)
  where
    go : (a b : Bool) → 0 < length (placed a b w c cs (place n w cs))
    go true b = omega arith
    go false true = omega arith
    go false false = omega arith

order-some : (n : ℕ) (ws : List (List ℕ)) → 0 < length ws → 0 < length (in_order n ws)
unfolding in_order
order-some n [] h = absurd (omega arith)
order-some n (w ∷ ws) h = place-some n _ (in_order n ws)

power-once : (m k : ℕ) → 0 < m → k ≤ m * k
power-once m k h = omega (arith, mul-le-mul_right k h)

within : (d : ℕ) → d ≤ most_dimension → suc d + suc d ≤ 2 * row_most
within d h = omega arith

double : (d x : ℕ) → d ≤ most_dimension → x * (suc d + suc d) ≤ 2 * row_most * x
double d x h = omega (arith, mul-le-mul_left x (within d h))

module _ (d : ℕ) (ws : List ℕ) (p : Passed d ws) where
  words-some : 0 < length ws / (d + 1)
  words-some = elim (dec_lt 0 (length ws / (d + 1))) [ yes h ↦ h | no h ↦ absurd (p.some_words (sym (whole_words d ws p) ∙ ap (λ (x : ℕ). x * (d + 1)) (none h) ∙ zero-mul (d + 1))) ]
    where
      none : (0 < length ws / (d + 1) → ⊥) → length ws / (d + 1) ≡ 0
      none h = omega arith

  cells-some : 0 < length (cells_of d ws)
  unfolding cells_of
  cells-some = order-some (d + 1) (cut (d + 1) (length ws / (d + 1)) ws) (omega (arith, cut-length (d + 1) (length ws / (d + 1)) ws, words-some))

  pub vertices-few : coarse ws ≤ length ws
  vertices-few = omega (arith, largest-low ws p.some_words p.used)

  -- no more cells than words
  cells_fit : (m : ℕ) → m * suc d ≤ length ws → m ≤ length ws / suc d
  cells_fit m h = (le-div_iff_mul-le {k = suc d} (zero-lt-suc d)).1 h

  -- ---- working lists of the lengths that are needed
  module _ (R : ℕ) (cells along pattern keys rows spare counts sorted firsts buckets : List ℕ) (w : Working d ws R cells along pattern keys rows spare counts sorted firsts buckets) where
    pub making : Making d ws cells along keys rows spare counts
    making =
        record {
          passed = p;
          cells_long = omega (arith, w.cells_long);
          along_long = omega (arith, w.along_long);
          keys_long = omega (arith, w.keys_long);
          rows_long = omega (arith, w.rows_long);
          spare_long = omega (arith, w.spare_long);
          counts_long = omega (arith, w.counts_long);
        }

    module _ (keys' rows' spare' counts' : List ℕ) (lk : length keys' ≡ length keys) (lr : length rows' ≡ length rows) (ls : length spare' ≡ length spare) (lc : length counts' ≡ length counts) (m : ℕ) (some : 0 < m) (fit : m * suc d ≤ length ws) where
      -- room for the children that the limit lets through
      spacious : Inside R → m * R ^ d ≤ most_cells → Spacious d R (coarse ws) (m * R ^ d) pattern keys' rows' spare' counts' sorted firsts buckets
      spacious i h =
          let C : ℕ = children_room d (length ws / suc d) R in
          let c : m * R ^ d ≤ C = children-fit d m (length ws / suc d) R i.least i.most (cells_fit m fit) h in
          let s : m * R ^ d * suc d ≤ C * suc d = mul-le-mul_right (suc d) c in
          let one : R ^ d ≤ C = le_trans (power-once m (R ^ d) some) c in
          let x : R ^ d * suc d ≤ C * suc d = mul-le-mul_right (suc d) one in
          record {
            pattern_long = subst (λ (k : ℕ). R ^ d * (suc d * suc d) ≤ k) (sym w.pattern_long) (subst (λ (k : ℕ). k ≤ C * suc d * suc d) (mul_assoc (R ^ d) (suc d) (suc d)) (mul-le-mul_right (suc d) x));
            keys_long = omega (arith, w.keys_long, double d (m * R ^ d * suc d) p.small);
            rows_long = omega (arith, w.rows_long);
            spare_long = omega (arith, w.spare_long);
            counts_long = omega (arith, w.counts_long);
            weights_long = omega (arith, w.counts_long, vertices-few, i.most);
            sorted_long = omega (arith, w.sorted_long);
            firsts_long = omega (arith, w.firsts_long);
            buckets_long = omega (arith, w.buckets_long, vertices-few);
            kinds_long = omega (arith, w.buckets_long);
          }

      ready : (cells' along' : List ℕ) → Along d (coarse ws) m along' cells' → Ready d R (coarse ws) m cells' along' pattern keys' rows' spare' counts' sorted firsts buckets
      ready cells' along' a =
          record {
            dim = p.small;
            few = omega (arith, cells_fit m fit, rw (add-one d) at p.few);
            low = omega (arith, p.low);
            words_of = a;
            room = spacious;
          }

-- what a reading of m cells tells
record Read (d : ℕ) (ws : List ℕ) (Ordered : Type 0) (ks : List (List ℕ)) (cells along : List ℕ) (m : ℕ) : Type 0 where
  pub free : Crowded d (cells_of d ws) → ⊥
  pub ordered : Ordered
  pub fit : m * suc d ≤ length ws
  pub words_of : Along d (coarse ws) m along cells
  pub cells_are : cut (suc d) m cells ≡ cells_of d ws
  pub words_are : cut (suc d) m along ≡ ks

-- ---- how the reading ends
module _ (d R : ℕ) (ws : List ℕ) (Ordered : Type 0) (ks : List (List ℕ)) (cells along : List ℕ) (given : Lengths) where
  unread : (why : Refusal) → Reads d ws Ordered ks cells along (Err why) → promise.Ends d R ws Ordered ks given (Err why) nothing
  unread why (crowded x) = promise.crowded x
  unread why (unordered f o) = promise.unordered f o

  read_all : (m : ℕ) → Reads d ws Ordered ks cells along (Ok m) → Read d ws Ordered ks cells along m
  read_all _ (read m f o l a c k) = record { free = f; ordered = o; fit = l; words_of = a; cells_are = c; words_are = k }

-- ---- the reading in the working lists
module _ (d R : ℕ) (ws : List ℕ) (Ordered : Type 0) (ks : List (List ℕ)) (cells along pattern keys rows spare counts sorted firsts buckets : List ℕ) (w : Working d ws R cells along pattern keys rows spare counts sorted firsts buckets) (cells' along' keys' rows' spare' counts' : List ℕ) where
  -- 7 or 16
  pub worked-unread : (why : Refusal) → Reads d ws Ordered ks cells' along' (Err why) → (out_cells out_words parents : List ℕ) (jacobians : List Float) (wholes : List ℤ) (vertices weights : List ℕ) (shares : List Float) → Worked d ws R Ordered ks (Err why) out_cells out_cells out_words out_words parents parents jacobians jacobians wholes wholes vertices vertices weights weights shares shares
  worked-unread why rd out_cells out_words parents jacobians wholes vertices weights shares =
      record {
        handed = nothing;
        ends = unread d R ws Ordered ks cells' along' (lengths_of out_cells out_words parents jacobians wholes vertices weights shares) why rd;
        stored = none-stored out_cells out_words parents jacobians wholes vertices weights shares;
      }

  module _ (m : ℕ) (rd : Reads d ws Ordered ks cells' along' (Ok m)) (n : ℕ) (v : n ≡ coarse ws) where
    a : Read d ws Ordered ks cells' along' m
    a = read_all d R ws Ordered ks cells' along' (lengths_of [] [] [] [] [] [] [] []) m rd

    some : 0 < m
    some = omega (arith, cells-some d ws w.passed, ap length a.cells_are, cut-length (suc d) m cells')

    pub readied : length keys' ≡ length keys → length rows' ≡ length rows → length spare' ≡ length spare → length counts' ≡ length counts → Ready d R n m cells' along' pattern keys' rows' spare' counts' sorted firsts buckets
    readied lk lr ls lc =
        subst (λ (x : ℕ). Ready d R x m cells' along' pattern keys' rows' spare' counts' sorted firsts buckets) (sym v)
        (ready d ws w.passed R cells along pattern keys rows spare counts sorted firsts buckets w keys' rows' spare' counts' lk lr ls lc m some a.fit cells' along' a.words_of)

    -- 11, 3, 6, 12 or the results
    pub worked-finished : (r : Result Refinement Refusal) (out_cells out_words parents : List ℕ) (jacobians : List Float) (wholes : List ℤ) (vertices weights : List ℕ) (shares : List Float) (out-cells' out-words' parents' : List ℕ) (jacobians' : List Float) (wholes' : List ℤ) (vertices' weights' : List ℕ) (shares' : List Float) → Handed d R n m cells' along' r out_cells out-cells' out_words out-words' parents parents' jacobians jacobians' wholes wholes' vertices vertices' weights weights' shares shares' → Worked d ws R Ordered ks r out_cells out-cells' out_words out-words' parents parents' jacobians jacobians' wholes wholes' vertices vertices' weights weights' shares shares'
    worked-finished r out_cells out_words parents jacobians wholes vertices weights shares out-cells' out-words' parents' jacobians' wholes' vertices' weights' shares' h =
        let g : Lengths = lengths_of out_cells out_words parents jacobians wholes vertices weights shares in
        let x : Finishes d R (coarse ws) (cut (suc d) m cells') (cut (suc d) m along') g r h.handed = subst (λ (k : ℕ). Finishes d R k (cut (suc d) m cells') (cut (suc d) m along') g r h.handed) v h.ends in
        let y : Finishes d R (coarse ws) (cells_of d ws) (cut (suc d) m along') g r h.handed = subst (λ (cs : List (List ℕ)). Finishes d R (coarse ws) cs (cut (suc d) m along') g r h.handed) a.cells_are x in
        record {
          handed = h.handed;
          ends = promise.finished a.free a.ordered (subst (λ (l : List (List ℕ)). Finishes d R (coarse ws) (cells_of d ws) l g r h.handed) a.words_are y);
          stored = h.stored;
        }
