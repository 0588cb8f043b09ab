-- Reading the coarse cells and the words refined by, step by step: what each call asks follows from what the calls before it gave. Assumes nothing.
use Rattle.refusal.specs.declared.Refusal.{Refusal}
use Rattle.refusal.specs.declared.Refusal.TheVariants.{BadOrder, CrowdedFacet}
use Rattle.std.specs.Prelude.{Err, Ok}
use mathlib.Core.Bool.{Bool, true, false}
use mathlib.Core.List.{List, ◌++◌}
use mathlib.Core.Path.{◌≡◌, refl, sym, ap, ◌∙◌, subst}
use Prim.Native.Nat.{ℕ, suc, ◌+◌, ◌*◌, ◌<◌, ◌≤◌}
use native.Mathlib.Nat.{mul-suc, mul-le-mul_left, mul-le-mul_right}
use native.Mathlib.Numerals.{add-one}
use native.Mathlib.Omega.{arith}
use lib.ListN.{length, take, drop, length-append}
use lib.Seq.{length-take-le, take_at}
use Rattle.refusal.specs.Limits.{many_corners}
use Rattle.lists.specs.Rows.{cut, rows, flat}
use Rattle.lists.proofs.Rows.{cut-length}
use Rattle.complex.specs.Cells.{cells_of}
use Rattle.complex.specs.Facets.{Cells, Crowded, slots}
use Rattle.complex_cells.specs.WorkMade.{Made}
use Rattle.complex_mates.specs.Table.{MateTable, Meeting}
use Rattle.complex_mates.proofs.Meeting.{slots-most}
use Rattle.complex_mates.proofs.Mated.{not-crowded}
use Rattle.ordering_words.specs.Order.{by_cell, Orders}
use Rattle.ordering_words.specs.WorkArrange.{Arranging, Arranged}
use Rattle.ordering_words.proofs.Lists.{cut-front, front_at}
use Rattle.refine_results.specs.Refined.{order_words}
use Rattle.refine.specs.WorkReading.{words_along, OrderedBy, Making, Reads}
use Rattle.refine.specs.WorkReading.Reads.{crowded as reads-crowded, unordered as reads-unordered, read as reads-read}
use Rattle.refine.specs.WorkCoarse.{Listing, Listed, Naming, Named}
use Rattle.refine.specs.WorkCoarse.Listed.{crowded as listed-crowded, listed as listed-cells}
use Rattle.refine.proofs.Along.{along-cells, same-words, along-order, ordered_words}

no_true : ◌≡◌ {A = Bool} false true → ⊥
no_true e = let z : ◌≡◌ {A = ℕ} 0 1 = cc in absurd (omega arith)

-- cells that stand in the front of another list
made_again : (d : ℕ) (ws : List ℕ) (m : ℕ) (l k : List ℕ) → Made d ws m l → take (m * suc d) k ≡ take (m * suc d) l → Made d ws m k
made_again d ws m l k a e =
    let c : cut (suc d) m k ≡ cut (suc d) m l = cut-front (suc d) m k l e in
    record {
      same = c ∙ a.same;
      cells = subst (λ (cs : List (List ℕ)). Cells d cs) (sym c) a.cells;
      most = a.most;
      below = λ i h. rw (front_at (m * suc d) k l i h e) (a.below i h);
      corners = a.corners;
    }

-- a front that is copied
copied : (d m len : ℕ) → len ≡ m * suc d → (from to part : List ℕ) → len ≤ length from → part ≡ take len from → take (m * suc d) (part ++ drop len to) ≡ take (m * suc d) from
copied d m len q from to part h e =
    subst (λ (n : ℕ). take n (part ++ drop len to) ≡ take n from) q (take_at part (drop len to) len (ap length e ∙ length-take-le len from h) ∙ e)

copied-long : (d m len : ℕ) → len ≡ m * suc d → (from to part : List ℕ) → len ≤ length from → part ≡ take len from → m * suc d ≤ length (part ++ drop len to)
copied-long d m len q from to part h e = omega (arith, length-append part (drop len to), ap length e, length-take-le len from h)

size : (d m : ℕ) → m * (d + 1) ≡ m * suc d
size d m = ap (λ (n : ℕ). m * n) (add-one d)

-- ---- the cells
module _ (d : ℕ) (ws cells keys rows₀ spare counts : List ℕ) (w : Listing d ws cells keys rows₀ spare counts) where
  module _ (m : ℕ) (keys' rows' spare' counts' : List ℕ) (lk : length keys' ≡ length keys) (lr : length rows' ≡ length rows₀) (ls : length spare' ≡ length spare) (lc : length counts' ≡ length counts) (a : Made d ws m rows') where
    pub cells-few : m < 4294967296
    cells-few = omega (arith, a.most, a.corners, mul-suc m d)

    pub size_fits : m * (d + 1) ≤ length ws
    size_fits = omega (arith, size d m, a.most)

    pub size-in-rows : m * (d + 1) ≤ length rows'
    size-in-rows = omega (arith, size_fits, w.rows_long)

    pub size-in-cells : m * (d + 1) ≤ length cells
    size-in-cells = omega (arith, size_fits, w.cells_long)

    facets-fit : m * slots d * d ≤ length keys
    facets-fit =
        let x : m * slots d ≤ length ws = omega (arith, mul-le-mul_left m (slots-most d), a.most) in
        let y : m * slots d * d ≤ length ws * d = mul-le-mul_right d x in
        let z : length ws * d ≤ length ws * 3 = mul-le-mul_left (length ws) w.passed.small in
        omega (arith, w.keys_long)

    pub meeting : Meeting d m (length ws) keys' rows' spare' counts'
    meeting =
        record {
          cells = a.cells;
          rows_long = omega (arith, a.most, w.rows_long);
          keys_long = omega (arith, facets-fit);
          spare_long = omega (arith, a.most, w.spare_long);
          counts_long = omega (arith, a.most, w.counts_long);
          buckets = omega (arith, w.counts_long);
          few = omega (arith, a.most, a.corners);
          small = omega (arith, w.passed.small);
          below = a.below;
        }

    -- 7
    pub list-crowded : (cells' : List ℕ) → Crowded d (cut (suc d) m rows') → Listed d ws cells' (Err CrowdedFacet)
    list-crowded cells' x = listed-crowded (subst (λ (cs : List (List ℕ)). Crowded d cs) a.same x)

    pub list-cells : (mates part : List ℕ) → MateTable d (cut (suc d) m rows') mates → part ≡ take (m * (d + 1)) rows' → Listed d ws (part ++ drop (m * (d + 1)) cells) (Ok m)
    list-cells mates part t e =
        listed-cells m
        (λ x. not-crowded d m (cut (suc d) m rows') (cut-length (suc d) m rows') mates t (omega (arith, a.most, a.corners)) (subst (λ (cs : List (List ℕ)). Crowded d cs) (sym a.same) x))
        (made_again d ws m rows' (part ++ drop (m * (d + 1)) cells) a (copied d m (m * (d + 1)) (size d m) rows' cells part size-in-rows e))

-- ---- their words
module _ (d m : ℕ) (ws cells along keys spare counts : List ℕ) (w : Naming d m ws cells along keys spare counts) where
  pub words-fit : m * (d + 1) ≤ length ws
  words-fit = omega (arith, size d m, w.made.most)

  pub words-few : m * (d + 1) < many_corners
  words-few = omega (arith, words-fit, w.made.corners)

  pub fits-cells : m * (d + 1) ≤ length cells
  fits-cells = omega (arith, words-fit, w.cells_long)

  pub fits_along : m * (d + 1) ≤ length along
  fits_along = omega (arith, words-fit, w.along_long)

  pub arranging : Arranging d m (length ws) keys cells spare counts
  arranging =
      record {
        ws = ws;
        made = w.made;
        bound = refl;
        keys_long = omega (arith, w.keys_long);
        cells_long = w.cells_long;
        spare_long = w.spare_long;
        counts_long = w.counts_long;
        dim = omega (arith, w.passed.small);
      }

  -- the cells are their own words
  pub named-plain : (order part : List ℕ) → part ≡ take (m * (d + 1)) cells → Named d m ws (OrderedBy false d ws order) (words_along false d ws order) true cells (part ++ drop (m * (d + 1)) along)
  named-plain order part e =
      let front : take (m * suc d) (part ++ drop (m * (d + 1)) along) ≡ take (m * suc d) cells = copied d m (m * (d + 1)) (size d m) cells along part fits-cells e in
      let long : m * suc d ≤ length (part ++ drop (m * (d + 1)) along) = copied-long d m (m * (d + 1)) (size d m) cells along part fits-cells e in
      let in_cells : m * suc d ≤ length cells = omega (arith, size d m, fits-cells) in
      record {
        unordered = λ z. absurd (no_true (sym z));
        ordered = λ z. tt;
        words_of = λ z. along-cells d ws m cells w.passed w.made (part ++ drop (m * (d + 1)) along) long in_cells front;
        cells_are = λ z. w.made.same;
        words_are = λ z. same-words d ws m cells w.passed w.made (part ++ drop (m * (d + 1)) along) long in_cells front ∙ w.made.same;
      }

  module _ (order : List ℕ) (ok : Bool) (keys' cells' : List ℕ) (lk : length keys' ≡ length keys) (lc : length cells' ≡ length cells) (b : Arranged d m order cells ok keys' cells') where
    made' : Made d ws m cells'
    made' = made_again d ws m cells cells' w.made b.kept

    pub fits-keys : m * (d + 1) ≤ length keys'
    fits-keys = omega (arith, words-fit, w.keys_long)

    -- 16
    pub named_none : (along' : List ℕ) → ok ≡ false → Named d m ws (Orders d (cells_of d ws) order) (order_words d ws order) false cells' along'
    named_none along' e =
        record {
          unordered = λ z o. b.none e (subst (λ (cs : List (List ℕ)). Orders d cs order) (sym w.made.same) o);
          ordered = λ z. absurd (no_true z);
          words_of = λ z. absurd (no_true z);
          cells_are = λ z. absurd (no_true z);
          words_are = λ z. absurd (no_true z);
        }

    -- the order's words
    pub named-order : (part : List ℕ) → ok ≡ true → part ≡ take (m * (d + 1)) keys' → Named d m ws (Orders d (cells_of d ws) order) (order_words d ws order) true cells' (part ++ drop (m * (d + 1)) along)
    named-order part y e =
        let o : Orders d (cells_of d ws) order = subst (λ (cs : List (List ℕ)). Orders d cs order) w.made.same (b.ordered y) in
        let front : take (m * suc d) (part ++ drop (m * (d + 1)) along) ≡ flat (by_cell (rows (suc d) order) (cells_of d ws)) =
        copied d m (m * (d + 1)) (size d m) keys' along part fits-keys e ∙ b.words y ∙ ap (λ (cs : List (List ℕ)). flat (by_cell (rows (suc d) order) cs)) w.made.same in
        let long : m * suc d ≤ length (part ++ drop (m * (d + 1)) along) = copied-long d m (m * (d + 1)) (size d m) keys' along part fits-keys e in
        let in_cells : m * suc d ≤ length cells' = omega (arith, size d m, fits-cells) in
        record {
          unordered = λ z. absurd (no_true (sym z));
          ordered = λ z. o;
          words_of = λ z. along-order d ws m cells' w.passed made' (rows (suc d) order) o.words (part ++ drop (m * (d + 1)) along) long in_cells front;
          cells_are = λ z. made'.same;
          words_are = λ z. ordered_words d ws m cells' w.passed made' (rows (suc d) order) o.words (part ++ drop (m * (d + 1)) along) long in_cells front;
        }

-- where an order is given, and where none is
pub by_order : (given : Bool) → given ≡ true → (d m : ℕ) (ws order : List ℕ) (ok : Bool) (cells along : List ℕ) → Named d m ws (Orders d (cells_of d ws) order) (order_words d ws order) ok cells along
    → Named d m ws (OrderedBy given d ws order) (words_along given d ws order) ok cells along
by_order true e d m ws order ok cells along n = n
by_order false e d m ws order ok cells along n = absurd (no_true e)

pub by-cells : (given : Bool) → given ≡ false → (d m : ℕ) (ws order : List ℕ) (ok : Bool) (cells along : List ℕ) → Named d m ws (OrderedBy false d ws order) (words_along false d ws order) ok cells along
    → Named d m ws (OrderedBy given d ws order) (words_along given d ws order) ok cells along
by-cells true e d m ws order ok cells along n = absurd (no_true (sym e))
by-cells false e d m ws order ok cells along n = n

-- ---- both
pub listing : (d : ℕ) (ws cells along keys rows₀ spare counts : List ℕ) → Making d ws cells along keys rows₀ spare counts → Listing d ws cells keys rows₀ spare counts
listing d ws cells along keys rows₀ spare counts w =
    record { passed = w.passed; cells_long = w.cells_long; keys_long = w.keys_long; rows_long = w.rows_long; spare_long = w.spare_long; counts_long = w.counts_long }

-- 7
pub read-refused : (d : ℕ) (ws cells : List ℕ) (why : Refusal) → Listed d ws cells (Err why) → (Ordered : Type 0) (ks : List (List ℕ)) (cells' along' : List ℕ) → Reads d ws Ordered ks cells' along' (Err why)
read-refused d ws cells why (listed-crowded x) Ordered ks cells' along' = reads-crowded x

listed_free : (d : ℕ) (ws cells : List ℕ) (m : ℕ) → Listed d ws cells (Ok m) → (Crowded d (cells_of d ws) → ⊥) × Made d ws m cells
listed_free d ws cells m (listed-cells n x a) = (x, a)

-- m cells are counted, and the code works with the same number
module _ (d : ℕ) (ws cells along keys rows₀ spare counts : List ℕ) (w : Making d ws cells along keys rows₀ spare counts) (cells' keys' spare' counts' : List ℕ) (lc : length cells' ≡ length cells) (lk : length keys' ≡ length keys) (ls : length spare' ≡ length spare) (lu : length counts' ≡ length counts) (m : ℕ) (l : Listed d ws cells' (Ok m)) (count : ℕ) (ec : count ≡ m) where
  pub naming : Naming d count ws cells' along keys' spare' counts'
  naming =
      record {
        passed = w.passed;
        made = subst (λ (k : ℕ). Made d ws k cells') (sym ec) (listed_free d ws cells' m l).1;
        cells_long = omega (arith, w.cells_long);
        along_long = w.along_long;
        keys_long = omega (arith, w.keys_long);
        spare_long = omega (arith, w.spare_long);
        counts_long = omega (arith, w.counts_long);
      }

  -- 16
  pub read-unordered : (Ordered : Type 0) (ks : List (List ℕ)) (ok : Bool) (cells'' along'' : List ℕ) → Named d count ws Ordered ks ok cells'' along'' → ok ≡ false → Reads d ws Ordered ks cells'' along'' (Err BadOrder)
  read-unordered Ordered ks ok cells'' along'' n f = reads-unordered (listed_free d ws cells' m l).0 (n.unordered f)

  pub read-words : (Ordered : Type 0) (ks : List (List ℕ)) (ok : Bool) (cells'' along'' : List ℕ) → Named d count ws Ordered ks ok cells'' along'' → ok ≡ true → Reads d ws Ordered ks cells'' along'' (Ok m)
  read-words Ordered ks ok cells'' along'' n t =
      subst (λ (k : ℕ). Reads d ws Ordered ks cells'' along'' (Ok k)) ec
      (reads-read count (listed_free d ws cells' m l).0 (n.ordered t) naming.made.most (n.words_of t) (n.cells_are t) (n.words_are t))
