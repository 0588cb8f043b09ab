-- Arranging an order's words by cell, by its ways out. Assumes nothing.
use mathlib.Core.Bool.{Bool, true, false}
use mathlib.Core.List.{List, [], ◌++◌}
use mathlib.Core.Path.{◌≡◌, refl, sym, ap, ◌∙◌, subst}
use Prim.Native.Nat.{ℕ, suc, ◌+◌, ◌-◌, ◌*◌, ◌/◌, ◌%◌, ◌<◌, ◌≤◌}
use native.Mathlib.Nat.{add-sub_cancel_left, div-add-mod', mul-div_cancel, mul-mod_left, mod-lt, div-lt_iff_lt-mul, mul-suc}
use native.Mathlib.Numerals.{add-one}
use native.Mathlib.Omega.{arith}
use lib.ListN.{length, get_or, take, drop}
use lib.Seq.{length-take-le, take_at, drop_at, get_or-take}
use Rattle.refusal.specs.Limits.{many_corners}
use Rattle.lists.specs.Rows.{cut, rows, flat, row}
use Rattle.lists.proofs.Rows.{cut-length, cut_at}
use Rattle.lists.proofs.Members.{All, All-at, All-of}
use Rattle.multiindex.specs.Sort.{sort_word}
use Rattle.sorting.specs.Gather.{rows_of}
use Rattle.sorting.proofs.Colex.{row-cell, row-length}
use Rattle.sorting.proofs.Rows.{rows_of-pos, pos-room}
use Rattle.complex.specs.Cells.{in_order, cells_of}
use Rattle.complex_cells.specs.WorkMade.{Made}
use Rattle.complex_cells.proofs.Words.{Word, Each, Rising, In, each_of, in-at, at_in}
use Rattle.complex_cells.proofs.Order.{Colex, order-rising, order-has}
use Rattle.ordering_words.specs.Order.{word_of, by_cell, IsOrder, Orders}
use Rattle.ordering_words.specs.WorkArrange.{Matching, Matched, Arranging, Arranged}
use Rattle.ordering_words.proofs.Orders.{order_same, same-order, by-cell-rows}
use Rattle.ordering_words.proofs.Lists.{sort-back}

-- the words of a whole list have n numbers
words_long : (n m : ℕ) (order : List ℕ) → m * n ≡ length order → Each (λ v. length v ≡ n) (cut n m order)
words_long n m order e =
    each_of (λ v. length v ≡ n) (cut n m order)
    (λ v k.
    let w = at_in v (cut n m order) k in
    let h : w.0 < m = omega (arith, w.1, cut-length n m order) in
    ap length (sym w.2 ∙ cut_at n m order w.0 h) ∙ row-length order n w.0 (omega (arith, pos-room w.0 m n h)))

cells-rise : (d : ℕ) (ws : List ℕ) (m : ℕ) (cells : List ℕ) → Made d ws m cells → Rising (Colex (suc d)) (cut (suc d) m cells)
unfolding cells_of
cells-rise d ws m cells a =
    subst (λ (l : List Word). Rising (Colex (suc d)) l) (sym a.same)
    (subst (λ (n : ℕ). Rising (Colex n) (in_order (d + 1) (rows (d + 1) ws))) (add-one d) (order-rising (d + 1) (rows (d + 1) ws)))

module _ (d m b : ℕ) (keys cells spare counts : List ℕ) (w : Arranging d m b keys cells spare counts) (order : List ℕ) where
  -- as many numbers as the cells have
  whole-size : Orders d (cut (suc d) m cells) order → m * suc d ≡ length order
  whole-size o =
      let e : length order / suc d ≡ m = sym (cut-length (suc d) (length order / suc d) order) ∙ o.words.many ∙ cut-length (suc d) m cells in
      ap (λ (x : ℕ). x * suc d) (sym e) ∙ omega (arith, div-add-mod' (length order) (suc d), o.whole)

  word_count : m * suc d ≡ length order → length order / suc d ≡ m
  word_count e = ap (λ (x : ℕ). x / suc d) (sym e) ∙ mul-div_cancel m (omega arith)

  cell_long : (c : ℕ) → c < length (cut (suc d) m cells) → length (get_or (cut (suc d) m cells) c []) ≡ suc d
  cell_long c h = w.made.cells.long c h

  in_order_lem : Orders d (cut (suc d) m cells) order → in_order (suc d) (cut (suc d) m order) ≡ cut (suc d) m cells
  in_order_lem o =
      let e = whole-size o in
      let s = word_count e in
      order_same (suc d) (cut (suc d) m cells) (cut (suc d) m order) (omega arith) (words_long (suc d) m order e) (cells-rise d w.ws m cells w.made) cell_long
      (subst (λ (k : ℕ). IsOrder (cut (suc d) m cells) (cut (suc d) k order)) s o.words)

  is-order : m * suc d ≡ length order → in_order (suc d) (cut (suc d) m order) ≡ cut (suc d) m cells → Orders d (cut (suc d) m cells) order
  is-order e s =
      record {
        whole = ap (λ (x : ℕ). x % suc d) (sym e) ∙ mul-mod_left m (suc d);
        words =
            subst (λ (k : ℕ). IsOrder (cut (suc d) m cells) (cut (suc d) k order)) (sym (word_count e))
            (same-order (suc d) (cut (suc d) m cells) (cut (suc d) m order) (omega arith) (words_long (suc d) m order e) (cut-length (suc d) m order ∙ sym (cut-length (suc d) m cells)) s);
      }

  -- 16: another length
  pub out-length : (length order ≡ m * (d + 1) → ⊥) → (keys' : List ℕ) → Arranged d m order cells false keys' cells
  out-length f keys' =
      record {
        kept = refl;
        ordered = λ z. let y : ◌≡◌ {A = ℕ} 0 1 = cc in absurd (omega arith);
        words = λ z. let y : ◌≡◌ {A = ℕ} 0 1 = cc in absurd (omega arith);
        behind = λ z. let y : ◌≡◌ {A = ℕ} 0 1 = cc in absurd (omega arith);
        none = λ z o. f (sym (whole-size o) ∙ ap (λ (x : ℕ). m * x) (sym (add-one d)));
      }

  cell-low : (c : ℕ) → c < m → All (λ x. x < b) (get_or (cut (suc d) m cells) c [])
  cell-low c h =
      let e : get_or (cut (suc d) m cells) c [] ≡ row cells (suc d) c = cut_at (suc d) m cells c h in
      All-of (λ x. x < b) (get_or (cut (suc d) m cells) c [])
      (λ i l.
      let li : i < suc d = omega (arith, cell_long c (omega (arith, cut-length (suc d) m cells))) in
      rw (e, row-cell cells (suc d) c i li) (omega (arith, w.bound, w.made.below (c * suc d + i) (omega (arith, pos-room c m (suc d) h)))))

  -- a foreign number
  no-foreign : Orders d (cut (suc d) m cells) order → (i : ℕ) → i < length order → get_or order i 0 < b
  no-foreign o i h =
      let e = whole-size o in
      let r = i / suc d in
      let some : 0 < suc d = omega arith in
      let l : i < m * suc d = omega arith in
      let hr : r < m = (div-lt_iff_lt-mul some).1 l in
      let hc : i % suc d < suc d = mod-lt i some in
      let word = get_or (cut (suc d) m order) r [] in
      let f : word ≡ row order (suc d) r = cut_at (suc d) m order r hr in
      let k : In (sort_word word) (in_order (suc d) (cut (suc d) m order)) = order-has (suc d) (cut (suc d) m order) word (words_long (suc d) m order e) (in-at (cut (suc d) m order) r (omega (arith, cut-length (suc d) m order))) in
      let u = at_in (sort_word word) (cut (suc d) m cells) (subst (λ (l : List Word). In (sort_word word) l) (in_order_lem o) k) in
      let low : All (λ x. x < b) word = sort-back (λ x. x < b) word (subst (λ (v : Word). All (λ x. x < b) v) u.2 (cell-low u.0 (omega (arith, u.1, cut-length (suc d) m cells)))) in
      let at : get_or word (i % suc d) 0 ≡ get_or order i 0 = ap (λ (v : Word). get_or v (i % suc d) 0) f ∙ row-cell order (suc d) r (i % suc d) hc ∙ ap (λ (j : ℕ). get_or order j 0) (div-add-mod' i (suc d)) in
      let lw : length word ≡ suc d = ap length f ∙ row-length order (suc d) r (omega (arith, pos-room r m (suc d) hr)) in
      rw at at (All-at (λ x. x < b) word (i % suc d) low (omega arith))

  pub out-high : (i : ℕ) × (i < length order) × (b ≤ get_or order i 0) → (keys' : List ℕ) → Arranged d m order cells false keys' cells
  out-high h keys' =
      record {
        kept = refl;
        ordered = λ z. let y : ◌≡◌ {A = ℕ} 0 1 = cc in absurd (omega arith);
        words = λ z. let y : ◌≡◌ {A = ℕ} 0 1 = cc in absurd (omega arith);
        behind = λ z. let y : ◌≡◌ {A = ℕ} 0 1 = cc in absurd (omega arith);
        none = λ z o. omega (arith, no-foreign o h.0 h.1, h.2);
      }

  size-most : m * (d + 1) ≤ length w.ws
  size-most = omega (arith, ap (λ (x : ℕ). m * x) (add-one d), w.made.most)

  pub size_fits : m * (d + 1) < many_corners
  size_fits = omega (arith, size-most, w.made.corners)

  pub room-keys : m * (d + 1) + m * (d + 1) ≤ length keys
  room-keys = omega (arith, size-most, w.keys_long)

  pub room-cells : m * (d + 1) ≤ length cells
  room-cells = omega (arith, size-most, w.cells_long)

  many-fits : m ≤ m * (d + 1)
  many-fits = omega (arith, ap (λ (x : ℕ). m * x) (add-one d), mul-suc m d)

  pub room-spare : m ≤ length spare
  room-spare = omega (arith, many-fits, size-most, w.spare_long)

  module _ (e : length order ≡ m * (d + 1)) where
    pub matching : ((i : ℕ) → i < length order → get_or order i 0 < b) → Matching (d + 1) m b order keys cells spare counts
    matching low =
        record {
          some = omega arith;
          size = sym e;
          low = low;
          keys_long = omega (arith, room-keys);
          cells_long = omega (arith, room-cells);
          spare_long = room-spare;
          counts_long = omega (arith, many-fits, size-most, w.counts_long);
          buckets = omega (arith, w.bound, w.counts_long);
          few = omega (arith, many-fits, size_fits);
          short = omega (arith, size_fits);
        }

    module _ (r : Bool) (keys' reps : List ℕ) (a : Matched (d + 1) m order cells r keys' reps) (p cells' : List ℕ) (f : p ≡ take (m * (d + 1) + m * (d + 1) - m * (d + 1)) (drop (m * (d + 1)) keys')) where
      put : List ℕ
      put = p ++ drop (m * (d + 1)) cells'

      part-is : p ≡ take (m * (d + 1)) cells
      part-is = f ∙ rw (add-sub_cancel_left (m * (d + 1)) (m * (d + 1))) (rw e at a.behind)

      -- the cells are put back
      put_back : take (m * suc d) (p ++ drop (m * (d + 1)) cells') ≡ take (m * suc d) cells
      put_back =
          subst (λ (n : ℕ). take (m * n) (p ++ drop (m * (d + 1)) cells') ≡ take (m * n) cells) (add-one d)
          (take_at p (drop (m * (d + 1)) cells') (m * (d + 1)) (ap length part-is ∙ length-take-le (m * (d + 1)) cells room-cells) ∙ part-is)

      a' : Matched (suc d) m order cells r keys' reps
      a' = subst (λ (n : ℕ). Matched n m order cells r keys' reps) (add-one d) a

      size : m * suc d ≡ length order
      size = ap (λ (x : ℕ). m * x) (sym (add-one d)) ∙ sym e

      pub out-other : r ≡ false → (keys'' : List ℕ) → Arranged d m order cells false keys'' (p ++ drop (m * (d + 1)) cells')
      out-other t keys'' =
          record {
            kept = put_back;
            ordered = λ z. let y : ◌≡◌ {A = ℕ} 0 1 = cc in absurd (omega arith);
            words = λ z. let y : ◌≡◌ {A = ℕ} 0 1 = cc in absurd (omega arith);
            behind = λ z. let y : ◌≡◌ {A = ℕ} 0 1 = cc in absurd (omega arith);
            none = λ z o. a'.no t (in_order_lem o);
          }

      module _ (t : r ≡ true) where
        pub reps-rows : (i : ℕ) → i < m → get_or reps i 0 * (d + 1) + (d + 1) ≤ length order
        reps-rows i h = omega (arith, pos-room (get_or reps i 0) m (d + 1) ((a.yes t).below i h))

        module _ (long : m ≤ length reps) (keys'' : List ℕ) (g : keys'' ≡ rows_of order (d + 1) (take m reps) ++ drop (m * (d + 1)) keys') where
          listed : rows_of order (suc d) (take m reps) ≡ flat (by_cell (rows (suc d) order) (cut (suc d) m cells))
          listed =
              sym (by-cell-rows (rows (suc d) order) (cut (suc d) m cells) order (suc d) (take m reps) (length-take-le m reps long ∙ sym (cut-length (suc d) m cells))
              (λ c h.
              let l : c < m = omega (arith, cut-length (suc d) m cells) in
              ap (λ (k : ℕ). word_of (cut (suc d) k order) (get_or (cut (suc d) m cells) c [])) (word_count size) ∙ (a'.yes t).words c l ∙ ap (row order (suc d)) (sym (get_or-take m reps c 0 l))))

          listed-long : length (rows_of order (d + 1) (take m reps)) ≡ m * (d + 1)
          listed-long = rows_of-pos order (d + 1) reps m m reps-rows (omega arith) long

          pub out-arranged : Arranged d m order cells true keys'' (p ++ drop (m * (d + 1)) cells')
          out-arranged =
              record {
                kept = put_back;
                ordered = λ z. is-order size (a'.yes t).same;
                words =
                    λ z.
                    ap (λ (x : ℕ). take (m * x) keys'') (sym (add-one d)) ∙ ap (take (m * (d + 1))) g ∙ take_at (rows_of order (d + 1) (take m reps)) (drop (m * (d + 1)) keys') (m * (d + 1)) listed-long
                    ∙ ap (λ (x : ℕ). rows_of order x (take m reps)) (add-one d) ∙ listed;
                behind =
                    λ z.
                    subst (λ (x : ℕ). take (m * x) (drop (m * x) keys'') ≡ take (m * x) cells) (add-one d)
                    (ap (λ (l : List ℕ). take (m * (d + 1)) (drop (m * (d + 1)) l)) g ∙ ap (take (m * (d + 1))) (drop_at (rows_of order (d + 1) (take m reps)) (drop (m * (d + 1)) keys') (m * (d + 1)) listed-long) ∙ (rw e at a.behind));
                none = λ z. let y : ◌≡◌ {A = ℕ} 0 1 = cc in absurd (omega arith);
              }
