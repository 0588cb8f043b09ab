-- Cells in colex order written one after the other are an accepted cell list with these cells, and their words one after the other an order of it. Assumes nothing.
use mathlib.Core.Path.{◌≡◌, sym, ap, ◌∙◌, subst}
use mathlib.Core.List.{List, [], Memᴰ}
use Prim.Native.Nat.{ℕ, suc, ◌-◌, ◌≤◌, ◌<◌}
use native.Mathlib.Numerals.{add-one}
use native.Mathlib.Nat.{mul-le-mul_right}
use native.Mathlib.Omega.{arith}
use lib.ListN.{length}
use lib.Seq.{ext_get_or}
use Rattle.refusal.specs.Limits.{most_cells, most_vertices}
use Rattle.lists.specs.Rows.{flat, row}
use Rattle.lists.specs.Words.{has_repeat, largest_of}
use Rattle.lists.proofs.Flat.{flat-length, flat-at, cut-flat, flat-count, flat-whole, rows-flat}
use Rattle.multiindex.specs.Sort.{sort_word}
use Rattle.complex.specs.Cells.{in_order, cells_of}
use Rattle.complex.specs.Check.{Passed}
use Rattle.complex.specs.Facets.{cell_at}
use Rattle.complex_cells.proofs.Words.{Word, Rising, each_of, at_in, one_list}
use Rattle.complex_cells.proofs.Order.{Colex, colex-irr, colex-trans, order-rising, order_from, order-has}
use Rattle.complex_cells.proofs.Words as cells
use Rattle.ordering_words.specs.Order.{IsOrder, Orders, word_of, by_cell}
use Rattle.refine_lattice.specs.Complex.{occurrences, Rises}
use Rattle.refine_lattice.specs.Refine.{In}
use Rattle.refine_lattice.specs.Conform.{Used, Distinct}
use Rattle.refine_lattice.proofs.Refines.{mem-at}
use Rattle.refine_results.specs.Refined.{coarse, order_words}
use Rattle.refine_laws.proofs.Words.{to_mem, of_mem, sort-times, sort-fixed, rises-plain, repeat-none, among-some}
use Rattle.refine_laws.proofs.Listed.{Listed, counts-at, number_of, word_in, listed-complex, listed-distinct}
use Rattle.ordering_words.proofs.Orders.{by-cell-length, by-cell-at}
use Rattle.refine_laws.proofs.Arranged.{word-found}
use Rattle.refine_laws.proofs.Checked.{cut-times, cut_has, largest-times, at_most}

-- ---- cells with a word each
module _ (d n : ℕ) (cs ks : List (List ℕ)) (l : Listed d n cs ks) where
  cells_long : (w : List ℕ) → Memᴰ w cs → length w ≡ suc d
  cells_long w m = let (c, h, e) = at_in w cs (of_mem w cs m) in ap length (sym e) ∙ l.long c h

  words_long : (w : List ℕ) → Memᴰ w ks → length w ≡ suc d
  words_long = (listed-complex d n cs ks l).long

  cell-rises : (w : List ℕ) → Memᴰ w cs → Rises w
  cell-rises w m = let (c, h, e) = at_in w cs (of_mem w cs m) in subst (λ (v : List ℕ). Rises v) e (l.rises c h)

  -- the cells of the flat list
  in_order_lem : Rising (Colex (suc d)) cs → in_order (suc d) cs ≡ cs
  in_order_lem r =
      one_list (Colex (suc d)) (colex-irr (suc d)) (colex-trans (suc d)) (in_order (suc d) cs) cs (order-rising (suc d) cs) r
      (λ v m.
      let (w, q, e) = order_from (suc d) cs v m in
      subst (λ (u : Word). cells.In u cs) (sym (sort-fixed w (cell-rises w (to_mem w cs q))) ∙ e) q)
      (λ v m.
      subst (λ (u : Word). cells.In u (in_order (suc d) cs)) (sort-fixed v (cell-rises v (to_mem v cs m)))
      (order-has (suc d) cs v (each_of (λ w. length w ≡ suc d) cs (λ w q. cells_long w (to_mem w cs q))) m))

  pub flat-cells : Rising (Colex (suc d)) cs → cells_of d (flat cs) ≡ cs
  unfolding cells_of
  flat-cells r = rw (add-one d) (ap (in_order (suc d)) (rows-flat d cs cells_long) ∙ in_order_lem r)

  -- a number of the flat list is a cell's
  flat_in : (v : ℕ) → 0 < occurrences (flat cs) v → v < n
  flat_in v h =
      let (w, m, q) = cut_has (suc d) (length cs) (flat cs) (sym (flat-length (suc d) cs cells_long)) v h in
      let (c, b, e) = at_in w cs (of_mem w cs (subst (λ (ws : List (List ℕ)). Memᴰ w ws) (cut-flat (suc d) cs cells_long) m)) in
      l.below c b v (subst (λ (u : List ℕ). 0 < occurrences u v) (sym e) q)

  flat_has : (c : ℕ) → c < length cs → (v : ℕ) → occurrences (cell_at cs c) v ≤ occurrences (flat cs) v
  flat_has c h v =
      cut-times (suc d) (length cs) (flat cs) (cell_at cs c)
      (subst (λ (ws : List (List ℕ)). Memᴰ (cell_at cs c) ws) (sym (cut-flat (suc d) cs cells_long)) (mem-at cs c h)) v

  flat-some : 0 < length cs → length (flat cs) ≡ 0 → ⊥
  flat-some h e = omega (arith, flat-length (suc d) cs cells_long, mul-le-mul_right {m = 1} {n = length cs} (suc d) h)

  flat_word : (k : ℕ) → k < length cs → row (flat cs) (suc d) k ≡ cell_at cs k
  flat_word k h = flat-at (suc d) cs cells_long k h

  module _ (some : 0 < length cs) (used : Used n (In ks)) where
    largest-in : largest_of (flat cs) < n
    largest-in = flat_in (largest_of (flat cs)) (largest-times (flat cs) (flat-some some))

    flat-used : (v : ℕ) → v < n → 0 < occurrences (flat cs) v
    unfolding Used
    flat-used v h =
        let (k, m, q) = used v h in
        let (c, b, e) = number_of d n cs ks l k m in
        omega (arith, flat_has c b v, counts-at d n cs ks l c b v, ap (λ (u : List ℕ). occurrences u v) e)

    pub flat-coarse : coarse (flat cs) ≡ n
    flat-coarse = omega (arith, largest-in, at_most (flat cs) (n - 1) (flat-used (n - 1) (omega (arith, largest-in))))

    pub flat-passed : d ≤ 3 → length cs ≤ most_cells → n ≤ most_vertices → Passed d (flat cs)
    flat-passed small few low = record {
      small = small;
      some_words = flat-some some;
      whole = rw (add-one d) (flat-whole d cs cells_long);
      few = rw (add-one d, flat-count d cs cells_long) few;
      apart = λ k h.
          let b : k < length cs = omega (arith, flat-count d cs cells_long, rw (add-one d) at h) in
          rw (add-one d)
          (ap has_repeat (flat_word k b) ∙ repeat-none (cell_at cs k) (rises-plain (cell_at cs k) (l.rises k b)));
      low = omega (arith, largest-in);
      used = λ v h. among-some v (flat cs) (flat-used v (omega (arith, largest-in)));
    }

  -- the words are an order
  found : (c : ℕ) → c < length cs → Memᴰ (word_of ks (cell_at cs c)) ks × (sort_word (word_of ks (cell_at cs c)) ≡ cell_at cs c)
  found c h = word-found ks (cell_at cs c) (cell_at ks c) (word_in d n cs ks l c h) (l.sorts c h)

  pub flat-orders : Orders d cs (flat ks)
  flat-orders = record {
    whole = flat-whole d ks words_long;
    words =
        subst (IsOrder cs) (sym (rows-flat d ks words_long)) (record { many = l.many; each = λ c h. (found c h).1 });
  }

  by-cell : by_cell ks cs ≡ ks
  unfolding Distinct
  by-cell =
      ext_get_or [] (by_cell ks cs) ks (by-cell-length ks cs ∙ sym l.many)
      (λ c h.
      let b : c < length cs = omega (arith, by-cell-length ks cs) in
      by-cell-at ks cs c b
      ∙ listed-distinct d n cs ks l (word_of ks (cell_at cs c)) (cell_at ks c) (found c b).0 (word_in d n cs ks l c b)
      (λ v.
      sym (sort-times (word_of ks (cell_at cs c)) v)
      ∙ ap (λ (u : List ℕ). occurrences u v) ((found c b).1 ∙ sym (l.sorts c b))
      ∙ sort-times (cell_at ks c) v))

  pub flat-words : Rising (Colex (suc d)) cs → order_words d (flat cs) (flat ks) ≡ ks
  flat-words r = cc (rows-flat d ks words_long, flat-cells r, by-cell)
