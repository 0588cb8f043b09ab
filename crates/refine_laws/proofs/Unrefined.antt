-- Where each child has one corner at each vertex of its parent's word, in the word's sequence, refinement hands out what it was given: R = 1, and dimension 0.
-- Assumes nothing.
use mathlib.Core.Path.{◌≡◌, refl, sym, ap, ◌∙◌, subst}
use mathlib.Core.Logic.{⊎_elim}
use mathlib.Core.List.{List, [], ◌∷◌, map, Memᴰ}
use Prim.Native.Nat.{ℕ, zero, suc, ◌+◌, ◌*◌, ◌^◌, ◌≤◌, ◌<◌}
use native.Mathlib.Nat.{pow-zero, pow-suc, zero-mul}
use native.Mathlib.Decide.{ℕ_discrete, dec_lt}
use native.Mathlib.Omega.{arith}
use lib.ListN.{length, get_or}
use lib.Seq.{ext_get_or}
use Rattle.lists.specs.Rows.{rows}
use Rattle.lists.proofs.Laws.{map_at}
use Rattle.multiindex.specs.Sort.{sort_word}
use Rattle.complex.specs.Cells.{in_order, cells_of}
use Rattle.complex.specs.Check.{Passed}
use Rattle.complex.specs.Facets.{cell_at}
use Rattle.complex.proofs.Fine.{fine-passed}
use Rattle.complex_cells.proofs.Words.{Word, Each, Rising, each_of, in-at, at_in, one_list}
use Rattle.complex_cells.proofs.Words as cells
use Rattle.complex_cells.proofs.Order.{Colex, colex-irr, colex-trans, order-rising, order_from, order-has}
use Rattle.ordering_words.specs.Order.{Orders, word_of, by_cell}
use Rattle.ordering_words.proofs.Orders.{by-cell-length, by-cell-at}
use Rattle.lists.specs.Tables.{tab}
use Rattle.refine_lattice.specs.Lattice.{weights, Child}
use Rattle.lists.specs.Words.{same}
use Rattle.refine_lattice.specs.Complex.{occurrences, weigh, Names, Refined}
use Rattle.refine_lattice.specs.Children.{children}
use Rattle.refine_lattice.specs.Pattern.{pattern_of}
use Rattle.refine_lattice.specs.Refine.{words, vertices, share, In}
use Rattle.refine_lattice.specs.Conform.{Used, Distinct, Sound}
use Rattle.lists.proofs.Tables.{get_or-tab}
use Rattle.lists.proofs.Words.{same-yes, same-no}
use Rattle.refine_lattice.proofs.Weights.{length-weights}
use Rattle.refine_lattice.proofs.After.{weigh-absent}
use Rattle.refine_lattice.proofs.Enumerate.{times-at, place-of, mem-of-child, child-of-mem}
use Rattle.refine_lattice.proofs.Count.{Nodup, count}
use Rattle.refine_lattice.proofs.Pattern.{child-corners, corner-long, row_at, unrefined}
use Rattle.refine_lattice.proofs.Seats.{weigh-at}
use Rattle.refine_lattice.proofs.Conform.{apart-at}
use Rattle.refine_lattice.proofs.Refines.{refined}
use Rattle.refine_results.specs.Refined.{coarse, order_words, refined_cells}
use Rattle.refine_laws.specs.Composition.{Accepted}
use Rattle.refine_laws.specs.Unrefined.{Same}
use Rattle.refine_laws.proofs.Words.{to_mem, of_mem, sort-times}
use Rattle.refine_laws.proofs.Listed.{Listed, number_of, word_in, listed-distinct}
use Rattle.refine_laws.proofs.Facets.{listed-nodup}
use Rattle.refine_laws.proofs.Arranged.{word-found}
use Rattle.refine_laws.proofs.Checked.{cells_are, cells-listed, order-listed, sound-of}
use Rattle.refine_laws.proofs.Renaming.{told}
use Rattle.refine_laws.proofs.Again.{visited}
use Rattle.refine_laws.proofs.Parents.{mem-of, pow-some}
use Rattle.refine_laws.proofs.Refinement.{share-old}

-- each child has its corner i at vertex i of the word
abbrev Still : ℕ → ℕ → Type 0
Still d R = (c : List (List ℕ)) → Child d R c → (i j : ℕ) → i < suc d → j < suc d → get_or (weights R (get_or c i [])) j 0 ≡ R * same j i

module _ (d R n : ℕ) (ks : List (List ℕ)) (pos-R : 0 < R) (sound : Sound d n (In ks)) (nodup : Nodup ks) (still : Still d R) where
  abbrev ws : List (List ℕ)
  ws = words d R n ks

  abbrev N : ℕ
  N = vertices d R n ks

  is-refined : Refined d R (In ks) (In (words d R n ks)) (share d R n ks)
  is-refined = refined d R n ks sound.complex.long sound.complex.below

  after : Sound d (vertices d R n ks) (In (words d R n ks))
  after = visited d R n ks pos-R sound nodup

  -- the corner's weights are those of the vertex
  weigh-still : (k : List ℕ) → In ks k → (c : List (List ℕ)) → Child d R c → (i : ℕ) → i < suc d → (v : ℕ)
      → weigh k (weights R (get_or c i [])) v ≡ R * same (get_or k i 0) v
  weigh-still k m c child i h v =
      let long : length k ≡ suc d = sound.complex.long k m in
      let plain : (v : ℕ) → occurrences k v ≤ 1 = sound.complex.plain k m in
      let in_c : Memᴰ c (children d R) = mem-of-child d R c child in
      elim (dec_lt 0 (occurrences k v)) [
        | yes p ↦
            let (q, b, e) = place-of k v p in
            subst (λ (u : ℕ). weigh k (weights R (get_or c i [])) u ≡ R * same (get_or k i 0) u) e
            (weigh-at k (weights R (get_or c i [])) plain q b (omega (arith, length-weights R (get_or c i []), corner-long d R c in_c i h))
            ∙ still c child i q h (omega arith)
            ∙ ap (λ (t : ℕ). R * t)
            (elim (ℕ_discrete q i) [
              | yes f ↦ same-yes q i f ∙ sym (same-yes (get_or k i 0) (get_or k q 0) (ap (λ (y : ℕ). get_or k y 0) (sym f)))
              | no f ↦
                  same-no q i f
                  ∙ sym (same-no (get_or k i 0) (get_or k q 0) (λ g. f (sym (apart-at k plain i q (omega arith) b g))))
            ]))
        | no p ↦
            weigh-absent k (weights R (get_or c i [])) v (omega arith)
            ∙ sym
            (ap (λ (t : ℕ). R * t)
            (same-no (get_or k i 0) v (λ e. p (subst (λ (u : ℕ). 0 < occurrences k u) e (times-at k i (omega arith)))))
            ∙ omega arith)
      ]

  -- so the child's word is the parent's
  word-still : (w k : List ℕ) (c : List (List ℕ)) → In ws w → In ks k → Child d R c → Names R (share d R n ks) k c w → w ≡ k
  word-still w k c m p child names =
      let lw : length w ≡ suc d = after.complex.long w m in
      let lk : length k ≡ suc d = sound.complex.long k p in
      let lc : length c ≡ suc d = child-corners d R c (mem-of-child d R c child) in
      ext_get_or 0 w k (lw ∙ sym lk)
      (λ i h.
      let g : i < suc d = omega arith in
      let low : get_or k i 0 < n = sound.complex.below k p (get_or k i 0) (times-at k i (omega arith)) in
      told d N (In ws) (share d R n ks) after.complex after.used is-refined.one (get_or w i 0) (get_or k i 0)
      (after.complex.below w m (get_or w i 0) (times-at w i h)) (omega arith)
      (λ v. names.shares i (omega arith) v ∙ weigh-still k p c child i g v ∙ sym (share-old d R n ks (get_or k i 0) low v)))

  pub of_words : (w : List ℕ) → In (words d R n ks) w → In ks w
  of_words w m = let (k, c, p, child, names) = is-refined.each w m in mathlib.Core.List.Memᴰ.cast (word-still w k c m p child names) p

  pub to-words : (k : List ℕ) → In ks k → In (words d R n ks) k
  to-words k p =
      let c : List (List ℕ) = get_or (children d R) 0 [] in
      let child : Child d R c = child-of-mem d R c (mem-of [] (children d R) 0 (omega (arith, count d R, pow-some R d pos-R))) in
      let (w, m, names) = is-refined.all k c p child in
      mathlib.Core.List.Memᴰ.cast (sym (word-still w k c m p child names)) m

  -- a vertex of the refined complex is one of the first
  same-vertices : vertices d R n ks ≡ n
  unfolding Used
  same-vertices =
      elim (dec_lt n N) [
        | yes h ↦ let (w, m, p) = after.used n h in absurd (omega (arith, sound.complex.below w (of_words w m) n p))
        | no h ↦ omega arith
      ]

  -- cells in colex order, with their words
  module _ (cs : List (List ℕ)) (l : Listed d n cs ks) (rising : Rising (Colex (suc d)) cs) where
    words_long : Each (λ w. length w ≡ suc d) ws
    words_long = each_of (λ w. length w ≡ suc d) ws (λ w m. after.complex.long w (to_mem w ws m))

    same-cells : refined_cells d R n ks ≡ cs
    same-cells =
        one_list (Colex (suc d)) (colex-irr (suc d)) (colex-trans (suc d)) (in_order (suc d) ws) cs (order-rising (suc d) ws) rising
        (λ v m.
        let (w, q, e) = order_from (suc d) ws v m in
        let (c, h, f) = number_of d n cs ks l w (of_words w (to_mem w ws q)) in
        subst (λ (u : Word). cells.In u cs) (sym (l.sorts c h) ∙ ap sort_word f ∙ e) (in-at cs c h))
        (λ v m.
        let (c, h, f) = at_in v cs m in
        subst (λ (u : Word). cells.In u (in_order (suc d) ws)) (l.sorts c h ∙ f)
        (order-has (suc d) ws (cell_at ks c) words_long (of_mem (cell_at ks c) ws (to-words (cell_at ks c) (word_in d n cs ks l c h)))))

    same-words : by_cell ws cs ≡ ks
    unfolding Distinct
    same-words =
        ext_get_or [] (by_cell ws cs) ks (by-cell-length ws cs ∙ sym l.many)
        (λ c h.
        let b : c < length cs = omega (arith, by-cell-length ws cs) in
        let (m, e) = word-found ws (cell_at cs c) (cell_at ks c) (to-words (cell_at ks c) (word_in d n cs ks l c b)) (l.sorts c b) in
        by-cell-at ws cs c b
        ∙ listed-distinct d n cs ks l (word_of ws (cell_at cs c)) (cell_at ks c) (of_words (word_of ws (cell_at cs c)) m) (word_in d n cs ks l c b)
        (λ v.
        sym (sort-times (word_of ws (cell_at cs c)) v)
        ∙ ap (λ (u : List ℕ). occurrences u v) (e ∙ sym (l.sorts c b))
        ∙ sort-times (cell_at ks c) v))

    pub stays : Same d R n cs ks
    stays = record { vertices = same-vertices; cells = same-cells; words = ap (by_cell ws) same-cells ∙ same-words }

-- ---- R = 1

only : (l : List (List (List ℕ))) (c : List (List ℕ)) → length l ≡ 1 → Memᴰ c l → get_or l 0 [] ≡ c
only [] c e m = absurd (mathlib.Core.List.Memᴰ.not-nil m)
only (x ∷ []) c e m = ⊎_elim (λ q. sym q) (λ q. absurd (mathlib.Core.List.Memᴰ.not-nil q)) (mathlib.Core.List.Memᴰ.cases_cons m)
only (x ∷ y ∷ l) c e m = absurd (omega arith)

one_power : (d : ℕ) → 1 ^ d ≡ 1
one_power zero = pow-zero 1
one_power (suc d) = omega (arith, pow-suc 1 d, one_power d)

pub still_one : (d : ℕ) → Still d 1
still_one d c child i j h b =
    let in_c : Memᴰ c (children d 1) = mem-of-child d 1 c child in
    ap (λ (w : List ℕ). get_or w j 0)
    (sym (map_at (weights 1) c i [] [] (omega (arith, child-corners d 1 c in_c)))
    ∙ ap (λ (w : List (List ℕ)). get_or (map (weights 1) w) i []) (sym (only (children d 1) c (count d 1 ∙ one_power d) in_c))
    ∙ sym (row_at d 1 0 i (omega (arith, one_power d)) h)
    ∙ ap (λ (o : ℕ). get_or (pattern_of d 1) o []) {x = 0 * suc d + i} {y = i} (omega (arith, zero-mul (suc d)))
    ∙ ap (λ (w : List (List ℕ)). get_or w i []) (unrefined d)
    ∙ get_or-tab (suc d) (λ k. tab (suc d) (λ j. same j k)) i [] h)
    ∙ get_or-tab (suc d) (λ j. same j i) j 0 b
    ∙ omega arith

-- ---- dimension 0
pub still-point : (R : ℕ) → Still 0 R
still-point R c child i j h b =
    let in_c : Memᴰ c (children 0 R) = mem-of-child 0 R c child in
    let z : i ≡ 0 = omega arith in
    let y : j ≡ 0 = omega arith in
    ap (λ (w : List (List ℕ)). get_or (weights R (get_or w i [])) j 0) (sym (only (children 0 R) c refl in_c))
    ∙ rw (z, y) (omega arith)

-- ---- of an accepted complex
stays-taken : (d R : ℕ) (ws : List ℕ) (ks : List (List ℕ)) → Still d R → Accepted d ws → 1 ≤ R → Listed d (coarse ws) (cells_of d ws) ks
    → Same d R (coarse ws) (cells_of d ws) ks
stays-taken d R ws ks still acc h l =
    let p : Passed d ws = fine-passed d ws acc.fine in
    stays d R (coarse ws) ks h (sound-of d ws p ks l acc.uncrowded) (listed-nodup d (coarse ws) (cells_of d ws) ks l) still (cells_of d ws) l
    (subst (λ (cs : List (List ℕ)). Rising (Colex (suc d)) cs) (sym (cells_are d ws p)) (order-rising (suc d) (rows (suc d) ws)))

-- R = 1: the same words
pub unrefined-by-one : (d : ℕ) (ws os : List ℕ) → Accepted d ws → Orders d (cells_of d ws) os → Same d 1 (coarse ws) (cells_of d ws) (order_words d ws os)
unrefined-by-one d ws os acc ord =
    stays-taken d 1 ws (order_words d ws os) (still_one d) acc (omega arith) (order-listed d ws (fine-passed d ws acc.fine) os ord)

pub unrefined-by-one-sorted : (d : ℕ) (ws : List ℕ) → Accepted d ws → Same d 1 (coarse ws) (cells_of d ws) (cells_of d ws)
unrefined-by-one-sorted d ws acc = stays-taken d 1 ws (cells_of d ws) (still_one d) acc (omega arith) (cells-listed d ws (fine-passed d ws acc.fine))

-- dimension 0: one child for any R
pub unrefined-points : (R : ℕ) (ws os : List ℕ) → Accepted 0 ws → Orders 0 (cells_of 0 ws) os → 1 ≤ R
    → Same 0 R (coarse ws) (cells_of 0 ws) (order_words 0 ws os)
unrefined-points R ws os acc ord h =
    stays-taken 0 R ws (order_words 0 ws os) (still-point R) acc h (order-listed 0 ws (fine-passed 0 ws acc.fine) os ord)

pub unrefined-points-sorted : (R : ℕ) (ws : List ℕ) → Accepted 0 ws → 1 ≤ R → Same 0 R (coarse ws) (cells_of 0 ws) (cells_of 0 ws)
unrefined-points-sorted R ws acc h = stays-taken 0 R ws (cells_of 0 ws) (still-point R) acc h (cells-listed 0 ws (fine-passed 0 ws acc.fine))
