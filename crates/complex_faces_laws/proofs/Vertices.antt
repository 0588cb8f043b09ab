-- The faces of dimension 0 of a checked word list are its vertices: all numbers up to the largest. Assumes nothing.
use mathlib.Core.Bool.{Bool, true, false, ◌||◌}
use mathlib.Core.List.{List, [], ◌∷◌, ◌++◌}
use mathlib.Core.Path.{◌≡◌, refl, sym, ap, ◌∙◌, subst}
use mathlib.Core.Logic.{◌⊎◌, inl, inr, ⊎_elim}
use Prim.Native.Nat.{ℕ, zero, suc, ◌+◌, ◌*◌, ◌/◌, ◌%◌, ◌<◌, ◌≤◌, max}
use native.Mathlib.Nat.{eq-or-lt_of_le, mod-lt, div-lt_iff_lt-mul, div-add-mod'}
use native.Mathlib.Decide.{dec_lt}
use native.Mathlib.Omega.{arith}
use lib.Dec.{eqb, ltb}
use borrow.Author.Tests.{eqb-true}
use lib.ListN.{length, get_or, take, drop, length-take}
use lib.Seq.{get_or-take, get_or-drop}
use Rattle.lists.specs.Tables.{tab}
use Rattle.lists.specs.Words.{among, largest_of}
use Rattle.lists.specs.Rows.{rows}
use Rattle.lists.proofs.Words.{below-largest}
use Rattle.lists.proofs.Tables.{length-tab, get_or-tab}
use Rattle.lists.proofs.Rows.{cut-length, cut_at, row_fits}
use Rattle.lists.proofs.Members.{All, Mem, All-of, All-at, Mem-of, Mem-at}
use Rattle.multiindex.specs.Sort.{insert, insert_by, sort_word}
use Rattle.complex.specs.Check.{Passed}
use Rattle.complex.specs.Cells.{cells_of}
use Rattle.complex_cells.proofs.Words.{Word, Each, Rising, In, each_of, each_in, in-at, at_in, rising-by, one_list}
use Rattle.complex_cells.proofs.Order.{Colex, colex-irr, colex-trans, order_from, order-has}
use Rattle.complex_cells.proofs.Named.{in_colex-from, in_colex-has, in_colex-rising}
use Rattle.complex_cells.proofs.Making.{whole_words}
use Rattle.complex_cells.proofs.Strict.{sort-all}
use Rattle.sorting.proofs.Colex.{row-cell, row-length}
use Rattle.complex_facets.proofs.Numbers.{tab-in, in-tab}
use Rattle.complex_faces.specs.Faces.{each_then, places_of, sub_word, chosen, all_chosen, faces_of}
use Rattle.complex_faces.proofs.Members.{in_left, in_right, then-in, places-long, subs-in, in-subs, sub-length, all_in, in_all, all-long}
use Rattle.complex_faces.proofs.Shape.{places-below, sub_at}

-- ---- a sort keeps members
insert-new : (x : ℕ) (ys : List ℕ) → Mem x (insert x ys)
unfolding insert insert_by
insert-new x [] = inl refl
insert-new x (y ∷ ys) = go (ltb y x) (insert-new x ys)
  where
    go : (t : Bool) → Mem x (insert x ys) → Mem x (insert_by t x y ys (insert x ys))
    go true r = inr r
    go false r = inl refl

insert-old : (v x : ℕ) (ys : List ℕ) → Mem v ys → Mem v (insert x ys)
unfolding insert insert_by
insert-old v x [] m = absurd m
insert-old v x (y ∷ ys) m = go (ltb y x) m (λ k. insert-old v x ys k)
  where
    go : (t : Bool) → Mem v (y ∷ ys) → (Mem v ys → Mem v (insert x ys)) → Mem v (insert_by t x y ys (insert x ys))
    go true (inl e) r = inl e
    go true (inr k) r = inr (r k)
    go false k r = inr k

sort-mem : (v : ℕ) (w : List ℕ) → Mem v w → Mem v (sort_word w)
unfolding sort_word
sort-mem v [] m = absurd m
sort-mem v (x ∷ w) (inl e) = subst (λ (z : ℕ). Mem z (insert x (sort_word w))) e (insert-new x (sort_word w))
sort-mem v (x ∷ w) (inr m) = insert-old v x (sort_word w) (sort-mem v w m)

-- ---- the numbers of the words
among-mem : (v : ℕ) (ws : List ℕ) → among v ws ≡ true → Mem v ws
unfolding among
among-mem v [] e = let z : ◌≡◌ {A = ℕ} 0 1 = cc in absurd (omega arith)
among-mem v (x ∷ ws) e = go (eqb x v) refl e (λ r. among-mem v ws r)
  where
    go : (t : Bool) → eqb x v ≡ t → (t || among v ws) ≡ true → (among v ws ≡ true → Mem v ws) → Mem v (x ∷ ws)
    go true q r k = inl (eqb-true x v q)
    go false q r k = inr (k r)

largest-mem : (ws : List ℕ) → (length ws ≡ 0 → ⊥) → Mem (largest_of ws) ws
unfolding largest_of
largest-mem [] h = absurd (h refl)
largest-mem (x ∷ []) h = inl (omega arith)
largest-mem (x ∷ y ∷ ws) h =
    let r : Mem (largest_of (y ∷ ws)) (y ∷ ws) = largest-mem (y ∷ ws) (λ e. omega arith) in
    elim (dec_lt x (largest_of (y ∷ ws))) [
      | yes l ↦ let e : largest_of (y ∷ ws) ≡ max x (largest_of (y ∷ ws)) = omega arith in inr (subst (λ (z : ℕ). Mem z (y ∷ ws)) e r)
      | no l ↦ inl (omega arith)
    ]

no-places : (n : ℕ) → In [] (places_of n 0)
unfolding places_of
no-places zero = inl refl
no-places (suc n) = inl refl

one_place : (n i : ℕ) → i < n → In (i ∷ []) (places_of n 1)
unfolding places_of
one_place zero i h = absurd (omega arith)
one_place (suc n) i h =
    ⊎_elim (λ (e : i ≡ n). subst (λ (z : ℕ). In (z ∷ []) (places_of n 1 ++ each_then n (places_of n 0))) (sym e) (in_right (n ∷ []) (places_of n 1) (each_then n (places_of n 0)) (then-in n [] (places_of n 0) (no-places n))))
    (λ (l : i < n). in_left (i ∷ []) (places_of n 1) (each_then n (places_of n 0)) (one_place n i l)) (eq-or-lt_of_le (omega arith))

picked : (w : Word) (j : ℕ) → j < length w → In (get_or w j 0 ∷ []) (chosen 1 w)
unfolding sub_word
picked w j l = subs-in w (j ∷ []) (places_of (length w) 1) (one_place (length w) j l)

single : (l : Word) → length l ≡ 1 → l ≡ get_or l 0 0 ∷ []
single [] e = absurd (omega arith)
single (a ∷ []) e = refl
single (a ∷ b ∷ l) e = absurd (omega arith)

vertices-rise : (n : ℕ) → Rising (Colex 1) (tab n (λ v. v ∷ []))
vertices-rise n =
    rising-by (Colex 1) (tab n (λ v. v ∷ []))
    (λ i j h l. let lj : j < n = omega (arith, length-tab n (λ v. v ∷ [])) in rw (get_or-tab n (λ v. v ∷ []) i [] (omega arith), get_or-tab n (λ v. v ∷ []) j [] lj) (inl h))

module _ (d : ℕ) (ws : List ℕ) (p : Passed d ws) where
  word_of : (v : Word) → In v (cells_of d ws) → (u : Word) × In u (rows (d + 1) ws) × (sort_word u ≡ v)
  unfolding cells_of
  word_of v k = order_from (d + 1) (rows (d + 1) ws) v k

  word_at : (c : ℕ) → c < length ws / (d + 1) → get_or (rows (d + 1) ws) c [] ≡ take (d + 1) (drop (c * (d + 1)) ws)
  word_at c h = cut_at (d + 1) (length ws / (d + 1)) ws c h

  word_low : (u : Word) → In u (rows (d + 1) ws) → All (λ x. x ≤ largest_of ws) u
  word_low u k =
      let r = at_in u (rows (d + 1) ws) k in
      let h : r.0 < length ws / (d + 1) = omega (arith, r.1, cut-length (d + 1) (length ws / (d + 1)) ws) in
      subst (λ (z : Word). All (λ x. x ≤ largest_of ws) z) (sym (word_at r.0 h) ∙ r.2)
      (All-of (λ x. x ≤ largest_of ws) (take (d + 1) (drop (r.0 * (d + 1)) ws))
      (λ i l.
      let t : i < d + 1 = omega (arith, length-take (d + 1) (drop (r.0 * (d + 1)) ws)) in
      omega (arith, get_or-take (d + 1) (drop (r.0 * (d + 1)) ws) i 0 t, get_or-drop (r.0 * (d + 1)) ws i 0, below-largest ws (r.0 * (d + 1) + i))))

  up : (u : Word) → In u (all_chosen 1 (cells_of d ws)) → In u (tab (largest_of ws + 1) (λ v. v ∷ []))
  up u m =
      let r = in_all 1 (cells_of d ws) u m in
      let q = in-subs r.0 u (places_of (length r.0) 1) r.2 in
      let l = places-long (length r.0) 1 q.0 q.1 in
      let e : u ≡ get_or r.0 (get_or q.0 0 0) 0 ∷ [] = q.2 ∙ single (sub_word r.0 q.0) (sub-length r.0 q.0 ∙ l) ∙ ap (λ (z : ℕ). z ∷ []) (sub_at r.0 q.0 0 (omega arith)) in
      let w = word_of r.0 r.1 in
      let low : get_or r.0 (get_or q.0 0 0) 0 ≤ largest_of ws =
      All-at (λ x. x ≤ largest_of ws) r.0 (get_or q.0 0 0) (subst (λ (z : Word). All (λ x. x ≤ largest_of ws) z) w.2 (sort-all (λ x. x ≤ largest_of ws) w.0 (word_low w.0 w.1))) (places-below (length r.0) 1 q.0 0 q.1 (omega arith)) in
      subst (λ (z : Word). In z (tab (largest_of ws + 1) (λ v. v ∷ []))) (sym e) (tab-in (largest_of ws + 1) (λ v. v ∷ []) (get_or r.0 (get_or q.0 0 0) 0) (omega arith))

  words_long : Each (λ v. length v ≡ d + 1) (rows (d + 1) ws)
  words_long =
      each_of (λ v. length v ≡ d + 1) (rows (d + 1) ws)
      (λ v m.
      let r = at_in v (rows (d + 1) ws) m in
      let h : r.0 < length ws / (d + 1) = omega (arith, r.1, cut-length (d + 1) (length ws / (d + 1)) ws) in
      ap length (sym r.2 ∙ word_at r.0 h) ∙ row-length ws (d + 1) r.0 (row_room r.0 h))
    where
      row_room : (c : ℕ) → c < length ws / (d + 1) → c * (d + 1) + (d + 1) ≤ length ws
      row_room c h = row_fits c (length ws / (d + 1)) (d + 1) (length ws) h (omega (arith, whole_words d ws p))

  is-used : (v : ℕ) → v ≤ largest_of ws → Mem v ws
  is-used v h = ⊎_elim (λ (e : v ≡ largest_of ws). subst (λ (z : ℕ). Mem z ws) (sym e) (largest-mem ws p.some_words)) (λ (l : v < largest_of ws). among-mem v ws (p.used v l)) (eq-or-lt_of_le h)

  cell_in : (u : Word) → In u (rows (d + 1) ws) → In (sort_word u) (cells_of d ws)
  unfolding cells_of
  cell_in u m = order-has (d + 1) (rows (d + 1) ws) u words_long m

  down : (v : ℕ) → v ≤ largest_of ws → In (v ∷ []) (all_chosen 1 (cells_of d ws))
  down v h =
      let r = Mem-at v ws (is-used v h) in
      let hi : r.0 < length ws / (d + 1) * (d + 1) = omega (arith, r.1, whole_words d ws p) in
      let c = r.0 / (d + 1) in
      let hc : r.0 / (d + 1) < length ws / (d + 1) = (div-lt_iff_lt-mul {k = d + 1} (omega arith)).1 hi in
      let hj : r.0 % (d + 1) < d + 1 = mod-lt r.0 (omega arith) in
      let u = take (d + 1) (drop (r.0 / (d + 1) * (d + 1)) ws) in
      let inside : In (take (d + 1) (drop (r.0 / (d + 1) * (d + 1)) ws)) (rows (d + 1) ws) = subst (λ (z : Word). In z (rows (d + 1) ws)) (word_at (r.0 / (d + 1)) hc) (in-at (rows (d + 1) ws) (r.0 / (d + 1)) (omega (arith, cut-length (d + 1) (length ws / (d + 1)) ws))) in
      let e : get_or (take (d + 1) (drop (r.0 / (d + 1) * (d + 1)) ws)) (r.0 % (d + 1)) 0 ≡ v = row-cell ws (d + 1) (r.0 / (d + 1)) (r.0 % (d + 1)) hj ∙ ap (λ (z : ℕ). get_or ws z 0) (div-add-mod' r.0 (d + 1)) ∙ r.2 in
      let long = each_in (λ v. length v ≡ d + 1) (take (d + 1) (drop (r.0 / (d + 1) * (d + 1)) ws)) (rows (d + 1) ws) words_long inside in
      let there : Mem v (take (d + 1) (drop (r.0 / (d + 1) * (d + 1)) ws)) = subst (λ (z : ℕ). Mem z (take (d + 1) (drop (r.0 / (d + 1) * (d + 1)) ws))) e (Mem-of (take (d + 1) (drop (r.0 / (d + 1) * (d + 1)) ws)) (r.0 % (d + 1)) (omega arith)) in
      let q = Mem-at v (sort_word (take (d + 1) (drop (r.0 / (d + 1) * (d + 1)) ws))) (sort-mem v (take (d + 1) (drop (r.0 / (d + 1) * (d + 1)) ws)) there) in
      chosen-one (sort_word (take (d + 1) (drop (r.0 / (d + 1) * (d + 1)) ws))) q.0 (cell_in (take (d + 1) (drop (r.0 / (d + 1) * (d + 1)) ws)) inside) q.1 q.2
    where
      chosen-one : (w : Word) (j : ℕ) → In w (cells_of d ws) → j < length w → get_or w j 0 ≡ v → In (v ∷ []) (all_chosen 1 (cells_of d ws))
      chosen-one w j m l e = all_in 1 (cells_of d ws) w (v ∷ []) m (subst (λ (z : ℕ). In (z ∷ []) (chosen 1 w)) e (picked w j l))

  pub faces-vertices : faces_of (cells_of d ws) 0 ≡ tab (largest_of ws + 1) (λ v. v ∷ [])
  faces-vertices =
      one_list (Colex 1) (colex-irr 1) (colex-trans 1) (faces_of (cells_of d ws) 0) (tab (largest_of ws + 1) (λ v. v ∷ [])) (in_colex-rising 1 (all_chosen 1 (cells_of d ws))) (vertices-rise (largest_of ws + 1))
      (λ u m. up u (in_colex-from 1 (all_chosen 1 (cells_of d ws)) u m))
      (λ u m.
      let r = in-tab (largest_of ws + 1) (λ v. v ∷ []) u m in
      in_colex-has 1 (all_chosen 1 (cells_of d ws)) u (all-long 1 (cells_of d ws)) (subst (λ (z : Word). In z (all_chosen 1 (cells_of d ws))) r.2 (down r.0 (omega (arith, r.1)))))
