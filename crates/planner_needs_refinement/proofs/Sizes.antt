-- How long the results of a refinement are at most. Assumes nothing.
use mathlib.Core.Bool.{Bool, true, false, ◌||◌}
use mathlib.Core.List.Memᴰ
use mathlib.Core.List.{List, [], ◌∷◌, ◌++◌, map, Memᴰ}
use mathlib.Core.Path.{◌≡◌, refl, sym, ap, ◌∙◌}
use Prim.Native.Nat.{ℕ, suc, ◌+◌, ◌*◌, ◌^◌, ◌≤◌, min}
use native.Mathlib.Nat.{mul-le-mul_right, le_trans}
use native.Mathlib.Omega.{arith}
use lib.Dec.{eqb, ltb}
use lib.ListN.{length, length-append, length-map}
use Rattle.lists.specs.Rows.{flat}
use Rattle.refusal.specs.Limits.{most_vertices, square_most}
use Rattle.complex_cells.proofs.Words.{Word, Each, each_in, each_of}
use Rattle.complex_cells.proofs.Order.{order_from}
use Rattle.multiindex.proofs.SortLaws.{sort-length}
use Rattle.ordering_words.specs.Order.{word_if, word_of, by_cell}
use Rattle.lists.specs.Words.{same_word}
use Rattle.multiindex.specs.Sort.{sort_word}
use Rattle.refine_lattice.specs.Children.{children, pick}
use Rattle.refine_lattice.specs.Refine.{point, positives, place, number, births_from, births, visits, words, vertices, share}
use Rattle.refine_lattice.proofs.Count.{length-gather}
use Rattle.refine_lattice.proofs.Enumerate.{of-gather}
use Rattle.refine_lattice.proofs.Pattern.{child-corners}
use Rattle.refine_births.proofs.Complex.{words-flat, words-many}
use Rattle.refine_births.specs.Promise.{birth_weights_of}
use Rattle.refine_jacobian.specs.Entries.{share_of, whole_of, float_of}
use Rattle.refine_results.specs.Refined.{refined_cells, refined_words, parent_of}
use Rattle.refine_results.specs.Results.{Lengths, Holds, results_of}
use Rattle.refine_results.proofs.Writing.{vertices_size, weights_size}
use Rattle.complex.specs.Facets.{cell_at}
use Rattle.skeleton.proofs.Sizes.{order-most}
use Rattle.needs.proofs.Sizes.{flat-most}

-- ---- the words of the children: R ^ d for each word, of d + 1 corners each
each-mem : (P : Word → Type 0) (ws : List Word) → ((w : Word) → Memᴰ w ws → P w) → Each P ws
each-mem P [] f = tt
each-mem P (w ∷ ws) f = (f w (Memᴰ.head refl), each-mem P ws (λ v m. f v (Memᴰ.tail m)))

word_long : (d R n : ℕ) (ks : List Word) (w : Word) → Memᴰ w (words d R n ks) → length w ≡ suc d
word_long d R n ks w m =
    let (k, a, b) = of-gather (λ k. map (map (λ s. number n (births d R n ks) (point R n k s))) (children d R)) ks m in
    let (c, f, e) = Memᴰ.of_map (map (λ s. number n (births d R n ks) (point R n k s))) (children d R) b in
    ap length (sym e) ∙ length-map c (λ s. number n (births d R n ks) (point R n k s)) ∙ child-corners d R c f

found-long : (k : ℕ) (ows : List Word) (cell : Word) → Each (λ v. length v ≤ k) ows → length (word_of ows cell) ≤ k
unfolding word_of word_if
found-long k [] cell a = omega arith
found-long k (w ∷ ows) cell a = go (same_word (sort_word w) cell) (found-long k ows cell a.1)
  where
    go : (t : Bool) → length (word_of ows cell) ≤ k → length (word_if t w (word_of ows cell)) ≤ k
    go true h = a.0
    go false h = h

by-cell-long : (k : ℕ) (ows cs : List Word) → Each (λ v. length v ≤ k) ows → (length (by_cell ows cs) ≡ length cs) × Each (λ v. length v ≤ k) (by_cell ows cs)
unfolding by_cell
by-cell-long k ows [] a = (refl, tt)
by-cell-long k ows (c ∷ cs) a = let r = by-cell-long k ows cs a in (omega (arith, r.0), (found-long k ows c a, r.1))

births-most : (seen ls : List Word) → length (births_from seen ls) ≤ length seen + length ls
births-most seen [] = omega arith
births-most seen (l ∷ ls) = omega (arith, births-most (pick (eqb (positives l) 1 || ltb (place seen l) (length seen)) seen (seen ++ (l ∷ []))) ls, one_more (eqb (positives l) 1 || ltb (place seen l) (length seen)))
  where
    one_more : (b : Bool) → length (pick b seen (seen ++ (l ∷ []))) ≤ length seen + 1
    one_more true = omega arith
    one_more false = omega (arith, length-append seen (l ∷ []))

-- ---- the eight lists of a refinement that is made, where there is room for c children
module _ (d R n : ℕ) (cs ks : List Word) (c : ℕ) (few : length ks * R ^ d ≤ c) (few_vertices : vertices d R n ks ≤ most_vertices) where
  each_word : Each (λ v. length v ≤ suc d) (words d R n ks)
  each_word = each-mem (λ v. length v ≤ suc d) (words d R n ks) (λ w m. omega (arith, word_long d R n ks w m))

  cells-few : length (refined_cells d R n ks) ≤ c
  cells-few = omega (arith, order-most (suc d) (words d R n ks), words-many d R n ks)

  each-cell : Each (λ v. length v ≤ suc d) (refined_cells d R n ks)
  each-cell =
      each_of (λ v. length v ≤ suc d) (refined_cells d R n ks) (λ v m.
      let r = order_from (suc d) (words d R n ks) v m in
      omega (arith, ap length r.2, sort-length r.0, each_in (λ v. length v ≤ suc d) r.0 (words d R n ks) each_word r.1))

  cells_long : length (flat (refined_cells d R n ks)) ≤ c * suc d
  cells_long = le_trans (flat-most (suc d) (refined_cells d R n ks) each-cell) (mul-le-mul_right (suc d) cells-few)

  words_long : length (flat (refined_words d R n ks)) ≤ c * suc d
  words_long =
      let r = by-cell-long (suc d) (words d R n ks) (refined_cells d R n ks) each_word in
      le_trans (flat-most (suc d) (refined_words d R n ks) r.1) (mul-le-mul_right (suc d) (omega (arith, r.0, cells-few)))

  parents-long : length (results_of d R n cs ks).parents_out ≤ c
  parents-long = omega (arith, length-map (refined_cells d R n ks) (parent_of d R n ks), cells-few)

  floats-long : length (results_of d R n cs ks).jacobians_out ≤ c * square_most
  floats-long = omega (arith, length-gather (λ x. float_of d R (share d R n ks) (cell_at cs (parent_of d R n ks x)) x) square_most (refined_cells d R n ks) (λ x. refl), mul-le-mul_right square_most cells-few)

  wholes-long : length (results_of d R n cs ks).wholes_out ≤ c * square_most
  wholes-long = omega (arith, length-gather (λ x. whole_of d (share d R n ks) (cell_at cs (parent_of d R n ks x)) x) square_most (refined_cells d R n ks) (λ x. refl), mul-le-mul_right square_most cells-few)

  births-few : length (births d R n ks) ≤ min (c * suc d) most_vertices
  births-few =
      let v : length (visits d R n ks) ≤ c * suc d =
      omega (
        arith,
        ap length (words-flat d R n ks),
        length-map (visits d R n ks) (number n (births d R n ks)),
        flat-most (suc d) (words d R n ks) each_word,
        mul-le-mul_right (suc d) few,
        ap (λ (x : ℕ). x * suc d) (words-many d R n ks),
      ) in
      omega (arith, births-most [] (visits d R n ks), few_vertices)

  births-long : length (births d R n ks) * suc d ≤ min (c * suc d) most_vertices * suc d
  births-long = mul-le-mul_right (suc d) births-few

  pub holds : (given : Lengths) → c * suc d ≤ given.cells_lent → c * suc d ≤ given.words_lent → c ≤ given.parents_lent → c * square_most ≤ given.jacobians_lent → c * square_most ≤ given.wholes_lent
      → min (c * suc d) most_vertices * suc d ≤ given.vertices_lent → min (c * suc d) most_vertices * suc d ≤ given.weights_lent → min (c * suc d) most_vertices * suc d ≤ given.shares_lent → Holds given (results_of d R n cs ks)
  holds given gc gw gp gj gh gv gg gs =
      record {
        of_cells = le_trans cells_long gc;
        of_words = le_trans words_long gw;
        of_parents = le_trans parents-long gp;
        of_jacobians = le_trans floats-long gj;
        of_wholes = le_trans wholes-long gh;
        of_vertices = le_trans (omega (arith, vertices_size (suc d) (births d R n ks), births-long)) gv;
        of_weights = le_trans (omega (arith, weights_size (suc d) (births d R n ks), births-long)) gg;
        of_shares = le_trans (omega (arith, length-map (birth_weights_of (suc d) (births d R n ks)) (share_of R), weights_size (suc d) (births d R n ks), births-long)) gs;
      }
