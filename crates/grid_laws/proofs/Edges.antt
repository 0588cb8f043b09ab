-- The edges to which lengths are given are the edges of the glued cells: the same list. A visit measures between two corners of a cell, and each two corners of a cell
-- are visited. Assumes nothing.
use Rattle.refusal.specs.Says.{fine}
use mathlib.Core.Path.{◌≡◌, refl, sym, ap, subst, ◌∙◌}
use mathlib.Core.Bool.{Bool, true, ◌&&◌}
use mathlib.Core.List.{List, [], ◌∷◌, map}
use Prim.Native.Nat.{ℕ, suc, ◌+◌, ◌-◌, ◌*◌, ◌/◌, ◌%◌, ◌≤◌, ◌<◌, min, max, suc-le-suc}
use native.Mathlib.Decide.{dec_lt}
use native.Mathlib.Omega.{arith}
use lib.Dec.{eqb, ltb}
use lib.Arith.{digits_div, digits_mod, digits_lt}
use lib.ListN.{length, get_or}
use borrow.Author.Tests.{eqb-true, ltb-true}
use Rattle.lists.proofs.Members.{Mem, Mem-of, Mem-at, Pairs-at}
use Rattle.lists.specs.Tables.{tab, upto}
use Rattle.multiindex.specs.Sort.{sort_word}
use Rattle.multiindex.proofs.Tables.{all_below, at-below, first_of, second-of}
use Rattle.lists.proofs.Tables.{map-tab}
use Rattle.complex.specs.Facets.{cell_at}
use Rattle.complex.specs.Skeleton as Skeleton
use Rattle.complex_cells.proofs.Words.{Word, Each, In, each_of, one_list}
use Rattle.complex_cells.proofs.Order.{Colex, colex-irr, colex-trans, order-rising, order_from, order-has}
use Rattle.quotient.specs.declared.Grid.{Grid}
use Rattle.quotient.specs.Shape.{check_of, cell_count}
use Rattle.quotient.specs.Reduce.{vertex_of}
use Rattle.grid_words.proofs.Corners.{dim}
use Rattle.grid_words.proofs.Flat.{to-tab, of-tab}
use Rattle.grid_lengths.specs.Edges.{first_end, second_end, edges_each, visits_of, from_at, to_at, edges_of}
use Rattle.grid_lengths.proofs.Measuring.{each-few, end-rise, place_in, cell_in, corner-at, ends-below}
use Rattle.grid_lengths.proofs.Gathered.{two-sorted}
use Rattle.grid_mesh.specs.Words.{glued_cells}
use Rattle.skeleton.proofs.Laws.{edges-rising, edges-from, edges-has}
use Rattle.grid_mesh.proofs.Members.{Rises}
use Rattle.grid_mesh.proofs.Words.{word_no, vertex_no, corner-one, corner-mem, mem-corner, sorted_rises, cell-of, word_of}

-- ---- the edges of a cell by number: a computed test
abbrev edge_no : ℕ → ℕ → ℕ
edge_no i j = j * (j - 1) / 2 + i

edge_test : all_below 4 (λ d. all_below (suc d) (λ j. all_below j (λ i. ltb (edge_no i j) (edges_each d) && (eqb (first_end (edge_no i j)) i && eqb (second_end (edge_no i j)) j)))) ≡ true
edge_test = refl

edge_at : (d i j : ℕ) → d ≤ 3 → j ≤ d → i < j → (edge_no i j < edges_each d) × (first_end (edge_no i j) ≡ i) × (second_end (edge_no i j) ≡ j)
edge_at d i j h l m =
    let a : Bool = ltb (edge_no i j) (edges_each d) in
    let b : Bool = eqb (first_end (edge_no i j)) i in
    let c : Bool = eqb (second_end (edge_no i j)) j in
    let e : (ltb (edge_no i j) (edges_each d) && (eqb (first_end (edge_no i j)) i && eqb (second_end (edge_no i j)) j)) ≡ true =
    at-below j (λ i. ltb (edge_no i j) (edges_each d) && (eqb (first_end (edge_no i j)) i && eqb (second_end (edge_no i j)) j))
    (at-below (suc d) (λ j. all_below j (λ i. ltb (edge_no i j) (edges_each d) && (eqb (first_end (edge_no i j)) i && eqb (second_end (edge_no i j)) j)))
    (at-below 4 (λ d. all_below (suc d) (λ j. all_below j (λ i. ltb (edge_no i j) (edges_each d) && (eqb (first_end (edge_no i j)) i && eqb (second_end (edge_no i j)) j)))) edge_test d (suc-le-suc h)) j (suc-le-suc l)) i m in
    (ltb-true _ _ (first_of a (b && c) e), eqb-true _ _ (first_of b c (second-of a (b && c) e)), eqb-true _ _ (second-of b c (second-of a (b && c) e)))

ends-apart : (d e : ℕ) → d ≤ 3 → e < edges_each d → first_end e < second_end e
ends-apart d e h l = end-rise e (omega (arith, each-few d h))

-- ---- two numbers of a rising word stand in it one after the other
two_in : (w : List ℕ) (a b : ℕ) → Rises w → Mem a w → Mem b w → (a ≡ b → ⊥) → (i : ℕ) × (j : ℕ) × (i < j) × (j < length w) × (get_or w i 0 ≡ min a b) × (get_or w j 0 ≡ max a b)
two_in w a b up ma mb n =
    let (i, hi, ei) = Mem-at a w ma in
    let (j, hj, ej) = Mem-at b w mb in
    elim (dec_lt i j) [
      | yes l ↦ let z : get_or w i 0 < get_or w j 0 = Pairs-at (λ a b. a < b) w i j up l hj in (i, j, l, hj, omega arith, omega arith)
      | no l ↦
          elim (dec_lt j i) [
            | yes m ↦ let z : get_or w j 0 < get_or w i 0 = Pairs-at (λ a b. a < b) w j i up m hi in (j, i, m, hi, omega arith, omega arith)
            | no m ↦ let q : i ≡ j = omega arith in absurd (n (sym ei ∙ ap (λ (k : ℕ). get_or w k 0) q ∙ ej))
          ]
    ]

module _ (g : Grid) (taken : check_of g ≡ fine) where
  abbrev ends : ℕ → List ℕ
  ends r = vertex_of g (from_at g r) ∷ vertex_of g (to_at g r) ∷ []

  visits-tab : map ends (upto (visits_of g)) ≡ tab (visits_of g) ends
  visits-tab = map-tab ends (visits_of g) (λ i. i)

  -- a visit's ends are two corners of a cell
  ends-are : (r : ℕ) → r < visits_of g → ends r ≡ vertex_no g (r / edges_each g.d) (first_end (r % edges_each g.d)) ∷ vertex_no g (r / edges_each g.d) (second_end (r % edges_each g.d)) ∷ []
  ends-are r h =
      let k = edges_each g.d in
      let c = cell_in g taken r k refl h in
      ap (λ (z : ℕ). vertex_of g z ∷ vertex_of g (to_at g r) ∷ []) (corner-at g taken (r / k) (first_end (r % k)) c)
      ∙ ap (λ (z : ℕ). vertex_no g (r / k) (first_end (r % k)) ∷ vertex_of g z ∷ []) (corner-at g taken (r / k) (second_end (r % k)) c)

  -- two corners of cell x are an edge of its glued cell
  corners-edge : (x i j : ℕ) → x < cell_count g → i < j → j ≤ g.d → In (min (vertex_no g x i) (vertex_no g x j) ∷ max (vertex_no g x i) (vertex_no g x j) ∷ []) (Skeleton.edges_of (glued_cells g))
  corners-edge x i j h l m =
      let r = two_in (sort_word (word_no g x)) (vertex_no g x i) (vertex_no g x j) (sorted_rises g taken x h) (corner-mem g taken x (vertex_no g x i) h (i, omega arith, refl)) (corner-mem g taken x (vertex_no g x j) h (j, m, refl))
      (λ e. omega (arith, corner-one g taken x i j (omega arith) m e)) in
      let c = cell-of g taken x h in
      let e : (k : ℕ) → get_or (cell_at (glued_cells g) c.0) k 0 ≡ get_or (sort_word (word_no g x)) k 0 = λ k. ap (λ (w : List ℕ). get_or w k 0) c.2 in
      subst (λ (z : List ℕ). In z (Skeleton.edges_of (glued_cells g)))
      (ap (λ (z : ℕ). z ∷ get_or (cell_at (glued_cells g) c.0) r.1 0 ∷ []) (e r.0 ∙ r.4) ∙ ap (λ (z : ℕ). min (vertex_no g x i) (vertex_no g x j) ∷ z ∷ []) (e r.1 ∙ r.5))
      (edges-has (glued_cells g) c.0 r.0 r.1 c.1 r.2 (omega (arith, r.3, ap length c.2)))

  visits-long : Each (λ w. length w ≡ 2) (map ends (upto (visits_of g)))
  visits-long =
      each_of (λ w. length w ≡ 2) (map ends (upto (visits_of g)))
      (λ w m. let r = of-tab ends (visits_of g) w (subst (λ (ws : List Word). In w ws) visits-tab m) in ap length (sym r.2))

  -- and are visited
  edge-visit : (x i j r : ℕ) → r < visits_of g → r / edges_each g.d ≡ x → first_end (r % edges_each g.d) ≡ i → second_end (r % edges_each g.d) ≡ j → In (min (vertex_no g x i) (vertex_no g x j) ∷ max (vertex_no g x i) (vertex_no g x j) ∷ []) (edges_of g)
  edge-visit x i j r h q f s =
      subst (λ (z : List ℕ). In z (edges_of g)) (ap sort_word (ends-are r h ∙ rw (q, f, s)) ∙ two-sorted (vertex_no g x i) (vertex_no g x j))
      (order-has 2 (map ends (upto (visits_of g))) (ends r) visits-long (subst (λ (ws : List Word). In (ends r) ws) (sym visits-tab) (to-tab ends (visits_of g) r h)))

  corners-visited : (x i j : ℕ) → x < cell_count g → i < j → j ≤ g.d → In (min (vertex_no g x i) (vertex_no g x j) ∷ max (vertex_no g x i) (vertex_no g x j) ∷ []) (edges_of g)
  corners-visited x i j h l m =
      let e = edge_at g.d i j (dim g taken) m l in
      let p : (x * edges_each g.d + edge_no i j) % edges_each g.d ≡ edge_no i j = digits_mod x e.0 in
      edge-visit x i j (x * edges_each g.d + edge_no i j) (digits_lt h e.0) (digits_div x e.0) (ap first_end p ∙ e.1) (ap second_end p ∙ e.2)

  -- the edge of a visit is one of the glued cells'
  visit-edge : (r : ℕ) → r < visits_of g → In (sort_word (ends r)) (Skeleton.edges_of (glued_cells g))
  visit-edge r h =
      let k = edges_each g.d in
      let q = place_in g taken r k refl in
      subst (λ (z : Word). In z (Skeleton.edges_of (glued_cells g))) (sym (ap sort_word (ends-are r h) ∙ two-sorted (vertex_no g (r / k) (first_end (r % k))) (vertex_no g (r / k) (second_end (r % k)))))
      (corners-edge (r / k) (first_end (r % k)) (second_end (r % k)) (cell_in g taken r k refl h) (ends-apart g.d (r % k) (dim g taken) q) (ends-below g.d (r % k) (dim g taken) q).1)

  visited-edge : (e : Word) → In e (edges_of g) → In e (Skeleton.edges_of (glued_cells g))
  visited-edge e m =
      let u = order_from 2 (map ends (upto (visits_of g))) e m in
      let r = of-tab ends (visits_of g) u.0 (subst (λ (ws : List Word). In u.0 ws) visits-tab u.1) in
      subst (λ (z : Word). In z (Skeleton.edges_of (glued_cells g))) (ap sort_word r.2 ∙ u.2) (visit-edge r.0 r.1)

  edge-visited : (e : Word) → In e (Skeleton.edges_of (glued_cells g)) → In e (edges_of g)
  edge-visited e m =
      let (c, i, j, hc, l, hj, q) = edges-from (glued_cells g) e m in
      let (x, hx, w) = word_of g taken c hc in
      let lj : j < length (sort_word (word_no g x)) = omega (arith, ap length w) in
      let up : get_or (sort_word (word_no g x)) i 0 < get_or (sort_word (word_no g x)) j 0 = Pairs-at (λ a b. a < b) (sort_word (word_no g x)) i j (sorted_rises g taken x hx) l lj in
      let (i', li, ei) = mem-corner g taken x (get_or (sort_word (word_no g x)) i 0) hx (Mem-of (sort_word (word_no g x)) i (omega arith)) in
      let (j', lj', ej) = mem-corner g taken x (get_or (sort_word (word_no g x)) j 0) hx (Mem-of (sort_word (word_no g x)) j lj) in
      let f : e ≡ vertex_no g x i' ∷ vertex_no g x j' ∷ [] = q ∙ ap (λ (z : List ℕ). get_or z i 0 ∷ get_or z j 0 ∷ []) w ∙ ap (λ (z : ℕ). z ∷ get_or (sort_word (word_no g x)) j 0 ∷ []) (sym ei) ∙ ap (λ (z : ℕ). vertex_no g x i' ∷ z ∷ []) (sym ej) in
      let less : vertex_no g x i' < vertex_no g x j' = omega arith in
      elim (dec_lt i' j') [
        | yes h ↦ subst (λ (z : Word). In z (edges_of g)) (in_order_lem (vertex_no g x i') (vertex_no g x j') less ∙ sym f) (corners-visited x i' j' hx h lj')
        | no h ↦
            elim (dec_lt j' i') [
              | yes k ↦ subst (λ (z : Word). In z (edges_of g)) (turned (vertex_no g x i') (vertex_no g x j') less ∙ sym f) (corners-visited x j' i' hx k li)
              | no k ↦ let s : i' ≡ j' = omega arith in absurd (let z : ⊥ = omega (arith, ap (vertex_no g x) s) in z)
            ]
      ]
    where
      in_order_lem : (a b : ℕ) → a < b → ◌≡◌ {A = List ℕ} (min a b ∷ max a b ∷ []) (a ∷ b ∷ [])
      in_order_lem a b h = let p : min a b ≡ a = omega arith in let q : max a b ≡ b = omega arith in rw (p, q)

      turned : (a b : ℕ) → a < b → ◌≡◌ {A = List ℕ} (min b a ∷ max b a ∷ []) (a ∷ b ∷ [])
      turned a b h = let p : min b a ≡ a = omega arith in let q : max b a ≡ b = omega arith in rw (p, q)

  -- the edges that have lengths are the edges of the glued cells, in the same order
  pub edges-same : edges_of g ≡ Skeleton.edges_of (glued_cells g)
  edges-same =
      one_list (Colex 2) (colex-irr 2) (colex-trans 2) (edges_of g) (Skeleton.edges_of (glued_cells g)) (order-rising 2 (map ends (upto (visits_of g)))) (edges-rising (glued_cells g)) visited-edge edge-visited
