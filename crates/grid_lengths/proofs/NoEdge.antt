-- The question of one edge says NoEdge exactly where the two vertices are not the ends of an edge. No vertex is joined to itself, nor to a number that no vertex has. Assumes nothing.
use Rattle.refusal.specs.Says.{Answer, fine}
use Rattle.std.specs.Prelude.{Err, Ok}
use mathlib.Core.Path.{◌≡◌, refl, sym, ap, subst, ◌∙◌}
use mathlib.Core.Bool.{Bool, true, false, ◌&&◌}
use mathlib.Core.List.{List, [], ◌∷◌, map}
use Prim.Native.Nat.{ℕ, ◌≤◌, ◌<◌, min, max}
use native.Mathlib.Nat.{zero-add}
use native.Mathlib.Omega.{arith}
use lib.Dec.{eqb}
use lib.ListN.{length, get_or}
use borrow.Author.Tests.{eqb-true, eq-eqb}
use Rattle.lists.specs.Tables.{tab, upto}
use Rattle.lists.proofs.Tables.{map-tab, length-tab, get_or-tab}
use Rattle.multiindex.specs.Sort.{sort_word}
use Rattle.complex_cells.proofs.Words.{In, Each, each_of, in-at, at_in}
use Rattle.complex_cells.proofs.Order.{order_from, order-has}
use Rattle.grid_words.proofs.Flat.{of-tab}
use Rattle.quotient.specs.declared.Grid.{Grid}
use Rattle.quotient.specs.declared.GluedVertex.{GluedVertex}
use Rattle.quotient.specs.Shape.{vertices_of, check_of, sides_check_of}
use Rattle.quotient.specs.Reduce.{vertex_of}
use Rattle.quotient.proofs.Onto.{vertex-lt}
use Rattle.grid_lengths.specs.declared.EdgeLength.{EdgeLength}
use Rattle.grid_lengths.specs.declared.EdgeLength.TheVariants.{NoEdge}
use Rattle.grid_lengths.specs.Edges.{visits_of, from_at, to_at, same_ends, visits_edge, edges_of, EdgeAmong}
use Rattle.grid_lengths.specs.Settled.{settle_from, settle, values_to, edge_values, edge_after, edge_length_of, NoEdgeExactly}
use Rattle.grid_lengths.proofs.Gathered.{two-sorted}
use Rattle.grid_lengths.proofs.Every.{Reached, reached-after}
use Rattle.grid_lengths.proofs.Boxed.{from-within, to-within, ends-apart}
use Rattle.grid_lengths.proofs.Skipped.{values-none}

both_left : (s t : Bool) → s && t ≡ true → s ≡ true
both_left true t e = refl
both_left false t e = e

both_right : (s t : Bool) → s && t ≡ true → t ≡ true
both_right true t e = e
both_right false t e = let z : ◌≡◌ {A = Bool} false true = e in let w : ◌≡◌ {A = ℕ} 0 1 = cc in absurd (omega arith)

pub ends-alike : (a b p q : ℕ) → same_ends a b p q ≡ true → (min a b ≡ min p q) × (max a b ≡ max p q)
ends-alike a b p q e =
    (eqb-true (min a b) (min p q) (both_left (eqb (min a b) (min p q)) (eqb (max a b) (max p q)) e), eqb-true (max a b) (max p q) (both_right (eqb (min a b) (min p q)) (eqb (max a b) (max p q)) e))

alike-ends : (a b p q : ℕ) → min a b ≡ min p q → max a b ≡ max p q → same_ends a b p q ≡ true
alike-ends a b p q e f = rw (eq-eqb (min a b) (min p q) e, eq-eqb (max a b) (max p q) f)

alike-pair : (a b p q : ℕ) → min p q ∷ max p q ∷ [] ≡ min a b ∷ max a b ∷ [] → same_ends a b p q ≡ true
alike-pair a b p q s = alike-ends a b p q (ap (λ (l : List ℕ). get_or l 0 0) (sym s)) (ap (λ (l : List ℕ). get_or l 1 0) (sym s))

no-edge-reached : (k : EdgeLength) → Reached k → k ≡ NoEdge → ⊥
no-edge-reached k h e = subst Reached e h

module _ (g : Grid) where
  ends-list : map (λ r. vertex_of g (from_at g r) ∷ vertex_of g (to_at g r) ∷ []) (upto (visits_of g)) ≡ tab (visits_of g) (λ r. vertex_of g (from_at g r) ∷ vertex_of g (to_at g r) ∷ [])
  ends-list = map-tab (λ r. vertex_of g (from_at g r) ∷ vertex_of g (to_at g r) ∷ []) (visits_of g) (λ i. i)

  -- an edge is visited
  pub edge-visit : (a b : ℕ) → EdgeAmong g a b → (r : ℕ) × (r < visits_of g) × (visits_edge g a b r ≡ true)
  edge-visit a b k =
      let F : ℕ → List ℕ = λ r. vertex_of g (from_at g r) ∷ vertex_of g (to_at g r) ∷ [] in
      let e : List ℕ = min a b ∷ max a b ∷ [] in
      let i : In e (edges_of g) = subst (λ (l : List ℕ). In l (edges_of g)) k.ends (in-at (edges_of g) k.number k.within) in
      let u = order_from 2 (map (λ r. vertex_of g (from_at g r) ∷ vertex_of g (to_at g r) ∷ []) (upto (visits_of g))) e i in
      let w = of-tab F (visits_of g) u.0 (subst (λ (l : List (List ℕ)). In u.0 l) ends-list u.1) in
      (w.0, w.1, alike-pair a b (vertex_of g (from_at g w.0)) (vertex_of g (to_at g w.0)) (sym (two-sorted (vertex_of g (from_at g w.0)) (vertex_of g (to_at g w.0))) ∙ ap sort_word w.2 ∙ u.2))

  -- and what is visited is an edge
  pub visit-edge : (a b r : ℕ) → r < visits_of g → visits_edge g a b r ≡ true → EdgeAmong g a b
  visit-edge a b r h e =
      let F : ℕ → List ℕ = λ r. vertex_of g (from_at g r) ∷ vertex_of g (to_at g r) ∷ [] in
      let ws : List (List ℕ) = map (λ r. vertex_of g (from_at g r) ∷ vertex_of g (to_at g r) ∷ []) (upto (visits_of g)) in
      let p = vertex_of g (from_at g r) in
      let q = vertex_of g (to_at g r) in
      let long : Each (λ v. length v ≡ 2) ws =
      each_of (λ v. length v ≡ 2) ws (λ v m. let w = of-tab F (visits_of g) v (subst (λ (l : List (List ℕ)). In v l) ends-list m) in ap length (sym w.2)) in
      let here : In (F r) ws =
      subst (λ (l : List (List ℕ)). In (F r) l) (sym ends-list)
      (subst (λ (v : List ℕ). In v (tab (visits_of g) F)) (get_or-tab (visits_of g) F r [] h) (in-at (tab (visits_of g) F) r (omega (arith, length-tab (visits_of g) F)))) in
      let w = at_in (sort_word (F r)) (edges_of g) (order-has 2 ws (F r) long here) in
      let z = ends-alike a b p q e in
      record {
        number = w.0;
        within = w.1;
        ends = w.2 ∙ two-sorted p q ∙ ap (λ (n : ℕ). n ∷ max p q ∷ []) (sym z.0) ∙ ap (λ (n : ℕ). min a b ∷ n ∷ []) (sym z.1);
      }

  not-visited : (a b r : ℕ) → r < visits_of g → (EdgeAmong g a b → ⊥) → visits_edge g a b r ≡ false
  not-visited a b r h n = go (visits_edge g a b r) refl
    where
      go : (t : Bool) → visits_edge g a b r ≡ t → t ≡ false
      go true e = absurd (n (visit-edge a b r h e))
      go false e = refl

  none-settled : (a b : ℕ) → (EdgeAmong g a b → ⊥) → settle (edge_values g a b) ≡ NoEdge
  unfolding values_to settle_from
  none-settled a b n =
      ap (λ (m : ℕ). settle (values_to g a b m)) (sym (zero-add (visits_of g)))
      ∙ ap settle (values-none g a b 0 (visits_of g) (λ i l. ap (visits_edge g a b) (zero-add i) ∙ not-visited a b i l n))

  answer-settled : (k : Answer) (x : EdgeLength) → edge_after k x ≡ Ok NoEdge → x ≡ NoEdge
  answer-settled (Ok _) x e = cc
  answer-settled (Err why) x e = cc

  pub no-edge-exactly : (a b : GluedVertex) → NoEdgeExactly g a b
  unfolding edge_length_of
  no-edge-exactly a b =
      record {
        only =
            λ e k.
            let v = edge-visit a.0 b.0 k in
            no-edge-reached (settle (edge_values g a.0 b.0)) (reached-after g a.0 b.0 v.0 v.2 (visits_of g) v.1) (answer-settled (sides_check_of g) (settle (edge_values g a.0 b.0)) e);
        all = λ f n. rw f (ap Ok (none-settled a.0 b.0 n));
      }

  -- ---- equal ends, and a number that no vertex has
  module _ (taken : check_of g ≡ fine) where
    pub no_loop : (a : ℕ) → EdgeAmong g a a → ⊥
    no_loop a k =
        let v = edge-visit a a k in
        let z = ends-alike a a (vertex_of g (from_at g v.0)) (vertex_of g (to_at g v.0)) v.2 in
        let e : vertex_of g (from_at g v.0) ≡ vertex_of g (to_at g v.0) = omega (arith, z.0, z.1) in
        ends-apart g taken v.0 v.1 e

    pub no-unknown : (a b : ℕ) → vertices_of g ≤ a → EdgeAmong g a b → ⊥
    no-unknown a b h k =
        let v = edge-visit a b k in
        let z = ends-alike a b (vertex_of g (from_at g v.0)) (vertex_of g (to_at g v.0)) v.2 in
        omega (arith, z.0, z.1, vertex-lt g taken (from_at g v.0) (from-within g taken v.0 v.1), vertex-lt g taken (to_at g v.0) (to-within g taken v.0 v.1))
