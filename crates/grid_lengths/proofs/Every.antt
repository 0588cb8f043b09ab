-- Every glued edge has a length where no two clash: an edge that is visited comes to a length or a clash. Assumes nothing.
use mathlib.Core.Path.{◌≡◌, refl, sym, ap, subst, ◌∙◌}
use mathlib.Core.Bool.{Bool, true, false, cond}
use mathlib.Core.List.{List, [], ◌∷◌, map}
use Prim.Native.Nat.{ℕ, zero, suc, ◌<◌, min, max}
use native.Mathlib.Decide.{ℕ_discrete}
use native.Mathlib.Omega.{arith}
use lib.Ieee.{Float}
use borrow.Author.Tests.{eq-eqb}
use Rattle.grid_sides.specs.Lengths.{agrees}
use Rattle.lists.specs.Tables.{upto}
use Rattle.multiindex.specs.Sort.{sort_word}
use Rattle.lists.proofs.Tables.{map-tab}
use Rattle.complex_cells.proofs.Words.{In}
use Rattle.complex_cells.proofs.Order.{order_from}
use Rattle.grid_words.proofs.Flat.{of-tab}
use Rattle.quotient.specs.declared.Grid.{Grid}
use Rattle.quotient.specs.Reduce.{vertex_of}
use Rattle.grid_lengths.specs.declared.EdgeLength.{EdgeLength}
use Rattle.grid_lengths.specs.declared.EdgeLength.TheVariants.{Length, Clash, NoEdge}
use Rattle.grid_lengths.specs.Edges.{visits_of, from_at, to_at, square_at, visits_edge, edges_of}
use Rattle.grid_lengths.specs.Settled.{met_by, settle, values_to}
use Rattle.grid_lengths.specs.Noted.{one_edge, came_to, Clashed}
use Rattle.grid_lengths.specs.Lengths.{settled_of}
use Rattle.grid_lengths.proofs.Values.{values-more}
use Rattle.grid_lengths.proofs.Gathered.{two-sorted}
use Rattle.grid_lengths.proofs.Steps.{sorted-values}

-- a length or a clash
abbrev pub Reached : EdgeLength → Type 0
Reached (Length x) = Unit {0}
Reached (Clash x y) = Unit {0}
Reached NoEdge = ⊥

agreed : (b : Bool) (x v : Float) → Reached (cond b (Length v) (Clash x v))
agreed true x v = tt
agreed false x v = tt

met-reached : (k : EdgeLength) (v : Float) → Reached (met_by k v)
met-reached (Length x) v = agreed (agrees x v) x v
met-reached (Clash x y) v = tt
met-reached NoEdge v = tt

reached-next : (b : Bool) (k : EdgeLength) (v : Float) → Reached k → Reached (cond b (met_by k v) k)
reached-next true k v h = met-reached k v
reached-next false k v h = h

module _ (g : Grid) (a b : ℕ) where
  pub reached-after : (x : ℕ) → visits_edge g a b x ≡ true → (r : ℕ) → x < r → Reached (settle (values_to g a b r))
  reached-after x e zero h = absurd (let z : ⊥ = omega arith in z)
  reached-after x e (suc r) h =
      subst Reached (sym (values-more g a b r))
      (elim (ℕ_discrete x r) [
        | yes q ↦
            subst (λ (t : Bool). Reached (cond t (met_by (settle (values_to g a b r)) (square_at g r)) (settle (values_to g a b r)))) (sym (subst (λ (n : ℕ). visits_edge g a b n ≡ true) q e)) (met-reached (settle (values_to g a b r)) (square_at g r))
        | no q ↦ reached-next (visits_edge g a b r) (settle (values_to g a b r)) (square_at g r) (reached-after x e r (omega arith))
      ])

one-self : (g : Grid) (x : ℕ) → one_edge g x x ≡ true
one-self g x =
    let a = vertex_of g (from_at g x) in let b = vertex_of g (to_at g x) in rw (eq-eqb (min a b) (min a b) refl, eq-eqb (max a b) (max a b) refl)

a-length : (k : EdgeLength) → Reached k → ((u v : Float) → k ≡ Clash u v → ⊥) → (x : Float) × (k ≡ Length x)
a-length (Length x) h f = (x, refl)
a-length (Clash u v) h f = absurd (f u v refl)
a-length NoEdge h f = absurd h

-- the edge of a visit
pub visit-length : (g : Grid) → (Clashed g → ⊥) → (x : ℕ) → x < visits_of g → (v : Float) × (came_to g x ≡ Length v)
visit-length g f x h =
    a-length (came_to g x) (reached-after g (vertex_of g (from_at g x)) (vertex_of g (to_at g x)) x (one-self g x) (visits_of g) h) (λ u v e. f (record { visit = x; first = u; second = v; within = h; clash = e }))

-- where 15 is not given, every glued edge has a length
pub every-length : (g : Grid) → (Clashed g → ⊥) → (e : List ℕ) → In e (edges_of g) → (v : Float) × (settled_of g e ≡ Length v)
every-length g f e k =
    let F : ℕ → List ℕ = λ r. vertex_of g (from_at g r) ∷ vertex_of g (to_at g r) ∷ [] in
    let u = order_from 2 (map (λ r. vertex_of g (from_at g r) ∷ vertex_of g (to_at g r) ∷ []) (upto (visits_of g))) e k in
    let w = of-tab F (visits_of g) u.0 (subst (λ (l : List (List ℕ)). In u.0 l) (map-tab F (visits_of g) (λ i. i)) u.1) in
    let x = w.0 in
    let a = vertex_of g (from_at g x) in
    let b = vertex_of g (to_at g x) in
    let s : e ≡ min a b ∷ max a b ∷ [] = sym u.2 ∙ ap sort_word (sym w.2) ∙ two-sorted a b in
    let l = visit-length g f x w.1 in
    (l.0, ap (settled_of g) s ∙ ap settle (sorted-values g a b (visits_of g)) ∙ l.1)
