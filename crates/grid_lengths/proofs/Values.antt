-- An edge's values, one after the other. Assumes nothing.
use Rattle.std.specs.Prelude.{Ok, Err}
use Rattle.refusal.specs.declared.Refusal.{Refusal}
use Rattle.refusal.specs.Says.{fine}
use mathlib.Core.Path.{◌≡◌, refl, sym, ap, ◌∙◌}
use mathlib.Core.Bool.{Bool, true, false, cond}
use mathlib.Core.List.{List, [], ◌∷◌, ◌++◌}
use Prim.Native.Nat.{ℕ, suc, ◌+◌}
use native.Mathlib.Numerals.{add-one}
use lib.Ieee.{Float}
use Rattle.grid_sides.specs.Lengths.{agrees}
use Rattle.quotient.specs.declared.Grid.{Grid}
use Rattle.quotient.specs.declared.GluedVertex.{GluedVertex}
use Rattle.quotient.specs.Shape.{sides_check_of}
use Rattle.grid_lengths.specs.declared.EdgeLength.{EdgeLength}
use Rattle.grid_lengths.specs.declared.EdgeLength.TheVariants.{Length, Clash, NoEdge}
use Rattle.grid_lengths.specs.Edges.{square_at, visits_edge}
use Rattle.grid_lengths.specs.Settled.{met_by, settle_from, settle, only_if, values_to, edge_values, after_visit, edge_length_of}

-- ---- the cases of one value more
module _ (k : EdgeLength) (v : Float) where
  pub met-agree : (x : Float) (b : Bool) → k ≡ Length x → b ≡ agrees x v → b ≡ true → Length v ≡ met_by k v
  met-agree x b e q t = rw (e, ← q, t)

  pub met-clash : (x : Float) (b : Bool) → k ≡ Length x → b ≡ agrees x v → b ≡ false → Clash x v ≡ met_by k v
  met-clash x b e q t = rw (e, ← q, t)

  pub met-clashed : (x y : Float) → k ≡ Clash x y → Clash x y ≡ met_by k v
  met-clashed x y e = rw e

  pub met-first : k ≡ NoEdge → Length v ≡ met_by k v
  met-first e = rw e

-- ---- one visit more
pub settle-append : (s : EdgeLength) (xs ys : List Float) → settle_from s (xs ++ ys) ≡ settle_from (settle_from s xs) ys
unfolding settle_from
settle-append s [] ys = refl
settle-append s (x ∷ xs) ys = settle-append (met_by s x) xs ys

pub settle-only : (s : EdgeLength) (b : Bool) (v : Float) → settle_from s (only_if b v) ≡ cond b (met_by s v) s
unfolding settle_from
settle-only s true v = refl
settle-only s false v = refl

pub values-more : (g : Grid) (a b r : ℕ) → settle (values_to g a b (suc r)) ≡ after_visit g a b r (settle (values_to g a b r))
unfolding values_to
values-more g a b r = settle-append NoEdge (values_to g a b r) (only_if (visits_edge g a b r) (square_at g r)) ∙ settle-only (settle (values_to g a b r)) (visits_edge g a b r) (square_at g r)

pub values-turn : (g : Grid) (a b r : ℕ) (k x : EdgeLength) → k ≡ settle (values_to g a b r) → x ≡ after_visit g a b r k → x ≡ settle (values_to g a b (r + 1))
values-turn g a b r k x hk hx = hx ∙ ap (after_visit g a b r) hk ∙ sym (values-more g a b r) ∙ ap (λ (n : ℕ). settle (values_to g a b n)) (sym (add-one r))

pub visited-yes : (g : Grid) (a b r : ℕ) (k x : EdgeLength) (t : Bool) (v : Float) → t ≡ visits_edge g a b r → t ≡ true → v ≡ square_at g r → x ≡ met_by k v → x ≡ after_visit g a b r k
visited-yes g a b r k x t v ht e hv hx = hx ∙ rw (← ht, e, hv)

pub visited-no : (g : Grid) (a b r : ℕ) (k : EdgeLength) (t : Bool) → t ≡ visits_edge g a b r → t ≡ false → k ≡ after_visit g a b r k
visited-no g a b r k t ht e = rw (← ht, e)

-- ---- the answer
module _ (g : Grid) (a b : GluedVertex) where
  pub edge-refused : (why : Refusal) → Err why ≡ sides_check_of g → Err why ≡ edge_length_of g a b
  unfolding edge_length_of
  edge-refused why e = rw (← e)

  pub edge-settled : (x : EdgeLength) → fine ≡ sides_check_of g → x ≡ settle (edge_values g a.0 b.0) → Ok x ≡ edge_length_of g a b
  unfolding edge_length_of
  edge-settled x e q = rw (← e, q)
