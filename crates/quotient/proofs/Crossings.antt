-- What `reduce` answers: the vertex that it always answered, with two sets that are empty past the last point. And a crossing tells its point: no two points of a grid that is taken have one vertex, the same wrapped axes and the same reversed ones. A wrapped coordinate is n; any other is found from the folded one, turned back where its axis came out reversed. Assumes nothing.
use Rattle.refusal.specs.Says.{Answer, fine}
use Rattle.std.specs.Prelude.{Err, Ok}
use mathlib.Core.Path.{◌≡◌, refl, sym, ap, ◌∙◌}
use mathlib.Core.Bool.{Bool, true, false, cond, ◌&&◌}
use mathlib.Core.Logic.{◌⊎◌, inl, inr, ⊎_elim}
use Prim.Native.Nat.{ℕ, zero, suc, ◌-◌, ◌%◌, ◌≤◌, ◌<◌}
use native.Mathlib.Nat.{mod_self, mod-eq_of_lt}
use native.Mathlib.Omega.{arith}
use lib.Dec.{eqb}
use borrow.Author.Tests.{eqb-true, eqb-false, lt-leb}
use Rattle.quotient.specs.declared.Crossing.{Crossing}
use Rattle.quotient.specs.declared.Grid.{Grid}
use Rattle.quotient.specs.declared.GridVertex.{GridVertex}
use Rattle.quotient.specs.Fold.{member}
use Rattle.quotient.specs.Shape.{cells_on, closed_at, check_of}
use Rattle.quotient.specs.Reduce.{coord_at, wrapped_at, folded_at, no_vertex, past_last, vertex_of, reversed_at, wrapped_set, reversed_set, crossing_of, reduced_after, reduce_of}
use Rattle.quotient.specs.Points.{points_of}
use Rattle.quotient.proofs.Laws.{lt-or-ge}
use Rattle.quotient.proofs.Points.{coord-le}
use Rattle.quotient.proofs.Radix.{point-one}
use Rattle.quotient.proofs.Onto.{vertex-one}
use Rattle.quotient.proofs.Seam.{reversed-turns, wrapped-member, reversed-member}

-- c below n, turned and modulo n: 0 for 0, else n - c
turned-mod : (n c : ℕ) → c < n → ((c ≡ 0) × ((n - c) % n ≡ 0)) ⊎ ((0 < c) × ((n - c) % n ≡ n - c))
turned-mod n zero h = inl (refl, let e : n - 0 ≡ n = omega arith in rw e (mod_self n))
turned-mod n (suc c) h = inr (omega arith, mod-eq_of_lt (let l : n - suc c < n = omega arith in l))

turned-back : (n c e : ℕ) → c < n → e < n → (n - c) % n ≡ (n - e) % n → c ≡ e
turned-back n c e hc he q =
    ⊎_elim
    (λ (x : (c ≡ 0) × ((n - c) % n ≡ 0)).
    ⊎_elim
    (λ (y : (e ≡ 0) × ((n - e) % n ≡ 0)). x.0 ∙ sym y.0)
    (λ (y : (0 < e) × ((n - e) % n ≡ n - e)). let a = x.1 in let b = y.1 in absurd (let w : ⊥ = omega arith in w))
    (turned-mod n e he))
    (λ (x : (0 < c) × ((n - c) % n ≡ n - c)).
    ⊎_elim
    (λ (y : (e ≡ 0) × ((n - e) % n ≡ 0)). let a = x.1 in let b = y.1 in absurd (let w : ⊥ = omega arith in w))
    (λ (y : (0 < e) × ((n - e) % n ≡ n - e)). let a = x.1 in let b = y.1 in let r : c ≡ e = omega arith in r)
    (turned-mod n e he))
    (turned-mod n c hc)

below_end : (c n : ℕ) → c ≤ n → eqb c n ≡ false → c < n
below_end c n l f = ⊎_elim (λ (m : c < n). m) (λ (m : n ≤ c). absurd (eqb-false c n f (omega arith))) (lt-or-ge c n)

-- a closed axis
closed-back : (o x : Bool) (n c e : ℕ) → c ≤ n → e ≤ n → eqb c n ≡ x → eqb e n ≡ x → cond o (n - c) c % n ≡ cond o (n - e) e % n → c ≡ e
closed-back o true n c e hc he wc we q = eqb-true c n wc ∙ sym (eqb-true e n we)
closed-back true false n c e hc he wc we q = turned-back n c e (below_end c n hc wc) (below_end e n he we) q
closed-back false false n c e hc he wc we q = sym (mod-eq_of_lt (below_end c n hc wc)) ∙ q ∙ mod-eq_of_lt (below_end e n he we)

-- any axis
coordinate-back : (b o : Bool) (n c e : ℕ) → c ≤ n → e ≤ n → b && eqb c n ≡ b && eqb e n → cond b (cond o (n - c) c % n) (cond o (n - c) c) ≡ cond b (cond o (n - e) e % n) (cond o (n - e) e) → c ≡ e
coordinate-back true o n c e hc he w q = closed-back o (eqb c n) n c e hc he refl (sym w) q
coordinate-back false true n c e hc he w q = omega arith
coordinate-back false false n c e hc he w q = q

module _ (g : Grid) (taken : check_of g ≡ fine) (p q : ℕ) (hp : p < points_of g) (hq : q < points_of g) where
  -- one vertex and the same sets
  pub sets-one : vertex_of g p ≡ vertex_of g q → wrapped_set g p ≡ wrapped_set g q → reversed_set g p ≡ reversed_set g q → p ≡ q
  sets-one x w r = point-one g p q hp hq each
    where
      each : (k : ℕ) → k < g.d → coord_at g p k ≡ coord_at g q k
      each k l =
          let wraps : wrapped_at g p k ≡ wrapped_at g q k = sym (wrapped-member g p k l) ∙ ap (λ (m : ℕ). member m k) w ∙ wrapped-member g q k l in
          let turns : reversed_at g p k ≡ reversed_at g q k = sym (reversed-member g p k l) ∙ ap (λ (m : ℕ). member m k) r ∙ reversed-member g q k l in
          let folds : folded_at g p k ≡ folded_at g q k = vertex-one g taken p q hp hq x k l in
          let told : cond (closed_at g k) (cond (reversed_at g q k) (cells_on g k - coord_at g p k) (coord_at g p k) % cells_on g k) (cond (reversed_at g q k) (cells_on g k - coord_at g p k) (coord_at g p k)) ≡ folded_at g p k =
          rw (← turns, ← (reversed-turns g p k)) in
          let last : folded_at g q k ≡ cond (closed_at g k) (cond (reversed_at g q k) (cells_on g k - coord_at g q k) (coord_at g q k) % cells_on g k) (cond (reversed_at g q k) (cells_on g k - coord_at g q k) (coord_at g q k)) =
          rw (reversed-turns g q k) in
          coordinate-back (closed_at g k) (reversed_at g q k) (cells_on g k) (coord_at g p k) (coord_at g q k) (coord-le g p k) (coord-le g q k) wraps (told ∙ folds ∙ last)

  inside-wrapped : (v : ℕ) → v < points_of g → (crossing_of g v).wrapped ≡ wrapped_set g v
  inside-wrapped v h = rw (lt-leb (points_of g) v h)

  inside-reversed : (v : ℕ) → v < points_of g → (crossing_of g v).reversed ≡ reversed_set g v
  inside-reversed v h = rw (lt-leb (points_of g) v h)

  -- a crossing tells its point
  pub crossing-one : crossing_of g p ≡ crossing_of g q → p ≡ q
  crossing-one e =
      sets-one (ap (λ (c : Crossing). c.vertex.0) e)
      (sym (inside-wrapped p hp) ∙ ap (λ (c : Crossing). c.wrapped) e ∙ inside-wrapped q hq)
      (sym (inside-reversed p hp) ∙ ap (λ (c : Crossing). c.reversed) e ∙ inside-reversed q hq)

-- ---- the answer

-- a crossing's vertex, for the crates above
pub crossing-vertex : (g : Grid) (v : ℕ) (c : Crossing) → c ≡ crossing_of g v → c.vertex.0 ≡ vertex_of g v
crossing-vertex g v c e = ap (λ (x : Crossing). x.vertex.0) e

reduced-crossing : (g : Grid) (v : GridVertex) (c : Crossing) → reduce_of g v ≡ Ok c → c ≡ crossing_of g v.0
unfolding reduce_of
reduced-crossing g v c e = after (check_of g) e
  where
    after : (a : Answer) → reduced_after a (Ok (crossing_of g v.0)) ≡ Ok c → c ≡ crossing_of g v.0
    after (Ok _) q = cc
    after (Err why) q = cc

-- the numbers are the same as before the sets
pub reduced-vertex : (g : Grid) (v : GridVertex) (c : Crossing) → reduce_of g v ≡ Ok c → c.vertex.0 ≡ vertex_of g v.0
reduced-vertex g v c e = ap (λ (x : Crossing). x.vertex.0) (reduced-crossing g v c e)

-- past the last grid point there is no vertex, and both sets are empty
pub reduced-past : (g : Grid) (v : GridVertex) (c : Crossing) → reduce_of g v ≡ Ok c → past_last g v.0 ≡ true → c ≡ record { vertex = record { 0 = no_vertex }; wrapped = 0; reversed = 0 }
reduced-past g v c e h = reduced-crossing g v c e ∙ rw h
