-- Where no axis with a non-empty set is itself reflected, both modes make the same classes: a renaming leads from each vertex of the first mode to a class, and back. Assumes nothing.
use Rattle.refusal.specs.Says.{fine}
use mathlib.Core.Path.{◌≡◌, refl, sym, ap, subst, ◌∙◌}
use mathlib.Core.Bool.{Bool, true, false, cond, false≢true}
use mathlib.Core.Logic.{⊎_elim}
use Prim.Native.Nat.{ℕ, zero, suc, ◌≤◌, ◌<◌}
use native.Mathlib.Nat.{not-suc-le-zero}
use native.Mathlib.Omega.{arith}
use lib.Dec.{eqb}
use borrow.Author.Tests.{eqb-true, eqb-false, eq-eqb}
use Rattle.quotient.specs.declared.Grid.{Grid}
use Rattle.lists.specs.Words.{first_where}
use Rattle.lists.proofs.Words.{first-full, first_found}
use Rattle.quotient.specs.Shape.{vertices_of, check_of}
use Rattle.quotient.specs.Reduce.{vertex_of}
use Rattle.quotient.specs.Points.{points_of}
use Rattle.quotient.specs.Chain.{Untangled}
use Rattle.quotient.proofs.Laws.{lt-or-ge, lt-or-eq}
use Rattle.quotient.proofs.Onto.{vertex-lt, onto}
use Rattle.quotient.proofs.Chain.{chain-law}
use Rattle.grid_chained.specs.Classing.{Classing}
use Rattle.grid_chained.specs.Laws.{Renamed}

-- ---- a search that finds

found : (f : ℕ → Bool) (n i : ℕ) → i < n → f i ≡ true → (first_where f n < n) × (f (first_where f n) ≡ true)
found f n i l e =
    ⊎_elim
    (λ (m : first_where f n < n). (m, first_found f n m))
    (λ (m : n ≤ first_where f n). absurd (false≢true (sym (first-full f n m i l) ∙ e)))
    (lt-or-ge (first_where f n) n)

-- ---- numbers below m that stay apart below n are no more than n

-- a place's value, with the last value put where n was
abbrev moved : (ℕ → ℕ) → ℕ → ℕ → ℕ → ℕ
moved f m n i = cond (eqb (f i) n) (f m) (f i)

apart-le : (m n : ℕ) (f : ℕ → ℕ) → ((i : ℕ) → i < m → f i < n) → ((i j : ℕ) → i < m → j < m → f i ≡ f j → i ≡ j) → m ≤ n
apart-le zero n f below one = omega arith
apart-le (suc m) zero f below one = absurd (not-suc-le-zero (below m (omega arith)))
apart-le (suc m) (suc n) f below one = let h : m ≤ n = apart-le m n (moved f m n) below' one' in omega arith
  where
    last : (i : ℕ) → i < m → f i ≡ n → f m < n
    last i l e = let x : f m < suc n = below m (omega arith) in ⊎_elim (λ (u : f m < n). u) (λ (u : f m ≡ n). let z : i ≡ m = one i m (omega arith) (omega arith) (e ∙ sym u) in absurd (let w : ⊥ = omega arith in w)) (lt-or-eq (f m) n x)

    under : (i : ℕ) → i < m → (f i ≡ n → ⊥) → f i < n
    under i l e = let x : f i < suc n = below i (omega arith) in ⊎_elim (λ (u : f i < n). u) (λ (u : f i ≡ n). absurd (e u)) (lt-or-eq (f i) n x)

    below' : (i : ℕ) → i < m → moved f m n i < n
    below' i l = by-test (eqb (f i) n) refl
      where
        by-test : (b : Bool) → eqb (f i) n ≡ b → cond b (f m) (f i) < n
        by-test true e = last i l (eqb-true (f i) n e)
        by-test false e = under i l (eqb-false (f i) n e)

    one' : (i j : ℕ) → i < m → j < m → moved f m n i ≡ moved f m n j → i ≡ j
    one' i j li lj q = by_tests (eqb (f i) n) (eqb (f j) n) refl refl q
      where
        by_tests : (a b : Bool) → eqb (f i) n ≡ a → eqb (f j) n ≡ b → cond a (f m) (f i) ≡ cond b (f m) (f j) → i ≡ j
        by_tests true true x y z = one i j (omega arith) (omega arith) (eqb-true (f i) n x ∙ sym (eqb-true (f j) n y))
        by_tests true false x y z = let w : m ≡ j = one m j (omega arith) (omega arith) z in absurd (let v : ⊥ = omega arith in v)
        by_tests false true x y z = let w : i ≡ m = one i m (omega arith) (omega arith) z in absurd (let v : ⊥ = omega arith in v)
        by_tests false false x y z = one i j (omega arith) (omega arith) z

-- ---- the renaming

-- the class of vertex x: that of its first point; and the vertex of class y
abbrev pub class_of_vertex : Grid → (ℕ → ℕ) → ℕ → ℕ
class_of_vertex g c x = c (first_where (λ p. eqb (vertex_of g p) x) (points_of g))

abbrev pub vertex_of_class : Grid → (ℕ → ℕ) → ℕ → ℕ
vertex_of_class g c y = vertex_of g (first_where (λ p. eqb (c p) y) (points_of g))

module _ (g : Grid) (taken : check_of g ≡ fine) (untangled : Untangled g) (c : ℕ → ℕ) (m : ℕ) (k : Classing g c m) where
  pub class-is : (p : ℕ) → p < points_of g → class_of_vertex g c (vertex_of g p) ≡ c p
  class-is p h =
      let w = found (λ q. eqb (vertex_of g q) (vertex_of g p)) (points_of g) p h (eq-eqb (vertex_of g p) (vertex_of g p) refl) in
      let q : ℕ = first_where (λ q. eqb (vertex_of g q) (vertex_of g p)) (points_of g) in
      let e : vertex_of g q ≡ vertex_of g p = eqb-true (vertex_of g q) (vertex_of g p) w.1 in
      (k.classes q p w.0 h).1 ((chain-law g taken untangled q p w.0 h).0 e)

  pub vertex-is : (p : ℕ) → p < points_of g → vertex_of_class g c (c p) ≡ vertex_of g p
  vertex-is p h =
      let w = found (λ q. eqb (c q) (c p)) (points_of g) p h (eq-eqb (c p) (c p) refl) in
      let q : ℕ = first_where (λ q. eqb (c q) (c p)) (points_of g) in
      let e : c q ≡ c p = eqb-true (c q) (c p) w.1 in
      (chain-law g taken untangled q p w.0 h).1 ((k.classes q p w.0 h).0 e)

  to-lt : (x : ℕ) → x < vertices_of g → class_of_vertex g c x < m
  to-lt x h = let f = onto g taken x h in subst (λ (y : ℕ). class_of_vertex g c y < m) f.vertex (subst (λ (y : ℕ). y < m) (sym (class-is f.point f.within)) (k.below f.point f.within))

  from-lt : (y : ℕ) → y < m → vertex_of_class g c y < vertices_of g
  from-lt y h = let w = k.each y h in subst (λ (z : ℕ). vertex_of_class g c z < vertices_of g) w.2 (subst (λ (z : ℕ). z < vertices_of g) (sym (vertex-is w.0 w.1)) (vertex-lt g taken w.0 w.1))

  there-is : (x : ℕ) → x < vertices_of g → vertex_of_class g c (class_of_vertex g c x) ≡ x
  there-is x h =
      let f = onto g taken x h in
      subst (λ (y : ℕ). vertex_of_class g c (class_of_vertex g c y) ≡ y) f.vertex (ap (vertex_of_class g c) (class-is f.point f.within) ∙ vertex-is f.point f.within)

  back_is : (y : ℕ) → y < m → class_of_vertex g c (vertex_of_class g c y) ≡ y
  back_is y h =
      let w = k.each y h in
      subst (λ (z : ℕ). class_of_vertex g c (vertex_of_class g c z) ≡ z) w.2 (ap (class_of_vertex g c) (vertex-is w.0 w.1) ∙ class-is w.0 w.1)

  -- both modes make the same classes
  pub both-modes : Renamed g c m
  both-modes =
      let a : vertices_of g ≤ m = apart-le (vertices_of g) m (class_of_vertex g c) to-lt (λ i j li lj e. sym (there-is i li) ∙ ap (vertex_of_class g c) e ∙ there-is j lj) in
      let b : m ≤ vertices_of g = apart-le m (vertices_of g) (vertex_of_class g c) from-lt (λ i j li lj e. sym (back_is i li) ∙ ap (class_of_vertex g c) e ∙ back_is j lj) in
      record {
        to = class_of_vertex g c;
        from = vertex_of_class g c;
        class = class-is;
        vertex = vertex-is;
        to_below = to-lt;
        from_below = from-lt;
        there = there-is;
        back = back_is;
        many = omega arith;
      }
