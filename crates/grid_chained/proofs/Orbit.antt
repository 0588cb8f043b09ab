-- Two points are joined exactly if one is the other turned along a choice of the axes at whose ends it lies; so the least point of a class is found by trying each choice. Assumes nothing.
use mathlib.Core.Path.{◌≡◌, refl, sym, subst, ◌∙◌}
use mathlib.Core.Bool.{Bool, true, false, cond, ◌&&◌, false≢true}
use mathlib.Core.Logic.{◌↔◌, inl, inr, ⊎_elim}
use Prim.Native.Nat.{ℕ, zero, suc, ◌-◌, ◌≤◌, ◌<◌, min}
use native.Mathlib.Nat.{le_refl}
use native.Mathlib.Omega.{arith}
use lib.Dec.{eqb}
use borrow.Author.Tests.{eqb-true, eq-eqb}
use Rattle.quotient.specs.declared.Grid.{Grid}
use Rattle.quotient.specs.Fold.{member}
use Rattle.quotient.specs.Shape.{cells_on, closed_at, mask_at}
use Rattle.quotient.specs.Reduce.{coord_at}
use Rattle.quotient.specs.Points.{points_of}
use Rattle.quotient.specs.Chain.{stepped_to, Step, Joined, same, on, back}
use Rattle.quotient.proofs.Laws.{lt-or-ge}
use Rattle.quotient.proofs.Points.{coord-le}
use Rattle.quotient.proofs.Radix.{point-one}
use Rattle.quotient.proofs.Chain.{joined-trans}
use Rattle.grid_chained.specs.Classing.{Least}
use Rattle.grid_chained.specs.WorkTurn.{end_at, turns_at, turn, across_of, least_below}
use Rattle.grid_chained.proofs.Turns.{sum_at, least_of}
use Rattle.grid_chained.proofs.Turns.{turn_twice, is_end, end_of, of_end, across_lt, across-coord, sum-end, sum-across, toggled, sum-toggled}

and_left : (a b : Bool) → a && b ≡ true → a ≡ true
and_left true b e = refl
and_left false b e = e

and_right : (a b : Bool) → a && b ≡ true → b ≡ true
and_right true b e = e
and_right false b e = absurd (false≢true e)

-- by a test
pick : (A : Type 0) (b : Bool) → (b ≡ true → A) → (b ≡ false → A) → A
pick A true f h = f refl
pick A false f h = h refl

module _ (g : Grid) where
  -- ---- a step turns the point, from either end
  module _ (p q : ℕ) (s : Step g p q) where
    pub step-turns : (k : ℕ) → k < g.d → coord_at g q k ≡ turn (turns_at g s.axis k) (cells_on g k) (coord_at g p k)
    step-turns k l = s.moved k l ∙ by-axis (eqb k s.axis) refl
      where
        by-axis : (b : Bool) → eqb k s.axis ≡ b → stepped_to g p s.axis k ≡ turn (turns_at g s.axis k) (cells_on g k) (coord_at g p k)
        by-axis true e =
            let z : k ≡ s.axis = eqb-true k s.axis e in
            let y : coord_at g p k ≡ cells_on g k = rw z s.last in
            rw (e, y) (let w : 0 ≡ cells_on g k - cells_on g k = omega arith in w)
        by-axis false e = rw e

    pub step_end : end_at g p s.axis ≡ true
    step_end = rw s.closed (end_of (coord_at g p s.axis) (cells_on g s.axis) (inr s.last))

    pub step-across : q ≡ across_of g p s.axis
    step-across = point-one g q (across_of g p s.axis) s.second (across_lt g p s.axis) (λ k l. step-turns k l ∙ sym (across-coord g p s.axis k l))

    -- and back again
    pub back-turns : (k : ℕ) → k < g.d → coord_at g p k ≡ turn (turns_at g s.axis k) (cells_on g k) (coord_at g q k)
    back-turns k l = sym (rw (step-turns k l) (turn_twice (turns_at g s.axis k) (cells_on g k) (coord_at g p k) (coord-le g p k)))

    pub back_end : end_at g q s.axis ≡ true
    back_end = rw s.closed (end_of (coord_at g q s.axis) (cells_on g s.axis) (inl (s.moved s.axis s.within ∙ rw (eq-eqb s.axis s.axis refl))))

  -- ---- at an end the point across is joined
  module _ (p a : ℕ) (h : p < points_of g) (l : a < g.d) (e : end_at g p a ≡ true) where
    shut : closed_at g a ≡ true
    shut = and_left (closed_at g a) (is_end (coord_at g p a) (cells_on g a)) e

    own-axis : coord_at g (across_of g p a) a ≡ cells_on g a - coord_at g p a
    own-axis = across-coord g p a a l ∙ rw (eq-eqb a a refl)

    other-axis : (k : ℕ) → k < g.d → eqb k a ≡ false → coord_at g (across_of g p a) k ≡ turn (member (mask_at g a) k) (cells_on g k) (coord_at g p k)
    other-axis k m f = across-coord g p a k m ∙ rw f

    -- from the far end the step leads there
    there : coord_at g p a ≡ cells_on g a → Step g p (across_of g p a)
    there far =
        record {
          axis = a;
          within = l;
          closed = shut;
          first = h;
          second = across_lt g p a;
          last = far;
          moved = λ k m. by-axis k m (eqb k a) refl;
        }
      where
        by-axis : (k : ℕ) → k < g.d → (b : Bool) → eqb k a ≡ b → coord_at g (across_of g p a) k ≡ stepped_to g p a k
        by-axis k m true f = let z : k ≡ a = eqb-true k a f in rw (f, z) (own-axis ∙ (let w : cells_on g a - coord_at g p a ≡ 0 = omega arith in w))
        by-axis k m false f = rw f (other-axis k m f)

    -- from the near end it comes from there
    here : coord_at g p a ≡ 0 → Step g (across_of g p a) p
    here near =
        record {
          axis = a;
          within = l;
          closed = shut;
          first = across_lt g p a;
          second = h;
          last = own-axis ∙ (let w : cells_on g a - coord_at g p a ≡ cells_on g a = omega arith in w);
          moved = λ k m. by-axis k m (eqb k a) refl;
        }
      where
        by-axis : (k : ℕ) → k < g.d → (b : Bool) → eqb k a ≡ b → coord_at g p k ≡ stepped_to g (across_of g p a) a k
        by-axis k m true f = let z : k ≡ a = eqb-true k a f in rw (f, z) near
        by-axis k m false f = rw (f, other-axis k m f) (sym (turn_twice (member (mask_at g a) k) (cells_on g k) (coord_at g p k) (coord-le g p k)))

    pub across-joined : Joined g p (across_of g p a)
    across-joined =
        ⊎_elim
        (λ (z : coord_at g p a ≡ 0). back same (here z))
        (λ (z : coord_at g p a ≡ cells_on g a). on same (there z))
        (of_end (coord_at g p a) (cells_on g a) (and_right (closed_at g a) (is_end (coord_at g p a) (cells_on g a)) e))

  -- ---- what a chain does: a sum of turns

  -- q is p turned along the axes below a that are chosen and have p at an end
  pub record Sum (p q : ℕ) (a : ℕ) : Type 0 where
    pub chosen : ℕ → Bool
    pub coords : (k : ℕ) → k < g.d → coord_at g q k ≡ sum_at g chosen p k a

  -- one turn more, along an axis that the last point lies at an end of
  sum_more : (p q r a : ℕ) → Sum p q g.d → a < g.d → end_at g q a ≡ true → ((k : ℕ) → k < g.d → coord_at g r k ≡ turn (turns_at g a k) (cells_on g k) (coord_at g q k)) → Sum p r g.d
  sum_more p q r a s l e t =
      let z : end_at g p a ≡ true = subst (λ (x : Bool). closed_at g a && x ≡ true) (sum-end g s.chosen p a g.d) (subst (λ (c : ℕ). closed_at g a && is_end c (cells_on g a) ≡ true) (s.coords a l) e) in
      record { chosen = toggled g s.chosen a; coords = λ k m. t k m ∙ rw (s.coords k m) (sym (sum-toggled g s.chosen p a k z g.d l)) }

  sum-none : (s : ℕ → Bool) → ((b : ℕ) → s b ≡ false) → (p k a : ℕ) → sum_at g s p k a ≡ coord_at g p k
  unfolding sum_at
  sum-none s f p k zero = refl
  sum-none s f p k (suc a) = rw (f a) (sum-none s f p k a)

  chain-sum : {p q : ℕ} → Joined g p q → Sum p q g.d
  chain-sum (same {p = p}) = record { chosen = λ b. false; coords = λ k l. sym (sum-none (λ b. false) (λ b. refl) p k g.d) }
  chain-sum {p} (on {q = q} {r = r} j s) = sum_more p q r s.axis (chain-sum j) s.within (step_end q r s) (step-turns q r s)
  chain-sum {p} (back {q = q} {r = r} j s) = sum_more p q r s.axis (chain-sum j) s.within (back_end r q s) (back-turns r q s)

  -- ---- the last axis of a sum is turned first, or not at all
  module _ (s : ℕ → Bool) (p q a : ℕ) (u : a < g.d) (c : (k : ℕ) → k < g.d → coord_at g q k ≡ sum_at g s p k (suc a)) where
    stays : s a && end_at g p a ≡ false → (k : ℕ) → k < g.d → coord_at g q k ≡ sum_at g s p k a
    unfolding sum_at
    stays f k l = c k l ∙ by_cases (s a) (end_at g p a) (turns_at g a k) f
      where
        by_cases : (x y t : Bool) → x && y ≡ false → turn (x && (y && t)) (cells_on g k) (sum_at g s p k a) ≡ sum_at g s p k a
        by_cases true true t f = absurd (false≢true (sym f))
        by_cases true false t f = refl
        by_cases false y t f = refl

    goes : s a && end_at g p a ≡ true → (k : ℕ) → k < g.d → coord_at g q k ≡ sum_at g s (across_of g p a) k a
    unfolding sum_at
    goes f k l =
        let v : a ≤ g.d = omega arith in
        c k l ∙ by_cases (s a) (end_at g p a) (turns_at g a k) f ∙ sym (sum-across g s p a k l a v)
      where
        by_cases : (x y t : Bool) → x && y ≡ true → turn (x && (y && t)) (cells_on g k) (sum_at g s p k a) ≡ turn t (cells_on g k) (sum_at g s p k a)
        by_cases true true t f = refl
        by_cases true false t f = absurd (false≢true f)
        by_cases false y t f = absurd (false≢true f)

  sum-joined : (s : ℕ → Bool) (a p q : ℕ) → a ≤ g.d → p < points_of g → q < points_of g → ((k : ℕ) → k < g.d → coord_at g q k ≡ sum_at g s p k a) → Joined g p q
  unfolding sum_at
  sum-joined s zero p q h hp hq c = subst (λ (x : ℕ). Joined g p x) (sym (point-one g q p hq hp c)) same
  sum-joined s (suc a) p q h hp hq c =
      let u : a < g.d = omega arith in
      let v : a ≤ g.d = omega arith in
      pick (Joined g p q) (s a && end_at g p a)
      (λ f. joined-trans (across-joined p a hp u (and_right (s a) (end_at g p a) f)) (sum-joined s a (across_of g p a) q v (across_lt g p a) hq (goes s p q a u c f)))
      (λ f. sum-joined s a p q v hp hq (stays s p q a u c f))

  -- two points are joined exactly if one is the other turned along some of the axes at whose ends it lies
  pub orbit : (p q : ℕ) → p < points_of g → q < points_of g → Joined g p q ↔ Sum p q g.d
  orbit p q hp hq = (λ j. chain-sum j, λ s. sum-joined s.chosen g.d p q (le_refl g.d) hp hq s.coords)

  -- ---- the least point
  least_lt : (a p : ℕ) → p < points_of g → least_below g a p < points_of g
  unfolding least_below
  least_lt zero p h = h
  least_lt (suc a) p h =
      let x : least_below g a p < points_of g = least_lt a p h in
      by_end (end_at g p a) (least_below g a p) (least_below g a (across_of g p a)) x
    where
      by_end : (b : Bool) (x y : ℕ) → x < points_of g → cond b (min x y) x < points_of g
      by_end true x y h = omega arith
      by_end false x y h = h

  least-joined : (a p : ℕ) → a ≤ g.d → p < points_of g → Joined g p (least_below g a p)
  unfolding least_below
  least-joined zero p u h = same
  least-joined (suc a) p u h =
      let l : a < g.d = omega arith in
      let v : a ≤ g.d = omega arith in
      let x : Joined g p (least_below g a p) = least-joined a p v h in
      pick (Joined g p (least_below g (suc a) p)) (end_at g p a)
      (λ e.
      let y : Joined g p (least_below g a (across_of g p a)) = joined-trans (across-joined p a h l e) (least-joined a (across_of g p a) v (across_lt g p a)) in
      rw e (one_of (least_below g a p) (least_below g a (across_of g p a)) x y))
      (λ e. rw e x)
    where
      one_of : (x y : ℕ) → Joined g p x → Joined g p y → Joined g p (min x y)
      one_of x y jx jy =
          ⊎_elim
          (λ (l : x < y). let e : x ≡ min x y = omega arith in subst (λ (z : ℕ). Joined g p z) e jx)
          (λ (l : y ≤ x). let e : y ≡ min x y = omega arith in subst (λ (z : ℕ). Joined g p z) e jy)
          (lt-or-ge x y)

  least-le : (s : ℕ → Bool) (a p q : ℕ) → a ≤ g.d → p < points_of g → q < points_of g → ((k : ℕ) → k < g.d → coord_at g q k ≡ sum_at g s p k a) → least_below g a p ≤ q
  unfolding least_below sum_at
  least-le s zero p q u hp hq c = let e : q ≡ p = point-one g q p hq hp c in omega arith
  least-le s (suc a) p q u hp hq c =
      let l : a < g.d = omega arith in
      let v : a ≤ g.d = omega arith in
      pick (least_below g (suc a) p ≤ q) (s a && end_at g p a)
      (λ f.
      let y : least_below g a (across_of g p a) ≤ q = least-le s a (across_of g p a) q v (across_lt g p a) hq (goes s p q a l c f) in
      rw (and_right (s a) (end_at g p a) f) (omega arith))
      (λ f.
      let x : least_below g a p ≤ q = least-le s a p q v hp hq (stays s p q a l c f) in
      either (end_at g p a) (least_below g a p) (least_below g a (across_of g p a)) x)
    where
      either : (b : Bool) (x y : ℕ) → x ≤ q → cond b (min x y) x ≤ q
      either true x y h = omega arith
      either false x y h = h

  -- it is the least point of the class
  pub least-law : (p : ℕ) → p < points_of g → Least g p (least_of g p)
  least-law p h =
      record {
        within = least_lt g.d p h;
        chain = least-joined g.d p (le_refl g.d) h;
        first = λ r l j. let s : Sum p r g.d = chain-sum j in least-le s.chosen g.d p r (le_refl g.d) h l s.coords;
      }
