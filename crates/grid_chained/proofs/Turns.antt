-- Turning a point round along an axis: a turn undoes itself, turns commute, and a turned point lies at the ends of the same axes. Assumes nothing.
use mathlib.Core.Path.{◌≡◌, refl, sym, ap, subst, ◌∙◌}
use mathlib.Core.Bool.{Bool, true, false, cond, ◌&&◌, ◌||◌, not}
use mathlib.Core.Logic.{◌⊎◌, inl, inr, ⊎_elim}
use Prim.Native.Nat.{ℕ, zero, suc, ◌-◌, ◌≤◌, ◌<◌}
use native.Mathlib.Nat.{not-suc-le-zero}
use native.Mathlib.Omega.{arith}
use lib.Dec.{eqb}
use borrow.Author.Tests.{eqb-true, eq-eqb, ne_eqb}
use Rattle.quotient.specs.declared.Axis.{Axis}
use Rattle.quotient.specs.declared.Grid.{Grid}
use Rattle.quotient.specs.Fold.{member}
use Rattle.quotient.specs.Shape.{axis_of, closed_of, mask_of, cells_on, closed_at}
use Rattle.quotient.specs.Reduce.{coord_at}
use Rattle.quotient.specs.Points.{points_of}
use Rattle.quotient.proofs.Laws.{lt-or-eq}
use Rattle.quotient.proofs.Points.{coord-le}
use Rattle.quotient.proofs.Radix.{point-lt, coord-of-point}
use Rattle.grid_chained.specs.WorkTurn.{end_at, turns_at, turn, across_of, least_below}

-- coordinate k of point p, turned once for each axis below a that is chosen, has p at an end, and turns k
unfoldable pub sum_at : Grid → (ℕ → Bool) → ℕ → ℕ → ℕ → ℕ
sum_at g chosen p k zero = coord_at g p k
sum_at g chosen p k (suc a) = turn (chosen a && (end_at g p a && turns_at g a k)) (cells_on g k) (sum_at g chosen p k a)

-- the least point of p's class
abbrev pub least_of : Grid → ℕ → ℕ
least_of g p = least_below g g.d p

pub turn_twice : (b : Bool) (n c : ℕ) → c ≤ n → turn b n (turn b n c) ≡ c
turn_twice true n c h = omega arith
turn_twice false n c h = refl

pub turn-swap : (a b : Bool) (n c : ℕ) → turn a n (turn b n c) ≡ turn b n (turn a n c)
turn-swap true true n c = refl
turn-swap true false n c = refl
turn-swap false true n c = refl
turn-swap false false n c = refl

pub turn-le : (b : Bool) (n c : ℕ) → c ≤ n → turn b n c ≤ n
turn-le true n c h = omega arith
turn-le false n c h = h

-- c is an end of an axis of n cells
abbrev pub is_end : ℕ → ℕ → Bool
is_end c n = eqb c 0 || eqb c n

pub or_cases : (a b : Bool) → a || b ≡ true → (a ≡ true) ⊎ (b ≡ true)
or_cases true b e = inl refl
or_cases false b e = inr e

or_right : (a : Bool) → a || true ≡ true
or_right true = refl
or_right false = refl

pub end_of : (c n : ℕ) → (c ≡ 0) ⊎ (c ≡ n) → is_end c n ≡ true
end_of c n h = ⊎_elim (λ (e : c ≡ 0). rw (eq-eqb c 0 e)) (λ (e : c ≡ n). rw (eq-eqb c n e) (or_right (eqb c 0))) h

pub of_end : (c n : ℕ) → is_end c n ≡ true → (c ≡ 0) ⊎ (c ≡ n)
of_end c n e = ⊎_elim (λ (x : eqb c 0 ≡ true). inl (eqb-true c 0 x)) (λ (x : eqb c n ≡ true). inr (eqb-true c n x)) (or_cases (eqb c 0) (eqb c n) e)

-- two tests that follow from one another are equal
both_ways : (a b : Bool) → (a ≡ true → b ≡ true) → (b ≡ true → a ≡ true) → a ≡ b
both_ways true b f h = sym (f refl)
both_ways false true f h = h refl
both_ways false false f h = refl

flip-end : (c n : ℕ) → c ≤ n → (c ≡ 0) ⊎ (c ≡ n) → (n - c ≡ 0) ⊎ (n - c ≡ n)
flip-end c n h x = ⊎_elim (λ (e : c ≡ 0). inr (omega arith)) (λ (e : c ≡ n). inl (omega arith)) x

flip-back : (c n : ℕ) → c ≤ n → (n - c ≡ 0) ⊎ (n - c ≡ n) → (c ≡ 0) ⊎ (c ≡ n)
flip-back c n h x = ⊎_elim (λ (e : n - c ≡ 0). inr (omega arith)) (λ (e : n - c ≡ n). inl (omega arith)) x

pub turn_end : (b : Bool) (n c : ℕ) → c ≤ n → is_end (turn b n c) n ≡ is_end c n
turn_end true n c h =
    both_ways (is_end (n - c) n) (is_end c n) (λ e. end_of c n (flip-back c n h (of_end (n - c) n e))) (λ e. end_of (n - c) n (flip-end c n h (of_end c n e)))
turn_end false n c h = refl

module _ (g : Grid) where
  -- ---- the point across an axis
  module _ (p a : ℕ) where
    across-le : (k : ℕ) → k < g.d → turn (turns_at g a k) (cells_on g k) (coord_at g p k) ≤ cells_on g k
    across-le k l = turn-le (turns_at g a k) (cells_on g k) (coord_at g p k) (coord-le g p k)

    pub across_lt : across_of g p a < points_of g
    across_lt = point-lt g (λ k. turn (turns_at g a k) (cells_on g k) (coord_at g p k)) across-le

    pub across-coord : (k : ℕ) → k < g.d → coord_at g (across_of g p a) k ≡ turn (turns_at g a k) (cells_on g k) (coord_at g p k)
    across-coord = coord-of-point g (λ k. turn (turns_at g a k) (cells_on g k) (coord_at g p k)) across-le

    -- it lies at the ends of the same axes
    pub across-end : (b : ℕ) → b < g.d → end_at g (across_of g p a) b ≡ end_at g p b
    across-end b l = rw (across-coord b l) (ap (λ (x : Bool). closed_at g b && x) (turn_end (turns_at g a b) (cells_on g b) (coord_at g p b) (coord-le g p b)))

  -- ---- sums of turns
  module _ (s : ℕ → Bool) (p k : ℕ) where
    pub sum-le : (a : ℕ) → sum_at g s p k a ≤ cells_on g k
    unfolding sum_at
    sum-le zero = coord-le g p k
    sum-le (suc a) = turn-le (s a && (end_at g p a && turns_at g a k)) (cells_on g k) (sum_at g s p k a) (sum-le a)

    pub sum-end : (a : ℕ) → is_end (sum_at g s p k a) (cells_on g k) ≡ is_end (coord_at g p k) (cells_on g k)
    unfolding sum_at
    sum-end zero = refl
    sum-end (suc a) = turn_end (s a && (end_at g p a && turns_at g a k)) (cells_on g k) (sum_at g s p k a) (sum-le a) ∙ sum-end a

  -- a sum from the point across axis b is the sum from p, turned once more
  pub sum-across : (s : ℕ → Bool) (p b k : ℕ) → k < g.d → (a : ℕ) → a ≤ g.d → sum_at g s (across_of g p b) k a ≡ turn (turns_at g b k) (cells_on g k) (sum_at g s p k a)
  unfolding sum_at
  sum-across s p b k l zero h = across-coord p b k l
  sum-across s p b k l (suc a) h =
      let u : a < g.d = omega arith in
      let v : a ≤ g.d = omega arith in
      rw (across-end p b a u, sum-across s p b k l a v) (turn-swap (s a && (end_at g p a && turns_at g a k)) (turns_at g b k) (cells_on g k) (sum_at g s p k a))

  -- the choice with axis a taken in, or taken out
  abbrev pub toggled : (ℕ → Bool) → ℕ → ℕ → Bool
  toggled s a b = cond (eqb b a) (not (s b)) (s b)

  module _ (s : ℕ → Bool) (p a k : ℕ) (e : end_at g p a ≡ true) where
    sum-before : (m : ℕ) → m ≤ a → sum_at g (toggled s a) p k m ≡ sum_at g s p k m
    unfolding sum_at
    sum-before zero h = refl
    sum-before (suc m) h =
        let n : m ≡ a → ⊥ = omega arith in
        let u : m ≤ a = omega arith in
        rw (ne_eqb m a n, sum-before m u)

    sum-here : sum_at g (toggled s a) p k (suc a) ≡ turn (turns_at g a k) (cells_on g k) (sum_at g s p k (suc a))
    unfolding sum_at
    sum-here =
        let u : a ≤ a = omega arith in
        rw (eq-eqb a a refl, sum-before a u, e) (by_cases (s a) (turns_at g a k) (cells_on g k) (sum_at g s p k a) (sum-le s p k a))
      where
        by_cases : (x t : Bool) (n c : ℕ) → c ≤ n → turn (not x && (true && t)) n c ≡ turn t n (turn (x && (true && t)) n c)
        by_cases true true n c h = omega arith
        by_cases true false n c h = refl
        by_cases false true n c h = refl
        by_cases false false n c h = refl

    pub sum-toggled : (m : ℕ) → a < m → sum_at g (toggled s a) p k m ≡ turn (turns_at g a k) (cells_on g k) (sum_at g s p k m)
    unfolding sum_at
    sum-toggled zero h = absurd (not-suc-le-zero h)
    sum-toggled (suc m) h =
        ⊎_elim
        (λ (l : a < m).
        let n : m ≡ a → ⊥ = omega arith in
        rw (ne_eqb m a n, sum-toggled m l) (turn-swap (s m && (end_at g p m && turns_at g m k)) (turns_at g a k) (cells_on g k) (sum_at g s p k m)))
        (λ (l : a ≡ m). subst (λ (x : ℕ). sum_at g (toggled s a) p k (suc x) ≡ turn (turns_at g a k) (cells_on g k) (sum_at g s p k (suc x))) l sum-here)
        (lt-or-eq a m h)

-- ---- the tests of the code
module _ (g : Grid) (v a : ℕ) (x : Axis) (hx : x ≡ axis_of g a) where
  shut-as : (b : Bool) → closed_of x.glue ≡ b → closed_at g a ≡ b
  shut-as b t = ap (λ (y : Axis). closed_of y.glue) (sym hx) ∙ t

  pub end-near : closed_of x.glue ≡ true → (c : ℕ) → c ≡ coord_at g v a → c ≡ 0 → true ≡ end_at g v a
  end-near t c hc e = sym (rw (shut-as true t) (end_of (coord_at g v a) (cells_on g a) (inl (sym hc ∙ e))))

  pub end-far : closed_of x.glue ≡ true → (c : ℕ) → c ≡ coord_at g v a → (c ≡ 0 → ⊥) → eqb c x.count ≡ end_at g v a
  end-far t c hc n = rw (shut-as true t, ← hc, ne_eqb c 0 n, hx)

  pub end-open : closed_of x.glue ≡ false → false ≡ end_at g v a
  end-open t = rw (shut-as false t)

module _ (g : Grid) (a k : ℕ) where
  pub turns-own : k ≡ a → true ≡ turns_at g a k
  turns-own e = rw (eq-eqb k a e)

  pub turns-set : (x : Axis) (m : ℕ) (r : Bool) → x ≡ axis_of g a → m ≡ mask_of x.glue → (k ≡ a → ⊥) → r ≡ member m k → r ≡ turns_at g a k
  turns-set x m r hx hm n hr = hr ∙ rw (ne_eqb k a n, hm, hx)
