-- A step in the code's words: it leaves where an axis is wrapped and leads to the point with the stepped coordinates. Assumes nothing.
use mathlib.Core.Path.{◌≡◌, refl, sym, ap, ◌∙◌}
use mathlib.Core.Bool.{Bool, true, false, cond, ◌&&◌, false≢true}
use Prim.Native.Nat.{ℕ, ◌-◌, ◌≤◌, ◌<◌}
use native.Mathlib.Omega.{arith}
use lib.Dec.{eqb}
use borrow.Author.Tests.{eqb-true, eq-eqb, ne_eqb}
use Rattle.quotient.specs.declared.Axis.{Axis}
use Rattle.quotient.specs.declared.Grid.{Grid}
use Rattle.quotient.specs.Fold.{member}
use Rattle.quotient.specs.Shape.{axis_of, closed_of, mask_of, cells_on, closed_at, mask_at}
use Rattle.quotient.specs.Reduce.{coord_at, wrapped_at}
use Rattle.quotient.specs.Points.{points_of, point_of}
use Rattle.quotient.specs.Chain.{stepped_to, Step}
use Rattle.quotient.proofs.Points.{coord-le}
use Rattle.quotient.proofs.Radix.{point-lt, coord-of-point, point-one}

both : (a b : Bool) → a && b ≡ true → (a ≡ true) × (b ≡ true)
both true b e = (refl, e)
both false b e = absurd (false≢true e)

module _ (g : Grid) where
  module _ (p a : ℕ) where
    pub stepped-le : (k : ℕ) → stepped_to g p a k ≤ cells_on g k
    stepped-le k = by_tests (eqb k a) (member (mask_at g a) k) (cells_on g k) (coord_at g p k) (coord-le g p k)
      where
        by_tests : (b s : Bool) (n c : ℕ) → c ≤ n → cond b 0 (cond s (n - c) c) ≤ n
        by_tests true s n c h = omega arith
        by_tests false true n c h = omega arith
        by_tests false false n c h = h

    pub stepped-lt : point_of g (stepped_to g p a) < points_of g
    stepped-lt = point-lt g (stepped_to g p a) (λ k l. stepped-le k)

    -- where axis a is wrapped a step leads to the stepped point
    pub step-there : p < points_of g → a < g.d → wrapped_at g p a ≡ true → Step g p (point_of g (stepped_to g p a))
    step-there h l e =
        let w = both (closed_at g a) (eqb (coord_at g p a) (cells_on g a)) e in
        record {
          axis = a;
          within = l;
          closed = w.0;
          first = h;
          second = stepped-lt;
          last = eqb-true (coord_at g p a) (cells_on g a) w.1;
          moved = coord-of-point g (stepped_to g p a) (λ k m. stepped-le k);
        }

  -- and every step is such a step
  module _ (p q : ℕ) (s : Step g p q) where
    pub step-wrapped : wrapped_at g p s.axis ≡ true
    step-wrapped = rw s.closed (eq-eqb (coord_at g p s.axis) (cells_on g s.axis) s.last)

    pub step-leads : q ≡ point_of g (stepped_to g p s.axis)
    step-leads =
        point-one g q (point_of g (stepped_to g p s.axis)) s.second (stepped-lt p s.axis)
        (λ k l. s.moved k l ∙ sym (coord-of-point g (stepped_to g p s.axis) (λ i m. stepped-le p s.axis i) k l))

-- ---- the tests of the code
module _ (g : Grid) (v a : ℕ) (x : Axis) (hx : x ≡ axis_of g a) where
  shut-as : (b : Bool) → closed_of x.glue ≡ b → closed_at g a ≡ b
  shut-as b t = ap (λ (y : Axis). closed_of y.glue) (sym hx) ∙ t

  pub leaves-closed : closed_of x.glue ≡ true → (c : ℕ) → c ≡ coord_at g v a → eqb c x.count ≡ wrapped_at g v a
  leaves-closed t c hc = rw (shut-as true t, hc, hx)

  pub leaves-open : closed_of x.glue ≡ false → false ≡ wrapped_at g v a
  leaves-open t = rw (shut-as false t)

module _ (g : Grid) (v a k : ℕ) where
  pub stepped-own : k ≡ a → 0 ≡ stepped_to g v a k
  stepped-own e = rw (eq-eqb k a e)

  module _ (x y : Axis) (hx : x ≡ axis_of g a) (hy : y ≡ axis_of g k) (other : k ≡ a → ⊥) (c : ℕ) (hc : c ≡ coord_at g v k) (m : ℕ) (hm : m ≡ mask_of x.glue) where
    set_is : mask_at g a ≡ m
    set_is = ap (λ (z : Axis). mask_of z.glue) (sym hx) ∙ sym hm

    pub stepped-turned : member m k ≡ true → y.count - c ≡ stepped_to g v a k
    stepped-turned e = rw (ne_eqb k a other, set_is, e, hy, hc)

    pub stepped_kept : member m k ≡ false → c ≡ stepped_to g v a k
    stepped_kept e = rw (ne_eqb k a other, set_is, e, hc)
