-- The corners of a box: a step along some of the axes from its origin. Every corner of a cell of the box is one of them, so a box none of whose corners is a vertex has no cell with
-- that vertex. Assumes nothing.
use Rattle.refusal.specs.Says.{fine}
use mathlib.Core.Path.{◌≡◌, sym, ap, subst, ◌∙◌}
use mathlib.Core.Bool.{Bool, true, false}
use Prim.Native.Nat.{ℕ, zero, suc, ◌+◌, ◌-◌, ◌*◌, ◌/◌, ◌%◌, ◌≤◌, ◌<◌}
use native.Mathlib.Nat.{mod-lt, mul-le-mul_left, mul-le-mul_right, le_trans, div-div-eq-div-mul}
use native.Mathlib.Numerals.{add-one}
use native.Mathlib.Omega.{arith}
use lib.Dec.{eqb}
use lib.ListN.{take}
use borrow.Author.Tests.{eq-eqb, ne_eqb}
use Rattle.quotient.specs.declared.Grid.{Grid}
use Rattle.quotient.specs.Fold.{product, some}
use Rattle.quotient.specs.Shape.{cells_on, points_on, check_of}
use Rattle.quotient.specs.Reduce.{vertex_of}
use Rattle.quotient.specs.Points.{from_digits, points_of, point_of}
use Rattle.quotient.proofs.Laws.{place, some-true}
use Rattle.quotient.proofs.Radix.{number_lt, number_same, number-one, number_digits, point-lt}
use Rattle.grid_words.specs.Cells.{box_at}
use Rattle.grid_words.specs.WorkNumbered.{each_box, order_at, corner_of}
use Rattle.grid_words.specs.Work.{two, box_corners, step_to, offset_of, touches_at}
use Rattle.grid_words.proofs.Corners.{dim, some-cell, points-few, stride-turn, box-lt, times_in, times-all, order-once, turn-lt}
use Rattle.grid_words.proofs.Moved.{number-add, corner-first, corner-moved}

step-low : (m k : ℕ) → step_to m k < 2
step-low m k = mod-lt (m / product two k) (omega arith)

pub two-more : (k n : ℕ) → n ≡ product two k → n + n ≡ product two (k + 1)
unfolding product
two-more k n e = rw (add-one k) (omega (arith, e))

module _ (g : Grid) (taken : check_of g ≡ fine) where
  two-points : (k : ℕ) → k ≤ g.d → product two k ≤ product (points_on g) k
  unfolding product
  two-points zero h = omega arith
  two-points (suc k) h =
      let s : 1 ≤ cells_on g k = some-cell g taken k (omega arith) in
      let r : product two k ≤ product (points_on g) k = two-points k (omega arith) in
      le_trans (mul-le-mul_right 2 r) (mul-le-mul_left (product (points_on g) k) (omega arith))

  pub two-few : (k : ℕ) → k ≤ g.d → product two k ≤ 32768
  two-few k h = le_trans (two-points k h) (points-few g taken k h)

  -- ---- turns of the loop over the axes
  pub offset-more : (m k s x rest : ℕ) → s ≡ product (points_on g) k → x ≡ from_digits (points_on g) (step_to m) k → rest ≡ m / product two k →
      (x + s * (rest % 2) ≡ from_digits (points_on g) (step_to m) (k + 1)) × (rest / 2 ≡ m / product two (k + 1))
  unfolding from_digits product
  offset-more m k s x rest hs hx hr = (rw (hs, hx, hr, add-one k), rw (hr, add-one k) (div-div-eq-div-mul m (product two k) 2))

  pub offset-room : (k s x rest p : ℕ) → k < g.d → s ≡ product (points_on g) k → x < s → p ≡ points_on g k → (x + s * (rest % 2) < s * p) × (s * p ≤ 32768)
  offset-room k s x rest p h hs hx hp =
      let m : rest % 2 < 2 = mod-lt rest (omega arith) in
      (place x s (rest % 2) p hx (omega (arith, some-cell g taken k h)), (stride-turn g taken k s p h hs hp).1)

  -- ---- corner m of box b
  pub box-corner-lt : (b m : ℕ) → point_of g (box_at g b) + offset_of g m < points_of g
  box-corner-lt b m =
      subst (λ (x : ℕ). x < points_of g) (number-add (points_on g) (box_at g b) (step_to m) g.d)
      (point-lt g (λ k. box_at g b k + step_to m k) (λ k l. omega (arith, step-low m k, box-lt g taken b k l)))

  -- corner j of cell x of box b
  pub corner-boxed : (b x j : ℕ) → x < each_box g → j ≤ g.d → (m : ℕ) × (m < box_corners g) × (corner_of g (b * each_box g + x) j ≡ point_of g (box_at g b) + offset_of g m)
  corner-boxed b x j h l =
      let t : ℕ → ℕ = λ k. times_in k (take j (order_at g x)) in
      let low : (k : ℕ) → k < g.d → times_in k (take j (order_at g x)) < 2 =
      λ k q. omega (arith, times-all k (order_at g x) j, order-once g.d (each_box g - 1 - x % each_box g) k (dim g taken) (turn-lt g taken x) q) in
      let m : ℕ = from_digits two t g.d in
      let hm : from_digits two t g.d < product two g.d = number_lt two t g.d low in
      let e : (k : ℕ) → k < g.d → step_to m k ≡ t k = number-one two (step_to m) t g.d (λ i q. step-low m i) low (number_digits two m g.d hm) in
      (m, hm, corner-moved g taken b x j h l ∙ ap (λ (p : ℕ). point_of g (box_at g b) + p) (corner-first g taken x j h l ∙ number_same (points_on g) t (step_to m) g.d (λ k q. sym (e k q))))

  -- a box without the vertex
  pub untouched : (b v x j : ℕ) → touches_at g b v ≡ false → x < each_box g → j ≤ g.d → vertex_of g (corner_of g (b * each_box g + x) j) ≡ v → ⊥
  untouched b v x j f h l e =
      let q = corner-boxed b x j h l in
      let y : some (λ m. eqb (vertex_of g (point_of g (box_at g b) + offset_of g m)) v) (box_corners g) ≡ true =
      some-true (λ m. eqb (vertex_of g (point_of g (box_at g b) + offset_of g m)) v) (box_corners g) q.0 q.1 (eq-eqb _ v (ap (vertex_of g) (sym q.2) ∙ e)) in
      let z : ◌≡◌ {A = Bool} true false = sym y ∙ f in
      let w : ◌≡◌ {A = ℕ} 0 1 = cc in
      absurd (omega arith)

-- ---- one corner's vertex against v
module _ (g : Grid) (b v m from off x : ℕ) (hf : from ≡ point_of g (box_at g b)) (ho : off ≡ offset_of g m) (hx : x ≡ vertex_of g (from + off)) where
  corner-vertex : x ≡ vertex_of g (point_of g (box_at g b) + offset_of g m)
  corner-vertex = hx ∙ ap (λ (p : ℕ). vertex_of g (p + off)) hf ∙ ap (λ (p : ℕ). vertex_of g (point_of g (box_at g b) + p)) ho

  pub corner-is : x ≡ v → eqb (vertex_of g (point_of g (box_at g b) + offset_of g m)) v ≡ true
  corner-is e = eq-eqb (vertex_of g (point_of g (box_at g b) + offset_of g m)) v (sym corner-vertex ∙ e)

  pub corner-not : (x ≡ v → ⊥) → eqb (vertex_of g (point_of g (box_at g b) + offset_of g m)) v ≡ false
  corner-not f = ne_eqb (vertex_of g (point_of g (box_at g b) + offset_of g m)) v (λ e. f (corner-vertex ∙ e))
