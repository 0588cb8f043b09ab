-- Two boxes of a grid, and in each a chain of corners from its first to its last, such that the chains have the same vertices. On each closed axis one of three holds:
-- both boxes lie away from the ends, both at one end, or they face each other, one at each end. If on no axis they face each other, the chains are the same points. If
-- on some axis they do, they do on each axis where either lies at an end; and then no corner has all facing axes of the one box before their step and all of the other
-- after it: there neither chain would be wrapped, and n - 1 would be 1. Assumes nothing.
use Rattle.refusal.specs.Says.{fine}
use mathlib.Core.Path.{◌≡◌, refl, sym, ◌∙◌}
use mathlib.Core.Bool.{Bool, true, false, cond, ◌&&◌}
use mathlib.Core.Logic.{◌⊎◌, inl, inr, ⊎_elim}
use Prim.Native.Nat.{ℕ, ◌+◌, ◌≤◌, ◌<◌}
use native.Mathlib.Nat.{le_refl}
use native.Mathlib.Omega.{arith}
use lib.Dec.{eqb}
use borrow.Author.Tests.{eqb-true, eqb-false, eq-eqb, ne_eqb}
use Rattle.multiindex.proofs.Tables.{first_of, second-of}
use Rattle.quotient.specs.declared.Grid.{Grid}
use Rattle.quotient.specs.Shape.{cells_on, closed_at, check_of}
use Rattle.quotient.proofs.Laws.{lt-or-ge}
use Rattle.quotient.proofs.Onto.{three-cells}
use Rattle.quotient.proofs.Boxes.{End}
use Rattle.grid_mesh.proofs.Folding.{vertex_by, Begins, ends-agree, corner-same}

-- ---- how two boxes lie on an axis: 1 where the first is at its last cell and the second at its first, 2 the other way round, 0 else
abbrev pub side_of : Bool → ℕ → ℕ → ℕ → ℕ
side_of b n p q = cond b (cond (eqb (p + 1) n && eqb q 0) 1 (cond (eqb p 0 && eqb (q + 1) n) 2 0)) 0

pick-one : (b x y : Bool) → ◌≡◌ {A = ℕ} (cond b (cond x 1 (cond y 2 0)) 0) 1 → (b ≡ true) × (x ≡ true)
pick-one true true y e = (refl, refl)
pick-one true false true e = absurd (let w : ⊥ = omega arith in w)
pick-one true false false e = absurd (let w : ⊥ = omega arith in w)
pick-one false x y e = absurd (let w : ⊥ = omega arith in w)

pick_two : (b x y : Bool) → ◌≡◌ {A = ℕ} (cond b (cond x 1 (cond y 2 0)) 0) 2 → (b ≡ true) × (y ≡ true)
pick_two true true y e = absurd (let w : ⊥ = omega arith in w)
pick_two true false true e = (refl, refl)
pick_two true false false e = absurd (let w : ⊥ = omega arith in w)
pick_two false x y e = absurd (let w : ⊥ = omega arith in w)

pick-most : (b x y : Bool) → cond b (cond x 1 (cond y 2 0)) 0 < 3
pick-most true true y = omega arith
pick-most true false true = omega arith
pick-most true false false = omega arith
pick-most false x y = omega arith

module _ (b : Bool) (n p q : ℕ) where
  side-one : side_of b n p q ≡ 1 → (b ≡ true) × (p + 1 ≡ n) × (q ≡ 0)
  side-one e =
      let r = pick-one b (eqb (p + 1) n && eqb q 0) (eqb p 0 && eqb (q + 1) n) e in
      (r.0, eqb-true _ _ (first_of (eqb (p + 1) n) (eqb q 0) r.1), eqb-true _ _ (second-of (eqb (p + 1) n) (eqb q 0) r.1))

  side-two : side_of b n p q ≡ 2 → (b ≡ true) × (p ≡ 0) × (q + 1 ≡ n)
  side-two e =
      let r = pick_two b (eqb (p + 1) n && eqb q 0) (eqb p 0 && eqb (q + 1) n) e in
      (r.0, eqb-true _ _ (first_of (eqb p 0) (eqb (q + 1) n) r.1), eqb-true _ _ (second-of (eqb p 0) (eqb (q + 1) n) r.1))

  one_side : b ≡ true → p + 1 ≡ n → q ≡ 0 → side_of b n p q ≡ 1
  one_side c h l = rw (c, eq-eqb (p + 1) n h, eq-eqb q 0 l)

  two-side : b ≡ true → 3 ≤ n → p ≡ 0 → q + 1 ≡ n → side_of b n p q ≡ 2
  two-side c m h l = rw (c, ne_eqb (p + 1) n (λ e. omega arith), eq-eqb p 0 h, eq-eqb (q + 1) n l)

  side-most : side_of b n p q < 3
  side-most = pick-most b (eqb (p + 1) n && eqb q 0) (eqb p 0 && eqb (q + 1) n)

abbrev pub side : Grid → (ℕ → ℕ) → (ℕ → ℕ) → ℕ → ℕ
side g p q k = side_of (closed_at g k) (cells_on g k) (p k) (q k)

pub sides-few : (g : Grid) (p q : ℕ → ℕ) (k : ℕ) → side g p q k < 3
sides-few g p q k = side-most (closed_at g k) (cells_on g k) (p k) (q k)

-- a box does not face itself
pub side-self : (g : Grid) → check_of g ≡ fine → (p : ℕ → ℕ) (k : ℕ) → k < g.d → side g p p k ≡ 0
side-self g taken p k l =
    ⊎_elim
    (λ (h : 0 < side g p p k).
    ⊎_elim
    (λ (m : 1 < side g p p k).
    let r = side-two (closed_at g k) (cells_on g k) (p k) (p k) (omega (arith, sides-few g p p k)) in
    absurd (let w : ⊥ = omega (arith, r.1, r.2, three-cells g taken k l r.0) in w))
    (λ (m : side g p p k ≤ 1).
    let r = side-one (closed_at g k) (cells_on g k) (p k) (p k) (omega arith) in
    absurd (let w : ⊥ = omega (arith, r.1, r.2, three-cells g taken k l r.0) in w))
    (lt-or-ge 1 (side g p p k)))
    (λ (h : side g p p k ≤ 0). let w : side g p p k ≡ 0 = omega arith in w)
    (lt-or-ge 0 (side g p p k))

-- ---- an axis where they face each other is up in the one exactly where it is not in the other; at one end it is up in both or in neither
opposed : (n p q x y : ℕ) → 3 ≤ n → p + 1 ≡ n → q ≡ 0 → x ≤ 1 → y ≤ 1 → (End (p + x) n → End (q + y) n) → (End (q + y) n → End (p + x) n) → x + y ≡ 1
opposed n p q x y t hp hq hx hy to from =
    ⊎_elim
    (λ (l : 0 < x).
    ⊎_elim (λ (z : q + y ≡ 0). let w : x + y ≡ 1 = omega arith in w) (λ (z : q + y ≡ n). absurd (let w : ⊥ = omega arith in w)) (to (inr (omega arith))))
    (λ (l : x ≤ 0).
    ⊎_elim
    (λ (m : 0 < y). let w : x + y ≡ 1 = omega arith in w)
    (λ (m : y ≤ 0). ⊎_elim (λ (z : p + x ≡ 0). absurd (let w : ⊥ = omega arith in w)) (λ (z : p + x ≡ n). absurd (let w : ⊥ = omega arith in w)) (from (inl (omega arith))))
    (lt-or-ge 0 y))
    (lt-or-ge 0 x)

beside : (n p q x y : ℕ) → 3 ≤ n → p + 1 ≡ n → q + 1 ≡ n → x ≤ 1 → y ≤ 1 → (End (p + x) n → End (q + y) n) → (End (q + y) n → End (p + x) n) → x ≡ y
beside n p q x y t hp hq hx hy to from =
    ⊎_elim
    (λ (l : 0 < x).
    ⊎_elim (λ (z : q + y ≡ 0). absurd (let w : ⊥ = omega arith in w)) (λ (z : q + y ≡ n). let w : x ≡ y = omega arith in w) (to (inr (omega arith))))
    (λ (l : x ≤ 0).
    ⊎_elim
    (λ (m : 0 < y). ⊎_elim (λ (z : p + x ≡ 0). absurd (let w : ⊥ = omega arith in w)) (λ (z : p + x ≡ n). absurd (let w : ⊥ = omega arith in w)) (from (inr (omega arith))))
    (λ (m : y ≤ 0). let w : x ≡ y = omega arith in w)
    (lt-or-ge 0 y))
    (lt-or-ge 0 x)

-- a chain of corners: after i steps, which axes are up
pub record Chain (d : ℕ) (u : ℕ → ℕ → ℕ) : Type 0 where
  pub most : (i k : ℕ) → k < d → u i k ≤ 1
  pub none : (k : ℕ) → k < d → u 0 k ≡ 0
  pub each : (k : ℕ) → k < d → u d k ≡ 1
  pub rises : (i j k : ℕ) → i ≤ j → k < d → u i k ≤ u j k

-- each corner of the one chain has the vertex of a corner of the other
pub record Matched (g : Grid) (p q : ℕ → ℕ) (u w : ℕ → ℕ → ℕ) : Type 0 where
  pub forth : (i : ℕ) → i ≤ g.d → (j : ℕ) × (j ≤ g.d) × (vertex_by g p (u i) ≡ vertex_by g q (w j))
  pub back : (j : ℕ) → j ≤ g.d → (i : ℕ) × (i ≤ g.d) × (vertex_by g p (u i) ≡ vertex_by g q (w j))

-- an axis on which the boxes face each other
pub record Faced (g : Grid) (p q : ℕ → ℕ) : Type 0 where
  pub axis : ℕ
  pub axis-in : axis < g.d
  pub faces : (side g p q axis ≡ 1) ⊎ (side g p q axis ≡ 2)

module _ (g : Grid) (taken : check_of g ≡ fine) (p q : ℕ → ℕ) (hp : Begins g p) (hq : Begins g q) (u w : ℕ → ℕ → ℕ) (cu : Chain g.d u) (cw : Chain g.d w) where
  abbrev Meets : ℕ → ℕ → Type 0
  Meets i j = vertex_by g p (u i) ≡ vertex_by g q (w j)

  ends-to : (i j k : ℕ) → Meets i j → k < g.d → closed_at g k ≡ true → End (p k + u i k) (cells_on g k) → End (q k + w j k) (cells_on g k)
  ends-to i j k v l c h = ends-agree g taken p q (u i) (w j) hp hq (cu.most i) (cw.most j) v k l c h

  ends-from : (i j k : ℕ) → Meets i j → k < g.d → closed_at g k ≡ true → End (q k + w j k) (cells_on g k) → End (p k + u i k) (cells_on g k)
  ends-from i j k v l c h = ends-agree g taken q p (w j) (u i) hq hp (cw.most j) (cu.most i) (sym v) k l c h

  pub up-or-down : (k : ℕ) → k < g.d → (side g p q k ≡ 1) ⊎ (side g p q k ≡ 2) → (i j : ℕ) → Meets i j → u i k + w j k ≡ 1
  up-or-down k l s i j v =
      ⊎_elim
      (λ (e : side g p q k ≡ 1).
      let r = side-one (closed_at g k) (cells_on g k) (p k) (q k) e in
      opposed (cells_on g k) (p k) (q k) (u i k) (w j k) (three-cells g taken k l r.0) r.1 r.2 (cu.most i k l) (cw.most j k l) (ends-to i j k v l r.0) (ends-from i j k v l r.0))
      (λ (e : side g p q k ≡ 2).
      let r = side-two (closed_at g k) (cells_on g k) (p k) (q k) e in
      let z : w j k + u i k ≡ 1 = opposed (cells_on g k) (q k) (p k) (w j k) (u i k) (three-cells g taken k l r.0) r.2 r.1 (cw.most j k l) (cu.most i k l) (ends-from i j k v l r.0) (ends-to i j k v l r.0) in
      let y : u i k + w j k ≡ 1 = omega arith in y)
      s

  up-together : (k : ℕ) → k < g.d → closed_at g k ≡ true → p k + 1 ≡ cells_on g k → q k + 1 ≡ cells_on g k → (i j : ℕ) → Meets i j → u i k ≡ w j k
  up-together k l c ep eq i j v =
      beside (cells_on g k) (p k) (q k) (u i k) (w j k) (three-cells g taken k l c) ep eq (cu.most i k l) (cw.most j k l) (ends-to i j k v l c) (ends-from i j k v l c)

  -- ---- they face each other on no axis: matched corners are one point
  module _ (apart : (k : ℕ) → k < g.d → side g p q k ≡ 0) where
    last-to : (i j k : ℕ) → Meets i j → k < g.d → closed_at g k ≡ true → p k + u i k ≡ cells_on g k → q k + w j k ≡ cells_on g k
    last-to i j k v l c e =
        let t : 3 ≤ cells_on g k = three-cells g taken k l c in
        ⊎_elim
        (λ (z : q k + w j k ≡ 0).
        let s : side g p q k ≡ 1 = one_side (closed_at g k) (cells_on g k) (p k) (q k) c (omega (arith, hp k l, cu.most i k l)) (omega arith) in
        absurd (let x : ⊥ = omega (arith, apart k l) in x))
        (λ (z : q k + w j k ≡ cells_on g k). z)
        (ends-to i j k v l c (inr e))

    last-from : (i j k : ℕ) → Meets i j → k < g.d → closed_at g k ≡ true → q k + w j k ≡ cells_on g k → p k + u i k ≡ cells_on g k
    last-from i j k v l c e =
        let t : 3 ≤ cells_on g k = three-cells g taken k l c in
        ⊎_elim
        (λ (z : p k + u i k ≡ 0).
        let s : side g p q k ≡ 2 = two-side (closed_at g k) (cells_on g k) (p k) (q k) c t (omega arith) (omega (arith, hq k l, cw.most j k l)) in
        absurd (let x : ⊥ = omega (arith, apart k l) in x))
        (λ (z : p k + u i k ≡ cells_on g k). z)
        (ends-from i j k v l c (inr e))

    wraps-same : (b : Bool) (x y n : ℕ) → (b ≡ true → x ≡ n → y ≡ n) → (b ≡ true → y ≡ n → x ≡ n) → (b && eqb x n) ≡ (b && eqb y n)
    wraps-same false x y n f h = refl
    wraps-same true x y n f h = go (eqb x n) (eqb y n) refl refl
      where
        go : (s t : Bool) → eqb x n ≡ s → eqb y n ≡ t → s ≡ t
        go true true a b = refl
        go true false a b = absurd (eqb-false y n b (f refl (eqb-true x n a)))
        go false true a b = absurd (eqb-false x n a (h refl (eqb-true y n b)))
        go false false a b = refl

    pub one-point : (i j : ℕ) → Meets i j → (k : ℕ) → k < g.d → p k + u i k ≡ q k + w j k
    one-point i j v =
        corner-same g taken p q (u i) (w j) hp hq (cu.most i) (cw.most j) v
        (λ k l. wraps-same (closed_at g k) (p k + u i k) (q k + w j k) (cells_on g k) (λ c. last-to i j k v l c) (λ c. last-from i j k v l c))

  -- ---- they face each other on some axis
  module _ (m : Matched g p q u w) (f : Faced g p q) where
    -- there is no axis on which both lie at their last cells
    not-beside : (k : ℕ) → k < g.d → closed_at g k ≡ true → p k + 1 ≡ cells_on g k → q k + 1 ≡ cells_on g k → ⊥
    not-beside k l c ep eq =
        let r = m.forth 0 (omega arith) in
        let s = m.forth g.d (le_refl g.d) in
        let ra : u 0 f.axis + w r.0 f.axis ≡ 1 = up-or-down f.axis f.axis-in f.faces 0 r.0 r.2 in
        let sa : u g.d f.axis + w s.0 f.axis ≡ 1 = up-or-down f.axis f.axis-in f.faces g.d s.0 s.2 in
        let rk : u 0 k ≡ w r.0 k = up-together k l c ep eq 0 r.0 r.2 in
        let sk : u g.d k ≡ w s.0 k = up-together k l c ep eq g.d s.0 s.2 in
        ⊎_elim
        (λ (h : r.0 < s.0). let z : ⊥ = omega (arith, cu.none f.axis f.axis-in, cu.each f.axis f.axis-in, cw.rises r.0 s.0 f.axis (omega arith) f.axis-in) in z)
        (λ (h : s.0 ≤ r.0). let z : ⊥ = omega (arith, cu.none k l, cu.each k l, cw.rises s.0 r.0 k h l) in z)
        (lt-or-ge r.0 s.0)

    -- at its last cell the one box faces the other
    high-first : (k : ℕ) → k < g.d → closed_at g k ≡ true → p k + 1 ≡ cells_on g k → side g p q k ≡ 1
    high-first k l c e =
        let r = m.forth g.d (le_refl g.d) in
        ⊎_elim
        (λ (z : q k + w r.0 k ≡ 0). one_side (closed_at g k) (cells_on g k) (p k) (q k) c e (omega arith))
        (λ (z : q k + w r.0 k ≡ cells_on g k). absurd (not-beside k l c e (omega (arith, hq k l, cw.most r.0 k l))))
        (ends-to g.d r.0 k r.2 l c (inr (omega (arith, cu.each k l))))

    high-second : (k : ℕ) → k < g.d → closed_at g k ≡ true → q k + 1 ≡ cells_on g k → side g p q k ≡ 2
    high-second k l c e =
        let r = m.back g.d (le_refl g.d) in
        ⊎_elim
        (λ (z : p k + u r.0 k ≡ 0). two-side (closed_at g k) (cells_on g k) (p k) (q k) c (three-cells g taken k l c) (omega arith) e)
        (λ (z : p k + u r.0 k ≡ cells_on g k). absurd (not-beside k l c (omega (arith, hp k l, cu.most r.0 k l)) e))
        (ends-from r.0 g.d k r.2 l c (inr (omega (arith, cw.each k l))))

    -- no corner parts the facing axes
    pub not-parted : (i : ℕ) → i ≤ g.d → ((k : ℕ) → k < g.d → side g p q k ≡ 1 → u i k ≡ 0) → ((k : ℕ) → k < g.d → side g p q k ≡ 2 → u i k ≡ 1) → ⊥
    not-parted i h none each =
        let r = m.forth i h in
        let same : (k : ℕ) → k < g.d → p k + u i k ≡ q k + w r.0 k =
        corner-same g taken p q (u i) (w r.0) hp hq (cu.most i) (cw.most r.0) r.2
        (λ k l. unwrapped (closed_at g k) (p k + u i k) (q k + w r.0 k) (cells_on g k)
        (λ c e. let z : u i k ≡ 0 = none k l (high-first k l c (omega (arith, hp k l, cu.most i k l))) in omega (arith, hp k l))
        (λ c e.
        let s : side g p q k ≡ 2 = high-second k l c (omega (arith, hq k l, cw.most r.0 k l)) in
        let z : u i k ≡ 1 = each k l s in
        omega (arith, hq k l, up-or-down k l (inr s) i r.0 r.2))) in
        ⊎_elim
        (λ (e : side g p q f.axis ≡ 1).
        let s = side-one (closed_at g f.axis) (cells_on g f.axis) (p f.axis) (q f.axis) e in
        let z : ⊥ = omega (arith, s.1, s.2, same f.axis f.axis-in, none f.axis f.axis-in e, cw.most r.0 f.axis f.axis-in, three-cells g taken f.axis f.axis-in s.0) in z)
        (λ (e : side g p q f.axis ≡ 2).
        let s = side-two (closed_at g f.axis) (cells_on g f.axis) (p f.axis) (q f.axis) e in
        let z : ⊥ = omega (arith, s.1, s.2, same f.axis f.axis-in, each f.axis f.axis-in e, three-cells g taken f.axis f.axis-in s.0) in z)
        f.faces
      where
        unwrapped : (b : Bool) (x y n : ℕ) → (b ≡ true → x ≡ n → ⊥) → (b ≡ true → y ≡ n → ⊥) → (b && eqb x n) ≡ (b && eqb y n)
        unwrapped false x y n f h = refl
        unwrapped true x y n f h = ne_eqb x n (f refl) ∙ sym (ne_eqb y n (h refl))
