-- What folding keeps of a point's coordinates: on a closed axis 0 stands for an end and for nothing else, and where the same axes wrap at two points that fold to the
-- same, the points are the same. Assumes nothing.
use Rattle.refusal.specs.Says.{fine}
use mathlib.Core.Path.{◌≡◌, refl, sym, ap, subst, ◌∙◌}
use mathlib.Core.Bool.{Bool, true, false, cond, ◌&&◌}
use mathlib.Core.Logic.{◌⊎◌, inl, inr, ⊎_elim}
use Prim.Native.Nat.{ℕ, zero, suc, ◌+◌, ◌-◌, ◌%◌, ◌≤◌, ◌<◌}
use native.Mathlib.Nat.{mod_self, mod-eq_of_lt, zero-mod}
use native.Mathlib.Omega.{arith}
use lib.Dec.{eqb}
use borrow.Author.Tests.{eqb-true, eqb-false, eq-eqb, ne_eqb}
use Rattle.quotient.specs.declared.Grid.{Grid}
use Rattle.quotient.specs.Fold.{member}
use Rattle.quotient.specs.Shape.{cells_on, closed_at, mask_at, check_of}
use Rattle.quotient.specs.Reduce.{coord_at, wrapped_at, flips_at, reflected_by, folded_at, vertex_of}
use Rattle.quotient.specs.Points.{points_of, point_of}
use Rattle.quotient.proofs.Laws.{lt-or-ge}
use Rattle.quotient.proofs.Points.{coord-le}
use Rattle.quotient.proofs.Radix.{point-lt, coord-of-point}
use Rattle.quotient.proofs.Onto.{vertex-one}
use Rattle.quotient.proofs.Boxes.{End, folded-end}

-- x and y are c and e, or what lies as far from the other end
abbrev Both : ℕ → ℕ → ℕ → ℕ → ℕ → Type 0
Both n c e x y = ((x ≡ c) × (y ≡ e)) ⊎ ((x ≡ n - c) × (y ≡ n - e))

turn-both : (b : Bool) (n c e x y : ℕ) → c ≤ n → e ≤ n → Both n c e x y → Both n c e (cond b (n - x) x) (cond b (n - y) y)
turn-both true n c e x y hc he h =
    ⊎_elim
    (λ (z : (x ≡ c) × (y ≡ e)). inr (ap (λ (a : ℕ). n - a) z.0, ap (λ (a : ℕ). n - a) z.1))
    (λ (z : (x ≡ n - c) × (y ≡ n - e)). inl (omega (arith, z.0), omega (arith, z.1)))
    h
turn-both false n c e x y hc he h = h

-- where the same axes reflect coordinate k at both points, it is reflected alike
reflected-both : (g : Grid) (p q k a : ℕ) → ((b : ℕ) → b < a → flips_at g p b k ≡ flips_at g q b k) → Both (cells_on g k) (coord_at g p k) (coord_at g q k) (reflected_by g p k a) (reflected_by g q k a)
unfolding reflected_by
reflected-both g p q k zero w = inl (refl, refl)
reflected-both g p q k (suc a) w =
    rw (w a (omega arith))
    (turn-both (flips_at g q a k) (cells_on g k) (coord_at g p k) (coord_at g q k) (reflected_by g p k a) (reflected_by g q k a) (coord-le g p k) (coord-le g q k)
    (reflected-both g p q k a (λ b l. w b (omega arith))))

-- ---- on a closed axis what lies between the ends folds to what lies between them
mid-mod : (n c x : ℕ) → 0 < c → c < n → Both n c c x x → 0 < x % n
mid-mod n c x l m h =
    ⊎_elim
    (λ (z : (x ≡ c) × (x ≡ c)). let e : x % n ≡ x = mod-eq_of_lt (omega (arith, z.0)) in omega (arith, z.0))
    (λ (z : (x ≡ n - c) × (x ≡ n - c)). let e : x % n ≡ x = mod-eq_of_lt (omega (arith, z.0)) in omega (arith, z.0))
    h

folded-mid : (g : Grid) (v k : ℕ) → closed_at g k ≡ true → 0 < coord_at g v k → coord_at g v k < cells_on g k → 0 < folded_at g v k
folded-mid g v k c l m = rw c (mid-mod (cells_on g k) (coord_at g v k) (reflected_by g v k g.d) l m (reflected-both g v v k g.d (λ b h. refl)))

-- an end is told from what lies between
pub end_of : (g : Grid) (v k : ℕ) → closed_at g k ≡ true → folded_at g v k ≡ 0 → End (coord_at g v k) (cells_on g k)
end_of g v k c e =
    let h : coord_at g v k ≤ cells_on g k = coord-le g v k in
    ⊎_elim
    (λ (l : 0 < coord_at g v k).
    ⊎_elim
    (λ (m : coord_at g v k < cells_on g k). absurd (let z : 0 < folded_at g v k = folded-mid g v k c l m in let w : ⊥ = omega arith in w))
    (λ (m : cells_on g k ≤ coord_at g v k). inr (omega arith))
    (lt-or-ge (coord_at g v k) (cells_on g k)))
    (λ (l : coord_at g v k ≤ 0). inl (omega arith))
    (lt-or-ge 0 (coord_at g v k))

-- ---- the same wraps and the same folded coordinate: the same coordinate
turn-mod : (n c : ℕ) → c < n → ((c ≡ 0) × ((n - c) % n ≡ 0)) ⊎ ((0 < c) × ((n - c) % n ≡ n - c))
turn-mod n c h =
    ⊎_elim
    (λ (l : 0 < c). inr (l, mod-eq_of_lt (omega arith)))
    (λ (l : c ≤ 0). let e : n - c ≡ n = omega arith in inl (omega arith, ap (λ (x : ℕ). x % n) e ∙ mod_self n))
    (lt-or-ge 0 c)

turn_one : (n c e : ℕ) → c < n → e < n → (n - c) % n ≡ (n - e) % n → c ≡ e
turn_one n c e hc he q =
    ⊎_elim
    (λ (x : (c ≡ 0) × ((n - c) % n ≡ 0)).
    ⊎_elim
    (λ (y : (e ≡ 0) × ((n - e) % n ≡ 0)). x.0 ∙ sym y.0)
    (λ (y : (0 < e) × ((n - e) % n ≡ n - e)). absurd (let w : ⊥ = omega (arith, x.1, y.1) in w))
    (turn-mod n e he))
    (λ (x : (0 < c) × ((n - c) % n ≡ n - c)).
    ⊎_elim
    (λ (y : (e ≡ 0) × ((n - e) % n ≡ 0)). absurd (let w : ⊥ = omega (arith, x.1, y.1) in w))
    (λ (y : (0 < e) × ((n - e) % n ≡ n - e)). let w : c ≡ e = omega (arith, x.1, y.1) in w)
    (turn-mod n e he))
    (turn-mod n c hc)

ring-one : (n c e x y : ℕ) → c ≤ n → e ≤ n → eqb c n ≡ eqb e n → Both n c e x y → x % n ≡ y % n → c ≡ e
ring-one n c e x y hc he w b q =
    ⊎_elim
    (λ (l : c < n).
    let ne : e ≡ n → ⊥ = eqb-false e n (sym w ∙ ne_eqb c n (λ z. omega arith)) in
    let m : e < n = omega arith in
    ⊎_elim
    (λ (z : (x ≡ c) × (y ≡ e)). sym (mod-eq_of_lt l) ∙ ap (λ (a : ℕ). a % n) (sym z.0) ∙ q ∙ ap (λ (a : ℕ). a % n) z.1 ∙ mod-eq_of_lt m)
    (λ (z : (x ≡ n - c) × (y ≡ n - e)). turn_one n c e l m (ap (λ (a : ℕ). a % n) (sym z.0) ∙ q ∙ ap (λ (a : ℕ). a % n) z.1))
    b)
    (λ (l : n ≤ c).
    let f : e ≡ n = eqb-true e n (sym w ∙ eq-eqb c n (omega arith)) in
    let z : c ≡ e = omega arith in z)
    (lt-or-ge c n)

line-one : (n c e x y : ℕ) → c ≤ n → e ≤ n → Both n c e x y → x ≡ y → c ≡ e
line-one n c e x y hc he b q =
    ⊎_elim (λ (z : (x ≡ c) × (y ≡ e)). sym z.0 ∙ q ∙ z.1) (λ (z : (x ≡ n - c) × (y ≡ n - e)). let w : c ≡ e = omega (arith, z.0, z.1) in w) b

either-one : (t : Bool) (n c e x y : ℕ) → c ≤ n → e ≤ n → (t && eqb c n) ≡ (t && eqb e n) → Both n c e x y → cond t (x % n) x ≡ cond t (y % n) y → c ≡ e
either-one true n c e x y hc he w b q = ring-one n c e x y hc he w b q
either-one false n c e x y hc he w b q = line-one n c e x y hc he b q

pub coord-same : (g : Grid) (p q : ℕ) → ((b : ℕ) → b < g.d → wrapped_at g p b ≡ wrapped_at g q b) → (k : ℕ) → k < g.d → folded_at g p k ≡ folded_at g q k → coord_at g p k ≡ coord_at g q k
coord-same g p q w k l e =
    either-one (closed_at g k) (cells_on g k) (coord_at g p k) (coord_at g q k) (reflected_by g p k g.d) (reflected_by g q k g.d) (coord-le g p k) (coord-le g q k) (w k l) (reflected-both g p q k g.d (λ b m. ap (λ (t : Bool). t && member (mask_at g b) k) (w b m))) e

-- ---- a coordinate reflected alike at two points that fold to the same is the same, or at one end and at the other
end-zero : (n e x y : ℕ) → e < n → Both n n e x y → x % n ≡ y % n → e ≡ 0
end-zero n e x y h b q =
    ⊎_elim
    (λ (z : (x ≡ n) × (y ≡ e)).
    let u : x % n ≡ 0 = ap (λ (a : ℕ). a % n) z.0 ∙ mod_self n in
    let v : y % n ≡ e = ap (λ (a : ℕ). a % n) z.1 ∙ mod-eq_of_lt h in
    let w : e ≡ 0 = omega arith in w)
    (λ (z : (x ≡ n - n) × (y ≡ n - e)).
    let a : x ≡ 0 = omega (arith, z.0) in
    let u : x % n ≡ 0 = ap (λ (c : ℕ). c % n) a ∙ zero-mod n in
    let v : y % n ≡ (n - e) % n = ap (λ (c : ℕ). c % n) z.1 in
    ⊎_elim (λ (t : (e ≡ 0) × ((n - e) % n ≡ 0)). t.0) (λ (t : (0 < e) × ((n - e) % n ≡ n - e)). absurd (let w : ⊥ = omega (arith, t.1) in w)) (turn-mod n e h))
    b

abbrev pub AtEnds : ℕ → ℕ → ℕ → Type 0
AtEnds n c e = (c ≡ e) ⊎ (((c ≡ 0) × (e ≡ n)) ⊎ ((c ≡ n) × (e ≡ 0)))

ring-ends : (n c e x y : ℕ) → c ≤ n → e ≤ n → Both n c e x y → x % n ≡ y % n → AtEnds n c e
ring-ends n c e x y hc he b q =
    ⊎_elim
    (λ (l : c < n).
    ⊎_elim
    (λ (m : e < n). inl (ring-one n c e x y hc he (ne_eqb c n (λ z. omega arith) ∙ sym (ne_eqb e n (λ z. omega arith))) b q))
    (λ (m : n ≤ e).
    let f : e ≡ n = omega arith in
    inr (inl (end-zero n c y x l (subst (λ (a : ℕ). Both n a c y x) f (⊎_elim (λ (z : (x ≡ c) × (y ≡ e)). inl (z.1, z.0)) (λ (z : (x ≡ n - c) × (y ≡ n - e)). inr (z.1, z.0)) b)) (sym q), f)))
    (lt-or-ge e n))
    (λ (l : n ≤ c).
    let f : c ≡ n = omega arith in
    ⊎_elim
    (λ (m : e < n). inr (inr (f, end-zero n e x y m (subst (λ (a : ℕ). Both n a e x y) f b) q)))
    (λ (m : n ≤ e). inl (omega arith))
    (lt-or-ge e n))
    (lt-or-ge c n)

either-ends : (t : Bool) (n c e x y : ℕ) → c ≤ n → e ≤ n → Both n c e x y → cond t (x % n) x ≡ cond t (y % n) y → (c ≡ e) ⊎ ((t ≡ true) × AtEnds n c e)
either-ends true n c e x y hc he b q = inr (refl, ring-ends n c e x y hc he b q)
either-ends false n c e x y hc he b q = inl (line-one n c e x y hc he b q)

pub coord-ends : (g : Grid) (p q k : ℕ) → ((b : ℕ) → b < g.d → flips_at g p b k ≡ flips_at g q b k) → folded_at g p k ≡ folded_at g q k → (coord_at g p k ≡ coord_at g q k) ⊎ ((closed_at g k ≡ true) × AtEnds (cells_on g k) (coord_at g p k) (coord_at g q k))
coord-ends g p q k w e =
    either-ends (closed_at g k) (cells_on g k) (coord_at g p k) (coord_at g q k) (reflected_by g p k g.d) (reflected_by g q k g.d) (coord-le g p k) (coord-le g q k) (reflected-both g p q k g.d w) e

-- ---- the corners of a box: e k is 1 where axis k is up, else 0
abbrev pub corner_by : Grid → (ℕ → ℕ) → (ℕ → ℕ) → ℕ
corner_by g p e = point_of g (λ k. p k + e k)

abbrev pub vertex_by : Grid → (ℕ → ℕ) → (ℕ → ℕ) → ℕ
vertex_by g p e = vertex_of g (corner_by g p e)

-- a box begins at coordinates below n, and a corner is at most one up
abbrev pub Begins : Grid → (ℕ → ℕ) → Type 0
Begins g p = (k : ℕ) → k < g.d → p k < cells_on g k

abbrev pub Bits : Grid → (ℕ → ℕ) → Type 0
Bits g e = (k : ℕ) → k < g.d → e k ≤ 1

module _ (g : Grid) (p e : ℕ → ℕ) (hp : Begins g p) (he : Bits g e) where
  corner-le : (k : ℕ) → k < g.d → p k + e k ≤ cells_on g k
  corner-le k l = omega (arith, hp k l, he k l)

  pub corner-coord : (k : ℕ) → k < g.d → coord_at g (corner_by g p e) k ≡ p k + e k
  corner-coord k l = coord-of-point g (λ k. p k + e k) corner-le k l

  pub corner-in : corner_by g p e < points_of g
  corner-in = point-lt g (λ k. p k + e k) corner-le

module _ (g : Grid) (taken : check_of g ≡ fine) (p q e f : ℕ → ℕ) (hp : Begins g p) (hq : Begins g q) (he : Bits g e) (hf : Bits g f) (v : vertex_by g p e ≡ vertex_by g q f) where
  pub fold-one : (k : ℕ) → k < g.d → folded_at g (corner_by g p e) k ≡ folded_at g (corner_by g q f) k
  fold-one = vertex-one g taken (corner_by g p e) (corner_by g q f) (corner-in g p e hp he) (corner-in g q f hq hf) v

  -- an end of a closed axis is an end for both
  pub ends-agree : (k : ℕ) → k < g.d → closed_at g k ≡ true → End (p k + e k) (cells_on g k) → End (q k + f k) (cells_on g k)
  ends-agree k l c h =
      subst (λ (x : ℕ). End x (cells_on g k)) (corner-coord g q f hq hf k l)
      (end_of g (corner_by g q f) k c (sym (fold-one k l) ∙ folded-end g (corner_by g p e) k c (subst (λ (x : ℕ). End x (cells_on g k)) (sym (corner-coord g p e hp he k l)) h)))

  -- the same axes wrap: one point
  pub corner-same : ((k : ℕ) → k < g.d → (closed_at g k && eqb (p k + e k) (cells_on g k)) ≡ (closed_at g k && eqb (q k + f k) (cells_on g k))) → (k : ℕ) → k < g.d → p k + e k ≡ q k + f k
  corner-same w k l =
      sym (corner-coord g p e hp he k l)
      ∙ coord-same g (corner_by g p e) (corner_by g q f)
      (λ b m. ap (λ (x : ℕ). closed_at g b && eqb x (cells_on g b)) (corner-coord g p e hp he b m) ∙ w b m ∙ ap (λ (x : ℕ). closed_at g b && eqb x (cells_on g b)) (sym (corner-coord g q f hq hf b m)))
      k l (fold-one k l)
      ∙ corner-coord g q f hq hf k l
