-- A square of n by n cells whose two axes are twisted over each other, which is a projective plane: n·n + 1 classes. Its border points are glued to the opposite ones, so
-- the least points and their opposites cover the square once, and its inside twice. Assumes nothing.
use mathlib.Core.Path.{◌≡◌, refl, sym, ap, subst, ◌∙◌}
use mathlib.Core.Bool.{Bool, true, false, cond, ◌&&◌, ◌||◌, not}
use mathlib.Core.Logic.{◌⊎◌, inl, inr, ⊎_elim}
use Prim.Native.Nat.{ℕ, zero, suc, ◌+◌, ◌-◌, ◌*◌, ◌≤◌, ◌<◌, min}
use native.Mathlib.Nat.{not-suc-le-zero, one-mul, mul-add, mul-suc, suc-mul, mul-zero, zero-mul, sub-zero, add-zero}
use native.Mathlib.Numerals.{add-one}
use native.Mathlib.Omega.{arith}
use lib.Dec.{eqb}
use borrow.Author.Tests.{eq-eqb, ne_eqb}
use Rattle.quotient.specs.declared.Axis.{Axis}
use Rattle.quotient.specs.declared.Grid.{Grid}
use Rattle.quotient.specs.Fold.{product, count}
use Rattle.quotient.specs.Shape.{axis_of, closed_of, cells_on, closed_at}
use Rattle.quotient.specs.Reduce.{coord_at}
use Rattle.quotient.specs.Points.{from_digits, points_of, point_of}
use Rattle.quotient.proofs.Laws.{lt-or-ge}
use Rattle.quotient.proofs.Points.{coord-le}
use Rattle.quotient.proofs.Radix.{point-of-coords, coord-of-point}
use Rattle.grid_chained.specs.Classing.{Classing}
use Rattle.grid_chained.specs.Laws.{twisted_axis}
use Rattle.grid_chained.specs.WorkTurn.{end_at, turns_at, turn, across_of, least_below}
use Rattle.grid_chained.proofs.Turns.{least_of}
use Rattle.grid_chained.specs.WorkNumber.{leads, class_by}
use Rattle.grid_chained.proofs.Turns.{is_end, end_of, of_end, or_cases, across_lt, across-coord, across-end}
use Rattle.grid_chained.proofs.Orbit.{least-law}
use Rattle.grid_chained.proofs.Numbering.{numbering}
use Rattle.grid_chained.proofs.Unique.{classing-one}

-- ---- counting

abbrev bit : Bool → ℕ
bit b = cond b 1 0

count-more : (f : ℕ → Bool) (n : ℕ) → count f (suc n) ≡ count f n + bit (f n)
unfolding count
count-more f n = refl

count-zero : (f : ℕ → Bool) → count f zero ≡ 0
unfolding count
count-zero f = refl

-- tests that agree count the same
count_same : (f h : ℕ → Bool) (n : ℕ) → ((i : ℕ) → i < n → f i ≡ h i) → count f n ≡ count h n
unfolding count
count_same f h zero e = refl
count_same f h (suc n) e = rw (count_same f h n (λ i l. e i (omega arith)), e n (omega arith))

count_none : (f : ℕ → Bool) (n : ℕ) → ((i : ℕ) → i < n → f i ≡ false) → count f n ≡ 0
unfolding count
count_none f zero e = refl
count_none f (suc n) e = rw (count_none f n (λ i l. e i (omega arith)), e n (omega arith))

-- a part and what comes after it
count-split : (f : ℕ → Bool) (a b : ℕ) → count f (a + b) ≡ count f a + count (λ x. f (a + x)) b
unfolding count
count-split f a zero = let e : count f (a + zero) ≡ count f a = ap (count f) (add-zero a) in omega arith
count-split f a (suc b) =
    let e : a + suc b ≡ suc (a + b) = omega arith in
    let h : count f (a + b) ≡ count f a + count (λ x. f (a + x)) b = count-split f a b in
    rw e (omega arith)

-- counted from the end
count-back : (f : ℕ → Bool) (n k : ℕ) → k ≤ n → count (λ p. f (n - suc p)) k + count f (n - k) ≡ count f n
count-back f n zero h = let e : n - zero ≡ n = sub-zero n in let z : count (λ p. f (n - suc p)) zero ≡ 0 = count-zero (λ p. f (n - suc p)) in let y : count f (n - zero) ≡ count f n = ap (count f) e in omega arith
count-back f n (suc k) h =
    let u : k ≤ n = omega arith in
    let a : count (λ p. f (n - suc p)) k + count f (n - k) ≡ count f n = count-back f n k u in
    let e : n - k ≡ suc (n - suc k) = omega arith in
    let b : count f (n - k) ≡ count f (n - suc k) + bit (f (n - suc k)) = ap (count f) e ∙ count-more f (n - suc k) in
    let d : count (λ p. f (n - suc p)) (suc k) ≡ count (λ p. f (n - suc p)) k + bit (f (n - suc k)) = count-more (λ p. f (n - suc p)) k in
    omega arith

both : (f r h : ℕ → Bool) (n : ℕ) → ((p : ℕ) → p < n → bit (f p) + bit (r p) ≡ 1 + bit (h p)) → count f n + count r n ≡ n + count h n
unfolding count
both f r h zero e = refl
both f r h (suc n) e =
    let a : count f n + count r n ≡ n + count h n = both f r h n (λ p l. e p (omega arith)) in
    let b : bit (f n) + bit (r n) ≡ 1 + bit (h n) = e n (omega arith) in
    omega arith

-- where a test and its mirror pass once, and twice where h passes, twice the count is n and the count of h
mirrored : (f h : ℕ → Bool) (n : ℕ) → ((p : ℕ) → p < n → bit (f p) + bit (f (n - suc p)) ≡ 1 + bit (h p)) → count f n + count f n ≡ n + count h n
mirrored f h n e =
    let a : count f n + count (λ p. f (n - suc p)) n ≡ n + count h n = both f (λ p. f (n - suc p)) h n e in
    let b : count (λ p. f (n - suc p)) n + count f (n - n) ≡ count f n = count-back f n n (omega arith) in
    let z : n - n ≡ zero = omega arith in
    let y : count f (n - n) ≡ 0 = ap (count f) z ∙ count-zero f in
    omega arith

-- ---- the inside of a square, by rows
module _ (j : ℕ) where
  abbrev within : ℕ → Bool
  within c = not (is_end c (suc j))

  inner : (c : ℕ) → c < suc j → (c ≡ 0 → ⊥) → within c ≡ true
  inner c l n = rw (ne_eqb c 0 n, ne_eqb c (suc j) (let m : c ≡ suc j → ⊥ = omega arith in m))

  last_end : within (suc j) ≡ false
  last_end = ap not (end_of (suc j) (suc j) (inr refl))

  row-part : (k : ℕ) → k ≤ j → count within (suc k) ≡ k
  unfolding count
  row-part zero h = refl
  row-part (suc k) h = rw (row-part k (omega arith), inner (suc k) (omega arith) (omega arith)) (omega arith)

  row-all : count within (suc (suc j)) ≡ j
  row-all =
      let a : count within (suc j) ≡ j = row-part j (omega arith) in
      let e : within (suc j) ≡ false = last_end in
      count-more within (suc j) ∙ rw (e, a) (omega arith)

  module _ (h : ℕ → Bool) (grid : (x y : ℕ) → x < suc (suc j) → y < suc (suc j) → h (suc (suc j) * y + x) ≡ within x && within y) where
    row : (y : ℕ) → y < suc (suc j) → count h (suc (suc j) * suc y) ≡ count h (suc (suc j) * y) + cond (within y) j 0
    row y l =
        ap (count h) (mul-suc (suc (suc j)) y) ∙ count-split h (suc (suc j) * y) (suc (suc j))
        ∙ ap (λ (z : ℕ). count h (suc (suc j) * y) + z) (count_same (λ x. h (suc (suc j) * y + x)) (λ x. within x && within y) (suc (suc j)) (λ x m. grid x y m l) ∙ by_row (within y))
      where
        and-true : (a : Bool) → a && true ≡ a
        and-true true = refl
        and-true false = refl

        and-false : (a : Bool) → a && false ≡ false
        and-false true = refl
        and-false false = refl

        by_row : (b : Bool) → count (λ x. within x && b) (suc (suc j)) ≡ cond b j 0
        by_row true = count_same (λ x. within x && true) within (suc (suc j)) (λ x m. and-true (within x)) ∙ row-all
        by_row false = count_none (λ x. within x && false) (suc (suc j)) (λ x m. and-false (within x))

    rows : (k : ℕ) → k ≤ j → count h (suc (suc j) * suc k) ≡ k * j
    rows zero u =
        let e : suc (suc j) * zero ≡ zero = mul-zero (suc (suc j)) in
        row zero (omega arith) ∙ ap (λ (z : ℕ). z + 0) (ap (count h) e ∙ count-zero h) ∙ sym (zero-mul j)
    rows (suc k) u =
        let w : within (suc k) ≡ true = inner (suc k) (omega arith) (omega arith) in
        let a : count h (suc (suc j) * suc k) ≡ k * j = rows k (omega arith) in
        let b : count h (suc (suc j) * suc (suc k)) ≡ count h (suc (suc j) * suc k) + cond (within (suc k)) j 0 = row (suc k) (omega arith) in
        let d : cond (within (suc k)) j 0 ≡ j = rw w in
        let s : suc k * j ≡ k * j + j = suc-mul k j in
        omega arith

    inside-count : count h (suc (suc j) * suc (suc j)) ≡ j * j
    inside-count =
        let a : count h (suc (suc j) * suc j) ≡ j * j = rows j (omega arith) in
        let b : count h (suc (suc j) * suc (suc j)) ≡ count h (suc (suc j) * suc j) + cond (within (suc j)) j 0 = row (suc j) (omega arith) in
        let w : within (suc j) ≡ false = last_end in
        let d : cond (within (suc j)) j 0 ≡ 0 = rw w in
        omega arith

-- ---- two points that are opposite
chosen : (a b : Bool) (p q : ℕ) → cond b (min (cond a (min p q) p) (cond a (min q p) q)) (cond a (min p q) p) ≡ cond (a || b) (min p q) p
chosen true true p q = omega arith
chosen true false p q = refl
chosen false true p q = refl
chosen false false p q = refl

assembled : (a b e : Bool) (p q x y z : ℕ) → x ≡ q → y ≡ q → e ≡ a → z ≡ p → cond b (min (cond a (min p x) p) (cond e (min y z) y)) (cond a (min p x) p) ≡ cond (a || b) (min p q) p
assembled a b e p q x y z hx hy he hz = rw (hx, hy, he, hz) (chosen a b p q)

-- on the border one of two opposite points is the lesser, inside each is its own
paired : (b : Bool) (p q x y : ℕ) → x ≡ cond b (min p q) p → y ≡ cond b (min q p) q → (b ≡ true → p ≡ q → ⊥) → bit (eqb x p) + bit (eqb y q) ≡ 1 + bit (not b)
paired false p q x y hx hy n = rw (eq-eqb x p hx, eq-eqb y q hy)
paired true p q x y hx hy n =
    ⊎_elim
    (λ (l : p < q).
    let u : x ≡ p = omega arith in
    let v : y ≡ q → ⊥ = omega arith in
    rw (eq-eqb x p u, ne_eqb y q v))
    (λ (l : q ≤ p).
    let w : p ≡ q → ⊥ = n refl in
    let u : x ≡ p → ⊥ = λ e. w (omega arith) in
    let v : y ≡ q = omega arith in
    rw (ne_eqb x p u, eq-eqb y q v))
    (lt-or-ge p q)

neither : (a b : Bool) → not (a || b) ≡ not a && not b
neither true b = refl
neither false b = refl

module _ (g : Grid) (j : ℕ) (flat : g.d ≡ 2) (first : axis_of g 0 ≡ twisted_axis (suc j) 2) (second : axis_of g 1 ≡ twisted_axis (suc j) 1) where
  abbrev pub side : ℕ
  side = suc (suc j)

  cells-0 : cells_on g 0 ≡ suc j
  cells-0 = ap (λ (a : Axis). a.count) first

  cells-1 : cells_on g 1 ≡ suc j
  cells-1 = ap (λ (a : Axis). a.count) second

  pub points-are : points_of g ≡ side * side
  unfolding product axis_of
  points-are = rw (flat, cells-0, cells-1, add-one (suc j)) (ap (λ (x : ℕ). x * side) (one-mul side))

  pub point-is : (c : ℕ → ℕ) → point_of g c ≡ side * c 1 + c 0
  unfolding from_digits product axis_of
  point-is c =
      rw (flat, cells-0, add-one (suc j))
      (let a : 1 * c 0 ≡ c 0 = one-mul (c 0) in let b : 1 * side * c 1 ≡ side * c 1 = ap (λ (x : ℕ). x * c 1) (one-mul side) in omega arith)

  two : (k : ℕ) → k < g.d → (k ≡ 0) ⊎ (k ≡ 1)
  two k l = let e : g.d ≡ 2 = flat in ⊎_elim (λ (m : k < 1). inl (omega arith)) (λ (m : 1 ≤ k). inr (omega arith)) (lt-or-ge k 1)

  in-0 : 0 < g.d
  in-0 = let e : g.d ≡ 2 = flat in omega arith

  in-1 : 1 < g.d
  in-1 = let e : g.d ≡ 2 = flat in omega arith

  -- a step along either axis turns both
  turns-00 : turns_at g 0 0 ≡ true
  turns-00 = refl

  turns-01 : turns_at g 0 1 ≡ true
  turns-01 = rw first

  turns-10 : turns_at g 1 0 ≡ true
  turns-10 = rw second

  turns-11 : turns_at g 1 1 ≡ true
  turns-11 = refl

  shut-0 : closed_at g 0 ≡ true
  shut-0 = ap (λ (a : Axis). closed_of a.glue) first

  shut-1 : closed_at g 1 ≡ true
  shut-1 = ap (λ (a : Axis). closed_of a.glue) second

  module _ (p : ℕ) (h : p < points_of g) where
    x-le : coord_at g p 0 ≤ suc j
    x-le = subst (λ (n : ℕ). coord_at g p 0 ≤ n) cells-0 (coord-le g p 0)

    y-le : coord_at g p 1 ≤ suc j
    y-le = subst (λ (n : ℕ). coord_at g p 1 ≤ n) cells-1 (coord-le g p 1)

    -- opposite points make the whole
    opposite : (a : ℕ) → turns_at g a 0 ≡ true → turns_at g a 1 ≡ true → across_of g p a + p + 1 ≡ side * side
    opposite a t0 t1 =
        let x : ℕ = coord_at g p 0 in
        let y : ℕ = coord_at g p 1 in
        let hx : x ≤ suc j = x-le in
        let hy : y ≤ suc j = y-le in
        let e : side * y + x ≡ p = sym (point-is (coord_at g p)) ∙ point-of-coords g p h in
        let f : across_of g p a ≡ side * (suc j - y) + (suc j - x) = point-is (λ k. turn (turns_at g a k) (cells_on g k) (coord_at g p k)) ∙ rw (t0, t1, cells-0, cells-1) in
        let d : suc j - y + y ≡ suc j = omega arith in
        let s : side * (suc j - y + y) ≡ side * (suc j - y) + side * y = mul-add side (suc j - y) y in
        let w : side * (suc j - y + y) ≡ side * suc j = ap (λ (z : ℕ). side * z) d in
        let u : side * side ≡ side * suc j + side = mul-suc side (suc j) in
        omega arith

    abbrev pub mirror : ℕ
    mirror = side * side - suc p

    pub across-0 : across_of g p 0 ≡ mirror
    across-0 = let e : across_of g p 0 + p + 1 ≡ side * side = opposite 0 turns-00 turns-01 in omega arith

    across-1 : across_of g p 1 ≡ mirror
    across-1 = let e : across_of g p 1 + p + 1 ≡ side * side = opposite 1 turns-10 turns-11 in omega arith

    mirror-lt : mirror < points_of g
    mirror-lt = subst (λ (z : ℕ). z < points_of g) across-0 (across_lt g p 0)

    mirror-end : (b : ℕ) → b < g.d → end_at g mirror b ≡ end_at g p b
    mirror-end b l = subst (λ (z : ℕ). end_at g z b ≡ end_at g p b) across-0 (across-end g p 0 b l)

    abbrev pub border : Bool
    border = end_at g p 0 || end_at g p 1

    below-side : p < side * side
    below-side = subst (λ (z : ℕ). p < z) points-are h

  -- the opposite of the opposite
  mirror-back : (p : ℕ) (h : p < points_of g) → mirror (mirror p h) (mirror-lt p h) ≡ p
  mirror-back p h = let l : p < side * side = below-side p h in omega arith

  pub least-is : (p : ℕ) (h : p < points_of g) → least_of g p ≡ cond (border p h) (min p (mirror p h)) p
  unfolding least_below
  least-is p h =
      ap (λ (k : ℕ). least_below g k p) flat
      ∙ assembled (end_at g p 0) (end_at g p 1) (end_at g (across_of g p 1) 0) p (mirror p h) (across_of g p 0) (across_of g p 1) (across_of g (across_of g p 1) 0)
      (across-0 p h) (across-1 p h) (across-end g p 1 0 in-0)
      (ap (λ (z : ℕ). across_of g z 0) (across-1 p h) ∙ across-0 (mirror p h) (mirror-lt p h) ∙ mirror-back p h)

  -- a border point is not its own opposite
  no-half : (x : ℕ) → is_end x (suc j) ≡ true → x ≡ suc j - x → ⊥
  no-half x e q = ⊎_elim (λ (z : x ≡ 0). omega arith) (λ (z : x ≡ suc j). omega arith) (of_end x (suc j) e)

  pub end-is-0 : (p : ℕ) → end_at g p 0 ≡ is_end (coord_at g p 0) (suc j)
  end-is-0 p = rw (shut-0, cells-0)

  pub end-is-1 : (p : ℕ) → end_at g p 1 ≡ is_end (coord_at g p 1) (suc j)
  end-is-1 p = rw (shut-1, cells-1)

  half-0 : (p : ℕ) (h : p < points_of g) → p ≡ mirror p h → coord_at g p 0 ≡ suc j - coord_at g p 0
  half-0 p h e = ap (λ (z : ℕ). coord_at g z 0) (e ∙ sym (across-0 p h)) ∙ across-coord g p 0 0 in-0 ∙ ap (λ (n : ℕ). n - coord_at g p 0) cells-0

  half-1 : (p : ℕ) (h : p < points_of g) → p ≡ mirror p h → coord_at g p 1 ≡ suc j - coord_at g p 1
  half-1 p h e =
      ap (λ (z : ℕ). coord_at g z 1) (e ∙ sym (across-0 p h)) ∙ across-coord g p 0 1 in-1 ∙ ap (λ (b : Bool). turn b (cells_on g 1) (coord_at g p 1)) turns-01 ∙ ap (λ (n : ℕ). n - coord_at g p 1) cells-1

  apart : (p : ℕ) (h : p < points_of g) → border p h ≡ true → p ≡ mirror p h → ⊥
  apart p h b e =
      ⊎_elim
      (λ (t : end_at g p 0 ≡ true). no-half (coord_at g p 0) (sym (end-is-0 p) ∙ t) (half-0 p h e))
      (λ (t : end_at g p 1 ≡ true). no-half (coord_at g p 1) (sym (end-is-1 p) ∙ t) (half-1 p h e))
      (or_cases (end_at g p 0) (end_at g p 1) b)

  pair : (p : ℕ) (h : p < points_of g) → bit (leads (least_of g) p) + bit (leads (least_of g) (mirror p h)) ≡ 1 + bit (not (border p h))
  pair p h =
      paired (border p h) p (mirror p h) (least_of g p) (least_of g (mirror p h)) (least-is p h)
      (least-is (mirror p h) (mirror-lt p h) ∙ turned-back (end_at g (mirror p h) 0) (end_at g (mirror p h) 1) (end_at g p 0) (end_at g p 1) (mirror p h) (mirror (mirror p h) (mirror-lt p h)) p (mirror-end p h 0 in-0) (mirror-end p h 1 in-1) (mirror-back p h))
      (apart p h)
    where
      turned-back : (a b c d : Bool) (q r p : ℕ) → a ≡ c → b ≡ d → r ≡ p → cond (a || b) (min q r) q ≡ cond (c || d) (min q p) q
      turned-back a b c d q r p x y z = rw (x, y, z)

  -- inside the border, by coordinates
  abbrev inside : ℕ → Bool
  inside p = not (end_at g p 0 || end_at g p 1)

  inside-at : (x y : ℕ) → x < side → y < side → inside (side * y + x) ≡ within j x && within j y
  inside-at x y lx ly =
      let small : (k : ℕ) → k < g.d → cond (eqb k 0) x y ≤ cells_on g k = λ k l. ⊎_elim (λ (e : k ≡ 0). small-0 k e) (λ (e : k ≡ 1). small-1 k e) (two k l) in
      let e : point_of g (λ k. cond (eqb k 0) x y) ≡ side * y + x = point-is (λ k. cond (eqb k 0) x y) in
      let u : coord_at g (side * y + x) 0 ≡ x = subst (λ (z : ℕ). coord_at g z 0 ≡ x) e (coord-of-point g (λ k. cond (eqb k 0) x y) small 0 in-0) in
      let v : coord_at g (side * y + x) 1 ≡ y = subst (λ (z : ℕ). coord_at g z 1 ≡ y) e (coord-of-point g (λ k. cond (eqb k 0) x y) small 1 in-1) in
      by-ends (end_at g (side * y + x) 0) (end_at g (side * y + x) 1) (end-is-0 (side * y + x) ∙ ap (λ (z : ℕ). is_end z (suc j)) u) (end-is-1 (side * y + x) ∙ ap (λ (z : ℕ). is_end z (suc j)) v)
    where
      small-0 : (k : ℕ) → k ≡ 0 → cond (eqb k 0) x y ≤ cells_on g k
      small-0 k e = rw (e, cells-0) (let z : x ≤ suc j = omega arith in z)

      small-1 : (k : ℕ) → k ≡ 1 → cond (eqb k 0) x y ≤ cells_on g k
      small-1 k e = rw (e, cells-1) (let z : y ≤ suc j = omega arith in z)

      by-ends : (a b : Bool) → a ≡ is_end x (suc j) → b ≡ is_end y (suc j) → not (a || b) ≡ within j x && within j y
      by-ends a b ha hb = rw (ha, hb) (neither (is_end x (suc j)) (is_end y (suc j)))

  leads-count : count (leads (least_of g)) (side * side) ≡ suc j * suc j + 1
  leads-count =
      let a : count (leads (least_of g)) (side * side) + count (leads (least_of g)) (side * side) ≡ side * side + count inside (side * side) =
      mirrored (leads (least_of g)) inside (side * side) (λ p l. pair p (subst (λ (z : ℕ). p < z) (sym points-are) l)) in
      let b : count inside (side * side) ≡ j * j = inside-count j inside inside-at in
      let s : side * side ≡ side * suc j + side = mul-suc side (suc j) in
      let t : side * suc j ≡ suc j * suc j + suc j = suc-mul (suc j) (suc j) in
      let u : suc j * suc j ≡ suc j * j + suc j = mul-suc (suc j) j in
      let v : suc j * j ≡ j * j + j = suc-mul j j in
      omega arith

  square-suc : (c : ℕ → ℕ) (m : ℕ) → Classing g c m → m ≡ suc j * suc j + 1
  square-suc c m k =
      (classing-one g c (class_by (least_of g)) m (count (leads (least_of g)) (points_of g)) k (numbering g (least_of g) (least-law g))).1
      ∙ ap (count (leads (least_of g))) points-are ∙ leads-count

-- n by n cells, axis 0 twisted over 1 and axis 1 over 0: n·n + 1 classes
pub square-classes : (g : Grid) (n : ℕ) → 1 ≤ n → g.d ≡ 2 → axis_of g 0 ≡ twisted_axis n 2 → axis_of g 1 ≡ twisted_axis n 1 → (c : ℕ → ℕ) (m : ℕ) → Classing g c m → m ≡ n * n + 1
square-classes g zero h flat first second = absurd (not-suc-le-zero h)
square-classes g (suc j) h flat first second = square-suc g j flat first second
