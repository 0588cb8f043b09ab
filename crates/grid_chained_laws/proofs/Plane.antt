-- A square of n by n cells whose two axes are twisted over each other, n from 3 on: its words have a facet in three cells. The triangle at the far end of axis 0 in the
-- first row and the one at the far end of axis 1 in the first column have the same classes, so their boxes share a diagonal, which lies in this cell and in the other
-- triangle of each box. Assumes nothing.
use Rattle.refusal.specs.declared.Refusal.TheVariants.{CrowdedFacet}
use Rattle.refusal.specs.Says.{Counted, fine}
use Rattle.std.specs.Prelude.{Err}
use mathlib.Core.Path.{◌≡◌, refl, sym, ap, subst, ◌∙◌}
use mathlib.Core.Bool.{Bool, true, false, cond, ◌||◌}
use mathlib.Core.Logic.{◌⊎◌, inl, inr, ⊎_elim}
use mathlib.Core.List.{List, [], ◌∷◌, map}
use Prim.Native.Nat.{ℕ, zero, suc, ◌+◌, ◌-◌, ◌*◌, ◌/◌, ◌%◌, ◌≤◌, ◌<◌, min}
use native.Mathlib.Nat.{one-mul, mul-one, mul-zero, mul-suc, suc-mul, mul-le-mul_right, add-zero, mod-eq_of_lt, div-eq_of_lt, zero-mod, mul-div_cancel, mul-mod_left}
use native.Mathlib.Numerals.{add-one}
use native.Mathlib.Omega.{arith}
use lib.Dec.{ltb, eqb}
use lib.ListN.{length, length-map}
use lib.Arith.{digits_div, digits_mod}
use borrow.Author.Tests.{lt-ltb, le-ltb, ne_eqb}
use Rattle.grid_sides.specs.declared.Sides.{Sides}
use Rattle.refusal.specs.Limits.{most_vertices}
use Rattle.refusal.specs.Lent.{lengths, Roomy}
use Rattle.refusal.specs.Call.{ended}
use Rattle.refusal.proofs.Determined.{comes-one}
use Rattle.lists.specs.Words.{among, has_repeat}
use Rattle.lists.specs.Rows.{row}
use Rattle.lists.proofs.Laws.{map_at}
use Rattle.lists.proofs.Words.{first-none}
use Rattle.lists.proofs.Members.{All, Pairs, Pairs-of}
use Rattle.multiindex.specs.Permutation.{order_of}
use Rattle.multiindex.specs.Sort.{insert_by, insert, sort_word}
use Rattle.complex.specs.Cells.{in_order}
use Rattle.complex.specs.Facets.{cell_at, facet_at, Mates, Crowded}
use Rattle.complex_cells.proofs.Words.{Word, Each, In, at_in}
use Rattle.complex_cells.proofs.Order.{order-has}
use Rattle.quotient.specs.declared.Axis.{Axis}
use Rattle.quotient.specs.declared.Grid.{Grid}
use Rattle.quotient.specs.Fold.{product, count}
use Rattle.quotient.specs.Shape.{axis_of, cells_on, cell_count, check_of}
use Rattle.quotient.specs.Reduce.{coord_at}
use Rattle.quotient.specs.Points.{points_of, point_of, InBox}
use Rattle.quotient.proofs.Points.{coord-le}
use Rattle.quotient.proofs.Laws.{lt-or-ge}
use Rattle.quotient.proofs.Radix.{point-lt, coord-of-point}
use Rattle.grid_words.proofs.Corners.{in-box, corner-rises}
use Rattle.grid_words.proofs.Listed.{cell-length}
use Rattle.grid_words.specs.Cells.{box_at, step_along, met}
use Rattle.grid_words.specs.WorkNumbered.{order_at, cell_no, corner_of}
use Rattle.grid_words.proofs.Flat.{to-tab}
use Rattle.grid_mesh.specs.Words.{grid_need}
use Rattle.grid_chained.specs.Shape.{shape_of}
use Rattle.grid_chained.specs.WorkTurn.{end_at, turns_at, turn, across_of}
use Rattle.grid_chained.proofs.Taken.{few_cells}
use Rattle.grid_chained.proofs.Counts.{few-taken}
use Rattle.grid_chained.specs.Laws.{twisted_axis}
use Rattle.grid_chained.specs.WorkNumber.{leads}
use Rattle.grid_chained.proofs.Turns.{is_end, end_of, of_end, or_cases, across-coord, least_of}
use Rattle.grid_chained.proofs.Orbit.{least-law}
use Rattle.grid_chained.proofs.Numbering.{least-one}
use Rattle.grid_chained.proofs.Square.{points-are, point-is, across-0, least-is, end-is-0, end-is-1, square-classes}
use Rattle.grid_chained.proofs.There.{class_of, class_count, class-numbers}
use Rattle.grid_chained_words.specs.Words.{words_by, flat_by}
use Rattle.grid_chained_mesh.proofs.Determined.{ends-one}
use Rattle.grid_chained_mesh.proofs.Figures.{words-there}
use Rattle.grid_chained_mesh.specs.Words.{first_twice, Crowd, WordsEnd, crowded, CellWords}
use Rattle.grid_chained_laws.specs.Plane.{plane_of, PlaneLaw}
use Rattle.grid_chained_laws.proofs.Words.{word_by, words-tab, words-each, cells_are}
use Rattle.grid_chained_laws.proofs.Words as Words

-- ---- three numbers in order

abbrev sum_of : List ℕ → ℕ
sum_of [] = 0
sum_of (x ∷ xs) = x + sum_of xs

-- lo and hi with a third number: sorted, and where the third stands
record Third (lo hi p : ℕ) : Type 0 where
  cell : List ℕ
  place : ℕ
  few : place ≤ 2
  drops : facet_at cell place ≡ lo ∷ hi ∷ []
  sorts : sort_word (lo ∷ p ∷ hi ∷ []) ≡ cell
  sorts-back : sort_word (hi ∷ p ∷ lo ∷ []) ≡ cell
  sum : sum_of cell ≡ lo + (hi + p)

yes : (a b : ℕ) → a < b → ltb a b ≡ true
yes a b h = lt-ltb a b h

no : (a b : ℕ) → b ≤ a → ltb a b ≡ false
no a b h = le-ltb a b h

module _ (lo hi p : ℕ) (h : lo < hi) where
  third-low : p < lo → Third lo hi p
  unfolding sort_word insert insert_by
  third-low l =
      let a : p ≤ hi = omega arith in
      let b : p < hi = omega arith in
      let c : lo ≤ hi = omega arith in
      let e : p ≤ lo = omega arith in
      record {
        cell = p ∷ lo ∷ hi ∷ [];
        place = 0;
        few = omega arith;
        drops = refl;
        sorts = rw (no hi p a, yes p lo l, no hi lo c);
        sorts-back = rw (no lo p e, yes p hi b, yes lo hi h);
        sum = omega arith;
      }

  third-mid : lo < p → p < hi → Third lo hi p
  unfolding sort_word insert insert_by
  third-mid l m =
      let a : p ≤ hi = omega arith in
      let b : lo ≤ p = omega arith in
      record {
        cell = lo ∷ p ∷ hi ∷ [];
        place = 1;
        few = omega arith;
        drops = refl;
        sorts = rw (no hi p a, no p lo b);
        sorts-back = rw (yes lo p l, yes lo hi h, yes p hi m);
        sum = omega arith;
      }

  third-high : hi < p → Third lo hi p
  unfolding sort_word insert insert_by
  third-high l =
      let a : lo < p = omega arith in
      let b : lo ≤ hi = omega arith in
      let c : hi ≤ p = omega arith in
      record {
        cell = lo ∷ hi ∷ p ∷ [];
        place = 2;
        few = omega arith;
        drops = refl;
        sorts = rw (yes hi p l, no hi lo b);
        sorts-back = rw (yes lo p a, yes lo hi h, no p hi c);
        sum = omega arith;
      }

  third : (p ≡ lo → ⊥) → (p ≡ hi → ⊥) → Third lo hi p
  third m n =
      ⊎_elim
      (λ (l : p < lo). third-low l)
      (λ (l : lo ≤ p).
      let a : lo < p = ⊎_elim (λ (w : lo < p). w) (λ (w : p ≤ lo). absurd (m (omega arith))) (lt-or-ge lo p) in
      ⊎_elim (λ (w : p < hi). third-mid a w) (λ (w : hi ≤ p). third-high (⊎_elim (λ (z : hi < p). z) (λ (z : p ≤ hi). absurd (n (omega arith))) (lt-or-ge hi p))) (lt-or-ge p hi))
      (lt-or-ge p lo)

-- ---- three cells with one side

module _ (cs : List Word) (lo hi : ℕ) where
  sides : (p q : ℕ) (s : Third lo hi p) (t : Third lo hi q) (i j : ℕ) → i < length cs → j < length cs → cell_at cs i ≡ s.cell → cell_at cs j ≡ t.cell → (p ≡ q → ⊥) → Mates 2 cs i s.place j t.place
  sides p q s t i j hi' hj ei ej n =
      record {
        this = record { some = omega arith; cell = hi'; place = s.few };
        that = record { some = omega arith; cell = hj; place = t.few };
        apart = λ e.
            let a : sum_of s.cell ≡ sum_of t.cell = ap sum_of (sym ei ∙ ap (cell_at cs) e ∙ ej) in
            let b : sum_of s.cell ≡ lo + (hi + p) = s.sum in
            let c : sum_of t.cell ≡ lo + (hi + q) = t.sum in
            n (omega arith);
        one = ap (λ (w : List ℕ). facet_at w s.place) ei ∙ s.drops ∙ sym t.drops ∙ sym (ap (λ (w : List ℕ). facet_at w t.place) ej);
      }

  crowd-of : (p q r : ℕ) (s : Third lo hi p) (t : Third lo hi q) (u : Third lo hi r) → In s.cell cs → In t.cell cs → In u.cell cs → (p ≡ q → ⊥) → (p ≡ r → ⊥) → (q ≡ r → ⊥) → Crowded 2 cs
  crowd-of p q r s t u ms mt mu pq pr qr =
      let x = at_in s.cell cs ms in
      let y = at_in t.cell cs mt in
      let z = at_in u.cell cs mu in
      record {
        cell = x.0;
        first = y.0;
        second = z.0;
        at = s.place;
        at_first = t.place;
        at_second = u.place;
        one = sides p q s t x.0 y.0 x.1 y.1 x.2 y.2 pq;
        other = sides p r s u x.0 z.0 x.1 z.1 x.2 z.2 pr;
        apart = (sides q r t u y.0 z.0 y.1 z.1 y.2 z.2 qr).apart;
      }

-- words a p b, a q b and b r a
pub three-cells : (ws : List Word) (a b p q r : ℕ) → Each (λ w. length w ≡ 3) ws → In (a ∷ p ∷ b ∷ []) ws → In (a ∷ q ∷ b ∷ []) ws → In (b ∷ r ∷ a ∷ []) ws →
    (a ≡ b → ⊥) → (p ≡ a → ⊥) → (p ≡ b → ⊥) → (q ≡ a → ⊥) → (q ≡ b → ⊥) → (r ≡ a → ⊥) → (r ≡ b → ⊥) → (p ≡ q → ⊥) → (p ≡ r → ⊥) → (q ≡ r → ⊥) → Crowded 2 (in_order 3 ws)
three-cells ws a b p q r each mp mq mr ab pa pb qa qb ra rb pq pr qr =
    ⊎_elim
    (λ (l : a < b).
    let s : Third a b p = third a b p l pa pb in
    let t : Third a b q = third a b q l qa qb in
    let u : Third a b r = third a b r l ra rb in
    crowd-of (in_order 3 ws) a b p q r s t u (has (a ∷ p ∷ b ∷ []) s.sorts mp) (has (a ∷ q ∷ b ∷ []) t.sorts mq) (has (b ∷ r ∷ a ∷ []) u.sorts-back mr) pq pr qr)
    (λ (l : b ≤ a).
    let k : b < a = ⊎_elim (λ (w : b < a). w) (λ (w : a ≤ b). absurd (ab (omega arith))) (lt-or-ge b a) in
    let s : Third b a p = third b a p k pb pa in
    let t : Third b a q = third b a q k qb qa in
    let u : Third b a r = third b a r k rb ra in
    crowd-of (in_order 3 ws) b a p q r s t u (has (a ∷ p ∷ b ∷ []) s.sorts-back mp) (has (a ∷ q ∷ b ∷ []) t.sorts-back mq) (has (b ∷ r ∷ a ∷ []) u.sorts mr) pq pr qr)
    (lt-or-ge a b)
  where
    has : (w : Word) {v : Word} → sort_word w ≡ v → In w ws → In v (in_order 3 ws)
    has w {v} e m = subst (λ (z : Word). In z (in_order 3 ws)) e (order-has 3 ws w each m)

-- ---- numbers that differ
not-among : (v : ℕ) (ws : List ℕ) → All (λ x. v ≡ x → ⊥) ws → among v ws ≡ false
unfolding among
not-among v [] a = refl
not-among v (x ∷ ws) a = rw (ne_eqb x v (λ e. a.0 (sym e)), not-among v ws a.1)

no-repeat : (ws : List ℕ) → Pairs (λ x y. x ≡ y → ⊥) ws → has_repeat ws ≡ false
unfolding has_repeat
no-repeat [] p = refl
no-repeat (x ∷ ws) p = rw (not-among x ws p.0, no-repeat ws p.1)

-- ---- the square

module _ (j : ℕ) (large : 2 ≤ j) (third-axis : Axis) (s : Sides) where
  abbrev g : Grid
  g = plane_of (suc j) third-axis s

  abbrev N : ℕ
  N = suc (suc j)

  first-is : axis_of g 0 ≡ twisted_axis (suc j) 2
  unfolding axis_of
  first-is = refl

  second_is : axis_of g 1 ≡ twisted_axis (suc j) 1
  unfolding axis_of
  second_is = refl

  cells-0 : cells_on g 0 ≡ suc j
  cells-0 = ap (λ (a : Axis). a.count) first-is

  cells-1 : cells_on g 1 ≡ suc j
  cells-1 = ap (λ (a : Axis). a.count) second_is

  -- the point (x, y)
  abbrev pt : ℕ → ℕ → ℕ
  pt x y = N * y + x

  digit : ℕ → ℕ → ℕ → ℕ
  digit x y k = cond (eqb k 0) x y

  module _ (x y : ℕ) (hx : x ≤ suc j) (hy : y ≤ suc j) where
    small : (k : ℕ) → k < 2 → digit x y k ≤ cells_on g k
    unfolding digit
    small k l = ⊎_elim (λ (e : k < 1). let z : k ≡ 0 = omega arith in rw (z, cells-0) hx) (λ (e : 1 ≤ k). let z : k ≡ 1 = omega arith in rw (z, cells-1) hy) (lt-or-ge k 1)

    pt-is : point_of g (digit x y) ≡ pt x y
    unfolding digit
    pt-is = point-is g j refl first-is second_is (digit x y)

    pt-lt : pt x y < points_of g
    pt-lt = subst (λ (z : ℕ). z < points_of g) pt-is (point-lt g (digit x y) small)

    x-is : coord_at g (pt x y) 0 ≡ x
    unfolding digit
    x-is = subst (λ (z : ℕ). coord_at g z 0 ≡ x) pt-is (coord-of-point g (digit x y) small 0 (omega arith))

    y-is : coord_at g (pt x y) 1 ≡ y
    unfolding digit
    y-is = subst (λ (z : ℕ). coord_at g z 1 ≡ y) pt-is (coord-of-point g (digit x y) small 1 (omega arith))

    least-pt : least_of g (pt x y) ≡ cond (is_end x (suc j) || is_end y (suc j)) (min (pt x y) (N * N - suc (pt x y))) (pt x y)
    least-pt =
        least-is g j refl first-is second_is (pt x y) pt-lt
        ∙ ap (λ (b : Bool). cond b (min (pt x y) (N * N - suc (pt x y))) (pt x y)) (both_ends (end-is-0 g j refl first-is second_is (pt x y) ∙ ap (λ (z : ℕ). is_end z (suc j)) x-is) (end-is-1 g j refl first-is second_is (pt x y) ∙ ap (λ (z : ℕ). is_end z (suc j)) y-is))
      where
        both_ends : {a b c e : Bool} → a ≡ c → b ≡ e → a || b ≡ c || e
        both_ends {a} {b} {c} {e} h k = rw (h, k)

    least-border : (is_end x (suc j) ≡ true) ⊎ (is_end y (suc j) ≡ true) → least_of g (pt x y) ≡ min (pt x y) (N * N - suc (pt x y))
    least-border h =
        let t : is_end x (suc j) || is_end y (suc j) ≡ true = ⊎_elim (λ (e : is_end x (suc j) ≡ true). at_first e) (λ (e : is_end y (suc j) ≡ true). at_second e) h in
        least-pt ∙ ap (λ (b : Bool). cond b (min (pt x y) (N * N - suc (pt x y))) (pt x y)) t
      where
        or-end : (b : Bool) → b || true ≡ true
        or-end true = refl
        or-end false = refl

        at_first : is_end x (suc j) ≡ true → is_end x (suc j) || is_end y (suc j) ≡ true
        at_first e = ap (λ (b : Bool). b || is_end y (suc j)) e

        at_second : is_end y (suc j) ≡ true → is_end x (suc j) || is_end y (suc j) ≡ true
        at_second e = ap (λ (b : Bool). is_end x (suc j) || b) e ∙ or-end (is_end x (suc j))

    least-inner : 0 < x → x < suc j → 0 < y → y < suc j → least_of g (pt x y) ≡ pt x y
    least-inner a b c e =
        let p : x ≡ 0 → ⊥ = λ z. omega arith in
        let q : x ≡ suc j → ⊥ = λ z. omega arith in
        let r : y ≡ 0 → ⊥ = λ z. omega arith in
        let t : y ≡ suc j → ⊥ = λ z. omega arith in
        let u : is_end x (suc j) || is_end y (suc j) ≡ false = rw (ne_eqb x 0 p, ne_eqb x (suc j) q, ne_eqb y 0 r, ne_eqb y (suc j) t) in
        least-pt ∙ ap (λ (z : Bool). cond z (min (pt x y) (N * N - suc (pt x y))) (pt x y)) u

  -- other least points, other classes
  classes-apart : (p q : ℕ) → p < points_of g → q < points_of g → (least_of g p ≡ least_of g q → ⊥) → class_of g p ≡ class_of g q → ⊥
  classes-apart p q hp hq n e = n (least-one g (((class-numbers g).classes p q hp hq).0 e) (least-law g p hp) (least-law g q hq))

  classes-one : (p q : ℕ) → least_of g p ≡ least_of g q → class_of g p ≡ class_of g q
  classes-one p q e = ap (count (leads (least_of g))) e

  -- ---- products
  abbrev P : ℕ
  P = N * suc j

  squared : N * N ≡ P + N
  squared = mul-suc N (suc j)

  wide : 4 * suc j ≤ P
  wide = mul-le-mul_right (suc j) (let z : 4 ≤ N = omega arith in z)

  before : N * j + N ≡ P
  before = sym (mul-suc N j)

  -- ---- the points: a at the far end of axis 0, its diagonal b, and what makes the three cells
  abbrev a : ℕ
  a = pt j 0

  abbrev b : ℕ
  b = pt (suc j) 1

  abbrev far : ℕ
  far = pt (suc j) 0

  abbrev u : ℕ
  u = pt j 1

  abbrev w : ℕ
  w = pt 1 j

  abbrev a' : ℕ
  a' = pt 1 (suc j)

  abbrev b' : ℕ
  b' = pt 0 j

  zero_row : N * 0 ≡ 0
  zero_row = mul-zero N

  one-row : N * 1 ≡ N
  one-row = mul-one N

  min-left : (x y z : ℕ) → x ≡ z → z ≤ y → min x y ≡ z
  min-left x y z e h = omega arith

  min-right : (x y z : ℕ) → y ≡ z → z ≤ x → min x y ≡ z
  min-right x y z e h = omega arith

  least-a : least_of g a ≡ j
  least-a =
      least-border j 0 (omega arith) (omega arith) (inr refl)
      ∙ min-left a (N * N - suc a) j (omega (arith, zero_row)) (omega (arith, zero_row, squared, wide))

  least-a' : least_of g a' ≡ j
  least-a' =
      least-border 1 (suc j) (omega arith) (omega arith) (inr (end_of (suc j) (suc j) (inr refl)))
      ∙ min-right a' (N * N - suc a') j (omega (arith, squared)) (omega (arith, squared, wide))

  least-far : least_of g far ≡ suc j
  least-far =
      least-border (suc j) 0 (omega arith) (omega arith) (inr refl)
      ∙ min-left far (N * N - suc far) (suc j) (omega (arith, zero_row)) (omega (arith, zero_row, squared, wide))

  least-b : least_of g b ≡ N + suc j
  least-b =
      least-border (suc j) 1 (omega arith) (omega arith) (inl (end_of (suc j) (suc j) (inr refl)))
      ∙ min-left b (N * N - suc b) (N + suc j) (omega (arith, one-row)) (omega (arith, one-row, squared, wide))

  least-b' : least_of g b' ≡ N + suc j
  least-b' =
      least-border 0 j (omega arith) (omega arith) (inl refl)
      ∙ min-right b' (N * N - suc b') (N + suc j) (omega (arith, squared, before, wide)) (omega (arith, squared, before, wide))

  least-u : least_of g u ≡ N + j
  least-u = least-inner j 1 (omega arith) (omega arith) (omega arith) (omega arith) (omega arith) (omega arith) ∙ (let z : u ≡ N + j = omega (arith, one-row) in z)

  least-w : least_of g w ≡ N * j + 1
  least-w = least-inner 1 j (omega arith) (omega arith) (omega arith) (omega arith) (omega arith) (omega arith)

  apart_by : (p q x y : ℕ) → p < points_of g → q < points_of g → least_of g p ≡ x → least_of g q ≡ y → (x ≡ y → ⊥) → class_of g p ≡ class_of g q → ⊥
  apart_by p q x y hp hq ep eq n = classes-apart p q hp hq (λ e. n (sym ep ∙ e ∙ eq))

  in-a : a < points_of g
  in-a = pt-lt j 0 (omega arith) (omega arith)

  in_b : b < points_of g
  in_b = pt-lt (suc j) 1 (omega arith) (omega arith)

  in-far : far < points_of g
  in-far = pt-lt (suc j) 0 (omega arith) (omega arith)

  in-u : u < points_of g
  in-u = pt-lt j 1 (omega arith) (omega arith)

  in-w : w < points_of g
  in-w = pt-lt 1 j (omega arith) (omega arith)

  -- ---- the cells
  count-is : cell_count g ≡ 2 * (suc j * suc j)
  unfolding product
  count-is =
      ap (λ (x : ℕ). 2 * (x * cells_on g 1)) (one-mul (cells_on g 0)) ∙ ap (λ (x : ℕ). 2 * (x * cells_on g 1)) cells-0 ∙ ap (λ (x : ℕ). 2 * (suc j * x)) cells-1

  module _ (taken : check_of g ≡ fine) where
    abbrev c : ℕ → ℕ
    c = class_of g

    -- the words of a box, along axis 0 first and along axis 1 first
    cell-even : (x : ℕ) → cell_no g (x * 2 + 0) ≡ met g (box_at g x) (0 ∷ 1 ∷ [])
    cell-even x =
        ap (λ (k : ℕ). met g (box_at g k) (order_at g (x * 2 + 0))) (digits_div x {m = 2} {r = 0} (omega arith))
        ∙ ap (λ (k : ℕ). met g (box_at g x) (order_of 2 (2 - 1 - k))) (digits_mod x {m = 2} {r = 0} (omega arith))

    cell-odd : (x : ℕ) → cell_no g (x * 2 + 1) ≡ met g (box_at g x) (1 ∷ 0 ∷ [])
    cell-odd x =
        ap (λ (k : ℕ). met g (box_at g k) (order_at g (x * 2 + 1))) (digits_div x {m = 2} {r = 1} (omega arith))
        ∙ ap (λ (k : ℕ). met g (box_at g x) (order_of 2 (2 - 1 - k))) (digits_mod x {m = 2} {r = 1} (omega arith))

    -- the points that a box's cells meet, where its origin is (x, y)
    module _ (k x y : ℕ) (ex : box_at g k 0 ≡ x) (ey : box_at g k 1 ≡ y) where
      point_at : (f : ℕ → ℕ) (i l : ℕ) → f 0 ≡ i → f 1 ≡ l → point_of g f ≡ pt i l
      point_at f i l e h = point-is g j refl first-is second_is f ∙ rw (e, h)

      met-even : met g (box_at g k) (0 ∷ 1 ∷ []) ≡ pt x y ∷ pt (x + 1) y ∷ pt (x + 1) (y + 1) ∷ []
      unfolding met
      met-even =
          rw (
            point_at (box_at g k) x y ex ey,
            point_at (step_along 0 (box_at g k)) (x + 1) y (ap (λ (z : ℕ). z + 1) ex) (add-zero _ ∙ ey),
            point_at (step_along 1 (step_along 0 (box_at g k))) (x + 1) (y + 1) (add-zero _ ∙ ap (λ (z : ℕ). z + 1) ex) (ap (λ (z : ℕ). z + 1) (add-zero _ ∙ ey)),
          )

      met-odd : met g (box_at g k) (1 ∷ 0 ∷ []) ≡ pt x y ∷ pt x (y + 1) ∷ pt (x + 1) (y + 1) ∷ []
      unfolding met
      met-odd =
          rw (
            point_at (box_at g k) x y ex ey,
            point_at (step_along 1 (box_at g k)) x (y + 1) (add-zero _ ∙ ex) (ap (λ (z : ℕ). z + 1) ey),
            point_at (step_along 0 (step_along 1 (box_at g k))) (x + 1) (y + 1) (ap (λ (z : ℕ). z + 1) (add-zero _ ∙ ex)) (add-zero _ ∙ ap (λ (z : ℕ). z + 1) ey),
          )

    -- ---- the two boxes
    by_one : (x : ℕ) → x / 1 ≡ x
    by_one x = ap (λ (z : ℕ). z / 1) (sym (add-zero (x * 1) ∙ mul-one x)) ∙ digits_div x {m = 1} {r = 0} (omega arith)

    width_is : product (cells_on g) 1 ≡ suc j
    unfolding product
    width_is = one-mul (cells_on g 0) ∙ cells-0

    first-x : box_at g j 0 ≡ j
    unfolding product
    first-x = ap (λ (m : ℕ). j / 1 % m) cells-0 ∙ ap (λ (z : ℕ). z % suc j) (by_one j) ∙ mod-eq_of_lt (omega arith)

    first-y : box_at g j 1 ≡ 0
    first-y = ap (λ (m : ℕ). j / m % cells_on g 1) width_is ∙ ap (λ (z : ℕ). z % cells_on g 1) (div-eq_of_lt {n = j} {m = suc j} (omega arith)) ∙ zero-mod (cells_on g 1)

    abbrev R : ℕ
    R = j * suc j

    second-x : box_at g R 0 ≡ 0
    unfolding product
    second-x = ap (λ (m : ℕ). R / 1 % m) cells-0 ∙ ap (λ (z : ℕ). z % suc j) (by_one R) ∙ mul-mod_left j (suc j)

    second-y : box_at g R 1 ≡ j
    second-y =
        ap (λ (m : ℕ). R / m % cells_on g 1) width_is ∙ ap (λ (z : ℕ). z % cells_on g 1) (mul-div_cancel j {n = suc j} (omega arith))
        ∙ ap (λ (m : ℕ). j % m) cells-1 ∙ mod-eq_of_lt (omega arith)

    -- ---- the three words
    square-is : suc j * suc j ≡ R + suc j
    square-is = suc-mul j (suc j)

    in_words : (x : ℕ) (v : Word) → x < cell_count g → map c (cell_no g x) ≡ v → In v (words_by g c)
    in_words x v h e =
        subst (λ (z : Word). In z (words_by g c)) e (subst (λ (ws : List Word). In (map c (cell_no g x)) ws) (sym (words-tab g taken c)) (to-tab (word_by g taken c) (cell_count g) x h))

    word-p : In (c a ∷ c far ∷ c b ∷ []) (words_by g c)
    word-p =
        in_words (j * 2 + 0) (c a ∷ c far ∷ c b ∷ []) (omega (arith, count-is, square-is))
        (ap (map c) (cell-even j ∙ met-even j j 0 first-x first-y) ∙ ap (λ (z : ℕ). map c (pt j 0 ∷ pt z 0 ∷ pt z 1 ∷ [])) (add-one j))

    word-q : In (c a ∷ c u ∷ c b ∷ []) (words_by g c)
    word-q =
        in_words (j * 2 + 1) (c a ∷ c u ∷ c b ∷ []) (omega (arith, count-is, square-is))
        (ap (map c) (cell-odd j ∙ met-odd j j 0 first-x first-y) ∙ ap (λ (z : ℕ). map c (pt j 0 ∷ pt j 1 ∷ pt z 1 ∷ [])) (add-one j))

    word-r : In (c b ∷ c w ∷ c a ∷ []) (words_by g c)
    word-r =
        in_words (R * 2 + 0) (c b ∷ c w ∷ c a ∷ []) (omega (arith, count-is, square-is))
        (ap (map c) (cell-even R ∙ met-even R 0 j second-x second-y) ∙ ap (λ (z : ℕ). map c (pt 0 j ∷ pt 1 j ∷ pt 1 z ∷ [])) (add-one j)
        ∙ ap (λ (z : ℕ). z ∷ c w ∷ c a' ∷ []) (classes-one b' b (least-b' ∙ sym least-b)) ∙ ap (λ (z : ℕ). c b ∷ c w ∷ z ∷ []) (classes-one a' a (least-a' ∙ sym least-a)))

    crowded-cells : Crowded 2 (in_order 3 (words_by g c))
    crowded-cells =
        three-cells (words_by g c) (c a) (c b) (c far) (c u) (c w) (words-each g taken c) word-p word-q word-r
        (apart_by a b j (N + suc j) in-a in_b least-a least-b (λ e. omega arith))
        (apart_by far a (suc j) j in-far in-a least-far least-a (λ e. omega arith))
        (apart_by far b (suc j) (N + suc j) in-far in_b least-far least-b (λ e. omega arith))
        (apart_by u a (N + j) j in-u in-a least-u least-a (λ e. omega arith))
        (apart_by u b (N + j) (N + suc j) in-u in_b least-u least-b (λ e. omega arith))
        (apart_by w a (N * j + 1) j in-w in-a least-w least-a (λ e. far-off (omega arith)))
        (apart_by w b (N * j + 1) (N + suc j) in-w in_b least-w least-b (λ e. far-off (omega arith)))
        (apart_by far u (suc j) (N + j) in-far in-u least-far least-u (λ e. omega arith))
        (apart_by far w (suc j) (N * j + 1) in-far in-w least-far least-w (λ e. far-off (omega arith)))
        (apart_by u w (N + j) (N * j + 1) in-u in-w least-u least-w (λ e. far-off (omega arith)))
      where
        far-off : N * j + 1 ≤ N + suc j → ⊥
        far-off l = omega (arith, before, wide)

    crowded-plane : Crowd g (flat_by g c)
    crowded-plane = subst (λ (cs : List Word). Crowded 2 cs) (sym (cells_are g taken c)) crowded-cells

    -- ---- no word names a class twice
    turns-0 : turns_at g 0 0 ≡ true
    turns-0 = refl

    turns-1 : turns_at g 0 1 ≡ true
    turns-1 = rw first-is

    -- two points of one class: the same, or opposite with one of them on the border
    opposite : (p q : ℕ) (hp : p < points_of g) (hq : q < points_of g) → p < q → least_of g p ≡ least_of g q → (q ≡ N * N - suc p) × ((end_at g p 0 || end_at g p 1 ≡ true) ⊎ (end_at g q 0 || end_at g q 1 ≡ true))
    opposite p q hp hq l e =
        by-ends (end_at g p 0 || end_at g p 1) (end_at g q 0 || end_at g q 1) (let z : q < points_of g = hq in subst (λ (m : ℕ). q < m) (points-are g j refl first-is second_is) z)
        (sym (least-is g j refl first-is second_is p hp) ∙ e ∙ least-is g j refl first-is second_is q hq)
      where
        by-ends : (x y : Bool) → q < N * N → cond x (min p (N * N - suc p)) p ≡ cond y (min q (N * N - suc q)) q → (q ≡ N * N - suc p) × ((x ≡ true) ⊎ (y ≡ true))
        by-ends true y h k = (by_second y k, inl refl)
          where
            by_second : (y : Bool) → min p (N * N - suc p) ≡ cond y (min q (N * N - suc q)) q → q ≡ N * N - suc p
            by_second true k = omega arith
            by_second false k = absurd (let z : ⊥ = omega arith in z)
        by-ends false true h k = (let z : q ≡ N * N - suc p = omega arith in z, inr refl)
        by-ends false false h k = absurd (let z : ⊥ = omega arith in z)

    no_end : (x y : ℕ) → x ≤ suc j → y ≡ suc j - x → x ≤ y → y ≤ x + 1 → (is_end x (suc j) ≡ true) ⊎ (is_end y (suc j) ≡ true) → ⊥
    no_end x y h e l m t =
        ⊎_elim
        (λ (z : is_end x (suc j) ≡ true). ⊎_elim (λ (o : x ≡ 0). omega arith) (λ (o : x ≡ suc j). omega arith) (of_end x (suc j) z))
        (λ (z : is_end y (suc j) ≡ true). ⊎_elim (λ (o : y ≡ 0). omega arith) (λ (o : y ≡ suc j). omega arith) (of_end y (suc j) z))
        t

    corners-differ : (x i k : ℕ) → i < k → k ≤ 2 → c (corner_of g x i) ≡ c (corner_of g x k) → ⊥
    corners-differ x i k l m e =
        let p : ℕ = corner_of g x i in
        let q : ℕ = corner_of g x k in
        let box : InBox g p q = in-box g taken x i k (omega arith) m in
        let rises : p < q = corner-rises g taken x i k l m in
        let o = opposite p q box.first box.second rises (least-one g (((class-numbers g).classes p q box.first box.second).0 e) (least-law g p box.first) (least-law g q box.second)) in
        let across : q ≡ across_of g p 0 = o.0 ∙ sym (across-0 g j refl first-is second_is p box.first) in
        let x-turned : coord_at g q 0 ≡ suc j - coord_at g p 0 = ap (λ (z : ℕ). coord_at g z 0) across ∙ across-coord g p 0 0 (omega arith) ∙ ap (λ (n : ℕ). n - coord_at g p 0) cells-0 in
        let y-turned : coord_at g q 1 ≡ suc j - coord_at g p 1 = ap (λ (z : ℕ). coord_at g z 1) across ∙ across-coord g p 0 1 (omega arith) ∙ ap (λ (b : Bool). turn b (cells_on g 1) (coord_at g p 1)) turns-1 ∙ ap (λ (n : ℕ). n - coord_at g p 1) cells-1 in
        let x-le : coord_at g p 0 ≤ suc j = subst (λ (n : ℕ). coord_at g p 0 ≤ n) cells-0 (coord-le g p 0) in
        let y-le : coord_at g p 1 ≤ suc j = subst (λ (n : ℕ). coord_at g p 1 ≤ n) cells-1 (coord-le g p 1) in
        let at_x : (is_end (coord_at g p 0) (suc j) ≡ true) ⊎ (is_end (coord_at g q 0) (suc j) ≡ true) → ⊥ = no_end (coord_at g p 0) (coord_at g q 0) x-le x-turned (box.rising 0 (omega arith)) (box.near 0 (omega arith)) in
        let at_y : (is_end (coord_at g p 1) (suc j) ≡ true) ⊎ (is_end (coord_at g q 1) (suc j) ≡ true) → ⊥ = no_end (coord_at g p 1) (coord_at g q 1) y-le y-turned (box.rising 1 (omega arith)) (box.near 1 (omega arith)) in
        ⊎_elim
        (λ (t : end_at g p 0 || end_at g p 1 ≡ true).
        ⊎_elim
        (λ (z : end_at g p 0 ≡ true). at_x (inl (sym (end-is-0 g j refl first-is second_is p) ∙ z)))
        (λ (z : end_at g p 1 ≡ true). at_y (inl (sym (end-is-1 g j refl first-is second_is p) ∙ z)))
        (or_cases (end_at g p 0) (end_at g p 1) t))
        (λ (t : end_at g q 0 || end_at g q 1 ≡ true).
        ⊎_elim
        (λ (z : end_at g q 0 ≡ true). at_x (inr (sym (end-is-0 g j refl first-is second_is q) ∙ z)))
        (λ (z : end_at g q 1 ≡ true). at_y (inr (sym (end-is-1 g j refl first-is second_is q) ∙ z)))
        (or_cases (end_at g q 0) (end_at g q 1) t))
        o.1

    single : (x : ℕ) → has_repeat (map c (cell_no g x)) ≡ false
    single x =
        no-repeat (map c (cell_no g x))
        (Pairs-of (λ x y. x ≡ y → ⊥) (map c (cell_no g x))
        (λ i k l m e.
        let o : k < length (cell_no g x) = subst (λ (n : ℕ). k < n) (length-map (cell_no g x) c) m in
        let z : k ≤ 2 = omega (arith, cell-length g taken x) in
        corners-differ x i k l z (sym (map_at c (cell_no g x) i 0 0 (omega arith)) ∙ e ∙ map_at c (cell_no g x) k 0 0 o)))

    never-twice : first_twice g (flat_by g c) ≡ cell_count g
    never-twice = first-none (λ x. has_repeat (row (flat_by g c) 3 x)) (cell_count g) (λ x h. ap has_repeat (row-is' x h) ∙ single x)
      where
        row-is' : (x : ℕ) → x < cell_count g → row (flat_by g c) 3 x ≡ map c (cell_no g x)
        row-is' = Words.row_is g taken c

  -- ---- the call
  plane-seven : shape_of g ≡ fine → (r : Counted) (words words' keys keys' rows rows' spare spare' counts counts' : List ℕ) → Roomy (grid_need g) (lengths keys rows spare counts) →
      CellWords g r words words' keys keys' rows rows' spare spare' counts counts' → r ≡ Err CrowdedFacet
  plane-seven shape r words words' keys keys' rows rows' spare spare' counts counts' room k =
      let few : class_count g ≤ most_vertices = few-classes in
      let taken : check_of g ≡ fine = few-taken g shape (class_of g) (class_count g) (class-numbers g) few in
      let e : first_twice g (flat_by g (class_of g)) ≡ cell_count g = never-twice taken in
      let end : WordsEnd g (length words) (Err CrowdedFacet) [] =
      crowded (flat_by g (class_of g)) (record { of = words-there g shape few; none = (let z : cell_count g ≤ first_twice g (flat_by g (class_of g)) = omega arith in z) }) (crowded-plane taken) in
      (comes-one Err [] (shape_of g) (grid_need g) (lengths keys rows spare counts) (WordsEnd g (length words)) (ends-one g (length words)) k.comes (ended shape room end)).0
    where
      few-classes : class_count g ≤ most_vertices
      few-classes =
          let m : class_count g ≡ suc j * suc j + 1 = square-classes g (suc j) (omega arith) refl first-is second_is (class_of g) (class_count g) (class-numbers g) in
          omega (arith, m, count-is, few_cells g shape)

-- n by n cells, each axis twisted over the other, n from 3 on: a facet in three cells, and the call says so
pub square-crowded : (n : ℕ) → 3 ≤ n → (third-axis : Axis) (s : Sides) → check_of (plane_of n third-axis s) ≡ fine → Crowd (plane_of n third-axis s) (flat_by (plane_of n third-axis s) (class_of (plane_of n third-axis s)))
square-crowded zero h third-axis s taken = absurd (let z : ⊥ = omega arith in z)
square-crowded (suc j) h third-axis s taken = crowded-plane j (omega arith) third-axis s taken

pub plane-law : PlaneLaw
plane-law zero h third-axis s shape = absurd (let z : ⊥ = omega arith in z)
plane-law (suc j) h third-axis s shape = plane-seven j (omega arith) third-axis s shape
