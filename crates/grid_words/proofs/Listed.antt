-- The cells by number are the cells of the grid in colex order: boxes in the order of their numbers have rising last corners, and inside a box the later order comes
-- first (proofs/Inside). A rising list is determined by its members. Assumes nothing.
use Rattle.refusal.specs.Says.{fine}
use mathlib.Core.Path.{◌≡◌, refl, sym, ap, subst, ◌∙◌}
use mathlib.Core.Logic.{inl, ⊎_elim}
use mathlib.Core.List.{List, [], ◌∷◌, map}
use Prim.Native.Nat.{ℕ, zero, suc, ◌+◌, ◌-◌, ◌*◌, ◌/◌, ◌%◌, ◌≤◌, ◌<◌}
use native.Mathlib.Nat.{mul-suc, mul_comm, suc-mul, mul-le-mul_left, mul-le-mul_right, mod-lt, div-add-mod, div-lt_iff_lt-mul, le_refl}
use native.Mathlib.Numerals.{add-one}
use native.Mathlib.Omega.{arith}
use lib.Arith.{digits_div, digits_mod}
use lib.ListN.{length, get_or, take, length-map}
use lib.Seq.{take_all}
use borrow.Author.Tests.{le-ltb}
use Rattle.lists.specs.Rows.{flat}
use Rattle.lists.proofs.Laws.{map_at}
use Rattle.lists.specs.Tables.{tab}
use Rattle.multiindex.specs.Permutation.{orders, order_of}
use Rattle.multiindex.specs.Sort.{insert_by, insert, sort_word}
use Rattle.lists.proofs.Tables.{length-tab, get_or-tab, tab-ext, map-tab}
use Rattle.lists.proofs.Members.{All, All-of, Pairs, Pairs-of}
use Rattle.complex.specs.Cells.{in_order}
use Rattle.complex_cells.proofs.Words.{Word, In, Each, Rising, each_of, rising-by, one_list}
use Rattle.complex_cells.proofs.Order.{Colex, colex-irr, colex-trans, order-rising, order_from, order-has}
use Rattle.quotient.specs.declared.Grid.{Grid}
use Rattle.quotient.specs.Fold.{product}
use Rattle.quotient.specs.Shape.{cells_on, points_on, check_of, cell_count}
use Rattle.quotient.specs.Reduce.{vertex_of}
use Rattle.quotient.specs.Points.{from_digits, point_of}
use Rattle.quotient.proofs.Laws.{lt-or-ge, product-pos}
use Rattle.quotient.proofs.Radix.{number_lt, number_same, number_digits}
use Rattle.grid_words.specs.Cells.{boxes_of, box_at, step_along, met, chains, grid_cells, words_of, flat_words}
use Rattle.grid_words.specs.WorkNumbered.{stride_of, each_box, order_at, cell_no, corner_of}
use Rattle.grid_words.proofs.Corners.{times_in, step_after, met-length, dim, some-cell, some-order, box-lt, order_long, order_below, order-once, orders-factorial, turn-lt, at, corner-point, corner-rises}
use Rattle.grid_words.proofs.Inside.{plain, inside-before}
use Rattle.grid_words.proofs.Flat.{flat-tab, to-gather, of-gather, to_map, of_map, to-tab, of-tab}

div-up : (x y n : ℕ) → 0 < n → x ≤ y → x / n ≤ y / n
div-up x y n h l =
    ⊎_elim
    (λ (a : y / n < x / n).
    let m : n * suc (y / n) ≤ n * (x / n) = mul-le-mul_left n a in
    let q : y % n < n = mod-lt y h in
    absurd (omega (arith, mul-suc n (y / n), div-add-mod x n, div-add-mod y n)))
    (λ (a : x / n ≤ y / n). a)
    (lt-or-ge (y / n) (x / n))

-- ---- a rising word is sorted already
insert-low : (x : ℕ) (ys : List ℕ) → All (λ y. x < y) ys → insert x ys ≡ x ∷ ys
unfolding insert insert_by
insert-low x [] a = refl
insert-low x (y ∷ ys) a = rw (le-ltb y x (let l : x < y = a.0 in omega arith))

sort-rising : (w : List ℕ) → Pairs (λ a b. a < b) w → sort_word w ≡ w
unfolding sort_word
sort-rising [] p = refl
sort-rising (x ∷ w) p = ap (insert x) (sort-rising w p.1) ∙ insert-low x w p.0

-- ---- later boxes have later last corners: the first digit that differs, from the top, decides in both numbers
later : (f F c e : ℕ → ℕ) → ((k : ℕ) → F k ≡ f k + 1) → (n : ℕ) → ((k : ℕ) → k < n → c k < f k) → ((k : ℕ) → k < n → e k < f k) → from_digits f c n < from_digits f e n →
    from_digits F (λ k. c k + 1) n < from_digits F (λ k. e k + 1) n
unfolding from_digits product
later f F c e q zero hc he l = omega arith
later f F c e q (suc n) hc he l =
    let P = product f n in
    let Q = product F n in
    let a : from_digits f c n < P = number_lt f c n (λ k m. hc k (omega arith)) in
    let b : from_digits f e n < P = number_lt f e n (λ k m. he k (omega arith)) in
    let x : from_digits F (λ k. c k + 1) n < Q = number_lt F (λ k. c k + 1) n (λ k m. let z : c k < f k = hc k (omega arith) in let y : F k ≡ f k + 1 = q k in omega arith) in
    let y : from_digits F (λ k. e k + 1) n < Q = number_lt F (λ k. e k + 1) n (λ k m. let z : e k < f k = he k (omega arith) in let y : F k ≡ f k + 1 = q k in omega arith) in
    ⊎_elim
    (λ (m : c n < e n). low (from_digits F (λ k. c k + 1) n) (from_digits F (λ k. e k + 1) n) Q (c n) (e n) x m)
    (λ (m : e n ≤ c n).
    ⊎_elim
    (λ (r : e n < c n). absurd (high (from_digits f c n) (from_digits f e n) P (c n) (e n) b r l))
    (λ (r : c n ≤ e n).
    let s : c n ≡ e n = omega arith in
    let w : P * c n ≡ P * e n = ap (λ (t : ℕ). P * t) s in
    let v : Q * (c n + 1) ≡ Q * (e n + 1) = ap (λ (t : ℕ). Q * (t + 1)) s in
    let i : from_digits F (λ k. c k + 1) n < from_digits F (λ k. e k + 1) n = later f F c e q n (λ k t. hc k (omega arith)) (λ k t. he k (omega arith)) (omega arith) in
    omega arith)
    (lt-or-ge (e n) (c n)))
    (lt-or-ge (c n) (e n))
  where
    low : (x y s a b : ℕ) → x < s → a < b → x + s * (a + 1) < y + s * (b + 1)
    low x y s a b h m =
        let u : s * suc (a + 1) ≤ s * (b + 1) = mul-le-mul_left s (omega arith) in
        omega (arith, mul-suc s (a + 1))

    high : (x y s a b : ℕ) → y < s → b < a → x + s * a < y + s * b → ⊥
    high x y s a b h m l =
        let u : s * suc b ≤ s * a = mul-le-mul_left s m in
        omega (arith, mul-suc s b)

-- ---- the chain of a box along an order, as plain sums
module _ (g : Grid) where
  pub met-plain : (c : ℕ → ℕ) (os : List ℕ) → All (λ a. a < g.d) os → met g c os ≡ plain (stride_of g) (point_of g c) os
  unfolding met
  met-plain c [] a = refl
  met-plain c (o ∷ os) a =
      ap (λ (w : List ℕ). point_of g c ∷ w)
      (met-plain (step_along o c) os a.1 ∙ ap (λ (p : ℕ). plain (stride_of g) p os) (step_after (points_on g) c o g.d a.0))

module _ (g : Grid) (taken : check_of g ≡ fine) where
  pub cell-length : (x : ℕ) → length (cell_no g x) ≡ suc g.d
  cell-length x = met-length g (box_at g (x / each_box g)) (order_at g x) ∙ ap suc (order_long g.d (each_box g - 1 - x % each_box g) (dim g taken) (turn-lt g taken x))

  pub cell-rising : (x : ℕ) → Pairs (λ a b. a < b) (cell_no g x)
  cell-rising x = Pairs-of (λ a b. a < b) (cell_no g x) (λ i j h l. corner-rises g taken x i j h (omega (arith, cell-length x)))

  some-each : 0 < each_box g
  some-each = some-order g.d (dim g taken)

  cells_count : cell_count g ≡ boxes_of g * each_box g
  cells_count = rw (orders-factorial g.d (dim g taken)) (mul_comm _ (boxes_of g))

  box-below : (x : ℕ) → x < cell_count g → x / each_box g < boxes_of g
  box-below x h = (div-lt_iff_lt-mul some-each).1 (rw cells_count at h)

  -- ---- x before y
  strides-rise : (k : ℕ) → suc k < g.d → stride_of g k < stride_of g (suc k)
  unfolding product
  strides-rise k h =
      let s : 1 ≤ product (points_on g) k = product-pos (points_on g) k (λ i. omega arith) in
      let n : 1 ≤ cells_on g k = some-cell g taken k (omega arith) in
      let m : product (points_on g) k * 2 ≤ product (points_on g) k * points_on g k = mul-le-mul_left (product (points_on g) k) (omega arith) in
      omega arith

  axes-below : (t : ℕ) → t < each_box g → All (λ a. a < g.d) (order_of g.d t)
  axes-below t h = All-of (λ a. a < g.d) (order_of g.d t) (λ i l. order_below g.d t i (dim g taken) h (omega (arith, order_long g.d t (dim g taken) h)))

  one-box : (x y : ℕ) → x / each_box g ≡ y / each_box g → x % each_box g < y % each_box g → Colex (suc g.d) (cell_no g x) (cell_no g y)
  one-box x y e h =
      let t = each_box g - 1 - x % each_box g in
      let u = each_box g - 1 - y % each_box g in
      let b : y % each_box g < each_box g = mod-lt y some-each in
      rw (met-plain g (box_at g (x / each_box g)) (order_of g.d t) (axes-below t (turn-lt g taken x)), met-plain g (box_at g (y / each_box g)) (order_of g.d u) (axes-below u (turn-lt g taken y)), e)
      (inside-before g.d (stride_of g) (point_of g (box_at g (y / each_box g))) (dim g taken) strides-rise t u (omega arith) (turn-lt g taken x))

  -- the last corner has one more on every axis
  last-corner : (x : ℕ) → corner_of g x g.d ≡ point_of g (λ k. box_at g (x / each_box g) k + 1)
  last-corner x =
      corner-point g taken x g.d (le_refl g.d)
      ∙ number_same (points_on g) (at g taken x g.d) (λ k. box_at g (x / each_box g) k + 1) g.d
      (λ k l.
      let w : take g.d (order_at g x) ≡ order_at g x = take_all g.d (order_at g x) (omega (arith, order_long g.d (each_box g - 1 - x % each_box g) (dim g taken) (turn-lt g taken x))) in
      let o : times_in k (take g.d (order_at g x)) ≡ 1 = ap (times_in k) w ∙ order-once g.d (each_box g - 1 - x % each_box g) k (dim g taken) (turn-lt g taken x) l in
      omega arith)

  box-number : (b : ℕ) → b < boxes_of g → from_digits (cells_on g) (box_at g b) g.d ≡ b
  box-number b h = number_digits (cells_on g) b g.d h

  later-box : (x y : ℕ) → y < cell_count g → x / each_box g < y / each_box g → corner_of g x g.d < corner_of g y g.d
  later-box x y h l =
      let b : y / each_box g < boxes_of g = box-below y h in
      rw (last-corner x, last-corner y)
      (later (cells_on g) (points_on g) (box_at g (x / each_box g)) (box_at g (y / each_box g)) (λ k. refl) g.d (λ k m. box-lt g taken (x / each_box g) k m) (λ k m. box-lt g taken (y / each_box g) k m)
      (rw (box-number (x / each_box g) (omega arith), box-number (y / each_box g) b) l))

  pub cell-before : (x y : ℕ) → x < y → y < cell_count g → Colex (suc g.d) (cell_no g x) (cell_no g y)
  cell-before x y h l =
      let m : x / each_box g ≤ y / each_box g = div-up x y (each_box g) some-each (omega arith) in
      ⊎_elim
      (λ (a : x / each_box g < y / each_box g). inl (later-box x y l a))
      (λ (a : y / each_box g ≤ x / each_box g).
      let e : x / each_box g ≡ y / each_box g = omega arith in
      let p : each_box g * (x / each_box g) ≡ each_box g * (y / each_box g) = ap (λ (z : ℕ). each_box g * z) e in
      one-box x y e (omega (arith, div-add-mod x (each_box g), div-add-mod y (each_box g))))
      (lt-or-ge (x / each_box g) (y / each_box g))

  -- ---- the same members

  chain-in : (b t : ℕ) → b < boxes_of g → t < each_box g → In (met g (box_at g b) (order_of g.d t)) (chains g)
  chain-in b t h l = to-gather (λ b. map (met g (box_at g b)) (orders g.d)) (met g (box_at g b) (order_of g.d t)) (boxes_of g) (λ i. i) b h (to_map (met g (box_at g b)) (orders g.d) t l)

  -- the number of the cell of box b along order t
  numbered : (b t : ℕ) → b < boxes_of g → t < each_box g → (x : ℕ) × (x < cell_count g) × (cell_no g x ≡ met g (box_at g b) (order_of g.d t))
  numbered b t h l =
      let n = each_box g in
      let r : n - 1 - t < n = omega arith in
      let q : (b * n + (n - 1 - t)) / n ≡ b = digits_div b r in
      let m : (b * n + (n - 1 - t)) % n ≡ n - 1 - t = digits_mod b r in
      let s : suc b * n ≤ boxes_of g * n = mul-le-mul_right n h in (
        b * n + (n - 1 - t),
        omega (arith, suc-mul b n, cells_count),
        rw (q, m) (ap (λ (u : ℕ). met g (box_at g b) (order_of g.d u)) (let e : n - 1 - (n - 1 - t) ≡ t = omega arith in e)),
      )

  listed_in : (v : Word) → In v (grid_cells g) → In v (tab (cell_count g) (cell_no g))
  unfolding grid_cells
  listed_in v m =
      let f = order_from (suc g.d) (chains g) v m in
      let b = of-gather (λ b. map (met g (box_at g b)) (orders g.d)) f.0 (boxes_of g) (λ i. i) f.1 in
      let t = of_map (met g (box_at g b.0)) (orders g.d) f.0 b.2 in
      let x = numbered b.0 t.0 b.1 t.1 in
      subst (λ (w : Word). In w (tab (cell_count g) (cell_no g))) (sym (sort-rising (cell_no g x.0) (cell-rising x.0)) ∙ ap sort_word (x.2 ∙ t.2) ∙ f.2) (to-tab (cell_no g) (cell_count g) x.0 x.1)

  chains-long : Each (λ w. length w ≡ suc g.d) (chains g)
  chains-long =
      each_of (λ w. length w ≡ suc g.d) (chains g)
      (λ w m.
      let b = of-gather (λ b. map (met g (box_at g b)) (orders g.d)) w (boxes_of g) (λ i. i) m in
      let t = of_map (met g (box_at g b.0)) (orders g.d) w b.2 in
      ap length (sym t.2) ∙ met-length g (box_at g b.0) (order_of g.d t.0) ∙ ap suc (order_long g.d t.0 (dim g taken) t.1))

  in-listed : (v : Word) → In v (tab (cell_count g) (cell_no g)) → In v (grid_cells g)
  unfolding grid_cells
  in-listed v m =
      let x = of-tab (cell_no g) (cell_count g) v m in
      subst (λ (w : Word). In w (in_order (suc g.d) (chains g))) (sort-rising (cell_no g x.0) (cell-rising x.0) ∙ x.2)
      (order-has (suc g.d) (chains g) (cell_no g x.0) chains-long (chain-in (x.0 / each_box g) (each_box g - 1 - x.0 % each_box g) (box-below x.0 x.1) (turn-lt g taken x.0)))

  cells-rise : Rising (Colex (suc g.d)) (tab (cell_count g) (cell_no g))
  cells-rise =
      rising-by (Colex (suc g.d)) (tab (cell_count g) (cell_no g))
      (λ i j h l.
      let m : j < cell_count g = omega (arith, length-tab (cell_count g) (cell_no g)) in
      rw (get_or-tab (cell_count g) (cell_no g) i [] (omega arith), get_or-tab (cell_count g) (cell_no g) j [] m) (cell-before i j h m))

  -- the cells in colex order are the cells by number
  pub listed : grid_cells g ≡ tab (cell_count g) (cell_no g)
  unfolding grid_cells
  listed = one_list (Colex (suc g.d)) (colex-irr (suc g.d)) (colex-trans (suc g.d)) (grid_cells g) (tab (cell_count g) (cell_no g)) (order-rising (suc g.d) (chains g)) cells-rise listed_in in-listed

  -- the word of cell x, and number i of the flat list
  pub words-tab : words_of g ≡ tab (cell_count g) (λ x. map (vertex_of g) (cell_no g x))
  words-tab = ap (map (map (vertex_of g))) listed ∙ map-tab (map (vertex_of g)) (cell_count g) (cell_no g)

  pub word-length : (x : ℕ) → length (map (vertex_of g) (cell_no g x)) ≡ suc g.d
  word-length x = length-map (cell_no g x) (vertex_of g) ∙ cell-length x

  pub flat-words : flat_words g ≡ tab (cell_count g * suc g.d) (λ i. vertex_of g (corner_of g (i / suc g.d) (i % suc g.d)))
  flat-words =
      ap flat words-tab
      ∙ flat-tab (suc g.d) (cell_count g) (λ x. map (vertex_of g) (cell_no g x)) (omega arith) (λ x h. word-length x)
      ∙ tab-ext (cell_count g * suc g.d) _ _
      (λ i h. map_at (vertex_of g) (cell_no g (i / suc g.d)) (i % suc g.d) 0 0 (rw (cell-length (i / suc g.d)) (mod-lt i (omega arith))))

  pub words_long : length (flat_words g) ≡ cell_count g * suc g.d
  words_long = ap length flat-words ∙ length-tab (cell_count g * suc g.d) _

  pub words-at : (i : ℕ) → i < cell_count g * suc g.d → get_or (flat_words g) i 0 ≡ vertex_of g (corner_of g (i / suc g.d) (i % suc g.d))
  words-at i h = ap (λ (l : List ℕ). get_or l i 0) flat-words ∙ get_or-tab (cell_count g * suc g.d) _ i 0 h

  -- a turn of the loop that writes the words
  pub words-turn : (i p v : ℕ) → i < cell_count g * suc g.d → p ≡ corner_of g (i / (g.d + 1)) (i % (g.d + 1)) → v ≡ vertex_of g p → v ≡ get_or (flat_words g) i 0
  words-turn i p v h hp hv = hv ∙ ap (vertex_of g) (hp ∙ ap (λ (n : ℕ). corner_of g (i / n) (i % n)) (add-one g.d)) ∙ sym (words-at i h)
