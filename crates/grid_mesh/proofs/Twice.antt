-- Two words of a grid that sort to one cell make a facet in three cells. Their boxes face each other on some axis (proofs/Facing), so there is a corner at which the
-- order of the first can be turned (proofs/Turns); the corner with the same vertex in the second lies between its first and its last too, and its order is turned there.
-- If the two turned cells differ, they and the one cell have a facet in common. If they are one cell, the argument is gone through again with them: the axes on which the
-- first box is at its last cell come later in the new order, and they cannot come later for ever. Assumes nothing.
use Rattle.refusal.specs.Says.{fine}
use mathlib.Core.Path.{◌≡◌, refl, sym, ap, subst, ◌∙◌}
use mathlib.Core.Logic.{◌⊎◌, inl, inr, ⊎_elim}
use mathlib.Core.List.{List}
use Prim.Native.Nat.{ℕ, zero, suc, ◌+◌, ◌-◌, ◌*◌, ◌/◌, ◌%◌, ◌≤◌, ◌<◌}
use native.Mathlib.Nat.{mul_comm, div-lt_iff_lt-mul, le_refl}
use native.Mathlib.Decide.{ℕ_discrete}
use native.Mathlib.Omega.{arith}
use lib.Arith.{digits_div, digits_mod, digits_lt}
use lib.ListN.{length}
use Rattle.lists.proofs.Members.{Mem, Mem-of, Mem-at}
use Rattle.multiindex.specs.Permutation.{orders}
use Rattle.multiindex.specs.Sort.{sort_word}
use Rattle.complex.specs.Facets.{Crowded}
use Rattle.complex_cells.proofs.Order.{Colex, colex-irr}
use Rattle.quotient.specs.declared.Grid.{Grid}
use Rattle.quotient.specs.Shape.{points_on, check_of, cell_count}
use Rattle.quotient.specs.Reduce.{vertex_of}
use Rattle.quotient.specs.Points.{point_of}
use Rattle.quotient.proofs.Taken.{taken-low}
use Rattle.quotient.proofs.Radix.{number_same}
use Rattle.grid_words.specs.Cells.{boxes_of, box_at}
use Rattle.grid_words.specs.WorkNumbered.{each_box, cell_no, corner_of}
use Rattle.grid_words.proofs.Corners.{dim, box-lt, some-order, orders-factorial, turn-lt, corner-point}
use Rattle.grid_words.proofs.Listed.{cell-length, cell-rising, cell-before}
use Rattle.grid_mesh.specs.Words.{glued_cells}
use Rattle.grid_mesh.proofs.Turns.{up, kinds, earliness, Turned, turn, Parted, Later, place, up-most, up_none, up-each, up-rises}
use Rattle.grid_mesh.proofs.Folding.{corner_by, vertex_by}
use Rattle.grid_mesh.proofs.Facing.{side, sides-few, side-self, Chain, Matched, Faced, one-point, up-or-down, not-parted}
use Rattle.grid_mesh.proofs.Members.{one_word}
use Rattle.grid_mesh.proofs.Words.{word_no, vertex_no, corner-one, OneFacet, same-cell, cell_same, crowd}

module _ (g : Grid) (taken : check_of g ≡ fine) where
  -- ---- cells by box and order
  -- cell x is that of box b along order t
  pub record At (x b t : ℕ) : Type 0 where
    pub in-grid : x < cell_count g
    pub box_in : b < boxes_of g
    pub order-in : t < length (orders g.d)
    pub corner : (j : ℕ) → j ≤ g.d → corner_of g x j ≡ corner_by g (box_at g b) (up g.d t j)

  cells_count : cell_count g ≡ boxes_of g * each_box g
  cells_count = rw (orders-factorial g.d (dim g taken)) (mul_comm _ (boxes_of g))

  pub at_of : (x : ℕ) → x < cell_count g → At x (x / each_box g) (each_box g - 1 - x % each_box g)
  at_of x h =
      record {
        in-grid = h;
        box_in = (div-lt_iff_lt-mul (some-order g.d (dim g taken))).1 (rw cells_count at h);
        order-in = turn-lt g taken x;
        corner = λ j l. corner-point g taken x j l;
      }

  abbrev cell_by : ℕ → ℕ → ℕ
  cell_by b t = b * each_box g + (each_box g - 1 - t)

  at-by : (b t : ℕ) → b < boxes_of g → t < length (orders g.d) → At (cell_by b t) b t
  at-by b t h l =
      let n = each_box g in
      let r : n - 1 - t < n = omega arith in
      let q : cell_by b t / n ≡ b = digits_div b r in
      let m : cell_by b t % n ≡ n - 1 - t = digits_mod b r in
      let e : n - 1 - cell_by b t % n ≡ t = omega arith in
      record {
        in-grid = rw cells_count (digits_lt h r);
        box_in = h;
        order-in = l;
        corner =
            λ j k.
            corner-point g taken (cell_by b t) j k
            ∙ ap (λ (a : ℕ). point_of g (λ k. box_at g a k + up g.d (n - 1 - cell_by b t % n) j k)) q
            ∙ ap (λ (a : ℕ). point_of g (λ k. box_at g b k + up g.d a j k)) e;
      }

  pub chain : (t : ℕ) → t < length (orders g.d) → Chain g.d (up g.d t)
  chain t l =
      record {
        most = λ i k m. up-most g.d t (dim g taken) l i k m;
        none = λ k m. up_none g.d t (dim g taken) l k;
        each = λ k m. up-each g.d t (dim g taken) l k m;
        rises = λ i j k h m. up-rises g.d t (dim g taken) l i j k h;
      }

  pub vertex-at : (x b t j : ℕ) → At x b t → j ≤ g.d → vertex_no g x j ≡ vertex_by g (box_at g b) (up g.d t j)
  vertex-at x b t j a l = ap (vertex_of g) (a.corner j l)

  -- ---- a cell turned at corner i: cell y has the other corners, and at i a vertex that x has not
  record TurnedCell (x i y : ℕ) : Type 0 where
    in-grid : y < cell_count g
    kept : (l : ℕ) → l ≤ g.d → (l ≡ i → ⊥) → vertex_no g y l ≡ vertex_no g x l
    new : (l : ℕ) → l ≤ g.d → vertex_no g x l ≡ vertex_no g y i → ⊥

  module _ (x b t i u y : ℕ) (a : At x b t) (a' : At y b u) (li : i ≤ g.d) (w : Turned g.d t i u) where
    stays-there : (l : ℕ) → l ≤ g.d → (l ≡ i → ⊥) → vertex_no g y l ≡ vertex_no g x l
    stays-there l h n =
        ap (vertex_of g)
        (a'.corner l h
        ∙ number_same (points_on g) (λ k. box_at g b k + up g.d u l k) (λ k. box_at g b k + up g.d t l k) g.d (λ k m. ap (λ (z : ℕ). box_at g b k + z) (w.same l k h n m))
        ∙ sym (a.corner l h))

    moves-away : vertex_no g y i ≡ vertex_no g x i → ⊥
    moves-away e =
        let z : box_at g b w.axis + up g.d u i w.axis ≡ box_at g b w.axis + up g.d t i w.axis =
        one-point g taken (box_at g b) (box_at g b) (box-lt g taken b) (box-lt g taken b) (up g.d u) (up g.d t) (chain u a'.order-in) (chain t a.order-in)
        (λ k l. side-self g taken (box_at g b) k l) i i (sym (vertex-at y b u i a' li) ∙ e ∙ vertex-at x b t i a li) w.axis w.axis-in in
        w.other (omega arith)

    turned-cell : TurnedCell x i y
    turned-cell =
        record {
          in-grid = a'.in-grid;
          kept = stays-there;
          new =
              λ l h e.
              elim (ℕ_discrete l i) [
                | yes q ↦ moves-away (sym e ∙ ap (vertex_no g x) q)
                | no q ↦ q (corner-one g taken y l i h li (stays-there l h q ∙ e))
              ];
        }

  module _ (x i y : ℕ) (hx : x < cell_count g) (li : i ≤ g.d) (w : TurnedCell x i y) where
    turned-facet : OneFacet g taken x i y i
    turned-facet =
        record {
          forth = λ v o. (o.0, o.1, o.2, w.kept o.0 o.1 o.2 ∙ o.3);
          back = λ v o. (o.0, o.1, o.2, sym (w.kept o.0 o.1 o.2) ∙ o.3);
        }

    turned_apart : sort_word (word_no g x) ≡ sort_word (word_no g y) → ⊥
    turned_apart e = let c = cell_same g taken y x w.in-grid hx (sym e) (vertex_no g y i) (i, li, refl) in w.new c.0 c.1 c.2

  -- ---- one cell of two words, and both turned at corners with one vertex
  module _ (x y i j : ℕ) (hx : x < cell_count g) (hy : y < cell_count g) (li : i ≤ g.d) (lj : j ≤ g.d) (e : sort_word (word_no g x) ≡ sort_word (word_no g y)) (v : vertex_no g x i ≡ vertex_no g y j) where
    one-facet : OneFacet g taken x i y j
    one-facet =
        record {
          forth = λ u o. let c = cell_same g taken x y hx hy e u (o.0, o.1, o.3) in (c.0, c.1, (λ q. o.2 (corner-one g taken x o.0 i o.1 li (o.3 ∙ sym c.2 ∙ ap (vertex_no g y) q ∙ sym v))), c.2);
          back = λ u o. let c = cell_same g taken y x hy hx (sym e) u (o.0, o.1, o.3) in (c.0, c.1, (λ q. o.2 (corner-one g taken y o.0 j o.1 lj (o.3 ∙ sym c.2 ∙ ap (vertex_no g x) q ∙ v))), c.2);
        }

    module _ (x' y' : ℕ) (a : TurnedCell x i x') (b : TurnedCell y j y') where
      -- the new corners have one vertex: one cell again
      still_one : vertex_no g x' i ≡ vertex_no g y' j → sort_word (word_no g x') ≡ sort_word (word_no g y')
      still_one q =
          same-cell g taken x' y' a.in-grid b.in-grid
          (λ u c.
          elim (ℕ_discrete c.0 i) [
            | yes z ↦ (j, lj, sym q ∙ ap (vertex_no g x') (sym z) ∙ c.2)
            | no z ↦ let o = one-facet.forth u (c.0, c.1, z, sym (a.kept c.0 c.1 z) ∙ c.2) in (o.0, o.1, b.kept o.0 o.1 o.2 ∙ o.3)
          ])
          (λ u c.
          elim (ℕ_discrete c.0 j) [
            | yes z ↦ (i, li, q ∙ ap (vertex_no g y') (sym z) ∙ c.2)
            | no z ↦ let o = one-facet.back u (c.0, c.1, z, sym (b.kept c.0 c.1 z) ∙ c.2) in (o.0, o.1, a.kept o.0 o.1 o.2 ∙ o.3)
          ])

      -- they have not: three cells with one facet
      three-cells-meet : (vertex_no g x' i ≡ vertex_no g y' j → ⊥) → Crowded g.d (glued_cells g)
      three-cells-meet n =
          let s = turned-facet y j y' hy lj b in
          crowd g taken (taken-low g taken) x i x' i y' j hx a.in-grid b.in-grid li li lj (turned-facet x i x' hx li a)
          (record { forth = λ u o. s.forth u (one-facet.forth u o); back = λ u o. one-facet.back u (s.back u o) })
          (turned_apart x i x' hx li a) (λ q. turned_apart y j y' hy lj b (sym e ∙ q))
          (λ q.
          let c = cell_same g taken x' y' a.in-grid b.in-grid q (vertex_no g x' i) (i, li, refl) in
          elim (ℕ_discrete c.0 j) [
            | yes z ↦ n (sym c.2 ∙ ap (vertex_no g y') z)
            | no z ↦ let o = one-facet.back (vertex_no g x' i) (c.0, c.1, z, sym (b.kept c.0 c.1 z) ∙ c.2) in a.new o.0 o.1 o.3
          ])

  -- ---- two cells by box and order that are one cell
  matched : (x y b c t s : ℕ) → At x b t → At y c s → sort_word (word_no g x) ≡ sort_word (word_no g y) → Matched g (box_at g b) (box_at g c) (up g.d t) (up g.d s)
  matched x y b c t s a a' e =
      record {
        forth = λ i l. let r = cell_same g taken x y a.in-grid a'.in-grid e (vertex_no g x i) (i, l, refl) in (r.0, r.1, sym (vertex-at x b t i a l) ∙ sym r.2 ∙ vertex-at y c s r.0 a' r.1);
        back = λ j l. let r = cell_same g taken y x a'.in-grid a.in-grid (sym e) (vertex_no g y j) (j, l, refl) in (r.0, r.1, sym (vertex-at x b t r.0 a r.1) ∙ r.2 ∙ vertex-at y c s j a' l);
      }

  -- how the boxes b and c lie on each axis
  abbrev sides : ℕ → ℕ → ℕ → ℕ
  sides b c = side g (box_at g b) (box_at g c)

  abbrev listed : ℕ → ℕ → ℕ → ℕ
  listed b c = kinds (sides b c 0) (sides b c 1) (sides b c 2)

  listed-is : (b c k : ℕ) → k < g.d → listed b c k ≡ sides b c k
  listed-is b c k l = below-three k (omega (arith, dim g taken))
    where
      below-three : (k : ℕ) → k < 3 → listed b c k ≡ sides b c k
      below-three zero l = refl
      below-three (suc zero) l = refl
      below-three (suc (suc zero)) l = refl
      below-three (suc (suc (suc k))) l = absurd (let w : ⊥ = omega arith in w)

  -- two cells of the same boxes that are one cell again, the order of the first turned so that the axes at their last cells come later
  record Next (b c t : ℕ) : Type 0 where
    first : ℕ
    second : ℕ
    first-order : ℕ
    second-order : ℕ
    first-at : At first b first-order
    second_at : At second c second-order
    one : sort_word (word_no g first) ≡ sort_word (word_no g second)
    less : earliness g.d first-order (listed b c) < earliness g.d t (listed b c)

  module _ (x y b c t s : ℕ) (a : At x b t) (a' : At y c s) (e : sort_word (word_no g x) ≡ sort_word (word_no g y)) (f : Faced g (box_at g b) (box_at g c)) where
    first-chain : Chain g.d (up g.d t)
    first-chain = chain t a.order-in

    second-chain : Chain g.d (up g.d s)
    second-chain = chain s a'.order-in

    pairs : Matched g (box_at g b) (box_at g c) (up g.d t) (up g.d s)
    pairs = matched x y b c t s a a' e

    opposite : (k : ℕ) → k < g.d → (sides b c k ≡ 1) ⊎ (sides b c k ≡ 2) → (i j : ℕ) → vertex_by g (box_at g b) (up g.d t i) ≡ vertex_by g (box_at g c) (up g.d s j) → up g.d t i k + up g.d s j k ≡ 1
    opposite k l h i j v = up-or-down g taken (box_at g b) (box_at g c) (box-lt g taken b) (box-lt g taken c) (up g.d t) (up g.d s) first-chain second-chain k l h i j v

    never-parted : Parted g.d t (listed b c) → ⊥
    never-parted p =
        not-parted g taken (box_at g b) (box_at g c) (box-lt g taken b) (box-lt g taken c) (up g.d t) (up g.d s) first-chain second-chain pairs f p.at p.at_in
        (λ k l q. p.none k l (listed-is b c k l ∙ q)) (λ k l q. p.each k l (listed-is b c k l ∙ q))

    module _ (p : Later g.d t (listed b c)) (j : ℕ) (lj : j ≤ g.d) (v : vertex_by g (box_at g b) (up g.d t p.at) ≡ vertex_by g (box_at g c) (up g.d s j)) where
      -- the corner with the same vertex lies between the first and the last
      not_first : 0 < j
      not_first =
          let z : up g.d t p.at p.second + up g.d s j p.second ≡ 1 = opposite p.second p.second-in (inr (sym (listed-is b c p.second p.second-in) ∙ p.second-kind)) p.at j v in
          elim (ℕ_discrete j 0) [
            | yes q ↦ absurd (let w : ⊥ = omega (arith, p.second-down, ap (λ (i : ℕ). up g.d s i p.second) q, second-chain.none p.second p.second-in) in w)
            | no q ↦ omega arith
          ]

      not_last : j < g.d
      not_last =
          let z : up g.d t p.at p.first + up g.d s j p.first ≡ 1 = opposite p.first p.first-in (inl (sym (listed-is b c p.first p.first-in) ∙ p.first_kind)) p.at j v in
          elim (ℕ_discrete j g.d) [
            | yes q ↦ absurd (let w : ⊥ = omega (arith, p.first-up, ap (λ (i : ℕ). up g.d s i p.first) q, second-chain.each p.first p.first-in) in w)
            | no q ↦ omega arith
          ]

      turned-once : Crowded g.d (glued_cells g) ⊎ Next b c t
      turned-once =
          let li : p.at ≤ g.d = omega (arith, p.at_in) in
          let r = turn g.d s j (dim g taken) a'.order-in not_first not_last in
          let na = at-by b p.order a.box_in p.turned.order-in in
          let nb = at-by c r.0 a'.box_in r.1.order-in in
          let ta = turned-cell x b t p.at p.order (cell_by b p.order) a na li p.turned in
          let tb = turned-cell y c s j r.0 (cell_by c r.0) a' nb lj r.1 in
          let q : vertex_no g x p.at ≡ vertex_no g y j = vertex-at x b t p.at a li ∙ v ∙ sym (vertex-at y c s j a' lj) in
          elim (ℕ_discrete (vertex_no g (cell_by b p.order) p.at) (vertex_no g (cell_by c r.0) j)) [
            | yes z ↦
                inr (record {
                  first = cell_by b p.order;
                  second = cell_by c r.0;
                  first-order = p.order;
                  second-order = r.0;
                  first-at = na;
                  second_at = nb;
                  one = still_one x y p.at j a.in-grid a'.in-grid li lj e q (cell_by b p.order) (cell_by c r.0) ta tb z;
                  less = p.less;
                })
            | no z ↦ inl (three-cells-meet x y p.at j a.in-grid a'.in-grid li lj e q (cell_by b p.order) (cell_by c r.0) ta tb z)
          ]

    step : Crowded g.d (glued_cells g) ⊎ Next b c t
    step =
        ⊎_elim
        (λ (p : Parted g.d t (listed b c)). absurd (never-parted p))
        (λ (p : Later g.d t (listed b c)). let r = pairs.forth p.at (omega (arith, p.at_in)) in turned-once p r.0 r.1 r.2)
        (place g.d t (sides b c 0) (sides b c 1) (sides b c 2) (dim g taken) a.order-in (sides-few g (box_at g b) (box_at g c) 0) (sides-few g (box_at g b) (box_at g c) 1) (sides-few g (box_at g b) (box_at g c) 2))

  -- again and again, n times at most
  twice : (n x y b c t s : ℕ) → At x b t → At y c s → sort_word (word_no g x) ≡ sort_word (word_no g y) → Faced g (box_at g b) (box_at g c) → earliness g.d t (listed b c) < n → Crowded g.d (glued_cells g)
  twice zero x y b c t s a a' e f h = absurd (let w : ⊥ = omega arith in w)
  twice (suc n) x y b c t s a a' e f h =
      ⊎_elim
      (λ (w : Crowded g.d (glued_cells g)). w)
      (λ (w : Next b c t). twice n w.first w.second b c w.first-order w.second-order w.first-at w.second_at w.one f (omega (arith, w.less)))
      (step x y b c t s a a' e f)

  -- ---- they face each other on some axis or on none
  faced-or-not : (p q : ℕ → ℕ) (n : ℕ) → n ≤ g.d → Faced g p q ⊎ ((k : ℕ) → k < n → side g p q k ≡ 0)
  faced-or-not p q zero h = inr (λ k l. absurd (let w : ⊥ = omega arith in w))
  faced-or-not p q (suc n) h =
      elim (ℕ_discrete (side g p q n) 0) [
        | yes z ↦
            ⊎_elim
            (λ (f : Faced g p q). inl f)
            (λ (r : (k : ℕ) → k < n → side g p q k ≡ 0). inr (λ k l. elim (ℕ_discrete k n) [ yes q ↦ rw q z | no q ↦ r k (omega arith) ]))
            (faced-or-not p q n (omega arith))
        | no z ↦
            elim (ℕ_discrete (side g p q n) 1) [
              | yes o ↦ inl (record { axis = n; axis-in = h; faces = inl o })
              | no o ↦ inl (record { axis = n; axis-in = h; faces = inr (omega (arith, sides-few g p q n)) })
            ]
      ]

  -- on none: one and the same cell
  module _ (x y b c t s : ℕ) (a : At x b t) (a' : At y c s) (e : sort_word (word_no g x) ≡ sort_word (word_no g y)) (apart : (k : ℕ) → k < g.d → sides b c k ≡ 0) where
    one-corner : (i j : ℕ) → i ≤ g.d → j ≤ g.d → vertex_by g (box_at g b) (up g.d t i) ≡ vertex_by g (box_at g c) (up g.d s j) → corner_of g x i ≡ corner_of g y j
    one-corner i j li lj v =
        a.corner i li
        ∙ number_same (points_on g) (λ k. box_at g b k + up g.d t i k) (λ k. box_at g c k + up g.d s j k) g.d
        (one-point g taken (box_at g b) (box_at g c) (box-lt g taken b) (box-lt g taken c) (up g.d t) (up g.d s) (chain t a.order-in) (chain s a'.order-in) apart i j v)
        ∙ sym (a'.corner j lj)

    one-cell-no : cell_no g x ≡ cell_no g y
    one-cell-no =
        let m = matched x y b c t s a a' e in
        one_word (cell_no g x) (cell_no g y) (cell-rising g taken x) (cell-rising g taken y)
        (λ v k.
        let r = Mem-at v (cell_no g x) k in
        let li : r.0 ≤ g.d = omega (arith, r.1, cell-length g taken x) in
        let o = m.forth r.0 li in
        subst (λ (u : ℕ). Mem u (cell_no g y)) (sym (one-corner r.0 o.0 li o.1 o.2) ∙ r.2) (Mem-of (cell_no g y) o.0 (omega (arith, o.1, cell-length g taken y))))
        (λ v k.
        let r = Mem-at v (cell_no g y) k in
        let lj : r.0 ≤ g.d = omega (arith, r.1, cell-length g taken y) in
        let o = m.back r.0 lj in
        subst (λ (u : ℕ). Mem u (cell_no g x)) (one-corner o.0 r.0 o.1 lj o.2 ∙ r.2) (Mem-of (cell_no g x) o.0 (omega (arith, o.1, cell-length g taken x))))

  -- two words that sort to one cell are of boxes that face each other
  two-faced : (x y : ℕ) → x < y → y < cell_count g → sort_word (word_no g x) ≡ sort_word (word_no g y) → Faced g (box_at g (x / each_box g)) (box_at g (y / each_box g))
  two-faced x y h l e =
      ⊎_elim
      (λ (f : Faced g (box_at g (x / each_box g)) (box_at g (y / each_box g))). f)
      (λ (r : (k : ℕ) → k < g.d → sides (x / each_box g) (y / each_box g) k ≡ 0).
      let q : cell_no g x ≡ cell_no g y = one-cell-no x y (x / each_box g) (y / each_box g) (each_box g - 1 - x % each_box g) (each_box g - 1 - y % each_box g) (at_of x (omega arith)) (at_of y l) e r in
      absurd (colex-irr (suc g.d) (cell_no g y) (subst (λ (w : List ℕ). Colex (suc g.d) w (cell_no g y)) q (cell-before g taken x y h l))))
      (faced-or-not (box_at g (x / each_box g)) (box_at g (y / each_box g)) g.d (le_refl g.d))

  -- and make a facet in three cells
  pub two-words : (x y : ℕ) → x < y → y < cell_count g → sort_word (word_no g x) ≡ sort_word (word_no g y) → Crowded g.d (glued_cells g)
  two-words x y h l e =
      twice (suc (earliness g.d (each_box g - 1 - x % each_box g) (listed (x / each_box g) (y / each_box g)))) x y (x / each_box g) (y / each_box g) (each_box g - 1 - x % each_box g) (each_box g - 1 - y % each_box g) (at_of x (omega arith)) (at_of y l) e (two-faced x y h l e) (le_refl _)
