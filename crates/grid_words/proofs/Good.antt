-- The words of a grid that is taken pass the checks of a cell list: no word names a vertex twice, and no vertex number is left out. Assumes nothing.
use Rattle.refusal.specs.Says.{fine}
use mathlib.Core.Path.{◌≡◌, refl, sym, ap, subst, ◌∙◌}
use mathlib.Core.Bool.{Bool, true, false, ◌||◌}
use mathlib.Core.Logic.{◌⊎◌, inl, inr}
use mathlib.Core.List.{List, [], ◌∷◌}
use Prim.Native.Nat.{ℕ, zero, suc, ◌+◌, ◌-◌, ◌*◌, ◌/◌, ◌%◌, ◌≤◌, ◌<◌}
use native.Mathlib.Nat.{mod-lt, suc-mul, mul-suc, mul_comm, mul-le-mul_right}
use native.Mathlib.Numerals.{add-one}
use native.Mathlib.Omega.{arith}
use native.Mathlib.Decide.{dec_lt}
use lib.Dec.{eqb}
use lib.Arith.{digits_div, digits_mod, digits_lt}
use lib.ListN.{length, get_or, take}
use borrow.Author.Tests.{eq-eqb, ne_eqb}
use Rattle.multiindex.specs.Permutation.{orders, order_of}
use Rattle.lists.specs.Words.{among, has_repeat, largest_of}
use Rattle.lists.proofs.Members.{Mem, Mem-of, All, All-of, Pairs, Pairs-of}
use Rattle.lists.specs.Rows.{row}
use Rattle.sorting.proofs.Colex.{row-cell, row-length}
use Rattle.complex.specs.Check.{Passed}
use Rattle.quotient.specs.declared.Grid.{Grid}
use Rattle.quotient.specs.Shape.{cells_on, points_on, check_of, cell_count, vertices_of}
use Rattle.quotient.specs.Reduce.{coord_at, vertex_of}
use Rattle.quotient.specs.Points.{from_digits, InBox}
use Rattle.quotient.proofs.Taken.{taken-low, taken-cells, taken-vertices}
use Rattle.quotient.proofs.Radix.{number_lt, number_same, number-one, number_digits, digit_of, digit_lt, point-of-coords}
use Rattle.quotient.proofs.Onto.{vertex-lt}
use Rattle.quotient.proofs.Boxes.{every-corner}
use Rattle.grid_words.specs.Cells.{boxes_of, box_at, flat_words}
use Rattle.grid_words.specs.WorkNumbered.{each_box, order_at, corner_of}
use Rattle.grid_words.proofs.Corners.{times_in, dim, some-cell, some-order, orders-factorial, at, corner-point, corner-lt, corners-apart}
use Rattle.grid_words.proofs.Listed.{words_long, words-at}

-- ---- numbers in lists
pub mem-among : (v : ℕ) (ws : List ℕ) → Mem v ws → among v ws ≡ true
unfolding among
mem-among v [] m = absurd m
mem-among v (x ∷ ws) (inl e) = rw (eq-eqb x v e)
mem-among v (x ∷ ws) (inr m) = go (eqb x v) (mem-among v ws m)
  where
    go : (b : Bool) → among v ws ≡ true → (b || among v ws) ≡ true
    go true r = refl
    go false r = r

not-among : (v : ℕ) (ws : List ℕ) → All (λ x. v ≡ x → ⊥) ws → among v ws ≡ false
unfolding among
not-among v [] a = refl
not-among v (x ∷ ws) a = rw (ne_eqb x v (λ e. a.0 (sym e)), not-among v ws a.1)

no-repeat : (ws : List ℕ) → Pairs (λ x y. x ≡ y → ⊥) ws → has_repeat ws ≡ false
unfolding has_repeat
no-repeat [] p = refl
no-repeat (x ∷ ws) p = rw (not-among x ws p.0, no-repeat ws p.1)

largest-below : (b : ℕ) (ws : List ℕ) → 0 < b → All (λ x. x < b) ws → largest_of ws < b
unfolding largest_of
largest-below b [] h a = h
largest-below b (x ∷ ws) h a = omega (arith, a.0, largest-below b ws h a.1)

-- ---- which order reaches a corner: the axes that are up come first
abbrev Bit : ℕ → Type 0
Bit e = (e ≡ 0) ⊎ (e ≡ 1)

pub record Reached (d : ℕ) (e : ℕ → ℕ) : Type 0 where
  pub turn : ℕ
  pub steps : ℕ
  pub turn_in : turn < length (orders d)
  pub steps-in : steps ≤ d
  pub reached : (k : ℕ) → k < d → times_in k (take steps (order_of d turn)) ≡ e k

below_one : (f h : ℕ → ℕ) → f 0 ≡ h 0 → (k : ℕ) → k < 1 → f k ≡ h k
below_one f h a zero l = a
below_one f h a (suc k) l = absurd (let w : ⊥ = omega arith in w)

below_two : (f h : ℕ → ℕ) → f 0 ≡ h 0 → f 1 ≡ h 1 → (k : ℕ) → k < 2 → f k ≡ h k
below_two f h a b zero l = a
below_two f h a b (suc zero) l = b
below_two f h a b (suc (suc k)) l = absurd (let w : ⊥ = omega arith in w)

below-three : (f h : ℕ → ℕ) → f 0 ≡ h 0 → f 1 ≡ h 1 → f 2 ≡ h 2 → (k : ℕ) → k < 3 → f k ≡ h k
below-three f h a b c zero l = a
below-three f h a b c (suc zero) l = b
below-three f h a b c (suc (suc zero)) l = c
below-three f h a b c (suc (suc (suc k))) l = absurd (let w : ⊥ = omega arith in w)

reach-one : (e : ℕ → ℕ) → Bit (e 0) → Reached 1 e
reach-one e (inl a) = record { turn = 0; steps = 0; turn_in = omega arith; steps-in = omega arith; reached = below_one _ e (sym a) }
reach-one e (inr a) = record { turn = 0; steps = 1; turn_in = omega arith; steps-in = omega arith; reached = below_one _ e (sym a) }

reach-two : (e : ℕ → ℕ) → Bit (e 0) → Bit (e 1) → Reached 2 e
reach-two e (inl a) (inl b) = record { turn = 0; steps = 0; turn_in = omega arith; steps-in = omega arith; reached = below_two _ e (sym a) (sym b) }
reach-two e (inr a) (inl b) = record { turn = 1; steps = 1; turn_in = omega arith; steps-in = omega arith; reached = below_two _ e (sym a) (sym b) }
reach-two e (inl a) (inr b) = record { turn = 0; steps = 1; turn_in = omega arith; steps-in = omega arith; reached = below_two _ e (sym a) (sym b) }
reach-two e (inr a) (inr b) = record { turn = 0; steps = 2; turn_in = omega arith; steps-in = omega arith; reached = below_two _ e (sym a) (sym b) }

reach-three : (e : ℕ → ℕ) → Bit (e 0) → Bit (e 1) → Bit (e 2) → Reached 3 e
reach-three e (inl a) (inl b) (inl c) = record { turn = 0; steps = 0; turn_in = omega arith; steps-in = omega arith; reached = below-three _ e (sym a) (sym b) (sym c) }
reach-three e (inr a) (inl b) (inl c) = record { turn = 5; steps = 1; turn_in = omega arith; steps-in = omega arith; reached = below-three _ e (sym a) (sym b) (sym c) }
reach-three e (inl a) (inr b) (inl c) = record { turn = 4; steps = 1; turn_in = omega arith; steps-in = omega arith; reached = below-three _ e (sym a) (sym b) (sym c) }
reach-three e (inl a) (inl b) (inr c) = record { turn = 0; steps = 1; turn_in = omega arith; steps-in = omega arith; reached = below-three _ e (sym a) (sym b) (sym c) }
reach-three e (inr a) (inr b) (inl c) = record { turn = 5; steps = 2; turn_in = omega arith; steps-in = omega arith; reached = below-three _ e (sym a) (sym b) (sym c) }
reach-three e (inr a) (inl b) (inr c) = record { turn = 2; steps = 2; turn_in = omega arith; steps-in = omega arith; reached = below-three _ e (sym a) (sym b) (sym c) }
reach-three e (inl a) (inr b) (inr c) = record { turn = 0; steps = 2; turn_in = omega arith; steps-in = omega arith; reached = below-three _ e (sym a) (sym b) (sym c) }
reach-three e (inr a) (inr b) (inr c) = record { turn = 0; steps = 3; turn_in = omega arith; steps-in = omega arith; reached = below-three _ e (sym a) (sym b) (sym c) }

pub reach : (d : ℕ) (e : ℕ → ℕ) → 1 ≤ d → d ≤ 3 → ((k : ℕ) → k < d → Bit (e k)) → Reached d e
reach zero e l h b = absurd (let w : ⊥ = omega arith in w)
reach (suc zero) e l h b = reach-one e (b 0 (omega arith))
reach (suc (suc zero)) e l h b = reach-two e (b 0 (omega arith)) (b 1 (omega arith))
reach (suc (suc (suc zero))) e l h b = reach-three e (b 0 (omega arith)) (b 1 (omega arith)) (b 2 (omega arith))
reach (suc (suc (suc (suc d)))) e l h b = absurd (let w : ⊥ = omega arith in w)

bit : (x y : ℕ) → x ≤ y → y ≤ x + 1 → Bit (y - x)
bit x y h l = elim (dec_lt x y) [ yes m ↦ inr (omega arith) | no m ↦ inl (omega arith) ]

module _ (g : Grid) (taken : check_of g ≡ fine) where
  -- ---- the flat list by word and place
  pub word_at : (x j : ℕ) → x < cell_count g → j ≤ g.d → get_or (flat_words g) (x * suc g.d + j) 0 ≡ vertex_of g (corner_of g x j)
  word_at x j h l =
      let r : j < suc g.d = omega arith in
      words-at g taken (x * suc g.d + j) (digits_lt h r)
      ∙ ap (λ (n : ℕ). vertex_of g (corner_of g n ((x * suc g.d + j) % suc g.d))) (digits_div x r)
      ∙ ap (λ (n : ℕ). vertex_of g (corner_of g x n)) (digits_mod x r)

  -- no number is as large as the number of vertices
  pub words-low : (i : ℕ) → i < length (flat_words g) → get_or (flat_words g) i 0 < vertices_of g
  words-low i h =
      let b : i < cell_count g * suc g.d = omega (arith, words_long g taken) in
      let r : i % suc g.d < suc g.d = mod-lt i (omega arith) in
      rw (words-at g taken i b) (vertex-lt g taken (corner_of g (i / suc g.d) (i % suc g.d)) (corner-lt g taken (i / suc g.d) (i % suc g.d) (omega arith)))

  -- ---- 4: no word names a vertex twice
  word_row : (x c : ℕ) → x < cell_count g → c ≤ g.d → get_or (row (flat_words g) (suc g.d) x) c 0 ≡ vertex_of g (corner_of g x c)
  word_row x c h l = row-cell (flat_words g) (suc g.d) x c (omega arith) ∙ word_at x c h l

  row_in : (x : ℕ) → x < cell_count g → x * suc g.d + suc g.d ≤ length (flat_words g)
  row_in x h = omega (arith, words_long g taken, suc-mul x (suc g.d), mul-le-mul_right (suc g.d) h)

  pub row_apart : (x : ℕ) → x < cell_count g → has_repeat (row (flat_words g) (suc g.d) x) ≡ false
  row_apart x h =
      no-repeat (row (flat_words g) (suc g.d) x)
      (Pairs-of (λ x y. x ≡ y → ⊥) (row (flat_words g) (suc g.d) x)
      (λ i j l m e.
      let k : j ≤ g.d = omega (arith, row-length (flat_words g) (suc g.d) x (row_in x h)) in
      corners-apart g taken x i j l k (sym (word_row x i h (omega arith)) ∙ e ∙ word_row x j h k)))

  -- ---- 5: every vertex is a corner of a cell
  box_of : (c : ℕ → ℕ) → ((k : ℕ) → k < g.d → c k < cells_on g k) → (k : ℕ) → k < g.d → box_at g (from_digits (cells_on g) c g.d) k ≡ c k
  box_of c h k l =
      number-one (cells_on g) (digit_of (cells_on g) (from_digits (cells_on g) c g.d)) c g.d (λ i m. digit_lt (cells_on g) (from_digits (cells_on g) c g.d) i (some-cell g taken i m)) h
      (number_digits (cells_on g) (from_digits (cells_on g) c g.d) g.d (number_lt (cells_on g) c g.d h)) k l

  cells_count : cell_count g ≡ boxes_of g * each_box g
  cells_count = rw (orders-factorial g.d (dim g taken)) (mul_comm _ (boxes_of g))

  -- a corner of a box is a corner of one of its cells
  pub record Met (q : ℕ) : Type 0 where
    pub cell : ℕ
    pub place : ℕ
    pub cell_in : cell < cell_count g
    pub place_in : place ≤ g.d
    pub is : corner_of g cell place ≡ q

  pub meets : (o q : ℕ) → InBox g o q → ((k : ℕ) → k < g.d → coord_at g o k < cells_on g k) → Met q
  meets o q box begins =
      let n = each_box g in
      let b = from_digits (cells_on g) (coord_at g o) g.d in
      let hb : b < boxes_of g = number_lt (cells_on g) (coord_at g o) g.d begins in
      let r = reach g.d (λ k. coord_at g q k - coord_at g o k) (taken-low g taken) (dim g taken) (λ k l. bit (coord_at g o k) (coord_at g q k) (box.rising k l) (box.near k l)) in
      let s : n - 1 - r.turn < n = let z : 0 < n = some-order g.d (dim g taken) in omega arith in
      let x = b * n + (n - 1 - r.turn) in
      let ex : x / n ≡ b = digits_div b s in
      let et : n - 1 - x % n ≡ r.turn = let w : x % n ≡ n - 1 - r.turn = digits_mod b s in let i : r.turn < n = r.turn_in in omega arith in
      record {
        cell = x;
        place = r.steps;
        cell_in = rw cells_count (digits_lt hb s);
        place_in = r.steps-in;
        is =
            corner-point g taken x r.steps r.steps-in
            ∙ number_same (points_on g) (at g taken x r.steps) (coord_at g q) g.d
            (λ k l.
            let u : times_in k (take r.steps (order_at g x)) ≡ coord_at g q k - coord_at g o k = ap (λ (t : ℕ). times_in k (take r.steps (order_of g.d t))) et ∙ r.reached k l in
            let v : box_at g (x / n) k ≡ coord_at g o k = ap (λ (y : ℕ). box_at g y k) ex ∙ box_of (coord_at g o) begins k l in
            let w : coord_at g o k ≤ coord_at g q k = box.rising k l in
            omega arith)
            ∙ point-of-coords g q box.second;
      }

  pub words-all : (v : ℕ) → v < vertices_of g → among v (flat_words g) ≡ true
  words-all v h =
      let c = every-corner g taken v h in
      let m = meets c.origin c.corner c.box c.begins in
      let e : get_or (flat_words g) (m.cell * suc g.d + m.place) 0 ≡ v = word_at m.cell m.place m.cell_in m.place_in ∙ ap (vertex_of g) m.is ∙ c.vertex in
      let p : m.place < suc g.d = let z : m.place ≤ g.d = m.place_in in omega arith in
      mem-among v (flat_words g) (subst (λ (u : ℕ). Mem u (flat_words g)) e (Mem-of (flat_words g) (m.cell * suc g.d + m.place) (rw (words_long g taken) (digits_lt m.cell_in p))))

  -- ---- the checks
  pub words_count : length (flat_words g) / (g.d + 1) ≡ cell_count g
  words_count =
      let e : length (flat_words g) ≡ cell_count g * (g.d + 1) + 0 = omega (arith, words_long g taken, ap (λ (n : ℕ). cell_count g * n) (add-one g.d)) in
      ap (λ (l : ℕ). l / (g.d + 1)) e ∙ digits_div (cell_count g) (omega arith)

  words-whole : length (flat_words g) % (g.d + 1) ≡ 0
  words-whole =
      let e : length (flat_words g) ≡ cell_count g * (g.d + 1) + 0 = omega (arith, words_long g taken, ap (λ (n : ℕ). cell_count g * n) (add-one g.d)) in
      ap (λ (l : ℕ). l % (g.d + 1)) e ∙ digits_mod (cell_count g) (omega arith)

  pub some-cells : 1 ≤ cell_count g
  some-cells =
      let b : from_digits (cells_on g) (λ k. 0) g.d < boxes_of g = number_lt (cells_on g) (λ k. 0) g.d (λ k l. some-cell g taken k l) in
      let c : 1 ≤ boxes_of g = omega arith in
      rw cells_count (omega (arith, mul-le-mul_right (each_box g) c, some-order g.d (dim g taken)))

  some-vertex : 0 < vertices_of g
  some-vertex = let l : get_or (flat_words g) 0 0 < vertices_of g = words-low 0 (omega (arith, words_long g taken, some-cells, mul-suc (cell_count g) g.d)) in omega arith

  -- the words of a grid that is taken pass 1, 2, 3, 4, 6 and 5
  pub words-pass : Passed g.d (flat_words g)
  words-pass =
      let low : largest_of (flat_words g) < vertices_of g = largest-below (vertices_of g) (flat_words g) some-vertex (All-of (λ x. x < vertices_of g) (flat_words g) (λ i h. words-low i h)) in
      record {
        small = dim g taken;
        some_words = λ e. omega (arith, words_long g taken, some-cells, mul-suc (cell_count g) g.d);
        whole = words-whole;
        few = rw words_count (taken-cells g taken);
        apart = λ k h. subst (λ (n : ℕ). has_repeat (row (flat_words g) n k) ≡ false) (sym (add-one g.d)) (row_apart k (rw words_count at h));
        low = omega (arith, low, taken-vertices g taken);
        used = λ v h. words-all v (omega (arith, low));
      }
