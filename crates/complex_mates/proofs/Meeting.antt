-- From classes of facet rows to mates and crowds. Assumes nothing.
use mathlib.Core.List.{List, ◌++◌}
use mathlib.Core.Path.{◌≡◌, refl, sym, ap, ◌∙◌, subst}
use Prim.Native.Nat.{ℕ, zero, suc, ◌+◌, ◌-◌, ◌*◌, ◌/◌, ◌%◌, ◌<◌, ◌≤◌}
use native.Mathlib.Nat.{mul-le-mul_left, le_refl}
use native.Mathlib.Decide.{dec_lt}
use native.Mathlib.Omega.{arith}
use lib.ListN.{length, get_or, take, drop, replicate, length-replicate, get_or-replicate, length-append, get_or-append}
use lib.Seq.{length-take-le}
use Rattle.sorting.specs.Bucket.{cell}
use Rattle.sorting.specs.Order.{SameRow, Table}
use Rattle.sorting.proofs.Colex.{row_same, same_row, row-cell, row-length}
use Rattle.sorting.specs.Distinct.{Distinct}
use Rattle.sorting.proofs.Firsts.{id-eq, id-row, id-rep}
use Rattle.lists.specs.Rows.{cut, row}
use Rattle.lists.proofs.Rows.{cut-length, cut_at, row_fits, row-cell-below, row-slot-below, row_is, slots-some}
use Rattle.complex.specs.Facets.{cell_at, facet_at, FacetOf, Crowded, Cells, slots}
use Rattle.lists.specs.Words.{none}
use Rattle.complex_mates.specs.Table.{facet_row, Written, Writing, Grouped, Paired, Three, Meet, MateTable, Meeting}
use Rattle.complex_mates.proofs.Laws.{facet-before, facet-after, facets-differ}

pub slots-most : (d : ℕ) → slots d ≤ suc d
slots-most zero = omega arith
slots-most (suc d) = omega arith

pub slots-dim : (d : ℕ) → 0 < slots d → (0 < d) × (slots d ≡ suc d)
slots-dim zero h = absurd (omega arith)
slots-dim (suc d) h = (omega arith, refl)

-- the classes that `distinct` leaves
pub grouped : (k : ℕ → ℕ → ℕ) (cols n m : ℕ) (reps ids : List ℕ) → Distinct k cols n m reps ids → n < none → n ≤ length reps → n ≤ length ids → Grouped n reps ids
grouped k cols n m reps ids q few lr li =
    record {
      few = few;
      long = li;
      below = λ x h. omega (arith, q.id_below x h, q.few);
      first = λ x h. q.least (get_or ids x 0) x (q.id_below x h) h (q.id_same x h);
      same = λ x h. id-rep k cols n m reps ids q (get_or ids x 0) (q.id_below x h);
    }

-- m cells stand in a flat list, and their facet rows in keys, in classes
module _ (d m : ℕ) (flat keys reps ids : List ℕ) (cells : Cells d (cut (suc d) m flat)) (long : m * slots d * d ≤ length keys) (w : Written d (slots d) flat keys (m * slots d)) (classes : ℕ) (q : Distinct (cell keys d) d (m * slots d) classes reps ids) where
  n : ℕ
  n = m * slots d

  -- the cell of a row
  the-cell : (x : ℕ) → x < m * slots d → cell_at (cut (suc d) m flat) (x / slots d) ≡ row flat (suc d) (x / slots d)
  the-cell x h = cut_at (suc d) m flat (x / slots d) (row-cell-below x m (slots d) h)

  is-facet : (x : ℕ) → x < m * slots d → FacetOf d (cut (suc d) m flat) (x / slots d) (d - x % slots d)
  is-facet x h =
      record {
        some = (slots-dim d (slots-some x m (slots d) h)).0;
        cell = rw (cut-length (suc d) m flat) (row-cell-below x m (slots d) h);
        place = omega arith;
      }

  -- equal ids: one facet
  one-facet : (x y : ℕ) → x < m * slots d → y < m * slots d → get_or ids x 0 ≡ get_or ids y 0 → facet_at (cell_at (cut (suc d) m flat) (x / slots d)) (d - x % slots d) ≡ facet_at (cell_at (cut (suc d) m flat) (y / slots d)) (d - y % slots d)
  one-facet x y hx hy e =
      let s : SameRow (cell keys d) d x y = id-row (cell keys d) d (m * slots d) classes reps ids q x y hx hy e in
      let r : row keys d x ≡ row keys d y = same_row keys d x y (row_fits x (m * slots d) d (length keys) hx long) (row_fits y (m * slots d) d (length keys) hy long) s in
      ap (λ (v : List ℕ). facet_at v (d - x % slots d)) (the-cell x hx) ∙ sym (w x hx) ∙ r ∙ w y hy ∙ ap (λ (v : List ℕ). facet_at v (d - y % slots d)) (sym (the-cell y hy))

  one-id : (x y : ℕ) → x < m * slots d → y < m * slots d → facet_at (cell_at (cut (suc d) m flat) (x / slots d)) (d - x % slots d) ≡ facet_at (cell_at (cut (suc d) m flat) (y / slots d)) (d - y % slots d) → get_or ids x 0 ≡ get_or ids y 0
  one-id x y hx hy e =
      let r : row keys d x ≡ row keys d y = w x hx ∙ ap (λ (v : List ℕ). facet_at v (d - x % slots d)) (sym (the-cell x hx)) ∙ e ∙ ap (λ (v : List ℕ). facet_at v (d - y % slots d)) (the-cell y hy) ∙ sym (w y hy) in
      id-eq (cell keys d) d (m * slots d) classes reps ids q x y hx hy (row_same keys d x y r)

  -- two rows of one class are of two cells
  two-places : (v : List ℕ) (i j : ℕ) → length v ≡ suc d → ((a b : ℕ) → a < b → b ≤ d → get_or v a 0 < get_or v b 0) → i ≤ d → j ≤ d → facet_at v i ≡ facet_at v j → i ≡ j
  two-places v i j l up hi hj e =
      elim (dec_lt i j) [
        | yes p ↦ absurd (facets-differ v i j p (omega arith) (up i (suc i) (omega arith) (omega arith)) e)
        | no p ↦ elim (dec_lt j i) [
          | yes r ↦ absurd (facets-differ v j i r (omega arith) (up j (suc j) (omega arith) (omega arith)) (sym e))
          | no r ↦ omega arith
        ]
      ]

  two_cells : (x y : ℕ) → x < m * slots d → y < m * slots d → (x ≡ y → ⊥) → get_or ids x 0 ≡ get_or ids y 0 → x / slots d ≡ y / slots d → ⊥
  two_cells x y hx hy ne e c =
      let f = one-facet x y hx hy e in
      let hc : x / slots d < length (cut (suc d) m flat) = (is-facet x hx).cell in
      let g : facet_at (cell_at (cut (suc d) m flat) (x / slots d)) (d - x % slots d) ≡ facet_at (cell_at (cut (suc d) m flat) (x / slots d)) (d - y % slots d) = f ∙ ap (λ (z : ℕ). facet_at (cell_at (cut (suc d) m flat) z) (d - y % slots d)) (sym c) in
      let p = two-places (cell_at (cut (suc d) m flat) (x / slots d)) (d - x % slots d) (d - y % slots d) (cells.long (x / slots d) hc) (λ a b l k. cells.rising (x / slots d) a b hc l k) (omega arith) (omega arith) g in
      let sx = row-slot-below x m (slots d) hx in
      let sy = row-slot-below y m (slots d) hy in
      let o = slots-most d in
      ne (omega (arith, row_is x m (slots d) hx, row_is y m (slots d) hy, ap (λ (z : ℕ). z * slots d) c))

  meet : (x y : ℕ) → x < m * slots d → y < m * slots d → (x ≡ y → ⊥) → get_or ids x 0 ≡ get_or ids y 0 → Meet d (cut (suc d) m flat) x y
  meet x y hx hy ne e = record { this = is-facet x hx; that = is-facet y hy; apart = two_cells x y hx hy ne e; one = one-facet x y hx hy e }

  below-cut : (x : ℕ) → x < length (cut (suc d) m flat) * slots d → x < m * slots d
  below-cut x h = subst (λ (z : ℕ). x < z * slots d) (cut-length (suc d) m flat) h

  -- the table of mates
  pub mate-table : (mates : List ℕ) → Paired (m * slots d) ids mates → MateTable d (cut (suc d) m flat) mates
  mate-table mates p =
      record {
        below = λ x h s. rw (cut-length (suc d) m flat) (p.below x (below-cut x h) s);
        meet =
            λ x h s.
            meet x (get_or mates x 0) (below-cut x h) (p.below x (below-cut x h) s) (λ e. p.other x (below-cut x h) s (sym e)) (sym (p.same x (below-cut x h) s));
        all = λ x y hx hy t. p.all x y (below-cut x hx) (below-cut y hy) (λ e. t.apart (ap (λ (z : ℕ). z / slots d) e)) (one-id x y (below-cut x hx) (below-cut y hy) t.one);
      }

  -- three rows of one class: a facet in three cells
  pub crowd : Three (m * slots d) ids → Crowded d (cut (suc d) m flat)
  crowd t =
      record {
        cell = t.x / slots d;
        first = t.y / slots d;
        second = t.z / slots d;
        at = d - t.x % slots d;
        at_first = d - t.y % slots d;
        at_second = d - t.z % slots d;
        one = meet t.x t.y t.x_below t.y_below t.xy t.x_y;
        other = meet t.x t.z t.x_below t.z_below t.xz t.x_z;
        apart = two_cells t.y t.z t.y_below t.z_below t.yz (sym t.x_y ∙ t.x_z);
      }

-- ---- the call `mates`, step by step
module _ (d m b : ℕ) (keys rows spare counts : List ℕ) (a : Meeting d m b keys rows spare counts) (k : ℕ) (e : k ≡ slots d) where
  pub meeting-most : m * k ≤ m * suc d
  meeting-most = rw e (mul-le-mul_left m (slots-most d))

  pub meeting-writing : Writing d k m rows keys
  meeting-writing = record { few = rw e (slots-most d); long = a.rows_long; room = rw e a.keys_long; small = a.few; dim = a.small }

  -- a facet's number is a number of its cell
  number-below : (q i c : ℕ) → q < m → i ≤ d → c < d → get_or (facet_at (row rows (suc d) q) i) c 0 < b
  number-below q i c hq hi hc =
      let l : length (row rows (suc d) q) ≡ suc d = row-length rows (suc d) q (row_fits q m (suc d) (length rows) hq a.rows_long) in
      elim (dec_lt c i) [
        | yes p ↦ rw (facet-before (row rows (suc d) q) i c (omega arith) p, row-cell rows (suc d) q c (omega arith)) (a.below (q * suc d + c) (omega (arith, row_fits q m (suc d) (m * suc d) hq (le_refl (m * suc d)))))
        | no p ↦
            let r : i ≤ c = omega arith in
            rw (facet-after (row rows (suc d) q) i c (omega arith) r, row-cell rows (suc d) q (suc c) (omega arith)) (a.below (q * suc d + suc c) (omega (arith, row_fits q m (suc d) (m * suc d) hq (le_refl (m * suc d)))))
      ]

  pub meeting-table : (keys' : List ℕ) → length keys' ≡ length keys → Written d k rows keys' (m * k) → Table keys' d (m * k) b
  meeting-table keys' l w =
      record {
        few = omega (arith, a.few, meeting-most);
        long = omega (arith, meeting-writing.room);
        below =
            λ j h.
            let some : 0 < d = slots-some j (m * k) d h in
            let hx : j / d < m * k = row-cell-below j (m * k) d h in
            let hc : j % d < d = row-slot-below j (m * k) d h in
            let hq : j / d / k < m = row-cell-below (j / d) m k hx in
            let g : get_or keys' j 0 ≡ get_or (facet_row d k rows (j / d)) (j % d) 0 =
            ap (λ (i : ℕ). get_or keys' i 0) (sym (row_is j (m * k) d h)) ∙ sym (row-cell keys' d (j / d) (j % d) hc) ∙ ap (λ (v : List ℕ). get_or v (j % d) 0) (w (j / d) hx) in
            rw g (number-below (j / d / k) (d - j / d % k) (j % d) hq (omega arith) hc);
      }

  -- the mates as pairing begins: none
  pub meeting-free : (rows' part : List ℕ) → length rows' ≡ length rows → part ≡ replicate (length (take (m * k) rows')) none → (x : ℕ) → x < m * k → get_or (part ++ drop (m * k) rows') x 0 ≡ none
  meeting-free rows' part l p x h =
      let t : length (take (m * k) rows') ≡ m * k = length-take-le (m * k) rows' (omega (arith, meeting-most, a.rows_long)) in
      let q : part ≡ replicate (m * k) none = p ∙ ap (λ (n : ℕ). replicate n none) t in
      let u : length {A = ℕ} (replicate (m * k) none) ≡ m * k = length-replicate (m * k) none in
      rw (q, get_or-append (replicate (m * k) none) (drop (m * k) rows') 0 x (omega arith)) (get_or-replicate (m * k) x none 0 h)

  pub meeting-done : (keys' reps ids mates : List ℕ) (classes : ℕ) → length keys' ≡ length keys → Written d k rows keys' (m * k) → Distinct (cell keys' d) d (m * k) classes reps ids → Paired (m * k) ids mates → MateTable d (cut (suc d) m rows) mates
  meeting-done keys' reps ids mates classes l =
      subst (λ (z : ℕ). Written d z rows keys' (m * z) → Distinct (cell keys' d) d (m * z) classes reps ids → Paired (m * z) ids mates → MateTable d (cut (suc d) m rows) mates) (sym e)
      (λ w q p. mate-table d m rows keys' reps ids a.cells (omega (arith, a.keys_long)) w classes q mates p)

  pub meeting-crowd : (keys' reps ids : List ℕ) (classes : ℕ) → length keys' ≡ length keys → Written d k rows keys' (m * k) → Distinct (cell keys' d) d (m * k) classes reps ids → Three (m * k) ids → Crowded d (cut (suc d) m rows)
  meeting-crowd keys' reps ids classes l =
      subst (λ (z : ℕ). Written d z rows keys' (m * z) → Distinct (cell keys' d) d (m * z) classes reps ids → Three (m * z) ids → Crowded d (cut (suc d) m rows)) (sym e)
      (λ w q p. crowd d m rows keys' reps ids a.cells (omega (arith, a.keys_long)) w classes q p)

pub meeting-room : (n v : ℕ) (rows part : List ℕ) → n ≤ length rows → part ≡ replicate (length (take n rows)) v → n ≤ length (part ++ drop n rows)
meeting-room n v rows part h e =
    let l : length part ≡ n = ap length e ∙ length-replicate (length (take n rows)) v ∙ length-take-le n rows h in
    omega (arith, length-append part (drop n rows))
