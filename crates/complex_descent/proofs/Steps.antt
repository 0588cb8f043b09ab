-- The steps down. Assumes nothing.
use mathlib.Core.List.{List, [], ◌++◌}
use mathlib.Core.Path.{◌≡◌, sym, ap, ◌∙◌, subst}
use Prim.Native.Nat.{ℕ, zero, suc, ◌+◌, ◌-◌, ◌*◌, ◌/◌, ◌%◌, ◌<◌, ◌≤◌}
use native.Mathlib.Nat.{mul-le-mul_left, mul-le-mul_right, mod-lt, div-lt_iff_lt-mul, div-add-mod'}
use native.Mathlib.Omega.{arith}
use lib.ListN.{length, get_or, take, drop}
use lib.Seq.{length-take-le, get_or-take}
use Rattle.lists.specs.Rows.{flat, cut, row}
use Rattle.lists.proofs.Rows.{cut-length, cut_at}
use Rattle.lists.proofs.Flat.{each_long, cut-before}
use Rattle.sorting.specs.Gather.{rows_of}
use Rattle.sorting.proofs.Colex.{row-cell, row-length}
use Rattle.complex.specs.Facets.{cell_at, Cells, slots}
use Rattle.complex.specs.Skeleton.{facets_of}
use Rattle.complex_cells.specs.WorkNamed.{Named}
use Rattle.complex_cells.proofs.Words.{Word, in-at}
use Rattle.complex_cells.proofs.Named.{named_flat, named-many, row_list-at}
use Rattle.complex_mates.specs.Table.{Meeting}
use Rattle.complex_mates.proofs.Meeting.{slots-most}
use Rattle.complex_faces.specs.Faces.{faces_of}
use Rattle.complex_faces.proofs.Laws.{facets-of-faces}
use Rattle.complex_faces.proofs.Shape.{cells-each, face-low, faces-cells, faces-most}
use Rattle.complex_descent.specs.Down.{per_cell, Descending}

-- a place of a flat list of faces, by face and position
flat-at : (n m : ℕ) (rows : List ℕ) (i : ℕ) → 0 < n → i < m * n → (get_or rows i 0 ≡ get_or (get_or (cut n m rows) (i / n) []) (i % n) 0) × (i / n < m) × (i % n < n)
flat-at n m rows i s h =
    let hc : i / n < m = (div-lt_iff_lt-mul s).1 h in
    let hj : i % n < n = mod-lt i s in
    (ap (λ (z : ℕ). get_or rows z 0) (sym (div-add-mod' i n)) ∙ sym (row-cell rows n (i / n) (i % n) hj) ∙ ap (λ (z : List ℕ). get_or z (i % n) 0) (sym (cut_at n m rows (i / n) hc)), hc, hj)

module _ (d k m b : ℕ) (keys rows spare counts : List ℕ) (a : Descending d k m b keys rows spare counts) where
  cell-low : (c j : ℕ) → c < length (cut (suc d) m rows) → j < suc d → get_or (cell_at (cut (suc d) m rows) c) j 0 < b
  cell-low c j h l =
      let hc : c < m = omega (arith, cut-length (suc d) m rows) in
      let t : c * suc d + j < m * suc d = omega (arith, mul-le-mul_right (suc d) hc) in
      subst (λ (z : ℕ). z < b) (sym (ap (λ (z : Word). get_or z j 0) (cut_at (suc d) m rows c hc) ∙ row-cell rows (suc d) c j l)) (a.below (c * suc d + j) t)

  most : (e : ℕ) → length (faces_of (cut (suc d) m rows) e) ≤ m * per_cell d e
  most e = omega (arith, faces-most d e (cut (suc d) m rows) (cells-each d (cut (suc d) m rows) a.cells), ap (λ (z : ℕ). z * per_cell d e) (cut-length (suc d) m rows))

  -- f faces of dimension e stand in rows
  module _ (e f : ℕ) (keys' rows' spare' counts' : List ℕ) (lk : length keys' ≡ length keys) (lr : length rows' ≡ length rows) (ls : length spare' ≡ length spare) (lc : length counts' ≡ length counts) (h : e ≤ d) (s : cut (suc e) f rows' ≡ faces_of (cut (suc d) m rows) e) where
    pub faces-many : length (faces_of (cut (suc d) m rows) e) ≡ f
    faces-many = ap length (sym s) ∙ cut-length (suc e) f rows'

    corners : f * suc e ≤ m * per_cell d e * suc e
    corners = mul-le-mul_right (suc e) (subst (λ (z : ℕ). z ≤ m * per_cell d e) faces-many (most e))

    wide_rows : f * slots e ≤ m * per_cell d e * suc e
    wide_rows = omega (arith, corners, mul-le-mul_left f (slots-most e))

    wide-keys : f * slots e * e ≤ m * per_cell d e * suc e * e
    wide-keys = mul-le-mul_right e wide_rows

    pub fits : f * suc e ≤ length rows'
    fits = omega (arith, corners, a.wide.in_rows e h)

    pub few : f * suc e < 4294967295
    few = omega (arith, corners, a.wide.few e h)

    pub narrow : f * slots e * e < 4294967296
    narrow = omega (arith, wide-keys, a.wide.narrow e h)

    pub meeting : Meeting e f b keys' rows' spare' counts'
    meeting =
        record {
          cells = subst (λ (z : List Word). Cells e z) (sym s) (faces-cells d (cut (suc d) m rows) a.cells e);
          rows_long = fits;
          keys_long = omega (arith, wide-keys, a.wide.in_keys e h);
          spare_long = omega (arith, corners, a.wide.in_spare e h);
          counts_long = omega (arith, corners, a.wide.in_counts e h);
          buckets = omega (arith, a.wide.buckets);
          few = few;
          small = omega (arith, a.wide.small);
          below =
              λ i l.
              let q = flat-at (suc e) f rows' i (omega arith) l in
              let u : get_or (get_or (faces_of (cut (suc d) m rows) e) (i / suc e) []) (i % suc e) 0 < b =
              face-low d (cut (suc d) m rows) a.cells b e cell-low (get_or (faces_of (cut (suc d) m rows) e) (i / suc e) []) (i % suc e) (in-at (faces_of (cut (suc d) m rows) e) (i / suc e) (omega (arith, q.1, faces-many))) (omega (arith, q.2)) in
              subst (λ (z : ℕ). z < b) (sym (q.0 ∙ ap (λ (z : List Word). get_or (get_or z (i / suc e) []) (i % suc e) 0) s)) u;
        }

  -- one dimension down
  down : (e : ℕ) → suc e ≤ d → facets_of (suc e) (faces_of (cut (suc d) m rows) (suc e)) ≡ faces_of (cut (suc d) m rows) e
  down e h = facets-of-faces d e (cut (suc d) m rows) (cells-each d (cut (suc d) m rows) a.cells) h

  pub lower-room : (e f : ℕ) (rows' : List ℕ) → length rows' ≡ length rows → k < e → e ≤ d → cut (suc e) f rows' ≡ faces_of (cut (suc d) m rows) e → length (facets_of e (cut (suc e) f rows')) * e ≤ length rows'
  lower-room zero f rows' l t h s = absurd (omega arith)
  lower-room (suc e) f rows' l t h s =
      let q : length (facets_of (suc e) (cut (suc (suc e)) f rows')) ≤ m * per_cell d e = omega (arith, ap length (ap (facets_of (suc e)) s ∙ down e h), most e) in
      omega (arith, mul-le-mul_right (suc e) q, a.wide.in_rows e (omega arith))

  pub lowered : (e f f' : ℕ) (rows' rows'' : List ℕ) → k < e → e ≤ d → cut (suc e) f rows' ≡ faces_of (cut (suc d) m rows) e → cut e f' rows'' ≡ facets_of e (cut (suc e) f rows') → cut (suc (e - 1)) f' rows'' ≡ faces_of (cut (suc d) m rows) (e - 1)
  lowered zero f f' rows' rows'' t h s q = absurd (omega arith)
  lowered (suc e) f f' rows' rows'' t h s q =
      let p : e ≡ suc e - 1 = omega arith in
      subst (λ (z : ℕ). cut (suc z) f' rows'' ≡ faces_of (cut (suc d) m rows) z) p (q ∙ ap (facets_of (suc e)) s ∙ down e h)

-- ---- the facets gathered
pub gathered : (e f : ℕ) (words : List Word) (keys list rows rows' : List ℕ) → Named words e f keys list → rows' ≡ rows_of keys e (take f list) ++ drop (f * e) rows → cut e f rows' ≡ words
gathered e f words keys list rows rows' n q =
    ap (cut e f) (q ∙ ap (λ (z : List ℕ). z ++ drop (f * e) rows) (sym (named_flat words e f keys list n)))
    ∙ ap (λ (z : ℕ). cut e z (flat words ++ drop (f * e) rows)) (sym many)
    ∙ cut-before e words (drop (f * e) rows) (each_long e words long)
  where
    many : length words ≡ f
    many = named-many words e f keys list n

    long : (c : ℕ) → c < length words → length (get_or words c []) ≡ e
    long c h =
        let t : c < f = omega (arith, many) in
        ap (λ (z : List Word). length (get_or z c [])) n.same
        ∙ ap length (row_list-at keys e (take f list) c (omega (arith, length-take-le f list n.rows.long)) ∙ ap (row keys e) (get_or-take f list c 0 t))
        ∙ row-length keys e (get_or list c 0) (n.rows.inside c t)
