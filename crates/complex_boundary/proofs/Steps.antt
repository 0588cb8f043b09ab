-- The steps of the calls: what each inner call asks follows from what the calls before it gave. Assumes nothing.
use Rattle.refusal.specs.declared.Refusal.TheVariants.{BadFaces, CrowdedFacet}
use Rattle.refusal.specs.Says.{Counted}
use Rattle.std.specs.Prelude.{Err}
use mathlib.Core.Bool.{Bool, true, false}
use mathlib.Core.List.{List, []}
use mathlib.Core.Path.{◌≡◌, refl, sym, ap, ◌∙◌, subst}
use Prim.Native.Nat.{ℕ, suc, ◌+◌, ◌*◌, ◌/◌, ◌<◌, ◌≤◌}
use native.Mathlib.Nat.{mul_comm, mul_assoc, mul-le-mul_left, mul-le-mul_right, le_of_mul-le-mul_right}
use native.Mathlib.Numerals.{add-one}
use native.Mathlib.Omega.{arith}
use lib.ListN.{length, take}
use Rattle.refusal.specs.Limits.{most_cells}
use Rattle.lists.specs.Rows.{flat, cut, rows as rows_of_lem}
use Rattle.lists.proofs.Flat.{flat-cut}
use Rattle.complex.specs.Cells.{cells_of}
use Rattle.complex.specs.Facets.{Cells}
use Rattle.complex.specs.Room.{key_room, need_of}
use Rattle.complex_cells.specs.WorkMade.{Made}
use Rattle.complex_cells.proofs.Words.{Word, Rising}
use Rattle.complex_cells.proofs.Order.{Colex, order-rising}
use Rattle.complex_cells.proofs.Making.{whole_words}
use Rattle.skeleton.specs.Promise.{crowded, rest}
use Rattle.skeleton.specs.Work.{Working, Sound, Handed}
use Rattle.complex_faces.specs.Faces.{faces_of}
use Rattle.complex_faces.proofs.Shape.{cells-each, faces-top}
use Rattle.complex_descent.specs.Down.{per_cell, Wide, Descending}
use Rattle.complex_descent.proofs.Steps.{meeting, narrow, fits, few, faces-many}
use Rattle.complex_boundary.specs.Need.{face_rows, face_keys, face_need}
use Rattle.complex_boundary.specs.Promise.{outside, inside}
use Rattle.complex_boundary.specs.Work.{Reached, FacesWorked}
use Rattle.complex_boundary.proofs.Room.{largest-above, most_rows, most_keys, rows-most, keys-most}

-- ---- room
module _ (d : ℕ) (ws keys rows spare counts : List ℕ) (w : Working (face_need d (length ws)) d ws keys rows spare counts) where
  whole : length ws ≡ length ws / suc d * (d + 1)
  whole = sym (whole_words d ws w.passed) ∙ ap (λ (z : ℕ). length ws / z * (d + 1)) (add-one d)

  wide_rows : length ws ≤ face_rows d * (length ws / suc d)
  wide_rows = omega (arith, whole, mul-le-mul_left (length ws / suc d) (rows-most d w.passed.small).0, mul_comm (face_rows d) (length ws / suc d))

  wide-keys : key_room d (length ws) ≤ face_keys d * (length ws / suc d)
  wide-keys = subst (λ (z : ℕ). key_room d z ≤ face_keys d * (length ws / suc d)) (sym whole) ((keys-most d w.passed.small).0 (length ws / suc d))

  pub as-cells : Working (need_of d (length ws)) d ws keys rows spare counts
  as-cells =
      record {
        passed = w.passed;
        room =
            record {
              in_keys = omega (arith, wide-keys, w.room.in_keys);
              in_rows = omega (arith, wide_rows, w.room.in_rows);
              in_spare = omega (arith, wide_rows, w.room.in_spare);
              in_counts = omega (arith, wide_rows, w.room.in_counts);
            };
      }

  few_words : length ws / suc d ≤ most_cells
  few_words = subst (λ (z : ℕ). length ws / z ≤ most_cells) (add-one d) w.passed.few

  -- a number for each of at most as many cells as words
  times-most : (m x y : ℕ) → m ≤ length ws / suc d → x ≤ y → m * x ≤ y * (length ws / suc d)
  times-most m x y h l = omega (arith, mul-le-mul_right x h, mul-le-mul_left (length ws / suc d) l, mul_comm y (length ws / suc d))

  rows-small : face_rows d * (length ws / suc d) ≤ most_rows * most_cells
  rows-small = omega (arith, mul-le-mul_right (length ws / suc d) (rows-most d w.passed.small).1, few_words)

  keys-small : face_keys d * (length ws / suc d) ≤ most_keys * most_cells
  keys-small = omega (arith, mul-le-mul_right (length ws / suc d) (keys-most d w.passed.small).1, few_words)

  module _ (m : ℕ) (keys' rows' spare' counts' : List ℕ) (lk : length keys' ≡ length keys) (lr : length rows' ≡ length rows) (ls : length spare' ≡ length spare) (lc : length counts' ≡ length counts) (a : Made d ws m rows') where
    few_cells : m ≤ length ws / suc d
    few_cells = le_of_mul-le-mul_right {k = suc d} (omega (arith, a.most, whole, ap (λ (z : ℕ). length ws / suc d * z) (add-one d))) (omega arith)

    rows-need : (e : ℕ) → e ≤ d → m * per_cell d e * suc e ≤ face_rows d * (length ws / suc d)
    rows-need e h = omega (arith, mul_assoc m (per_cell d e) (suc e), times-most m (per_cell d e * suc e) (face_rows d) few_cells (largest-above (λ e. per_cell d e * suc e) d e h))

    keys-need : (e : ℕ) → e ≤ d → m * per_cell d e * suc e * e ≤ face_keys d * (length ws / suc d)
    keys-need e h =
        let l : per_cell d e * suc e * e ≤ face_keys d = omega (arith, largest-above (λ e. per_cell d e * suc e * e) d e h) in
        omega (arith, ap (λ (z : ℕ). z * e) (mul_assoc m (per_cell d e) (suc e)), mul_assoc m (per_cell d e * suc e) e, times-most m (per_cell d e * suc e * e) (face_keys d) few_cells l)

    wide : Wide d m (length ws) keys' rows' spare' counts'
    wide =
        record {
          in_keys = λ e h. omega (arith, keys-need e h, w.room.in_keys);
          in_rows = λ e h. omega (arith, rows-need e h, w.room.in_rows);
          in_spare = λ e h. omega (arith, rows-need e h, w.room.in_spare);
          in_counts = λ e h. omega (arith, rows-need e h, w.room.in_counts);
          buckets = omega (arith, wide_rows, w.room.in_counts);
          few = λ e h. omega (arith, rows-need e h, rows-small);
          narrow = λ e h. omega (arith, keys-need e h, keys-small);
          small = omega (arith, w.passed.small);
        }

    cells-rise : Rising (Colex (d + 1)) (cells_of d ws)
    unfolding cells_of
    cells-rise = order-rising (d + 1) (rows_of_lem (d + 1) ws)

    good : Cells d (cells_of d ws)
    good = subst (λ (z : List Word). Cells d z) a.same a.cells

    the-top : faces_of (cells_of d ws) d ≡ cells_of d ws
    the-top = faces-top d (cells_of d ws) (cells-each d (cells_of d ws) good) (subst (λ (z : ℕ). Rising (Colex z) (cells_of d ws)) (add-one d) cells-rise)

    pub descending : (k : ℕ) → k ≤ d → Descending d k m (length ws) keys' rows' spare' counts'
    descending k h =
        record {
          wide = wide;
          cells = a.cells;
          top = subst (λ (z : List Word). faces_of z d ≡ z) (sym a.same) the-top;
          below = a.below;
          high = h;
        }

    module _ (k f : ℕ) (keys'' rows'' spare'' counts'' : List ℕ) (lk'' : length keys'' ≡ length keys') (lr'' : length rows'' ≡ length rows') (ls'' : length spare'' ≡ length spare') (lc'' : length counts'' ≡ length counts') (h : k ≤ d) (s : cut (suc k) f rows'' ≡ faces_of (cut (suc d) m rows') k) where
      pub reached : Reached d k ws f keys'' rows'' spare'' counts''
      reached =
          let x = descending k h in
          record {
            cells = good;
            same = s ∙ ap (λ (z : List Word). faces_of z k) a.same;
            many = ap (λ (z : List Word). length (faces_of z k)) (sym a.same) ∙ faces-many d k m (length ws) keys' rows' spare' counts' x k f keys'' rows'' spare'' counts'' lk'' lr'' ls'' lc'' h s;
            fits = rw (add-one k) (fits d k m (length ws) keys' rows' spare' counts' x k f keys'' rows'' spare'' counts'' lk'' lr'' ls'' lc'' h s);
            few = rw (add-one k) (few d k m (length ws) keys' rows' spare' counts' x k f keys'' rows'' spare'' counts'' lk'' lr'' ls'' lc'' h s);
            meeting = meeting d k m (length ws) keys' rows' spare' counts' x k f keys'' rows'' spare'' counts'' lk'' lr'' ls'' lc'' h s;
            narrow = narrow d k m (length ws) keys' rows' spare' counts' x k f keys'' rows'' spare'' counts'' lk'' lr'' ls'' lc'' h s;
          }

-- ---- faces in a flat list
pub reached-flat : (d k : ℕ) (ws : List ℕ) (f : ℕ) (keys rows spare counts : List ℕ) → Reached d k ws f keys rows spare counts → flat (faces_of (cells_of d ws) k) ≡ take (f * (k + 1)) rows
reached-flat d k ws f keys rows spare counts a = ap flat (sym a.same) ∙ flat-cut (suc k) f rows ∙ ap (λ (z : ℕ). take (f * z) rows) (sym (add-one k))

-- ---- after 7
module _ (d k : ℕ) (ws : List ℕ) (ok : Bool) (s : Sound d ws ok) where
  pub faces-crowded : (out : List ℕ) → ok ≡ false → FacesWorked d k ws (Err CrowdedFacet) out out
  faces-crowded out e = record { handed = []; ends = crowded (s.no e); result = refl }

  pub faces-outside : (out : List ℕ) → ok ≡ true → d < k → FacesWorked d k ws (Err BadFaces) out out
  faces-outside out e h = record { handed = []; ends = rest (s.yes e) (outside (λ l. omega arith)); result = refl }

  pub faces-rest : (r : Counted) (out out' : List ℕ) → ok ≡ true → k ≤ d → Handed (faces_of (cells_of d ws) k) r out out' → FacesWorked d k ws r out out'
  faces-rest r out out' e h q = record { handed = q.handed; ends = rest (s.yes e) (inside h q.gives); result = q.result }
