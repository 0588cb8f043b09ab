-- The rows of the table of pairs are the pairs of vertices of the cells. Assumes nothing.
use mathlib.Core.List.{List, [], ◌∷◌, ◌++◌}
use mathlib.Core.Path.{◌≡◌, refl, sym, ap, ◌∙◌, subst}
use mathlib.Core.Logic.{◌⊎◌, inl, inr, ⊎_elim}
use Prim.Native.Nat.{ℕ, zero, suc, ◌+◌, ◌*◌, ◌/◌, ◌%◌, ◌<◌, ◌≤◌, min}
use native.Mathlib.Nat.{mod-lt, div-add-mod', add-zero}
use native.Mathlib.Numerals.{add-one}
use native.Mathlib.Decide.{dec_lt}
use native.Mathlib.Omega.{arith}
use lib.ListN.{length, get_or}
use Rattle.sorting.specs.Bucket.{cell}
use Rattle.sorting.specs.Order.{Table}
use Rattle.sorting.specs.Distinct.{Distinct}
use Rattle.sorting.proofs.Colex.{row-length, row-cell}
use Rattle.lists.specs.Rows.{cut, row}
use Rattle.lists.proofs.Rows.{cut-length, cut_at, row_in, row-div, row-mod, row_fits, row-cell-below, row-slot-below}
use Rattle.complex.specs.Skeleton.{pairs_with, pairs_of, all_pairs, edges_of}
use Rattle.complex_cells.specs.WorkNamed.{Named}
use Rattle.complex_cells.proofs.Words.{Word, In}
use Rattle.complex_cells.proofs.Named.{named}
use Rattle.complex_edges.specs.WorkPairs.{PairAt, Writing, Edging}

-- ---- pairs of a word
in_left : (r : Word) (xs ys : List Word) → In r xs → In r (xs ++ ys)
in_left r [] ys m = absurd m
in_left r (x ∷ xs) ys (inl e) = inl e
in_left r (x ∷ xs) ys (inr m) = inr (in_left r xs ys m)

in_right : (r : Word) (xs ys : List Word) → In r ys → In r (xs ++ ys)
in_right r [] ys m = m
in_right r (x ∷ xs) ys m = inr (in_right r xs ys m)

in_either : (r : Word) (xs ys : List Word) → In r (xs ++ ys) → In r xs ⊎ In r ys
in_either r [] ys m = inr m
in_either r (x ∷ xs) ys (inl e) = inl (inl e)
in_either r (x ∷ xs) ys (inr m) = ⊎_elim (λ k. inl (inr k)) (λ k. inr k) (in_either r xs ys m)

with_in : (v : ℕ) (w : Word) (j : ℕ) → j < length w → In (v ∷ get_or w j 0 ∷ []) (pairs_with v w)
with_in v [] j h = absurd (omega arith)
with_in v (u ∷ w) zero h = inl refl
with_in v (u ∷ w) (suc j) h = inr (with_in v w j (omega arith))

in-with : (v : ℕ) (w e : Word) → In e (pairs_with v w) → (j : ℕ) × (j < length w) × (e ≡ v ∷ get_or w j 0 ∷ [])
in-with v [] e m = absurd m
in-with v (u ∷ w) e (inl p) = (0, omega arith, sym p)
in-with v (u ∷ w) e (inr m) = let r = in-with v w e m in (suc r.0, omega (arith, r.1), r.2)

pub pair-in : (w : Word) (i j : ℕ) → i < j → j < length w → In (get_or w i 0 ∷ get_or w j 0 ∷ []) (pairs_of w)
pair-in [] i j h l = absurd (omega arith)
pair-in (v ∷ w) i zero h l = absurd (omega arith)
pair-in (v ∷ w) zero (suc j) h l = in_left (v ∷ get_or w j 0 ∷ []) (pairs_with v w) (pairs_of w) (with_in v w j (omega arith))
pair-in (v ∷ w) (suc i) (suc j) h l = in_right (get_or w i 0 ∷ get_or w j 0 ∷ []) (pairs_with v w) (pairs_of w) (pair-in w i j (omega arith) (omega arith))

pub in_pair : (w e : Word) → In e (pairs_of w) → (i : ℕ) × (j : ℕ) × (i < j) × (j < length w) × (e ≡ get_or w i 0 ∷ get_or w j 0 ∷ [])
in_pair [] e m = absurd m
in_pair (v ∷ w) e m =
    ⊎_elim (λ (k : In e (pairs_with v w)). let r = in-with v w e k in (0, suc r.0, omega arith, omega (arith, r.1), r.2))
    (λ (k : In e (pairs_of w)). let r = in_pair w e k in (suc r.0, suc r.1, omega (arith, r.2), omega (arith, r.3), r.4)) (in_either e (pairs_with v w) (pairs_of w) m)

pub all_in : (cs : List Word) (c : ℕ) (e : Word) → c < length cs → In e (pairs_of (get_or cs c [])) → In e (all_pairs cs)
all_in [] c e h m = absurd (omega arith)
all_in (w ∷ cs) zero e h m = in_left e (pairs_of w) (all_pairs cs) m
all_in (w ∷ cs) (suc c) e h m = in_right e (pairs_of w) (all_pairs cs) (all_in cs c e (omega arith) m)

pub in_all : (cs : List Word) (e : Word) → In e (all_pairs cs) → (c : ℕ) × (c < length cs) × In e (pairs_of (get_or cs c []))
in_all [] e m = absurd m
in_all (w ∷ cs) e m =
    ⊎_elim (λ (k : In e (pairs_of w)). (0, omega arith, k)) (λ (k : In e (all_pairs cs)). let r = in_all cs e k in (suc r.0, omega (arith, r.1), r.2)) (in_either e (pairs_of w) (all_pairs cs) m)

two : (l : List ℕ) → length l ≡ 2 → l ≡ get_or l 0 0 ∷ get_or l 1 0 ∷ []
two [] e = absurd (omega arith)
two (a ∷ []) e = absurd (omega arith)
two (a ∷ b ∷ []) e = refl
two (a ∷ b ∷ c ∷ l) e = absurd (omega arith)

-- ---- the rows
module _ (d m b : ℕ) (keys rows spare counts : List ℕ) (a : Edging d m b keys rows spare counts) where
  pub edging-writing : Writing d m rows keys
  edging-writing = record { long = a.rows_long; room = a.keys_long; small = a.small; dim = a.dim }

  -- the cell of a row, and its vertices
  module _ (x : ℕ) (h : x < m * d * d) where
    the-cell : x / d / d < m
    the-cell = row-cell-below (x / d) m d (row-cell-below x (m * d) d h)

    high-below : x / d % d < d
    high-below = row-slot-below (x / d) m d (row-cell-below x (m * d) d h)

    vertex : (i : ℕ) → i < suc d → get_or rows (x / d / d * (d + 1) + i) 0 ≡ get_or (get_or (cut (suc d) m rows) (x / d / d) []) i 0
    vertex i l =
        ap (λ (n : ℕ). get_or rows (x / d / d * n + i) 0) (add-one d) ∙ sym (row-cell rows (suc d) (x / d / d) i l) ∙ ap (λ (w : Word). get_or w i 0) (sym (cut_at (suc d) m rows (x / d / d) the-cell))

    low-vertex : get_or rows (x / d / d * (d + 1) + min (x % d) (x / d % d)) 0 < b
    low-vertex = let q = high-below in let f = row_fits (x / d / d) m (suc d) (m * suc d) the-cell (omega arith) in rw (add-one d) (a.below (x / d / d * suc d + min (x % d) (x / d % d)) (omega arith))

    high-vertex : get_or rows (x / d / d * (d + 1) + x / d % d + 1) 0 < b
    high-vertex = let q = high-below in let f = row_fits (x / d / d) m (suc d) (m * suc d) the-cell (omega arith) in rw (add-one d) (a.below (x / d / d * suc d + x / d % d + 1) (omega arith))

  module _ (keys' : List ℕ) (l : length keys' ≡ length keys) (w : (x : ℕ) → x < m * d * d → PairAt d rows keys' x) where
    pub pairs-table : Table keys' 2 (m * d * d) b
    pairs-table =
        record {
          few = omega (arith, a.few);
          long = omega (arith, a.keys_long);
          below =
              λ j h.
              let x = j / 2 in
              let hx : j / 2 < m * d * d = row-cell-below j (m * d * d) 2 h in
              let e : j / 2 * 2 + j % 2 ≡ j = div-add-mod' j 2 in
              let o : j % 2 < 2 = mod-lt j (omega arith) in
              elim (dec_lt (j % 2) 1) [
                | yes z ↦ let f : j ≡ j / 2 * 2 = omega arith in subst (λ (i : ℕ). i < b) (sym (ap (λ (i : ℕ). get_or keys' i 0) f ∙ (w x hx).low)) (low-vertex x hx)
                | no z ↦ let f : j ≡ j / 2 * 2 + 1 = omega arith in subst (λ (i : ℕ). i < b) (sym (ap (λ (i : ℕ). get_or keys' i 0) f ∙ (w x hx).high)) (high-vertex x hx)
              ];
        }

    room : m * d * d * 2 ≤ length keys'
    room = omega (arith, a.keys_long)

    pair_row : (x : ℕ) → x < m * d * d → row keys' 2 x ≡ get_or (get_or (cut (suc d) m rows) (x / d / d) []) (min (x % d) (x / d % d)) 0 ∷ get_or (get_or (cut (suc d) m rows) (x / d / d) []) (suc (x / d % d)) 0 ∷ []
    pair_row x h =
        let q = high-below x h in
        let p = two (row keys' 2 x) (row-length keys' 2 x (row_fits x (m * d * d) 2 (length keys') h room)) in
        let u : get_or (row keys' 2 x) 0 0 ≡ get_or (get_or (cut (suc d) m rows) (x / d / d) []) (min (x % d) (x / d % d)) 0 =
        row-cell keys' 2 x 0 (omega arith) ∙ ap (λ (i : ℕ). get_or keys' i 0) (add-zero (x * 2)) ∙ (w x h).low ∙ vertex x h (min (x % d) (x / d % d)) (omega arith) in
        let i : x / d / d * (d + 1) + x / d % d + 1 ≡ x / d / d * (d + 1) + suc (x / d % d) = omega arith in
        let v : get_or (row keys' 2 x) 1 0 ≡ get_or (get_or (cut (suc d) m rows) (x / d / d) []) (suc (x / d % d)) 0 =
        row-cell keys' 2 x 1 (omega arith) ∙ (w x h).high ∙ ap (λ (n : ℕ). get_or rows n 0) i ∙ vertex x h (suc (x / d % d)) (omega arith) in
        p ∙ ap (λ (z : ℕ). z ∷ get_or (row keys' 2 x) 1 0 ∷ []) u ∙ ap (λ (z : ℕ). get_or (get_or (cut (suc d) m rows) (x / d / d) []) (min (x % d) (x / d % d)) 0 ∷ z ∷ []) v

    cell_long : (c : ℕ) → c < m → length (get_or (cut (suc d) m rows) c []) ≡ suc d
    cell_long c h = a.cells.long c (omega (arith, cut-length (suc d) m rows))

    each : (x : ℕ) → x < m * d * d → In (row keys' 2 x) (all_pairs (cut (suc d) m rows))
    each x h =
        let q = high-below x h in
        let c = the-cell x h in
        subst (λ (z : Word). In z (all_pairs (cut (suc d) m rows))) (sym (pair_row x h))
        (all_in (cut (suc d) m rows) (x / d / d) _ (omega (arith, cut-length (suc d) m rows))
        (pair-in (get_or (cut (suc d) m rows) (x / d / d) []) (min (x % d) (x / d % d)) (suc (x / d % d)) (omega arith) (omega (arith, cell_long (x / d / d) c))))

    all : (v : Word) → In v (all_pairs (cut (suc d) m rows)) → (x : ℕ) × (x < m * d * d) × (row keys' 2 x ≡ v)
    all v k =
        let r = in_all (cut (suc d) m rows) v k in
        let c = r.0 in
        let hc : c < m = omega (arith, r.1, cut-length (suc d) m rows) in
        let p = in_pair (get_or (cut (suc d) m rows) c []) v r.2 in
        found c p.0 p.1 hc p.2 (omega (arith, p.3, cell_long c hc)) v p.4
      where
        found : (c i j : ℕ) → c < m → i < j → j ≤ d → (v : Word) → v ≡ get_or (get_or (cut (suc d) m rows) c []) i 0 ∷ get_or (get_or (cut (suc d) m rows) c []) j 0 ∷ [] → (x : ℕ) × (x < m * d * d) × (row keys' 2 x ≡ v)
        found c i zero hc hij hj v e = absurd (omega arith)
        found c i (suc j) hc hij hj v e =
            let hb : c * d + j < m * d = row_in c j m d hc (omega arith) in
            let x = (c * d + j) * d + i in
            let hx : (c * d + j) * d + i < m * d * d = row_in (c * d + j) i (m * d) d hb (omega arith) in
            let eb : ((c * d + j) * d + i) / d ≡ c * d + j = row-div (c * d + j) i d (omega arith) in
            let ei : ((c * d + j) * d + i) % d ≡ i = row-mod (c * d + j) i d (omega arith) in
            let ec : ((c * d + j) * d + i) / d / d ≡ c = ap (λ (z : ℕ). z / d) eb ∙ row-div c j d (omega arith) in
            let ej : ((c * d + j) * d + i) / d % d ≡ j = ap (λ (z : ℕ). z % d) eb ∙ row-mod c j d (omega arith) in
            let em : min (((c * d + j) * d + i) % d) (((c * d + j) * d + i) / d % d) ≡ i = omega arith in (
              (c * d + j) * d + i,
              hx,
              pair_row ((c * d + j) * d + i) hx
                  ∙ ap (λ (z : ℕ). get_or (get_or (cut (suc d) m rows) (((c * d + j) * d + i) / d / d) []) (min (((c * d + j) * d + i) % d) (((c * d + j) * d + i) / d % d)) 0 ∷ get_or (get_or (cut (suc d) m rows) (((c * d + j) * d + i) / d / d) []) (suc z) 0 ∷ []) ej
                  ∙ ap (λ (z : ℕ). get_or (get_or (cut (suc d) m rows) (((c * d + j) * d + i) / d / d) []) z 0 ∷ get_or (get_or (cut (suc d) m rows) (((c * d + j) * d + i) / d / d) []) (suc j) 0 ∷ []) em
                  ∙ ap (λ (z : ℕ). get_or (get_or (cut (suc d) m rows) z []) i 0 ∷ get_or (get_or (cut (suc d) m rows) z []) (suc j) 0 ∷ []) ec
                  ∙ sym e,
            )

    pub edges-named : (e : ℕ) (reps ids : List ℕ) → Distinct (cell keys' 2) 2 (m * d * d) e reps ids → m * d * d ≤ length reps → Named (edges_of (cut (suc d) m rows)) 2 e keys' reps
    edges-named e reps ids q long =
        named 2 (m * d * d) e keys' reps ids q (omega (arith, q.few)) room (all_pairs (cut (suc d) m rows)) each all (omega (arith, a.few)) a.few
