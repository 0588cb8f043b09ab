-- The slots' agreement is agreement on every facet of two cells, and the words' marks are their signs: words and cells are read back from the keys' last part.
-- Assumes nothing.
use mathlib.Core.List.{List, []}
use mathlib.Core.Path.{◌≡◌, refl, sym, ap, ◌∙◌, subst}
use mathlib.Core.Logic.{◌⊎◌, inl, inr, ⊎_elim}
use Prim.Native.Nat.{ℕ, zero, suc, ◌+◌, ◌-◌, ◌*◌, ◌/◌, ◌%◌, ◌<◌, ◌≤◌}
use native.Mathlib.Nat.{suc-mul, mul-le-mul_right, suc-mod}
use native.Mathlib.Numerals.{add-one}
use native.Mathlib.Omega.{arith}
use lib.ListN.{length, get_or, take, drop, take-append-drop}
use lib.Seq.{get_or-take, get_or-drop}
use Rattle.refusal.specs.Limits.{many_corners}
use Rattle.lists.specs.Rows.{rows, flat, row}
use Rattle.lists.proofs.Flat.{each_long, flat-length, flat-at}
use Rattle.lists.proofs.Laws.{front-part}
use Rattle.multiindex.specs.Sort.{inversions}
use Rattle.multiindex.specs.Sign.{plus, minus, opposite, induced}
use Rattle.multiindex.proofs.SortLaws.{sort-length}
use Rattle.complex.specs.Facets.{cell_at, slots}
use Rattle.lists.proofs.Rows.{row-cell-below}
use Rattle.orientation_walk.specs.WorkSigns as walk
use Rattle.orientation_signs.specs.WorkFound.{sign_of}
use Rattle.complex_mates.proofs.Mated.{facet-row, mates-row, rows_few}
use Rattle.lists.specs.Words.{without, none}
use Rattle.ordering_words.specs.Order.{words_by, word_of, AgreeOnFacets}
use Rattle.ordering.specs.WorkAgree.{row_word, AgreesAt, Clash, mark_at}
use Rattle.ordering.specs.Promise.{word_sign, Ready}
use Rattle.ordering_words.proofs.Orders.{by-cell-at, by-cell-length}

-- a list that begins with the words
module _ (n : ℕ) (l : List ℕ) (ks : List (List ℕ)) (e : take (length ks * n) l ≡ flat ks) (f : (c : ℕ) → c < length ks → length (get_or ks c []) ≡ n) (c : ℕ) (h : c < length ks) where
  front-row : row l n c ≡ get_or ks c []
  front-row =
      let s = length ks * n in
      let g : c * n + n ≤ length (take s l) = omega (arith, suc-mul c n, mul-le-mul_right n h, ap length e, flat-length n ks (each_long n ks f)) in
      ap (λ (t : List ℕ). row t n c) (sym (take-append-drop s l)) ∙ front-part (take s l) (drop s l) (c * n) n g ∙ ap (λ (t : List ℕ). row t n c) e ∙ flat-at n ks (each_long n ks f) c h

  front-number : (j : ℕ) → j < n → get_or l (c * n + j) 0 ≡ get_or (get_or ks c []) j 0
  front-number j g = sym (get_or-drop (c * n) l j 0) ∙ sym (get_or-take n (drop (c * n) l) j 0 g) ∙ ap (λ (t : List ℕ). get_or t j 0) front-row

-- ---- a word's mark
parity : (p : ℕ) → ((p % 2 ≡ 0) × (induced p ≡ plus)) ⊎ ((p % 2 ≡ 1) × (induced p ≡ minus))
parity zero = inl (refl, refl)
parity (suc p) =
    ⊎_elim (λ w. inr (suc-mod p 2 ∙ ap (λ (x : ℕ). suc x % 2) w.0, ap opposite w.1)) (λ w. inl (suc-mod p 2 ∙ ap (λ (x : ℕ). suc x % 2) w.0, ap opposite w.1)) (parity p)

mark-sign : (p : ℕ) → sign_of (p % 2 + 1) ≡ induced p
mark-sign p = ⊎_elim (λ w. ap (λ (x : ℕ). sign_of (x + 1)) w.0 ∙ sym w.1) (λ w. ap (λ (x : ℕ). sign_of (x + 1)) w.0 ∙ sym w.1) (parity p)

pub mark-fits : (p : ℕ) → walk.Sign (p % 2 + 1)
mark-fits p = ⊎_elim (λ w. record { some = omega arith; small = omega (arith, w.0) }) (λ w. record { some = omega arith; small = omega (arith, w.0) }) (parity p)

module _ (d at n : ℕ) (cs : List (List ℕ)) (order keys mates : List ℕ) (r : Ready d at n cs order keys mates) (short : n < many_corners) where
  word_long : (c : ℕ) → c < length cs → length (cell_at (words_by d cs order) c) ≡ suc d
  word_long c h =
      ap length (by-cell-at (rows (suc d) order) cs c h) ∙ sym (sort-length (word_of (rows (suc d) order) (cell_at cs c))) ∙ ap length (r.ordered.words.each c h) ∙ r.long c h

  many : length (words_by d cs order) ≡ length cs
  many = by-cell-length (rows (suc d) order) cs

  pub words_long : length (flat (words_by d cs order)) ≡ length cs * suc d
  words_long = flat-length (suc d) (words_by d cs order) (each_long (suc d) (words_by d cs order) (λ c h. word_long c (omega (arith, many)))) ∙ ap (λ (x : ℕ). x * suc d) many

  few : length cs * suc d < none
  few = omega (arith, r.most)

  pub word_row : (c : ℕ) → c < length cs → row (drop at keys) (d + 1) c ≡ cell_at (words_by d cs order) c
  word_row c h =
      ap (λ (i : ℕ). row (drop at keys) i c) (add-one d)
      ∙ front-row (suc d) (drop at keys) (words_by d cs order) (ap (λ (i : ℕ). take (i * suc d) (drop at keys)) many ∙ r.words) (λ c h. word_long c (omega (arith, many))) c (omega (arith, many))

  cell-number : (c j : ℕ) → c < length cs → j ≤ d → get_or (drop at keys) (length cs * (d + 1) + c * (d + 1) + j) 0 ≡ get_or (cell_at cs c) j 0
  cell-number c j h g =
      let s = length cs * suc d in
      let e : length cs * (d + 1) + c * (d + 1) + j ≡ s + (c * suc d + j) = omega (arith, ap (λ (x : ℕ). length cs * x) (add-one d), ap (λ (x : ℕ). c * x) (add-one d)) in
      ap (λ (i : ℕ). get_or (drop at keys) i 0) e ∙ sym (get_or-drop s (drop at keys) (c * suc d + j) 0)
      ∙ front-number (suc d) (drop s (drop at keys)) cs r.behind r.long c h j (omega arith)

  -- the word of row x's cell without the vertex that is dropped
  pub row_word_lem : (x : ℕ) → x < length cs * slots d → row_word d (slots d) (length cs) (drop at keys) x ≡ without (get_or (cell_at cs (x / slots d)) (d - x % slots d) 0) (cell_at (words_by d cs order) (x / slots d))
  row_word_lem x h =
      let c = x / slots d in
      let l : c < length cs = row-cell-below x (length cs) (slots d) h in
      ap (λ (v : ℕ). without v (row (drop at keys) (d + 1) c)) (cell-number c (d - x % slots d) l (omega arith))
      ∙ ap (λ (w : List ℕ). without (get_or (cell_at cs c) (d - x % slots d) 0) w) (word_row c l)

  -- the same at the row of a facet
  facet-word : (c i x : ℕ) → x < length cs * slots d → x / slots d ≡ c → d - x % slots d ≡ i → row_word d (slots d) (length cs) (drop at keys) x ≡ without (get_or (cell_at cs c) i 0) (cell_at (words_by d cs order) c)
  facet-word c i x h e f =
      row_word_lem x h ∙ ap (λ (z : ℕ). without (get_or (cell_at cs z) (d - x % slots d) 0) (cell_at (words_by d cs order) z)) e
      ∙ ap (λ (z : ℕ). without (get_or (cell_at cs c) z 0) (cell_at (words_by d cs order) c)) f

  all_one : ((x : ℕ) → x < length cs * slots d → AgreesAt d (length cs) mates (drop at keys) x) → AgreeOnFacets d cs (words_by d cs order)
  all_one all =
      record {
        one =
            λ c i c' i' u.
            let k = slots d in
            let x = c * k + (d - i) in
            let y = c' * k + (d - i') in
            let p = facet-row d (length cs) cs refl mates r.mates few u.this in
            let q = facet-row d (length cs) cs refl mates r.mates few u.that in
            let g : get_or mates x 0 ≡ y = mates-row d (length cs) cs refl mates r.mates few u in
            let some : get_or mates x 0 ≡ none → ⊥ = λ z. omega (arith, g, q.0, rows_few d (length cs) cs refl mates r.mates few) in
            sym (facet-word c i x p.0 p.1 p.3) ∙ all x p.0 some ∙ ap (row_word d k (length cs) (drop at keys)) g ∙ facet-word c' i' y q.0 q.1 q.3;
      }

  clash-none : Clash d (length cs) mates (drop at keys) → AgreeOnFacets d cs (words_by d cs order) → ⊥
  clash-none q a =
      let x = q.at in
      let y = get_or mates x 0 in
      q.other (λ some. row_word_lem x q.below ∙ a.one _ _ _ _ (r.mates.meet x q.below some) ∙ sym (row_word_lem y (r.mates.below x q.below some)))

  -- as the code has the number of cells and the list
  module _ (m : ℕ) (list : List ℕ) (e : m ≡ length cs) (f : list ≡ drop at keys) where
    pub agrees : ((x : ℕ) → x < m * slots d → AgreesAt d m mates list x) → AgreeOnFacets d cs (words_by d cs order)
    agrees =
        subst (λ (m : ℕ). ((x : ℕ) → x < m * slots d → AgreesAt d m mates list x) → AgreeOnFacets d cs (words_by d cs order)) (sym e)
        (subst (λ (list : List ℕ). ((x : ℕ) → x < length cs * slots d → AgreesAt d (length cs) mates list x) → AgreeOnFacets d cs (words_by d cs order)) (sym f) all_one)

    pub disagrees : Clash d m mates list → AgreeOnFacets d cs (words_by d cs order) → ⊥
    disagrees =
        subst (λ (m : ℕ). Clash d m mates list → AgreeOnFacets d cs (words_by d cs order) → ⊥) (sym e)
        (subst (λ (list : List ℕ). Clash d (length cs) mates list → AgreeOnFacets d cs (words_by d cs order) → ⊥) (sym f) clash-none)

    -- the marks are the words' signs
    pub mark-word : (marks : List ℕ) (k : ℕ) → k ≡ d + 1 → ((c : ℕ) → c < m → get_or marks c 0 ≡ mark_at k list c) → (c : ℕ) → c < length cs → sign_of (get_or marks c 0) ≡ word_sign (cell_at (words_by d cs order) c)
    mark-word marks k g all c h =
        ap sign_of (all c (omega arith)) ∙ mark-sign (inversions (row list k c)) ∙ ap (λ (i : ℕ). induced (inversions (row list i c))) g
        ∙ ap (λ (t : List ℕ). induced (inversions (row t (d + 1) c))) f ∙ ap (λ (w : List ℕ). induced (inversions w)) (word_row c h)
