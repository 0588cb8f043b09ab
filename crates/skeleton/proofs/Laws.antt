-- What the lists are: rising, with just the members that document 01 says; where no facet lies in three cells each lies in one or two; and the room's bound. Assumes nothing.
use mathlib.Core.Bool.{Bool, true, false}
use mathlib.Core.List.{List, [], ◌∷◌, ◌++◌}
use mathlib.Core.Path.{◌≡◌, refl, sym, ap, ◌∙◌, subst}
use mathlib.Core.Logic.{◌⊎◌, inl, inr, ⊎_elim}
use Prim.Native.Nat.{ℕ, zero, suc, ◌+◌, ◌-◌, ◌*◌, ◌/◌, ◌%◌, ◌<◌, ◌≤◌}
use native.Mathlib.Decide.{ℕ_discrete, dec_lt}
use native.Mathlib.Omega.{arith}
use lib.ListN.{length, get_or, length-append}
use Rattle.refusal.specs.declared.Room.{Room}
use Rattle.lists.specs.Rows.{rows}
use Rattle.lists.proofs.Rows.{cut-length, cut_at, row_fits, row-cell-below, row-slot-below, row_is, slots-some}
use Rattle.sorting.proofs.Colex.{row-length}
use Rattle.complex_cells.proofs.Making.{whole_words}
use Rattle.multiindex.specs.Sort.{sort_word}
use Rattle.complex.specs.Check.{Passed}
use Rattle.complex.specs.Room.{need_of}
use Rattle.complex.specs.Cells.{cells_of}
use Rattle.complex.specs.Facets.{cell_at, facet_at, FacetOf, Mates, Crowded, Cells, slots}
use Rattle.lists.specs.Tables.{tab}
use Rattle.lists.specs.Words.{same_word}
use Rattle.complex.specs.Skeleton.{all_pairs, edges_of, facet_row_of, facets_of, only_if, numbers, rows_with}
use Rattle.complex_cells.proofs.Words.{Word, Each, Rising, In, each_of, at_in}
use Rattle.complex_cells.proofs.Order.{Colex, order-rising, order_from, order-has, order_same}
use Rattle.complex_cells.proofs.Named.{in_colex-rising, in_colex-from, in_colex-has}
use Rattle.complex_mates.proofs.Laws.{facet-length, facets-differ}
use Rattle.complex_mates.proofs.Places.{facet-row}
use Rattle.complex_mates.proofs.Meeting.{slots-most, slots-dim}
use Rattle.lists.proofs.Words.{same_word_lem, word-true}
use Rattle.complex_facets.specs.Records.{record_need}
use Rattle.complex_facets.proofs.Numbers.{tab-in, in-tab}
use Rattle.complex_edges.proofs.Members.{pair-in, in_pair, all_in, in_all}
use Rattle.skeleton.specs.Parts.{edge_need}
use Rattle.skeleton.proofs.Steps.{room_most}

-- ---- room: at most 32 numbers for each of the n corners of the words, plus 16,384
abbrev pub sum : Room → ℕ
sum r = r.keys + r.rows + r.spare + r.counts

pub need-bound : (d n : ℕ) → d ≤ 3 → sum (need_of d n) ≤ 32 * n + 16384
need-bound d n h = omega (arith, room_most d n h)

pub edge-bound : (d n : ℕ) → d ≤ 3 → sum (edge_need d n) ≤ 32 * n + 16384
edge-bound d n h = omega (arith, room_most d n h)

pub record-bound : (n : ℕ) → sum (record_need n) ≤ 32 * n + 16384
record-bound n = omega arith

-- ---- cells: rising, the words sorted, and the same for words in another order
pub cells-rising : (d : ℕ) (ws : List ℕ) → Rising (Colex (d + 1)) (cells_of d ws)
unfolding cells_of
cells-rising d ws = order-rising (d + 1) (rows (d + 1) ws)

pub cells-from : (d : ℕ) (ws : List ℕ) (v : Word) → In v (cells_of d ws) → (w : Word) × In w (rows (d + 1) ws) × (sort_word w ≡ v)
unfolding cells_of
cells-from d ws v m = order_from (d + 1) (rows (d + 1) ws) v m

-- the words that passed the checks have d + 1 numbers each
words-each : (d : ℕ) (ws : List ℕ) → Passed d ws → Each (λ v. length v ≡ d + 1) (rows (d + 1) ws)
words-each d ws p =
    each_of (λ v. length v ≡ d + 1) (rows (d + 1) ws)
    (λ v k.
    let r = at_in v (rows (d + 1) ws) k in
    let h : r.0 < length ws / (d + 1) = omega (arith, r.1, cut-length (d + 1) (length ws / (d + 1)) ws) in
    ap length (sym r.2 ∙ cut_at (d + 1) (length ws / (d + 1)) ws r.0 h)
    ∙ row-length ws (d + 1) r.0 (omega (arith, row_fits r.0 (length ws / (d + 1)) (d + 1) (length ws) h (omega (arith, whole_words d ws p)))))

pub cells-has : (d : ℕ) (ws : List ℕ) (w : Word) → Passed d ws → In w (rows (d + 1) ws) → In (sort_word w) (cells_of d ws)
unfolding cells_of
cells-has d ws w p m = order-has (d + 1) (rows (d + 1) ws) w (words-each d ws p) m

pub cells_same : (d : ℕ) (ws vs : List ℕ) → Passed d ws → Passed d vs → ((w : Word) → In w (rows (d + 1) ws) → In w (rows (d + 1) vs)) → ((w : Word) → In w (rows (d + 1) vs) → In w (rows (d + 1) ws)) → cells_of d ws ≡ cells_of d vs
unfolding cells_of
cells_same d ws vs p q f g = order_same (d + 1) (rows (d + 1) ws) (rows (d + 1) vs) (words-each d ws p) (words-each d vs q) f g

-- ---- edges: rising, and the pairs of vertices of the cells
pub edges-rising : (cs : List Word) → Rising (Colex 2) (edges_of cs)
edges-rising cs = in_colex-rising 2 (all_pairs cs)

pub edges-from : (cs : List Word) (e : Word) → In e (edges_of cs) → (c : ℕ) × (i : ℕ) × (j : ℕ) × (c < length cs) × (i < j) × (j < length (cell_at cs c)) × (e ≡ get_or (cell_at cs c) i 0 ∷ get_or (cell_at cs c) j 0 ∷ [])
edges-from cs e m =
    let r = in_all cs e (in_colex-from 2 (all_pairs cs) e m) in
    let p = in_pair (cell_at cs r.0) e r.2 in
    (r.0, p.0, p.1, r.1, p.2, p.3, p.4)

pairs-long : (cs : List Word) → Each (λ v. length v ≡ 2) (all_pairs cs)
pairs-long cs = each_of (λ v. length v ≡ 2) (all_pairs cs) (λ v k. let r = in_all cs v k in let p = in_pair (cell_at cs r.0) v r.2 in ap length p.4)

pub edges-has : (cs : List Word) (c i j : ℕ) → c < length cs → i < j → j < length (cell_at cs c) → In (get_or (cell_at cs c) i 0 ∷ get_or (cell_at cs c) j 0 ∷ []) (edges_of cs)
edges-has cs c i j h l k = in_colex-has 2 (all_pairs cs) _ (pairs-long cs) (all_in cs c _ h (pair-in (cell_at cs c) i j l k))

-- ---- mates
pub mates-sym : {d : ℕ} {cs : List Word} {c i c' i' : ℕ} → Mates d cs c i c' i' → Mates d cs c' i' c i
mates-sym u = record { this = u.that; that = u.this; apart = λ e. u.apart (sym e); one = sym u.one }

pub mates-apart : {d : ℕ} {cs : List Word} {c i i' : ℕ} → Mates d cs c i c i' → ⊥
mates-apart u = u.apart refl

-- ---- facets: rising, and the facets of the cells
pub facets-rising : (d : ℕ) (cs : List Word) → Rising (Colex d) (facets_of d cs)
facets-rising d cs = in_colex-rising d (tab (length cs * slots d) (facet_row_of d cs))

row-facet : (d : ℕ) (cs : List Word) (x : ℕ) → x < length cs * slots d → FacetOf d cs (x / slots d) (d - x % slots d)
row-facet d cs x h = record { some = (slots-dim d (slots-some x (length cs) (slots d) h)).0; cell = row-cell-below x (length cs) (slots d) h; place = omega arith }

pub facets-from : (d : ℕ) (cs : List Word) (f : Word) → In f (facets_of d cs) → (c : ℕ) × (i : ℕ) × FacetOf d cs c i × (facet_at (cell_at cs c) i ≡ f)
facets-from d cs f m =
    let r = in-tab (length cs * slots d) (facet_row_of d cs) f (in_colex-from d (tab (length cs * slots d) (facet_row_of d cs)) f m) in
    (r.0 / slots d, d - r.0 % slots d, row-facet d cs r.0 r.1, r.2)

module _ (d : ℕ) (cs : List Word) (good : Cells d cs) where
  pub facet-rows-long : Each (λ v. length v ≡ d) (tab (length cs * slots d) (facet_row_of d cs))
  facet-rows-long =
      each_of (λ v. length v ≡ d) (tab (length cs * slots d) (facet_row_of d cs))
      (λ v k.
      let r = in-tab (length cs * slots d) (facet_row_of d cs) v k in
      let u = row-facet d cs r.0 r.1 in
      let l = good.long (r.0 / slots d) u.cell in
      ap length (sym r.2) ∙ one_less d (cell_at cs (r.0 / slots d)) (d - r.0 % slots d) l u.place)
    where
      one_less : (d : ℕ) (w : Word) (i : ℕ) → length w ≡ suc d → i ≤ d → length (facet_at w i) ≡ d
      one_less d w i l h = omega (arith, facet-length w i (omega arith))

  pub facets-has : (c i : ℕ) → FacetOf d cs c i → In (facet_at (cell_at cs c) i) (facets_of d cs)
  facets-has c i u =
      let r = facet-row d cs c i u in
      let x = c * slots d + (d - i) in
      let e : facet_row_of d cs (c * slots d + (d - i)) ≡ facet_at (cell_at cs c) i = ap (λ (z : ℕ). facet_at (cell_at cs z) (d - (c * slots d + (d - i)) % slots d)) r.1 ∙ ap (facet_at (cell_at cs c)) r.2 in
      in_colex-has d (tab (length cs * slots d) (facet_row_of d cs)) (facet_at (cell_at cs c) i) facet-rows-long
      (subst (λ (z : Word). In z (tab (length cs * slots d) (facet_row_of d cs))) e (tab-in (length cs * slots d) (facet_row_of d cs) (c * slots d + (d - i)) r.0))

  -- two rows with one facet are of two cells
  two-places : (w : Word) (i j : ℕ) → length w ≡ suc d → ((a b : ℕ) → a < b → b ≤ d → get_or w a 0 < get_or w b 0) → i ≤ d → j ≤ d → facet_at w i ≡ facet_at w j → i ≡ j
  two-places w i j l up hi hj e =
      elim (dec_lt i j) [
        | yes p ↦ absurd (facets-differ w i j p (omega arith) (up i (suc i) (omega arith) (omega arith)) e)
        | no p ↦ elim (dec_lt j i) [
          | yes r ↦ absurd (facets-differ w j i r (omega arith) (up j (suc j) (omega arith) (omega arith)) (sym e))
          | no r ↦ omega arith
        ]
      ]

  two_cells : (x y : ℕ) → x < length cs * slots d → y < length cs * slots d → (x ≡ y → ⊥) → facet_row_of d cs x ≡ facet_row_of d cs y → x / slots d ≡ y / slots d → ⊥
  two_cells x y hx hy ne e c =
      let u = row-facet d cs x hx in
      let v = row-facet d cs y hy in
      let g : facet_at (cell_at cs (x / slots d)) (d - x % slots d) ≡ facet_at (cell_at cs (x / slots d)) (d - y % slots d) = e ∙ ap (λ (z : ℕ). facet_at (cell_at cs z) (d - y % slots d)) (sym c) in
      let p = two-places (cell_at cs (x / slots d)) (d - x % slots d) (d - y % slots d) (good.long (x / slots d) u.cell) (λ a b l k. good.rising (x / slots d) a b u.cell l k) u.place v.place g in
      let sx = row-slot-below x (length cs) (slots d) hx in
      let sy = row-slot-below y (length cs) (slots d) hy in
      let o = slots-most d in
      ne (omega (arith, row_is x (length cs) (slots d) hx, row_is y (length cs) (slots d) hy, ap (λ (z : ℕ). z * slots d) c))

  pub rows-mate : (x y : ℕ) → x < length cs * slots d → y < length cs * slots d → (x ≡ y → ⊥) → facet_row_of d cs x ≡ facet_row_of d cs y → Mates d cs (x / slots d) (d - x % slots d) (y / slots d) (d - y % slots d)
  rows-mate x y hx hy ne e = record { this = row-facet d cs x hx; that = row-facet d cs y hy; apart = two_cells x y hx hy ne e; one = e }

  pub three-rows : (x y z : ℕ) → x < y → y < z → z < length cs * slots d → facet_row_of d cs x ≡ facet_row_of d cs y → facet_row_of d cs x ≡ facet_row_of d cs z → Crowded d cs
  three-rows x y z hxy hyz hz e g =
      record {
        cell = x / slots d;
        first = y / slots d;
        second = z / slots d;
        at = d - x % slots d;
        at_first = d - y % slots d;
        at_second = d - z % slots d;
        one = rows-mate x y (omega arith) (omega arith) (λ s. omega arith) e;
        other = rows-mate x z (omega arith) hz (λ s. omega arith) g;
        apart = two_cells y z (omega arith) hz (λ s. omega arith) (sym e ∙ g);
      }

-- ---- how many numbers pass a test
module _ (p : ℕ → Bool) where
  numbers-step : (n : ℕ) → ((p n ≡ true) × (numbers p (suc n) ≡ numbers p n ++ (n ∷ []))) ⊎ (numbers p (suc n) ≡ numbers p n ++ [])
  unfolding numbers
  numbers-step n = go (p n) refl
    where
      go : (t : Bool) → p n ≡ t → ((p n ≡ true) × (numbers p n ++ only_if (p n) n ≡ numbers p n ++ (n ∷ []))) ⊎ (numbers p n ++ only_if (p n) n ≡ numbers p n ++ [])
      go true e = inl (e, ap (λ (t : Bool). numbers p n ++ only_if t n) e)
      go false e = inr (ap (λ (t : Bool). numbers p n ++ only_if t n) e)

  some_of : (n : ℕ) → 1 ≤ length (numbers p n) → (x : ℕ) × (x < n) × (p x ≡ true)
  unfolding numbers
  some_of zero h = absurd (omega arith)
  some_of (suc n) h =
      ⊎_elim (λ (a : (p n ≡ true) × (numbers p (suc n) ≡ numbers p n ++ (n ∷ []))). (n, omega arith, a.0))
      (λ (e : numbers p (suc n) ≡ numbers p n ++ []). let r = some_of n (omega (arith, ap length e, length-append {A = ℕ} (numbers p n) [])) in (r.0, omega (arith, r.1), r.2)) (numbers-step n)

  two-of : (n : ℕ) → 2 ≤ length (numbers p n) → (x : ℕ) × (y : ℕ) × (x < y) × (y < n) × (p x ≡ true) × (p y ≡ true)
  unfolding numbers
  two-of zero h = absurd (omega arith)
  two-of (suc n) h =
      ⊎_elim (λ (a : (p n ≡ true) × (numbers p (suc n) ≡ numbers p n ++ (n ∷ []))). let r = some_of n (omega (arith, ap length a.1, length-append (numbers p n) (n ∷ []))) in (r.0, n, r.1, omega arith, r.2, a.0))
      (λ (e : numbers p (suc n) ≡ numbers p n ++ []). let r = two-of n (omega (arith, ap length e, length-append {A = ℕ} (numbers p n) [])) in (r.0, r.1, r.2, omega (arith, r.3), r.4, r.5)) (numbers-step n)

  three-of : (n : ℕ) → 3 ≤ length (numbers p n) → (x : ℕ) × (y : ℕ) × (z : ℕ) × (x < y) × (y < z) × (z < n) × (p x ≡ true) × (p y ≡ true) × (p z ≡ true)
  unfolding numbers
  three-of zero h = absurd (omega arith)
  three-of (suc n) h =
      ⊎_elim (λ (a : (p n ≡ true) × (numbers p (suc n) ≡ numbers p n ++ (n ∷ []))). let r = two-of n (omega (arith, ap length a.1, length-append (numbers p n) (n ∷ []))) in (r.0, r.1, n, r.2, r.3, omega arith, r.4, r.5, a.0))
      (λ (e : numbers p (suc n) ≡ numbers p n ++ []). let r = three-of n (omega (arith, ap length e, length-append {A = ℕ} (numbers p n) [])) in (r.0, r.1, r.2, r.3, r.4, omega (arith, r.5), r.6, r.7, r.8)) (numbers-step n)

  pub passing-one : (n x : ℕ) → x < n → p x ≡ true → 1 ≤ length (numbers p n)
  unfolding numbers
  passing-one zero x h e = absurd (omega arith)
  passing-one (suc n) x h e =
      ⊎_elim (λ (a : (p n ≡ true) × (numbers p (suc n) ≡ numbers p n ++ (n ∷ []))). omega (arith, ap length a.1, length-append (numbers p n) (n ∷ [])))
      (λ (q : numbers p (suc n) ≡ numbers p n ++ []).
      elim (ℕ_discrete x n) [
        | yes s ↦ last s
        | no s ↦ omega (arith, ap length q, length-append {A = ℕ} (numbers p n) [], passing-one n x (omega arith) e)
      ]) (numbers-step n)
    where
      last : x ≡ n → 1 ≤ length (numbers p n ++ only_if (p n) n)
      last s = let t : p n ≡ true = ap p (sym s) ∙ e in rw t (omega (arith, length-append (numbers p n) (n ∷ [])))

-- where 7 is not given each facet lies in one cell or in two
module _ (d : ℕ) (cs : List Word) (good : Cells d cs) (free : Crowded d cs → ⊥) (f : Word) (m : In f (facets_of d cs)) where
  pub at_least_one : 1 ≤ length (rows_with d cs f)
  at_least_one =
      let r = in-tab (length cs * slots d) (facet_row_of d cs) f (in_colex-from d (tab (length cs * slots d) (facet_row_of d cs)) f m) in
      passing-one (λ x. same_word (facet_row_of d cs x) f) (length cs * slots d) r.0 r.1 (word-true (facet_row_of d cs r.0) f r.2)

  pub at_most_two : length (rows_with d cs f) ≤ 2
  at_most_two =
      elim (dec_lt 2 (length (rows_with d cs f))) [
        | yes h ↦
            let r = three-of (λ x. same_word (facet_row_of d cs x) f) (length cs * slots d) (omega arith) in
            let ex = same_word_lem (facet_row_of d cs r.0) f r.6 in
            let ey = same_word_lem (facet_row_of d cs r.1) f r.7 in
            let ez = same_word_lem (facet_row_of d cs r.2) f r.8 in
            absurd (free (three-rows d cs good r.0 r.1 r.2 r.3 r.4 r.5 (ex ∙ sym ey) (ex ∙ sym ez)))
        | no h ↦ omega arith
      ]
