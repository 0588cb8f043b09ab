-- From classes of facet rows to the facets with their cells. Assumes nothing.
use mathlib.Core.Bool.{true, false}
use mathlib.Core.List.{List, [], ◌∷◌}
use mathlib.Core.Path.{◌≡◌, refl, sym, ap, ◌∙◌, subst}
use Prim.Native.Nat.{ℕ, suc, ◌-◌, ◌*◌, ◌/◌, ◌%◌, ◌<◌, ◌≤◌}
use native.Mathlib.Nat.{mul-le-mul_left}
use native.Mathlib.Decide.{ℕ_discrete}
use native.Mathlib.Omega.{arith}
use lib.ListN.{length, get_or, take}
use lib.Seq.{length-take-le, get_or-take}
use Rattle.sorting.specs.Bucket.{cell}
use Rattle.sorting.specs.Order.{SameRow}
use Rattle.sorting.specs.Distinct.{Distinct}
use Rattle.sorting.proofs.Colex.{row_same, same_row}
use Rattle.sorting.proofs.Firsts.{id-eq, id-row, id-rep}
use Rattle.lists.specs.Rows.{cut, row}
use Rattle.lists.proofs.Rows.{cut-length, cut_at, row_fits, row-cell-below}
use Rattle.complex.specs.Facets.{facet_at, Crowded, slots}
use Rattle.lists.specs.Tables.{tab}
use Rattle.lists.specs.Words.{same_word, none}
use Rattle.complex.specs.Skeleton.{in_colex, facet_row_of, facets_of, numbers, rows_with}
use Rattle.complex_cells.specs.WorkNamed.{Named}
use Rattle.complex_cells.proofs.Words.{Word, In}
use Rattle.complex_cells.proofs.Named.{named, row_list-at}
use Rattle.complex_mates.specs.Table.{Written, Paired, Three, Meet, MateTable, Meeting}
use Rattle.complex_mates.proofs.Meeting.{crowd, mate-table, slots-most}
use Rattle.complex_facets.specs.WorkClasses.{Turning, Classed, Classes, Pass}
use Rattle.lists.proofs.Words.{word-true, word-false}
use Rattle.complex_facets.proofs.Numbers.{numbers-one, numbers-two, tab-in, in-tab}

module _ (d m b : ℕ) (keys rows spare counts : List ℕ) (a : Meeting d m b keys rows spare counts) (keys' : List ℕ) (l : length keys' ≡ length keys) (w : Written d (slots d) rows keys' (m * slots d))
    (f : ℕ) (reps ids others mates : List ℕ) (q : Distinct (cell keys' d) d (m * slots d) f reps ids) (lr : m * slots d ≤ length reps) (lo : f ≤ length others) (s : Paired (m * slots d) ids mates)
    (turned : (i : ℕ) → i < f → get_or others i 0 ≡ get_or mates (get_or reps i 0) 0) (narrow : m * slots d * d < 4294967296) where
  room : m * slots d * d ≤ length keys'
  room = omega (arith, a.keys_long)

  -- the rows are the facets of the cells
  is_row : (x : ℕ) → x < m * slots d → row keys' d x ≡ facet_row_of d (cut (suc d) m rows) x
  is_row x h = w x h ∙ ap (λ (v : Word). facet_at v (d - x % slots d)) (sym (cut_at (suc d) m rows (x / slots d) (row-cell-below x m (slots d) h)))

  total : length (cut (suc d) m rows) * slots d ≡ m * slots d
  total = ap (λ (n : ℕ). n * slots d) (cut-length (suc d) m rows)

  rows_few : m * slots d < none
  rows_few = omega (arith, mul-le-mul_left m (slots-most d), a.few)

  facets-named : Named (facets_of d (cut (suc d) m rows)) d f keys' reps
  facets-named =
      subst (λ (n : ℕ). Named (in_colex d (tab n (facet_row_of d (cut (suc d) m rows)))) d f keys' reps) (sym total)
      (named d (m * slots d) f keys' reps ids q (omega (arith, q.few)) room (tab (m * slots d) (facet_row_of d (cut (suc d) m rows)))
      (λ x h. subst (λ (v : Word). In v (tab (m * slots d) (facet_row_of d (cut (suc d) m rows)))) (sym (is_row x h)) (tab-in (m * slots d) (facet_row_of d (cut (suc d) m rows)) x h))
      (λ v k. let r = in-tab (m * slots d) (facet_row_of d (cut (suc d) m rows)) v k in (r.0, r.1, is_row r.0 r.1 ∙ r.2)) (omega (arith, rows_few)) narrow)

  -- facet i, and the rows that are it
  module _ (i : ℕ) (h : i < f) where
    the-facet : get_or (facets_of d (cut (suc d) m rows)) i [] ≡ row keys' d (get_or reps i 0)
    the-facet =
        ap (λ (v : List Word). get_or v i []) facets-named.same ∙ row_list-at keys' d (take f reps) i (omega (arith, length-take-le f reps facets-named.rows.long)) ∙ ap (row keys' d) (get_or-take f reps i 0 h)

    rep-below : get_or reps i 0 < m * slots d
    rep-below = q.below i h

    its-id : (z : ℕ) → z < m * slots d → facet_row_of d (cut (suc d) m rows) z ≡ get_or (facets_of d (cut (suc d) m rows)) i [] → get_or ids z 0 ≡ i
    its-id z k e =
        id-eq (cell keys' d) d (m * slots d) f reps ids q z (get_or reps i 0) k rep-below (row_same keys' d z (get_or reps i 0) (is_row z k ∙ e ∙ the-facet))
        ∙ id-rep (cell keys' d) d (m * slots d) f reps ids q i h

    its-row : (z : ℕ) → z < m * slots d → get_or ids z 0 ≡ i → facet_row_of d (cut (suc d) m rows) z ≡ get_or (facets_of d (cut (suc d) m rows)) i []
    its-row z k e =
        let r = id-row (cell keys' d) d (m * slots d) f reps ids q z (get_or reps i 0) k rep-below (e ∙ sym (id-rep (cell keys' d) d (m * slots d) f reps ids q i h)) in
        sym (is_row z k) ∙ same_row keys' d z (get_or reps i 0) (row_fits z (m * slots d) d (length keys') k room) (row_fits (get_or reps i 0) (m * slots d) d (length keys') rep-below room) r ∙ sym the-facet

    passes : (z : ℕ) → z < m * slots d → get_or ids z 0 ≡ i → same_word (facet_row_of d (cut (suc d) m rows) z) (get_or (facets_of d (cut (suc d) m rows)) i []) ≡ true
    passes z k e = word-true _ _ (its-row z k e)

    fails : (z : ℕ) → z < m * slots d → (get_or ids z 0 ≡ i → ⊥) → same_word (facet_row_of d (cut (suc d) m rows) z) (get_or (facets_of d (cut (suc d) m rows)) i []) ≡ false
    fails z k n = word-false _ _ (λ e. n (its-id z k e))

    its-rep : get_or ids (get_or reps i 0) 0 ≡ i
    its-rep = id-rep (cell keys' d) d (m * slots d) f reps ids q i h

    -- a row of the class other than the first is the first one's mate
    alone : get_or others i 0 ≡ none → (z : ℕ) → z < m * slots d → get_or ids z 0 ≡ i → z ≡ get_or reps i 0
    alone e z k t =
        elim (ℕ_discrete z (get_or reps i 0)) [
          | yes u ↦ u
          | no n ↦ absurd (omega (arith, s.all (get_or reps i 0) z rep-below k (λ u. n (sym u)) (its-rep ∙ sym t), turned i h, e, rows_few))
        ]

    mated : (get_or others i 0 ≡ none → ⊥) → get_or mates (get_or reps i 0) 0 ≡ none → ⊥
    mated n u = n (turned i h ∙ u)

    pub one-row : get_or others i 0 ≡ none → rows_with d (cut (suc d) m rows) (get_or (facets_of d (cut (suc d) m rows)) i []) ≡ get_or reps i 0 ∷ []
    one-row e =
        subst (λ (n : ℕ). numbers (λ x. same_word (facet_row_of d (cut (suc d) m rows) x) (get_or (facets_of d (cut (suc d) m rows)) i [])) n ≡ get_or reps i 0 ∷ []) (sym total)
        (numbers-one (λ x. same_word (facet_row_of d (cut (suc d) m rows) x) (get_or (facets_of d (cut (suc d) m rows)) i [])) (m * slots d) (get_or reps i 0) rep-below (passes (get_or reps i 0) rep-below its-rep)
        (λ z k n. fails z k (λ t. n (alone e z k t))))

    pub two-rows : (Crowded d (cut (suc d) m rows) → ⊥) → (get_or others i 0 ≡ none → ⊥) → rows_with d (cut (suc d) m rows) (get_or (facets_of d (cut (suc d) m rows)) i []) ≡ get_or reps i 0 ∷ get_or others i 0 ∷ []
    two-rows free e =
        let hy : get_or others i 0 < m * slots d = omega (arith, turned i h, s.below (get_or reps i 0) rep-below (mated e)) in
        let iy : get_or ids (get_or others i 0) 0 ≡ i = ap (λ (z : ℕ). get_or ids z 0) (turned i h) ∙ s.same (get_or reps i 0) rep-below (mated e) ∙ its-rep in
        let ny : get_or others i 0 ≡ get_or reps i 0 → ⊥ = λ u. s.other (get_or reps i 0) rep-below (mated e) (sym (turned i h) ∙ u) in
        let le : get_or reps i 0 ≤ get_or others i 0 = q.least i (get_or others i 0) h hy (subst (λ (c : ℕ). SameRow (cell keys' d) d (get_or reps c 0) (get_or others i 0)) iy (q.id_same (get_or others i 0) hy)) in
        subst (λ (n : ℕ). numbers (λ x. same_word (facet_row_of d (cut (suc d) m rows) x) (get_or (facets_of d (cut (suc d) m rows)) i [])) n ≡ get_or reps i 0 ∷ get_or others i 0 ∷ []) (sym total)
        (numbers-two (λ x. same_word (facet_row_of d (cut (suc d) m rows) x) (get_or (facets_of d (cut (suc d) m rows)) i [])) (m * slots d) (get_or reps i 0) (get_or others i 0) (omega arith) hy (passes (get_or reps i 0) rep-below its-rep) (passes (get_or others i 0) hy iy)
        (λ z k n o.
        fails z k
        (λ t.
        free
        (crowd d m rows keys' reps ids a.cells room w f q
        (record {
          x = get_or reps i 0;
          y = get_or others i 0;
          z = z;
          x_below = rep-below;
          y_below = hy;
          z_below = k;
          xy = λ u. ny (sym u);
          xz = λ u. n (sym u);
          yz = λ u. o (sym u);
          x_y = its-rep ∙ sym iy;
          x_z = its-rep ∙ sym t;
        })))))

  classes : Classes d (cut (suc d) m rows) f keys' reps others
  classes =
      record {
        named = facets-named;
        long = lo;
        one = λ i h e. one-row i h e;
        two = λ free i h e. two-rows i h free e;
        small = λ i h. omega (arith, q.below i h, rows_few);
        most = rw total q.few;
      }

  table : MateTable d (cut (suc d) m rows) mates
  table = mate-table d m rows keys' reps ids a.cells room w f q mates s

  meet : (i : ℕ) (h : i < f) → (get_or others i 0 ≡ none → ⊥) → Meet d (cut (suc d) m rows) (get_or reps i 0) (get_or others i 0)
  meet i h n =
      subst (λ (y : ℕ). Meet d (cut (suc d) m rows) (get_or reps i 0) y) (sym (turned i h))
      (table.meet (get_or reps i 0) (subst (λ (z : ℕ). get_or reps i 0 < z) (sym total) (q.below i h)) (λ u. n (turned i h ∙ u)))

  pub pass : Pass d (cut (suc d) m rows) f keys' reps others mates
  pass = record { classes = classes; mates = table; meet = meet }

  -- the facet of a row
  pub row-facet : (x : ℕ) → x < m * slots d → get_or (facets_of d (cut (suc d) m rows)) (get_or ids x 0) [] ≡ facet_row_of d (cut (suc d) m rows) x
  row-facet x h = sym (its-row (get_or ids x 0) (q.id_below x h) x h refl)

-- what the pass leaves, with the number of rows a cell as the code has it
pub classed-done : (d m b : ℕ) (keys rows spare counts : List ℕ) → Meeting d m b keys rows spare counts → (k : ℕ) → k ≡ slots d → (keys' : List ℕ) → length keys' ≡ length keys → (f : ℕ) (reps ids mates : List ℕ) →
    Written d k rows keys' (m * k) → Distinct (cell keys' d) d (m * k) f reps ids → Paired (m * k) ids mates → Classed d m f rows keys' reps ids mates
classed-done d m b keys rows spare counts a k e keys' l f reps ids mates =
    subst (λ (z : ℕ). Written d z rows keys' (m * z) → Distinct (cell keys' d) d (m * z) f reps ids → Paired (m * z) ids mates → Classed d m f rows keys' reps ids mates) (sym e)
    (λ w q p. record { written = w; distinct = q; paired = p })

-- or that a facet lies in three cells
pub classed-crowd : (d m b : ℕ) (keys rows spare counts : List ℕ) → Meeting d m b keys rows spare counts → (k : ℕ) → k ≡ slots d → (keys' : List ℕ) → length keys' ≡ length keys → (f : ℕ) (reps ids : List ℕ) →
    Written d k rows keys' (m * k) → Distinct (cell keys' d) d (m * k) f reps ids → Three (m * k) ids → Crowded d (cut (suc d) m rows)
classed-crowd d m b keys rows spare counts a k e keys' l f reps ids =
    subst (λ (z : ℕ). Written d z rows keys' (m * z) → Distinct (cell keys' d) d (m * z) f reps ids → Three (m * z) ids → Crowded d (cut (suc d) m rows)) (sym e)
    (λ w q t. crowd d m rows keys' reps ids a.cells (omega (arith, a.keys_long)) w f q t)

-- the facets with their other rows
module _ (d m b : ℕ) (keys rows spare counts : List ℕ) (a : Meeting d m b keys rows spare counts) (f : ℕ) (keys' reps ids mates : List ℕ) (lk : length keys' ≡ length keys) (lr : length reps ≡ length spare) (lm : length mates ≡ length rows) (c : Classed d m f rows keys' reps ids mates) where
  few-rows : m * slots d ≤ m * suc d
  few-rows = mul-le-mul_left m (slots-most d)

  -- there are no more facets than rows
  pub count_most : f ≤ m * slots d
  count_most = c.distinct.few

  pub turning : (to : List ℕ) → f ≤ length to → Turning f reps mates to
  turning to h =
      record {
        in_reps = omega (arith, count_most, few-rows, a.spare_long);
        in_to = h;
        inside = λ i h. omega (arith, c.distinct.below i h, few-rows, a.rows_long);
      }

  module _ (narrow : m * slots d * d < 4294967296) (others : List ℕ) (lo : f ≤ length others) (turned : (i : ℕ) → i < f → get_or others i 0 ≡ get_or mates (get_or reps i 0) 0) where
    pub classed-pass : Pass d (cut (suc d) m rows) f keys' reps others mates
    classed-pass =
        pass d m b keys rows spare counts a keys' lk c.written f reps ids others mates c.distinct (omega (arith, few-rows, a.spare_long)) lo c.paired turned narrow
