-- The classes of equal facet rows are the facets, and a row's class is the number of its facet. Assumes nothing.
use mathlib.Core.List.{List, []}
use mathlib.Core.Path.{◌≡◌, sym, ap, ◌∙◌, subst}
use Prim.Native.Nat.{ℕ, suc, ◌-◌, ◌*◌, ◌/◌, ◌%◌, ◌<◌, ◌≤◌}
use native.Mathlib.Nat.{mul-le-mul_left}
use native.Mathlib.Omega.{arith}
use lib.ListN.{length, get_or, take}
use lib.Seq.{length-take-le, get_or-take}
use Rattle.lists.specs.Tables.{tab}
use Rattle.lists.specs.Words.{same_word, none}
use Rattle.lists.specs.Rows.{cut, row}
use Rattle.lists.proofs.Rows.{cut-length, cut_at, row_fits, row-cell-below}
use Rattle.lists.proofs.Words.{first-at, word-true, word-false}
use Rattle.sorting.specs.Bucket.{cell}
use Rattle.sorting.specs.Distinct.{Distinct}
use Rattle.sorting.proofs.Colex.{row_same, same_row}
use Rattle.sorting.proofs.Firsts.{id-eq, id-rep}
use Rattle.complex.specs.Facets.{facet_at, slots}
use Rattle.complex.specs.Skeleton.{in_colex, facet_row_of, facets_of}
use Rattle.complex_cells.specs.WorkNamed.{Named}
use Rattle.complex_cells.proofs.Words.{Word, In}
use Rattle.complex_cells.proofs.Named.{named, row_list-at, named-many}
use Rattle.complex_mates.specs.Table.{Written, Meeting}
use Rattle.complex_mates.proofs.Meeting.{slots-most}
use Rattle.complex_facets.proofs.Numbers.{tab-in, in-tab}
use Rattle.complex_faces.specs.Entries.{number_of}
use Rattle.complex_descent.specs.Down.{Classed}

module _ (d m b : ℕ) (keys rows spare counts : List ℕ) (a : Meeting d m b keys rows spare counts) (keys' : List ℕ) (l : length keys' ≡ length keys) (w : Written d (slots d) rows keys' (m * slots d))
    (f : ℕ) (reps ids : List ℕ) (q : Distinct (cell keys' d) d (m * slots d) f reps ids) (lr : m * slots d ≤ length reps) (li : m * slots d ≤ length ids) (narrow : m * slots d * d < 4294967296) where
  room : m * slots d * d ≤ length keys'
  room = omega (arith, a.keys_long)

  is_row : (x : ℕ) → x < m * slots d → row keys' d x ≡ facet_row_of d (cut (suc d) m rows) x
  is_row x h = w x h ∙ ap (λ (v : Word). facet_at v (d - x % slots d)) (sym (cut_at (suc d) m rows (x / slots d) (row-cell-below x m (slots d) h)))

  total : length (cut (suc d) m rows) * slots d ≡ m * slots d
  total = ap (λ (n : ℕ). n * slots d) (cut-length (suc d) m rows)

  rows_few : m * slots d < none
  rows_few = omega (arith, mul-le-mul_left m (slots-most d), a.few)

  facets-named : Named (facets_of d (cut (suc d) m rows)) d f keys' reps
  facets-named =
      subst (λ (n : ℕ). Named (in_colex d (tab n (facet_row_of d (cut (suc d) m rows)))) d f keys' reps) (sym total)
      (named d (m * slots d) f keys' reps ids q (omega (arith, q.few)) room (tab (m * slots d) (facet_row_of d (cut (suc d) m rows)))
      (λ x h. subst (λ (v : Word). In v (tab (m * slots d) (facet_row_of d (cut (suc d) m rows)))) (sym (is_row x h)) (tab-in (m * slots d) (facet_row_of d (cut (suc d) m rows)) x h))
      (λ v k. let r = in-tab (m * slots d) (facet_row_of d (cut (suc d) m rows)) v k in (r.0, r.1, is_row r.0 r.1 ∙ r.2)) (omega (arith, rows_few)) narrow)

  the-facet : (i : ℕ) → i < f → get_or (facets_of d (cut (suc d) m rows)) i [] ≡ row keys' d (get_or reps i 0)
  the-facet i h =
      ap (λ (v : List Word). get_or v i []) facets-named.same ∙ row_list-at keys' d (take f reps) i (omega (arith, length-take-le f reps facets-named.rows.long)) ∙ ap (row keys' d) (get_or-take f reps i 0 h)

  -- row z is facet i exactly if its class is i
  its-id : (i z : ℕ) → i < f → z < m * slots d → get_or (facets_of d (cut (suc d) m rows)) i [] ≡ facet_row_of d (cut (suc d) m rows) z → get_or ids z 0 ≡ i
  its-id i z h k e =
      id-eq (cell keys' d) d (m * slots d) f reps ids q z (get_or reps i 0) k (q.below i h) (row_same keys' d z (get_or reps i 0) (is_row z k ∙ sym e ∙ the-facet i h))
      ∙ id-rep (cell keys' d) d (m * slots d) f reps ids q i h

  its-row : (z : ℕ) → z < m * slots d → get_or (facets_of d (cut (suc d) m rows)) (get_or ids z 0) [] ≡ facet_row_of d (cut (suc d) m rows) z
  its-row z k =
      let c = get_or ids z 0 in
      let hc = q.id_below z k in
      the-facet (get_or ids z 0) hc ∙ same_row keys' d (get_or reps (get_or ids z 0) 0) z (row_fits (get_or reps (get_or ids z 0) 0) (m * slots d) d (length keys') (q.below (get_or ids z 0) hc) room) (row_fits z (m * slots d) d (length keys') k room) (q.id_same z k) ∙ is_row z k

  many : length (facets_of d (cut (suc d) m rows)) ≡ f
  many = named-many (facets_of d (cut (suc d) m rows)) d f keys' reps facets-named

  the_number : (z : ℕ) → z < m * slots d → get_or ids z 0 ≡ number_of (facets_of d (cut (suc d) m rows)) (facet_row_of d (cut (suc d) m rows) z)
  the_number z k =
      let hc = q.id_below z k in
      sym
      (first-at (λ j. same_word (get_or (facets_of d (cut (suc d) m rows)) j []) (facet_row_of d (cut (suc d) m rows) z)) (length (facets_of d (cut (suc d) m rows))) (get_or ids z 0) (omega (arith, many))
      (λ j h. word-false (get_or (facets_of d (cut (suc d) m rows)) j []) (facet_row_of d (cut (suc d) m rows) z) (λ e. let y = its-id j z (omega arith) k e in omega arith))
      (word-true (get_or (facets_of d (cut (suc d) m rows)) (get_or ids z 0) []) (facet_row_of d (cut (suc d) m rows) z) (its-row z k)))

  pub classed : Classed d (cut (suc d) m rows) f keys' reps ids
  classed = record { named = facets-named; long = rw total li; number = λ x h. the_number x (omega (arith, total)) }

-- the same, with the number of rows a face as the code has it
pub classed-done : (d m b : ℕ) (keys rows spare counts : List ℕ) → Meeting d m b keys rows spare counts → m * slots d * d < 4294967296 → (k : ℕ) → k ≡ slots d → (keys' : List ℕ) → length keys' ≡ length keys → (f : ℕ) (reps ids : List ℕ) →
    Written d k rows keys' (m * k) → Distinct (cell keys' d) d (m * k) f reps ids → m * k ≤ length reps → m * k ≤ length ids → Classed d (cut (suc d) m rows) f keys' reps ids
classed-done d m b keys rows spare counts a narrow k e keys' l f reps ids =
    subst (λ (z : ℕ). Written d z rows keys' (m * z) → Distinct (cell keys' d) d (m * z) f reps ids → m * z ≤ length reps → m * z ≤ length ids → Classed d (cut (suc d) m rows) f keys' reps ids) (sym e)
    (λ w q lr li. classed d m b keys rows spare counts a keys' l w f reps ids q lr li narrow)
