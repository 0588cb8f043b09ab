-- The border by the records: those with no other cell are as many as the facets that lie in one cell, and so `border` says after `records`. Assumes nothing.
use Rattle.refusal.specs.declared.Refusal.{Refusal}
use Rattle.refusal.specs.Says.{Counted, fine}
use Rattle.std.specs.Prelude.{Err, Ok}
use mathlib.Core.Bool.{Bool, true, false}
use mathlib.Core.List.{List, [], ◌∷◌, ◌++◌, append-nil}
use mathlib.Core.Path.{◌≡◌, refl, sym, ap, ◌∙◌, subst}
use Prim.Native.Nat.{ℕ, zero, suc, ◌+◌, ◌*◌, ◌<◌, ◌≤◌, min}
use native.Mathlib.Nat.{le_refl, suc-mul, zero-add, min-eq_left, mul-le-mul_left}
use native.Mathlib.Decide.{ℕ_discrete, dec_lt}
use native.Mathlib.Omega.{arith}
use lib.Dec.{eqb}
use lib.ListN.{length, get_or, take, drop, length-append, get_or-append}
use lib.Seq.{take-length, get_or-append-add}
use borrow.Author.Tests.{eq-eqb, ne_eqb}
use Rattle.refusal.specs.declared.Room.{Room}
use Rattle.refusal.specs.Lent.{lengths}
use Rattle.refusal.specs.Call.{Comes, refused, cramped, ended}
use Rattle.lists.specs.Words.{same_word, none}
use Rattle.lists.specs.Tables.{tab}
use Rattle.lists.proofs.Words.{word-true}
use Rattle.complex.specs.Check.{answer_of, Passed}
use Rattle.complex.specs.Cells.{cells_of}
use Rattle.complex.specs.Room.{need_of}
use Rattle.complex.specs.Facets.{slots}
use Rattle.complex.specs.Skeleton.{facet_row_of, facets_of, only_if, numbers, rows_with, keep_if, keep, border_of}
use Rattle.complex.proofs.Fine.{fine-passed}
use Rattle.complex_cells.proofs.Words.{Word, In, in-at}
use Rattle.complex_cells.proofs.Making.{few-corners}
use Rattle.complex_mates.proofs.Meeting.{slots-most}
use Rattle.complex_cells.proofs.Named.{in_colex-from}
use Rattle.complex_facets.specs.Records.{one_if, record_of, each_record, records_of}
use Rattle.complex_facets.proofs.Numbers.{in-tab}
use Rattle.skeleton.specs.Promise.{Ends, crowded, rest}
use Rattle.skeleton.proofs.Sizes.{corners-most}
use Rattle.skeleton.proofs.Records.{border-none, none-border}
use Rattle.complex_records.specs.declared.FacetRec.{FacetRec}
use Rattle.complex_records.specs.Record.{no_facet, record_at, first_records, facet_records, lone_of, bordering}
use Rattle.complex_records.specs.Promise.{GivesFew, words_short, numbers_short, records_short, all_listed, Records}
use Rattle.complex_records.proofs.Holding.{record-long}
use Rattle.complex_records.proofs.Laws.{records-length, first-at}

-- the numbers of the i-th record are the i-th facet's
pub record-number : (d : ℕ) (cs ks fs : List Word) (i j : ℕ) → i < length fs → j < 5 → get_or (each_record d cs ks fs) (i * 5 + j) 0 ≡ get_or (record_of d cs ks (get_or fs i [])) j 0
unfolding each_record
record-number d cs ks [] i j h l = absurd (omega arith)
record-number d cs ks (f ∷ fs) zero j h l =
    ap (λ (k : ℕ). get_or (record_of d cs ks f ++ each_record d cs ks fs) k 0) (zero-add j) ∙ get_or-append (record_of d cs ks f) (each_record d cs ks fs) 0 j (omega (arith, record-long d cs ks f))
record-number d cs ks (f ∷ fs) (suc i) j h l =
    let e : suc i * 5 + j ≡ length (record_of d cs ks f) + (i * 5 + j) = omega (arith, suc-mul i 5, record-long d cs ks f) in
    ap (λ (k : ℕ). get_or (record_of d cs ks f ++ each_record d cs ks fs) k 0) e ∙ get_or-append-add (record_of d cs ks f) (each_record d cs ks fs) (i * 5 + j) 0 ∙ record-number d cs ks fs i j (omega arith) l

-- ---- a facet has a row
numbers-some : (p : ℕ → Bool) (n x : ℕ) → x < n → p x ≡ true → 0 < length (numbers p n)
unfolding numbers
numbers-some p zero x h e = absurd (omega arith)
numbers-some p (suc n) x h e =
    elim (dec_lt x n) [
      | yes l ↦ omega (arith, length-append (numbers p n) (only_if (p n) n), numbers-some p n x l e)
      | no l ↦
          let q : x ≡ n = omega arith in
          let t : p n ≡ true = subst (λ (z : ℕ). p z ≡ true) q e in
          rw t (omega (arith, length-append (numbers p n) (n ∷ [])))
    ]

facet-some : (d : ℕ) (cs : List Word) (f : Word) → In f (facets_of d cs) → 0 < length (rows_with d cs f)
facet-some d cs f m =
    let r = in-tab (length cs * slots d) (facet_row_of d cs) f (in_colex-from d (tab (length cs * slots d) (facet_row_of d cs)) f m) in
    numbers-some (λ x. same_word (facet_row_of d cs x) f) (length cs * slots d) r.0 r.1 (word-true (facet_row_of d cs r.0) f r.2)

-- ---- one facet more
keep-more : (p : Word → Bool) (fs : List Word) (n : ℕ) → n < length fs → length (keep p (take (suc n) fs)) ≡ length (keep p (take n fs)) + one_if (p (get_or fs n []))
unfolding keep
keep-more p [] n h = absurd (omega arith)
keep-more p (f ∷ fs) zero h = go (p f)
  where
    go : (t : Bool) → length (keep_if t f []) ≡ 0 + one_if t
    go true = refl
    go false = refl
keep-more p (f ∷ fs) (suc n) h = go (p f) (keep-more p fs n (omega arith))
  where
    go : (t : Bool) → length (keep p (take (suc n) fs)) ≡ length (keep p (take n fs)) + one_if (p (get_or fs n [])) → length (keep_if t f (keep p (take (suc n) fs))) ≡ length (keep_if t f (keep p (take n fs))) + one_if (p (get_or fs n []))
    go true e = omega arith
    go false e = e

module _ (d : ℕ) (cs ks : List Word) (few : length cs * slots d ≤ none) where
  -- no other cell exactly where there is one row
  lone_is : (f : Word) → In f (facets_of d cs) → eqb (get_or (record_of d cs ks f) 2 0) none ≡ eqb (length (rows_with d cs f)) 1
  lone_is f m =
      elim (ℕ_discrete (length (rows_with d cs f)) 1) [
        | yes e ↦ eq-eqb (get_or (record_of d cs ks f) 2 0) none (border-none d cs ks f few e) ∙ sym (eq-eqb (length (rows_with d cs f)) 1 e)
        | no n ↦ ne_eqb (get_or (record_of d cs ks f) 2 0) none (λ q. n (none-border d cs ks f few (facet-some d cs f m) q)) ∙ sym (ne_eqb (length (rows_with d cs f)) 1 n)
      ]

  lone-record : (n : ℕ) → n < length (facets_of d cs) → lone_of (get_or (facet_records d cs ks) n no_facet) ≡ one_if (eqb (length (rows_with d cs (get_or (facets_of d cs) n []))) 1)
  lone-record n h =
      let fs = facets_of d cs in
      let e : get_or (facet_records d cs ks) n no_facet ≡ record_at (records_of d cs ks) n =
      ap (λ (l : List FacetRec). get_or l n no_facet) (sym (append-nil (first_records (length fs) (records_of d cs ks)))) ∙ first-at (length fs) (records_of d cs ks) [] n h in
      ap lone_of e ∙ ap (λ (x : ℕ). one_if (eqb x none)) (record-number d cs ks fs n 2 h (omega arith)) ∙ ap one_if (lone_is (get_or fs n []) (in-at fs n h))

  border-front : (n : ℕ) → n ≤ length (facets_of d cs) → bordering n (facet_records d cs ks) ≡ length (keep (λ f. eqb (length (rows_with d cs f)) 1) (take n (facets_of d cs)))
  unfolding bordering keep
  border-front zero h = refl
  border-front (suc n) h =
      let a : bordering n (facet_records d cs ks) ≡ length (keep (λ f. eqb (length (rows_with d cs f)) 1) (take n (facets_of d cs))) = border-front n (omega arith) in
      let b = lone-record n h in
      let c = keep-more (λ f. eqb (length (rows_with d cs f)) 1) (facets_of d cs) n h in
      ap (λ (x : ℕ). x + lone_of (get_or (facet_records d cs ks) n no_facet)) a ∙ ap (λ (x : ℕ). length (keep (λ f. eqb (length (rows_with d cs f)) 1) (take n (facets_of d cs))) + x) b ∙ sym c

  -- THE RECORDS WITH NO OTHER CELL ARE AS MANY AS THE FACETS OF THE BORDER
  pub border-records : bordering (length (facets_of d cs)) (facet_records d cs ks) ≡ length (border_of d cs)
  border-records = border-front (length (facets_of d cs)) (le_refl (length (facets_of d cs))) ∙ ap (λ (fs : List Word). length (keep (λ f. eqb (length (rows_with d cs f)) 1) fs)) (take-length (facets_of d cs))

-- ---- over the two calls
-- the front of a list decides how many of its first records have one cell
front-decides : (n : ℕ) (l t : List FacetRec) → n ≤ length l → bordering n (l ++ t) ≡ bordering n l
unfolding bordering
front-decides zero l t h = refl
front-decides (suc n) l t h =
    ap (λ (r : FacetRec). bordering n (l ++ t) + lone_of r) (get_or-append l t no_facet n (omega arith))
    ∙ ap (λ (x : ℕ). x + lone_of (get_or l n no_facet)) (front-decides n l t (omega arith))

other-answer : {why : Refusal} {n : ℕ} → ◌≡◌ {A = Counted} (Err why) (Ok n) → ⊥
other-answer p = cc

-- what a count tells
record Told (d : ℕ) (ws : List ℕ) (n : ℕ) : Type 0 where
  passes : answer_of d ws ≡ fine
  many : n ≡ length (facets_of d (cells_of d ws))

module _ (d : ℕ) (ws : List ℕ) (given long room n : ℕ) where
  ends-told : (r : Counted) (h : List ℕ × List ℕ) → answer_of d ws ≡ fine → Ends ([], []) d (cells_of d ws) (GivesFew (facets_of d (cells_of d ws)) (records_of d (cells_of d ws) (cells_of d ws)) given long room) r h → r ≡ Ok n → Told d ws n
  ends-told r h f (crowded x) q = absurd (other-answer q)
  ends-told r h f (rest x (words_short y)) q = absurd (other-answer q)
  ends-told r h f (rest x (numbers_short y)) q = absurd (other-answer q)
  ends-told r h f (rest x (records_short y)) q = absurd (other-answer q)
  ends-told r h f (rest x (all_listed y z w)) q = record { passes = f; many = cc }

  comes-told : (need have : Room) (r : Counted) (h : List ℕ × List ℕ) (used : Room) → Comes Err ([], []) (answer_of d ws) need have (Ends ([], []) d (cells_of d ws) (GivesFew (facets_of d (cells_of d ws)) (records_of d (cells_of d ws) (cells_of d ws)) given long room)) r h used → r ≡ Ok n → Told d ws n
  comes-told need have r h used (refused e) q = absurd (other-answer q)
  comes-told need have r h used (cramped e f) q = absurd (other-answer q)
  comes-told need have r h used (ended e f t) q = ends-told r h e t q

few-rows : (d : ℕ) (ws : List ℕ) → Passed d ws → length (cells_of d ws) * slots d ≤ none
few-rows d ws p = omega (arith, mul-le-mul_left (length (cells_of d ws)) (slots-most d), corners-most d ws p, few-corners d ws p)

-- WHERE `records` SAYS n, `border` OF ITS RECORDS AND n SAYS HOW MANY FACETS THE BORDER HAS
pub border-told : (d : ℕ) (ws : List ℕ) (n : ℕ) (facets facets' list list' : List ℕ) (records records' : List FacetRec) (keys keys' rows rows' spare spare' counts counts' : List ℕ) → Records d ws (Ok n) facets facets' list list' records records' keys keys' rows rows' spare spare' counts counts' →
    bordering (min n (length records')) records' ≡ length (border_of d (cells_of d ws))
border-told d ws n facets facets' list list' records records' keys keys' rows rows' spare spare' counts counts' a =
    let cs = cells_of d ws in
    let x = a.numbers in
    let t : Told d ws n = comes-told d ws (length facets) (length list) (length records) n (need_of d (length ws)) (lengths keys rows spare counts) (Ok n) x.handed x.call.used x.call.comes refl in
    let l : List FacetRec = facet_records d cs cs in
    let rest_of : List FacetRec = drop (length l) records in
    let e : records' ≡ l ++ rest_of = a.written in
    let many : length l ≡ n = records-length d cs cs ∙ sym t.many in
    let whole : min n (length records') ≡ n = min-eq_left (omega (arith, ap length e, length-append l rest_of, many)) in
    ap (λ (k : ℕ). bordering k records') whole ∙ ap (bordering n) e ∙ front-decides n l rest_of (omega (arith, many)) ∙ ap (λ (k : ℕ). bordering k l) t.many ∙ border-records d cs cs (few-rows d ws (fine-passed d ws t.passes))
