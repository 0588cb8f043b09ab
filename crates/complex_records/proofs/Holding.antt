-- What the call over numbers gives, and what the records hold then. Assumes nothing.
use Rattle.refusal.specs.Says.{Answer, Counted}
use Rattle.std.specs.Prelude.{Err}
use mathlib.Core.List.{List, [], ◌∷◌, ◌++◌, append_assoc}
use mathlib.Core.Path.{◌≡◌, refl, ap, ◌∙◌, subst}
use Prim.Native.Nat.{ℕ, zero, suc, ◌+◌, ◌*◌, ◌≤◌}
use native.Mathlib.Nat.{suc-mul}
use native.Mathlib.Decide.{dec_lt}
use native.Mathlib.Omega.{arith}
use lib.ListN.{length, get_or, take, drop, length-append, take-append-drop, get_or-append}
use lib.Seq.{length-take-le}
use Rattle.refusal.specs.declared.Room.{Room}
use Rattle.refusal.specs.Told.{count_of}
use Rattle.refusal.specs.Lent.{onto, lengths}
use Rattle.refusal.specs.Call.{Comes, refused, cramped, ended}
use Rattle.complex.specs.Check.{answer_of}
use Rattle.complex.specs.Cells.{cells_of}
use Rattle.complex.specs.Room.{need_of}
use Rattle.complex.specs.Skeleton.{facets_of, rows_with}
use Rattle.complex_cells.proofs.Words.{Word}
use Rattle.complex_facets.specs.Records.{signed_of, agree_of, record_of, each_record, records_of}
use Rattle.skeleton.specs.Promise.{GivesBoth, words_short, table_short, both_listed, Ends, crowded, rest, RecordsListed}
use Rattle.complex_records.specs.declared.FacetRec.{FacetRec}
use Rattle.complex_records.specs.Record.{first_records}
use Rattle.complex_records.specs.Promise.{GivesFew, numbers_short, records_short, all_listed, Numbers, records_for, Records}
use Rattle.complex_records.specs.Promise.GivesFew.{words_short as few-words-short}
use Rattle.complex_records.specs.Work.{Shared}

-- ---- five numbers a facet
signed-two : (d : ℕ) (l : List ℕ) → length (signed_of d l) ≡ 2
signed-two d [] = refl
signed-two d (x ∷ l) = refl

pub record-long : (d : ℕ) (cs ks : List Word) (f : Word) → length (record_of d cs ks f) ≡ 5
record-long d cs ks f =
    let l = rows_with d cs f in
    length-append (signed_of d l) (signed_of d (drop 1 l) ++ (agree_of d cs ks l ∷ []))
    ∙ omega (arith, signed-two d l, signed-two d (drop 1 l), length-append (signed_of d (drop 1 l)) (agree_of d cs ks l ∷ []))

pub each_long : (d : ℕ) (cs ks fs : List Word) → length (each_record d cs ks fs) ≡ length fs * 5
unfolding each_record
each_long d cs ks [] = refl
each_long d cs ks (f ∷ fs) =
    omega (arith, length-append (record_of d cs ks f) (each_record d cs ks fs), record-long d cs ks f, each_long d cs ks fs, suc-mul (length fs) 5)

-- ---- a part of the flat list is lent on
module _ (words : List Word) (numbers : List ℕ) (five : length numbers ≡ length words * 5) (given long room part : ℕ) (s : Shared long room part) where
  few-of : (r : Counted) (h : List ℕ × List ℕ) → GivesBoth words numbers given part r h → GivesFew words numbers given long room r h
  few-of r h (words_short x) = few-words-short x
  few-of r h (table_short x) =
      elim (dec_lt long (length numbers)) [
        | yes l ↦ numbers_short l
        | no l ↦
            elim (dec_lt room (length words)) [
              | yes m ↦ records_short m
              | no m ↦ absurd (omega (arith, s.all (length words) (omega (arith, five)) (omega arith), five))
            ]
      ]
  few-of r h (both_listed x y) = all_listed x (omega (arith, s.within)) (s.few (length words) (omega (arith, five)))

  few-ends : (d : ℕ) (cs : List Word) (r : Counted) (h : List ℕ × List ℕ) → Ends ([], []) d cs (GivesBoth words numbers given part) r h → Ends ([], []) d cs (GivesFew words numbers given long room) r h
  few-ends d cs r h (crowded x) = crowded x
  few-ends d cs r h (rest n x) = rest n (few-of r h x)

  few-comes : (d : ℕ) (cs : List Word) (checked : Answer) (need have : Room) (r : Counted) (h : List ℕ × List ℕ) (used : Room) → Comes Err ([], []) checked need have (Ends ([], []) d cs (GivesBoth words numbers given part)) r h used → Comes Err ([], []) checked need have (Ends ([], []) d cs (GivesFew words numbers given long room)) r h used
  few-comes d cs checked need have r h used (refused e) = refused e
  few-comes d cs checked need have r h used (cramped e f) = cramped e f
  few-comes d cs checked need have r h used (ended e f x) = ended e f (few-ends d cs r h x)

-- what is handed out has room in the part
module _ (words : List Word) (numbers : List ℕ) (given part d : ℕ) (cs : List Word) (checked : Answer) (need have : Room) where
  part-holds : (r : Counted) (h : List ℕ × List ℕ) (used : Room) → Comes Err ([], []) checked need have (Ends ([], []) d cs (GivesBoth words numbers given part)) r h used → length h.1 ≤ part
  part-holds r h used (refused e) = omega arith
  part-holds r h used (cramped e f) = omega arith
  part-holds r h used (ended e f (crowded x)) = omega arith
  part-holds r h used (ended e f (rest n (words_short x))) = omega arith
  part-holds r h used (ended e f (rest n (table_short x))) = omega arith
  part-holds r h used (ended e f (rest n (both_listed x y))) = y

-- what is written in the front of the part is written in the front of the list
drop-both : (n k : ℕ) (l : List ℕ) → n ≤ k → drop n (take k l) ++ drop k l ≡ drop n l
drop-both zero k l h = take-append-drop k l
drop-both (suc n) zero l h = absurd (omega arith)
drop-both (suc n) (suc k) [] h = refl
drop-both (suc n) (suc k) (x ∷ l) h = drop-both n k l (omega arith)

onto-part : (l : List ℕ) (k : ℕ) (list : List ℕ) → length l ≤ k → onto l (take k list) ++ drop k list ≡ onto l list
onto-part l k list m = append_assoc l (drop (length l) (take k list)) (drop k list) ∙ ap (λ (t : List ℕ). l ++ t) (drop-both (length l) k list m)

pub numbers_of : (d : ℕ) (ws : List ℕ) (room long : ℕ) (r : Counted) (facets facets' list part' keys keys' rows rows' spare spare' counts counts' : List ℕ) → Shared (length list) room long → RecordsListed d ws r facets facets' (take long list) part' keys keys' rows rows' spare spare' counts counts' →
    Numbers d ws room r facets facets' list (part' ++ drop long list) keys keys' rows rows' spare spare' counts counts'
numbers_of d ws room long r facets facets' list part' keys keys' rows rows' spare spare' counts counts' s a =
    let cs = cells_of d ws in
    let c =
    subst (λ (n : ℕ). Comes Err ([], []) (answer_of d ws) (need_of d (length ws)) (lengths keys rows spare counts) (Ends ([], []) d cs (GivesBoth (facets_of d cs) (records_of d cs cs) (length facets) n)) r a.handed a.call.used)
    (length-take-le long list s.within) a.call.comes in
    record {
      handed = a.handed;
      call =
          record {
            used = a.call.used;
            comes = few-comes (facets_of d cs) (records_of d cs cs) (each_long d cs cs (facets_of d cs)) (length facets) (length list) room long s d cs (answer_of d ws) (need_of d (length ws)) (lengths keys rows spare counts) r a.handed a.call.used c;
            room = a.call.room;
          };
      result = a.result;
      sides =
          ap (λ (l : List ℕ). l ++ drop long list) a.sides
          ∙ onto-part a.handed.1 long list (part-holds (facets_of d cs) (records_of d cs cs) (length facets) long d cs (answer_of d ws) (need_of d (length ws)) (lengths keys rows spare counts) r a.handed a.call.used c);
    }

-- ---- the records
-- the first records of a list are those of its front
first-front : (k : ℕ) (l t : List ℕ) → k * 5 ≤ length l → first_records k (l ++ t) ≡ first_records k l
unfolding first_records
first-front zero l t h = refl
first-front (suc k) l t h =
    let n : suc k * 5 ≡ k * 5 + 5 = omega (arith, suc-mul k 5) in
    let e : first_records k (l ++ t) ≡ first_records k l = first-front k l t (omega arith) in
    let a : get_or (l ++ t) (k * 5) 0 ≡ get_or l (k * 5) 0 = get_or-append l t 0 (k * 5) (omega arith) in
    let b : get_or (l ++ t) (k * 5 + 1) 0 ≡ get_or l (k * 5 + 1) 0 = get_or-append l t 0 (k * 5 + 1) (omega arith) in
    let c : get_or (l ++ t) (k * 5 + 2) 0 ≡ get_or l (k * 5 + 2) 0 = get_or-append l t 0 (k * 5 + 2) (omega arith) in
    let f : get_or (l ++ t) (k * 5 + 3) 0 ≡ get_or l (k * 5 + 3) 0 = get_or-append l t 0 (k * 5 + 3) (omega arith) in
    let g : get_or (l ++ t) (k * 5 + 4) 0 ≡ get_or l (k * 5 + 4) 0 = get_or-append l t 0 (k * 5 + 4) (omega arith) in
    rw (e, a, b, c, f, g)

module _ (words : List Word) (numbers : List ℕ) (five : length numbers ≡ length words * 5) (given long room d : ℕ) (cs : List Word) (checked : Answer) (need have : Room) where
  -- the count has room, in the records and in the flat list
  count_fits_lem : (r : Counted) (h : List ℕ × List ℕ) (used : Room) → Comes Err ([], []) checked need have (Ends ([], []) d cs (GivesFew words numbers given long room)) r h used → (count_of r ≤ room) × (count_of r * 5 ≤ long)
  count_fits_lem r h used (refused e) = (omega arith, omega arith)
  count_fits_lem r h used (cramped e f) = (omega arith, omega arith)
  count_fits_lem r h used (ended e f (crowded x)) = (omega arith, omega arith)
  count_fits_lem r h used (ended e f (rest n (few-words-short x))) = (omega arith, omega arith)
  count_fits_lem r h used (ended e f (rest n (numbers_short x))) = (omega arith, omega arith)
  count_fits_lem r h used (ended e f (rest n (records_short x))) = (omega arith, omega arith)
  count_fits_lem r h used (ended e f (rest n (all_listed x y z))) = (z, omega (arith, five))

module _ (d : ℕ) (cs : List Word) (given long room : ℕ) (checked : Answer) (need have : Room) where
  -- the first records of the flat list are the facets'
  first-are : (list : List ℕ) (r : Counted) (h : List ℕ × List ℕ) (used : Room) → Comes Err ([], []) checked need have (Ends ([], []) d cs (GivesFew (facets_of d cs) (records_of d cs cs) given long room)) r h used → first_records (count_of r) (onto h.1 list) ≡ records_for r d cs
  unfolding first_records
  first-are list r h used (refused e) = refl
  first-are list r h used (cramped e f) = refl
  first-are list r h used (ended e f (crowded x)) = refl
  first-are list r h used (ended e f (rest n (few-words-short x))) = refl
  first-are list r h used (ended e f (rest n (numbers_short x))) = refl
  first-are list r h used (ended e f (rest n (records_short x))) = refl
  first-are list r h used (ended e f (rest n (all_listed x y z))) =
      first-front (length (facets_of d cs)) (records_of d cs cs) (drop (length (records_of d cs cs)) list) (omega (arith, each_long d cs cs (facets_of d cs)))

module _ (d : ℕ) (ws facets facets' list list' keys keys' rows rows' spare spare' counts counts' : List ℕ) (records : List FacetRec) where
  pub asked : length list' ≡ length list → (said : Counted) (n : ℕ) → Numbers d ws (length records) said facets facets' list list' keys keys' rows rows' spare spare' counts counts' → n ≡ count_of said → (n ≤ length records) × (n * 5 ≤ length list')
  asked l said n a e =
      let cs = cells_of d ws in
      let c = count_fits_lem (facets_of d cs) (records_of d cs cs) (each_long d cs cs (facets_of d cs)) (length facets) (length list) (length records) d cs (answer_of d ws) (need_of d (length ws)) (lengths keys rows spare counts) said a.handed a.call.used a.call.comes in
      (omega (arith, c.0), omega (arith, c.1))

  pub held : (said : Counted) (n : ℕ) → Numbers d ws (length records) said facets facets' list list' keys keys' rows rows' spare spare' counts counts' → n ≡ count_of said → (records' : List FacetRec) → records' ≡ onto (first_records n list') records → Records d ws said facets facets' list list' records records' keys keys' rows rows' spare spare' counts counts'
  held said n a e records' w =
      let cs = cells_of d ws in
      record {
        numbers = a;
        written =
            w ∙ ap (λ (l : List FacetRec). onto l records)
            (ap (λ (k : ℕ). first_records k list') e ∙ ap (first_records (count_of said)) a.sides
            ∙ first-are d cs (length facets) (length list) (length records) (answer_of d ws) (need_of d (length ws)) (lengths keys rows spare counts) list said a.handed a.call.used a.call.comes);
      }
