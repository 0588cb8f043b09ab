-- What the records come to: how many there are, which stands where, that the call has one outcome, and that the border is the records with one cell. Assumes nothing.
use Rattle.refusal.specs.Says.{Counted}
use mathlib.Core.Path.{◌≡◌, refl, ap, sym, ◌∙◌}
use Prim.Native.Nat.{ℕ, zero, suc, ◌<◌}
use native.Mathlib.Omega.{arith}
use native.Mathlib.Nat.{eq-or-lt_of_le}
use mathlib.Core.Logic.{⊎_elim}
use mathlib.Core.List.{List, [], ◌∷◌, ◌++◌}
use lib.ListN.{length, get_or}
use lib.Seq.{append_snoc, get_or_at}
use Rattle.refusal.specs.Lent.{onto}
use Rattle.complex.specs.Cells.{cells_of}
use Rattle.complex.specs.Room.{need_of}
use Rattle.complex.specs.Skeleton.{facets_of}
use Rattle.complex_facets.specs.Records.{records_of}
use Rattle.skeleton.proofs.Determined.{call-one}
use Rattle.complex_records.specs.declared.FacetRec.{FacetRec}
use Rattle.complex_records.specs.Record.{no_facet, record_at, first_records, facet_records}
use Rattle.complex_records.specs.Promise.{GivesFew, words_short, numbers_short, records_short, all_listed, records_for, Records}
use Rattle.complex_records.proofs.Steps.{first-length}

-- a record for each facet
pub records-length : (d : ℕ) (cs ks : List (List ℕ)) → length (facet_records d cs ks) ≡ length (facets_of d cs)
records-length d cs ks = first-length (length (facets_of d cs)) (records_of d cs ks)

-- the i-th record is that of the i-th five numbers, whatever follows
pub first-at : (k : ℕ) (flat : List ℕ) (rest : List FacetRec) (i : ℕ) → i < k → get_or (first_records k flat ++ rest) i no_facet ≡ record_at flat i
unfolding first_records
first-at zero flat rest i h = absurd (omega arith)
first-at (suc k) flat rest i h =
    ap (λ (l : List FacetRec). get_or l i no_facet) (append_snoc (first_records k flat) (record_at flat k) rest) ∙
    ⊎_elim
    (λ q. ap (λ (j : ℕ). get_or (first_records k flat ++ record_at flat k ∷ rest) j no_facet) q ∙ get_or_at (first_records k flat) (record_at flat k) rest no_facet k (first-length k flat) ∙ ap (λ (j : ℕ). record_at flat j) (sym q))
    (λ l. first-at k flat (record_at flat k ∷ rest) i l)
    (eq-or-lt_of_le {n = i} {m = k} (omega arith))

few-one : (words : List (List ℕ)) (numbers : List ℕ) (g t room : ℕ) (r r' : Counted) (l l' : List ℕ × List ℕ) → GivesFew words numbers g t room r l → GivesFew words numbers g t room r' l' → (r ≡ r') × (l ≡ l')
few-one words numbers g t room r r' l l' (words_short h) (words_short k) = (refl, refl)
few-one words numbers g t room r r' l l' (words_short h) (numbers_short k) = (refl, refl)
few-one words numbers g t room r r' l l' (words_short h) (records_short k) = (refl, refl)
few-one words numbers g t room r r' l l' (words_short h) (all_listed k m n) = absurd (omega arith)
few-one words numbers g t room r r' l l' (numbers_short h) (words_short k) = (refl, refl)
few-one words numbers g t room r r' l l' (numbers_short h) (numbers_short k) = (refl, refl)
few-one words numbers g t room r r' l l' (numbers_short h) (records_short k) = (refl, refl)
few-one words numbers g t room r r' l l' (numbers_short h) (all_listed k m n) = absurd (omega arith)
few-one words numbers g t room r r' l l' (records_short h) (words_short k) = (refl, refl)
few-one words numbers g t room r r' l l' (records_short h) (numbers_short k) = (refl, refl)
few-one words numbers g t room r r' l l' (records_short h) (records_short k) = (refl, refl)
few-one words numbers g t room r r' l l' (records_short h) (all_listed k m n) = absurd (omega arith)
few-one words numbers g t room r r' l l' (all_listed h m n) (words_short k) = absurd (omega arith)
few-one words numbers g t room r r' l l' (all_listed h m n) (numbers_short k) = absurd (omega arith)
few-one words numbers g t room r r' l l' (all_listed h m n) (records_short k) = absurd (omega arith)
few-one words numbers g t room r r' l l' (all_listed h m n) (all_listed k o p) = (refl, refl)

-- TWO EXITS OF ONE CALL AGREE IN EVERYTHING
pub records-one : (d : ℕ) (ws : List ℕ) (r r' : Counted) (facets s s' list t t' : List ℕ) (records u u' : List FacetRec) (keys k k' rows o o' spare p p' counts c c' : List ℕ) → Records d ws r facets s list t records u keys k rows o spare p counts c → Records d ws r' facets s' list t' records u' keys k' rows o' spare p' counts c' →
    (r ≡ r') × (s ≡ s') × (t ≡ t') × (u ≡ u') × ((k ≡ k') × (o ≡ o') × (p ≡ p') × (c ≡ c'))
records-one d ws r r' facets s s' list t t' records u u' keys k k' rows o o' spare p p' counts c c' a b =
    let cs = cells_of d ws in
    let x = a.numbers in
    let y = b.numbers in
    let w =
    call-one ([], []) d (GivesFew (facets_of d cs) (records_of d cs cs) (length facets) (length list) (length records)) (few-one (facets_of d cs) (records_of d cs cs) (length facets) (length list) (length records)) (need_of d (length ws)) ws r r' x.handed y.handed keys k k' rows o o' spare p p' counts c c' x.call y.call in (
      w.0,
      x.result ∙ ap (λ (l : List ℕ × List ℕ). onto l.0 facets) w.1 ∙ sym y.result,
      x.sides ∙ ap (λ (l : List ℕ × List ℕ). onto l.1 list) w.1 ∙ sym y.sides,
      a.written ∙ ap (λ (q : Counted). onto (records_for q d cs) records) w.0 ∙ sym b.written,
      w.2,
    )
