-- The promise determines what is said and every list: two calls on equal inputs end alike. Assumes nothing.
use Rattle.refusal.specs.Says.{Counted}
use mathlib.Core.List.{List, []}
use mathlib.Core.Path.{◌≡◌, refl, sym, ap, ◌∙◌}
use Prim.Native.Nat.{ℕ}
use lib.ListN.{length}
use Rattle.refusal.specs.Lent.{onto}
use Rattle.complex.specs.Cells.{cells_of}
use Rattle.complex.specs.Skeleton.{facets_of}
use Rattle.complex_facets.specs.Records.{records_of}
use Rattle.skeleton.specs.Promise.{GivesBoth}
use Rattle.skeleton.proofs.Determined.{call-one, both_one}
use Rattle.ordering_words.specs.Order.{words_by}
use Rattle.ordering.specs.Promise.{order_need}
use Rattle.ordering_records.specs.Promise.{Along, unordered, ordered, GivesRecords, RecordsWith}

along_one : {H : Type 0} (nothing : H) (d : ℕ) (cs : List (List ℕ)) (order : List ℕ) (Rest : Counted → H → Type 0) → ((r r' : Counted) (h h' : H) → Rest r h → Rest r' h' → (r ≡ r') × (h ≡ h')) →
    (r r' : Counted) (h h' : H) → Along nothing d cs order Rest r h → Along nothing d cs order Rest r' h' → (r ≡ r') × (h ≡ h')
along_one nothing d cs order Rest one r r' h h' (unordered x) (unordered y) = (refl, refl)
along_one nothing d cs order Rest one r r' h h' (unordered x) (ordered o y) = absurd (x o)
along_one nothing d cs order Rest one r r' h h' (ordered o x) (unordered y) = absurd (y o)
along_one nothing d cs order Rest one r r' h h' (ordered o x) (ordered n y) = one r r' h h' x y

-- TWO EXITS OF ONE CALL AGREE IN EVERYTHING
pub records-with-one : (d : ℕ) (ws order : List ℕ) (r r' : Counted) (facets s s' records t t' keys k k' rows o o' spare p p' counts c c' : List ℕ) → RecordsWith d ws order r facets s records t keys k rows o spare p counts c → RecordsWith d ws order r' facets s' records t' keys k' rows o' spare p' counts c' →
    (r ≡ r') × (s ≡ s') × (t ≡ t') × ((k ≡ k') × (o ≡ o') × (p ≡ p') × (c ≡ c'))
records-with-one d ws order r r' facets s s' records t t' keys k k' rows o o' spare p p' counts c c' a b =
    let cs = cells_of d ws in
    let w =
    call-one ([], []) d (GivesRecords d cs order (length facets) (length records))
    (along_one ([], []) d cs order (GivesBoth (facets_of d cs) (records_of d cs (words_by d cs order)) (length facets) (length records)) (both_one (facets_of d cs) (records_of d cs (words_by d cs order)) (length facets) (length records)))
    (order_need (length ws)) ws r r' a.handed b.handed keys k k' rows o o' spare p p' counts c c' a.call b.call in
    (w.0, a.result ∙ ap (λ (l : List ℕ × List ℕ). onto l.0 facets) w.1 ∙ sym b.result, a.sides ∙ ap (λ (l : List ℕ × List ℕ). onto l.1 records) w.1 ∙ sym b.sides, w.2)
