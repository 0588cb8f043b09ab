-- Over what the calls hand out: `incidence` on the words that `drop_cells` kept hands out the old index without the gone cells. Assumes nothing.
use Rattle.refusal.specs.declared.Refusal.{Refusal}
use Rattle.complex_dropped.specs.Says.{Dropping, kept_of}
use Rattle.refusal.specs.Says.{Counted, fine}
use Rattle.std.specs.Prelude.{Err, Ok}
use mathlib.Core.List.{List, []}
use mathlib.Core.Path.{◌≡◌, refl, ap, ◌∙◌}
use Prim.Native.Nat.{ℕ, ◌+◌, ◌*◌}
use lib.ListN.{length, take}
use Rattle.refusal.specs.declared.Room.{Room}
use Rattle.refusal.specs.Call.{Comes, refused, cramped, ended}
use Rattle.refusal.specs.Lent.{lengths, onto}
use Rattle.lists.specs.Rows.{flat}
use Rattle.complex.specs.Check.{answer_of}
use Rattle.complex.specs.Cells.{cells_of}
use Rattle.complex.proofs.Fine.{fine-passed}
use Rattle.skeleton.specs.Promise as listing
use Rattle.complex_faces.specs.Index.{starts_of, word_index}
use Rattle.complex_incidence.specs.Promise.{Indexed}
use Rattle.complex_dropped.specs.Kept.{staying, old_numbers}
use Rattle.complex_dropped.specs.Promise.{Lists, nothing, Ends, crowded, missing, emptied, short, kept_all, DropCells}
use Rattle.complex_dropped.proofs.Calls.{out_words}
use Rattle.complex_incidence_laws.specs.After.{index_left, IndexAgain}
use Rattle.complex_incidence_laws.proofs.After.{index-after-drop}

-- ---- a call of `drop_cells` that kept words: they passed the checks, and not all cells went
other : {A : Type 0} {why : Refusal} {n v : ℕ} → ◌≡◌ {A = Dropping} (Err why) (kept_of n v) → A
other p = cc

kept-some : (d : ℕ) (ws gone : List ℕ) (k o : ℕ) (need have : Room) (r : Dropping) (l : Lists) (u : Room) → Comes Err nothing (answer_of d ws) need have (Ends d ws gone k o) r l u → (n v : ℕ) → r ≡ kept_of n v → (answer_of d ws ≡ fine) × (length (staying d ws gone) ≡ 0 → ⊥)
kept-some d ws gone k o need have r l u (refused e) n v q = other q
kept-some d ws gone k o need have r l u (cramped e f) n v q = other q
kept-some d ws gone k o need have r l u (ended e f (crowded x)) n v q = other q
kept-some d ws gone k o need have r l u (ended e f (missing x y)) n v q = other q
kept-some d ws gone k o need have r l u (ended e f (emptied x z)) n v q = other q
kept-some d ws gone k o need have r l u (ended e f (short x s z)) n v q = other q
kept-some d ws gone k o need have r l u (ended e f (kept_all x s z)) n v q = (e, s)

-- ---- a call of `incidence` that says a count has handed out the index
clash : {A : Type 0} {why : Refusal} {n : ℕ} → ◌≡◌ {A = Counted} (Err why) (Ok n) → A
clash e = cc

indexed : (d : ℕ) (ws : List ℕ) (index : List (List ℕ)) (starts : List ℕ) (a b : ℕ) (need have : Room) (r : Counted) (h : List ℕ × List ℕ) (u : Room) → Comes Err ([], []) (answer_of d ws) need have (listing.Ends ([], []) d (cells_of d ws) (listing.GivesBoth index starts a b)) r h u → (n : ℕ) → r ≡ Ok n → h ≡ (flat index, starts)
indexed d ws index starts a b need have r h u (refused e) n q = clash q
indexed d ws index starts a b need have r h u (cramped e f) n q = clash q
indexed d ws index starts a b need have r h u (ended e f (listing.crowded x)) n q = clash q
indexed d ws index starts a b need have r h u (ended e f (listing.rest x (listing.words_short z))) n q = clash q
indexed d ws index starts a b need have r h u (ended e f (listing.rest x (listing.table_short z))) n q = clash q
indexed d ws index starts a b need have r h u (ended e f (listing.rest x (listing.both_listed y z))) n q = refl

indexed-lists : (d : ℕ) (ws : List ℕ) (n : ℕ) (touching touching' starts starts' keys keys' rows rows' spare spare' counts counts' : List ℕ) → Indexed d ws (Ok n) touching touching' starts starts' keys keys' rows rows' spare spare' counts counts' →
    (touching' ≡ onto (flat (word_index d ws)) touching) × (starts' ≡ onto (starts_of (word_index d ws)) starts)
indexed-lists d ws n touching touching' starts starts' keys keys' rows rows' spare spare' counts counts' a =
    let e = indexed d ws (word_index d ws) (starts_of (word_index d ws)) (length touching) (length starts) _ _ (Ok n) a.handed a.call.used a.call.comes n refl in
    (a.result ∙ ap (λ (h : List ℕ × List ℕ). onto h.0 touching) e, a.sides ∙ ap (λ (h : List ℕ × List ℕ). onto h.1 starts) e)

-- ---- one after the other
pub incidence-after-drop : (d : ℕ) (ws gone : List ℕ) (n v : ℕ) (kept kept' old old' keys keys' rows rows' spare spare' counts counts' : List ℕ) → DropCells d ws gone (kept_of n v) kept kept' old old' keys keys' rows rows' spare spare' counts counts' →
    (m : ℕ) (touching touching' starts starts' k k' o o' p p' c c' : List ℕ) → Indexed d (take (n * (d + 1)) kept') (Ok m) touching touching' starts starts' k k' o o' p p' c c' → IndexAgain d ws gone touching touching' starts starts'
incidence-after-drop d ws gone n v kept kept' old old' keys keys' rows rows' spare spare' counts counts' a m touching touching' starts starts' k k' o o' p p' c c' b =
    let t = kept-some d ws gone (length kept) (length old) _ (lengths keys rows spare counts) (kept_of n v) a.handed a.used a.comes n v refl in
    let e : word_index d (take (n * (d + 1)) kept') ≡ index_left (word_index d ws) gone (old_numbers d ws gone) =
    ap (word_index d) (out_words d ws gone n v kept kept' old old' keys keys' rows rows' spare spare' counts counts' a) ∙ index-after-drop d ws gone (fine-passed d ws t.0) t.1 in
    let l = indexed-lists d (take (n * (d + 1)) kept') m touching touching' starts starts' k k' o o' p p' c c' b in
    record {
      cells = l.0 ∙ ap (λ (z : List (List ℕ)). onto (flat z) touching) e;
      places = l.1 ∙ ap (λ (z : List (List ℕ)). onto (starts_of z) starts) e;
    }
