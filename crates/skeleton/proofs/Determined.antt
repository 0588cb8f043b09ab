-- The promises determine what is said and every list: two calls on equal inputs end alike. Assumes nothing.
use Rattle.refusal.specs.Says.{Counted}
use Rattle.std.specs.Prelude.{Err}
use mathlib.Core.List.{List, []}
use mathlib.Core.Path.{◌≡◌, refl, sym, ap, ◌∙◌}
use Prim.Native.Nat.{ℕ}
use native.Mathlib.Omega.{arith}
use lib.ListN.{length}
use Rattle.refusal.specs.declared.Room.{Room}
use Rattle.refusal.specs.Lent.{onto, lengths}
use Rattle.refusal.proofs.Determined.{comes-one, cleared-one}
use Rattle.complex.specs.Check.{answer_of}
use Rattle.complex.specs.Cells.{cells_of}
use Rattle.skeleton.specs.Promise.{Gives, short, listed, GivesBoth, words_short, table_short, both_listed, Ends, crowded, rest, Call, Listed, BothListed, FacetsListed, RecordsListed}
use Rattle.complex.specs.Room.{need_of}
use Rattle.complex.specs.Skeleton.{facets_of}
use Rattle.complex_facets.specs.Sides.{table_of}
use Rattle.complex_facets.specs.Records.{records_of}

gives_one : (words : List (List ℕ)) (g : ℕ) (r r' : Counted) (l l' : List ℕ) → Gives words g r l → Gives words g r' l' → (r ≡ r') × (l ≡ l')
gives_one words g r r' l l' (short h) (short k) = (refl, refl)
gives_one words g r r' l l' (short h) (listed k) = absurd (omega arith)
gives_one words g r r' l l' (listed h) (short k) = absurd (omega arith)
gives_one words g r r' l l' (listed h) (listed k) = (refl, refl)

module _ {H : Type 0} (nothing : H) (d : ℕ) (Rest : Counted → H → Type 0) (one : (r r' : Counted) (h h' : H) → Rest r h → Rest r' h' → (r ≡ r') × (h ≡ h')) where
  ends-one : (cs : List (List ℕ)) (r r' : Counted) (h h' : H) → Ends nothing d cs Rest r h → Ends nothing d cs Rest r' h' → (r ≡ r') × (h ≡ h')
  ends-one cs r r' h h' (crowded x) (crowded y) = (refl, refl)
  ends-one cs r r' h h' (crowded x) (rest n y) = absurd (n x)
  ends-one cs r r' h h' (rest n x) (crowded y) = absurd (n y)
  ends-one cs r r' h h' (rest n x) (rest m y) = one r r' h h' x y

  -- two exits of one call: what is said, what is handed out, and the working lists are equal
  pub call-one : (need : Room) (ws : List ℕ) (r r' : Counted) (h h' : H) (keys k k' rows o o' spare p p' counts c c' : List ℕ) → Call nothing need Rest d ws r h keys k rows o spare p counts c → Call nothing need Rest d ws r' h' keys k' rows o' spare p' counts c' →
      (r ≡ r') × (h ≡ h') × ((k ≡ k') × (o ≡ o') × (p ≡ p') × (c ≡ c'))
  call-one need ws r r' h h' keys k k' rows o o' spare p p' counts c c' a b =
      let w = comes-one Err nothing (answer_of d ws) need (lengths keys rows spare counts) (Ends nothing d (cells_of d ws) Rest) (ends-one (cells_of d ws)) a.comes b.comes in
      (w.0, w.1, cleared-one a.used b.used keys k k' rows o o' spare p p' counts c c' w.2 a.room b.room)

-- the calls `cells`, `edges` and `border`
pub listed-one : (need : Room) (words : List (List ℕ)) (d : ℕ) (ws : List ℕ) (r r' : Counted) (out s s' keys k k' rows o o' spare p p' counts c c' : List ℕ) → Listed need words d ws r out s keys k rows o spare p counts c → Listed need words d ws r' out s' keys k' rows o' spare p' counts c' →
    (r ≡ r') × (s ≡ s') × ((k ≡ k') × (o ≡ o') × (p ≡ p') × (c ≡ c'))
listed-one need words d ws r r' out s s' keys k k' rows o o' spare p p' counts c c' a b =
    let w = call-one [] d (Gives words (length out)) (gives_one words (length out)) need ws r r' a.handed b.handed keys k k' rows o o' spare p p' counts c c' a.call b.call in
    (w.0, a.result ∙ ap (λ (l : List ℕ). onto l out) w.1 ∙ sym b.result, w.2)

pub both_one : (words : List (List ℕ)) (table : List ℕ) (g t : ℕ) (r r' : Counted) (l l' : List ℕ × List ℕ) → GivesBoth words table g t r l → GivesBoth words table g t r' l' → (r ≡ r') × (l ≡ l')
both_one words table g t r r' l l' (words_short h) (words_short k) = (refl, refl)
both_one words table g t r r' l l' (words_short h) (table_short k) = (refl, refl)
both_one words table g t r r' l l' (words_short h) (both_listed k m) = absurd (omega arith)
both_one words table g t r r' l l' (table_short h) (words_short k) = (refl, refl)
both_one words table g t r r' l l' (table_short h) (table_short k) = (refl, refl)
both_one words table g t r r' l l' (table_short h) (both_listed k m) = absurd (omega arith)
both_one words table g t r r' l l' (both_listed h m) (words_short k) = absurd (omega arith)
both_one words table g t r r' l l' (both_listed h m) (table_short k) = absurd (omega arith)
both_one words table g t r r' l l' (both_listed h m) (both_listed k n) = (refl, refl)

-- the calls `facets` and `facet_records`
pub both-listed-one : (beside : List ℕ) (d : ℕ) (ws : List ℕ) (r r' : Counted) (out s s' list t t' keys k k' rows o o' spare p p' counts c c' : List ℕ) → BothListed beside d ws r out s list t keys k rows o spare p counts c → BothListed beside d ws r' out s' list t' keys k' rows o' spare p' counts c' →
    (r ≡ r') × (s ≡ s') × (t ≡ t') × ((k ≡ k') × (o ≡ o') × (p ≡ p') × (c ≡ c'))
both-listed-one beside d ws r r' out s s' list t t' keys k k' rows o o' spare p p' counts c c' a b =
    let w = call-one ([], []) d (GivesBoth (facets_of d (cells_of d ws)) beside (length out) (length list)) (both_one (facets_of d (cells_of d ws)) beside (length out) (length list)) (need_of d (length ws)) ws r r' a.handed b.handed keys k k' rows o o' spare p p' counts c c' a.call b.call in
    (w.0, a.result ∙ ap (λ (l : List ℕ × List ℕ). onto l.0 out) w.1 ∙ sym b.result, a.sides ∙ ap (λ (l : List ℕ × List ℕ). onto l.1 list) w.1 ∙ sym b.sides, w.2)

pub facets-one : (d : ℕ) (ws : List ℕ) (r r' : Counted) (out s s' table t t' keys k k' rows o o' spare p p' counts c c' : List ℕ) → FacetsListed d ws r out s table t keys k rows o spare p counts c → FacetsListed d ws r' out s' table t' keys k' rows o' spare p' counts c' →
    (r ≡ r') × (s ≡ s') × (t ≡ t') × ((k ≡ k') × (o ≡ o') × (p ≡ p') × (c ≡ c'))
facets-one d ws = both-listed-one (table_of d (cells_of d ws)) d ws

pub records-one : (d : ℕ) (ws : List ℕ) (r r' : Counted) (out s s' records t t' keys k k' rows o o' spare p p' counts c c' : List ℕ) → RecordsListed d ws r out s records t keys k rows o spare p counts c → RecordsListed d ws r' out s' records t' keys k' rows o' spare p' counts c' →
    (r ≡ r') × (s ≡ s') × (t ≡ t') × ((k ≡ k') × (o ≡ o') × (p ≡ p') × (c ≡ c'))
records-one d ws = both-listed-one (records_of d (cells_of d ws) (cells_of d ws)) d ws
