-- The promises determine what is said and what is printed: two calls on equal inputs end alike. Assumes nothing.
use Rattle.refusal.specs.declared.Refusal.{Refusal}
use Rattle.refusal.specs.Table.{number_of}
use Rattle.bandsum_sums.specs.Says.{Sum}
use Rattle.std.specs.Prelude.{Err, Ok, Result}
use mathlib.Core.Bool.{true, false}
use mathlib.Core.List.{List}
use mathlib.Core.Path.{◌≡◌, refl, sym, ap, ◌∙◌, subst}
use Prim.Native.Nat.{ℕ, ◌≤◌}
use native.Mathlib.Omega.{arith}
use lib.IntN.{ℤ}
use lib.ListN.{length}
use Rattle.refusal.proofs.Chain.{fine-refused, refused-same}
use Rattle.orientation.specs.declared.Coherence.{Coherence}
use Rattle.orientation.specs.Promise.{Orientation}
use Rattle.quotient.specs.declared.Grid.{Grid}
use Rattle.grid_words.specs.Cells.{flat_words}
use Rattle.text.specs.declared.Text.{Text}
use Rattle.text.specs.Adds.{holding}
use Rattle.bandsum_line.specs.Grammar.{read_line}
use Rattle.bandsum_lines.specs.Lines.{lines_of, refused_line}
use Rattle.bandsum_sums.specs.Promise.{SidesOf, two, one, summary_of, Sound, SumsOf, refused, crowded, ordered, unordered, Prints, unread, refusal, six, Printed}
use Rattle.bandsum_sums.specs.Work.{band_corners, band_recorded, sides_as}
use Rattle.bandsum_sums.proofs.Ends.{sides-are}

-- the sides of one grid
pub sides-one : (g : Grid) (n n' : ℕ) → SidesOf g n → SidesOf g n' → n ≡ n'
sides-one g n n' (two σ p) (two τ q) = refl
sides-one g n n' (two σ p) (one f) = absurd (f σ p)
sides-one g n n' (one f) (two σ p) = absurd (f σ p)
sides-one g n n' (one f) (one f') = refl

-- the sides are what `orientation` says of the grid's words: 2 with signs, and 1 where it says 13
pub sides-by-signs : (g : Grid) (n : ℕ) → Sound g → SidesOf g n → (r : Result Coherence Refusal) (signs signs' : List ℤ) (keys keys' rows rows' spare spare' counts counts' : List ℕ) → band_corners ≤ length signs → band_recorded ≤ length keys → band_corners ≤ length rows →
    band_corners ≤ length spare → band_corners ≤ length counts → Orientation g.d (flat_words g) r signs signs' keys keys' rows rows' spare spare' counts counts' → n ≡ sides_as r
sides-by-signs g n sound s r signs signs' keys keys' rows rows' spare spare' counts counts' lg lk lr ls ln t =
    sides-one g n (sides_as r) s (sides-are g (flat_words g) (record { sound = sound; same = refl }) signs keys rows spare counts lg lk lr ls ln r signs' keys' rows' spare' counts' t)

-- what is told of one grid
pub sums-one : (g : Grid) (r r' : Sum) → SumsOf g r → SumsOf g r' → r ≡ r'
sums-one g r r' (refused {why = why} e) (refused {why = why2} f) = ap (λ (x : Refusal). Err x) (refused-same why why2 (sym e ∙ f))
sums-one g r r' (refused {why = why} e) (crowded f x) = absurd (fine-refused why (sym e ∙ f))
sums-one g r r' (refused {why = why} e) (ordered s x o) = absurd (fine-refused why (sym e ∙ s.taken))
sums-one g r r' (refused {why = why} e) (unordered s x o) = absurd (fine-refused why (sym e ∙ s.taken))
sums-one g r r' (crowded f x) (refused {why = why} e) = absurd (fine-refused why (sym e ∙ f))
sums-one g r r' (crowded f x) (crowded f' x') = refl
sums-one g r r' (crowded f y) (ordered s x o) = absurd (s.free y)
sums-one g r r' (crowded f y) (unordered s x o) = absurd (s.free y)
sums-one g r r' (ordered s x o) (refused {why = why} e) = absurd (fine-refused why (sym e ∙ s.taken))
sums-one g r r' (ordered s x o) (crowded f y) = absurd (s.free y)
sums-one g r r' (ordered s x o) (ordered s' x' o') = ap (λ (n : ℕ). Ok (summary_of g n true)) (sides-one g _ _ x x')
sums-one g r r' (ordered s x o) (unordered s' x' o') = absurd (o' o)
sums-one g r r' (unordered s x o) (refused {why = why} e) = absurd (fine-refused why (sym e ∙ s.taken))
sums-one g r r' (unordered s x o) (crowded f y) = absurd (s.free y)
sums-one g r r' (unordered s x o) (ordered s' x' o') = absurd (o o')
sums-one g r r' (unordered s x o) (unordered s' x' o') = ap (λ (n : ℕ). Ok (summary_of g n false)) (sides-one g _ _ x x')

-- what is printed for one list of bytes
refused-taken : (why : Refusal) (g : Grid) → Err why ≡ Ok g → ⊥
refused-taken why g e = let z : ◌≡◌ {A = ℕ} 0 1 = cc in omega arith

same-grid : (bs : List ℕ) (g h : Grid) (r r' : Sum) → read_line bs ≡ Ok g → read_line bs ≡ Ok h → SumsOf g r → SumsOf h r' → r ≡ r'
same-grid bs g h r r' e f s t = let w : Ok g ≡ Ok h = sym e ∙ f in let a : g ≡ h = cc in sums-one g r r' s (subst (λ (x : Grid). SumsOf x r') (sym a) t)

prints-one : (bs l l' : List ℕ) → Prints bs l → Prints bs l' → l ≡ l'
prints-one bs l l' (unread {why = why} e) (unread {why = why2} f) = let w : Err why ≡ Err why2 = sym e ∙ f in let a : why ≡ why2 = cc in ap (λ (x : Refusal). refused_line (number_of x)) a
prints-one bs l l' (unread {why = why} e) (refusal {g = g} f s) = absurd (refused-taken why g (sym e ∙ f))
prints-one bs l l' (unread {why = why} e) (six {g = g} f s) = absurd (refused-taken why g (sym e ∙ f))
prints-one bs l l' (refusal {g = g} f s) (unread {why = why} e) = absurd (refused-taken why g (sym e ∙ f))
prints-one bs l l' (refusal {g = g} {why = why} e s) (refusal {g = h} {why = why2} f t) =
    let w : Err why ≡ Err why2 = same-grid bs g h _ _ e f s t in let a : why ≡ why2 = cc in ap (λ (x : Refusal). refused_line (number_of x)) a
prints-one bs l l' (refusal {g = g} {why = why} e s) (six {g = h} {s = x} f t) = let w : Err why ≡ Ok x = same-grid bs g h _ _ e f s t in let z : ◌≡◌ {A = ℕ} 0 1 = cc in absurd (omega arith)
prints-one bs l l' (six {g = g} f s) (unread {why = why} e) = absurd (refused-taken why g (sym e ∙ f))
prints-one bs l l' (six {g = g} {s = x} e s) (refusal {g = h} {why = why} f t) = let w : Ok x ≡ Err why = same-grid bs g h _ _ e f s t in let z : ◌≡◌ {A = ℕ} 0 1 = cc in absurd (omega arith)
prints-one bs l l' (six {g = g} {s = x} e s) (six {g = h} {s = y} f t) = let w : Ok x ≡ Ok y = same-grid bs g h _ _ e f s t in let a : x ≡ y = cc in ap lines_of a

pub printed-one : (bs : List ℕ) (t t' : Text) → Printed bs t → Printed bs t' → t ≡ t'
printed-one bs t t' a b = a.holds ∙ ap holding (prints-one bs a.lines b.lines a.prints b.prints) ∙ sym b.holds
