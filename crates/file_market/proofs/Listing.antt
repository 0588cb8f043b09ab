-- The lines of the file one by one: how long they are, the invariant of the loop that writes them, and that they are those of the entries. Assumes nothing.
use mathlib.Core.List.{List, [], ◌∷◌, ◌++◌, map, append-nil}
use mathlib.Core.Path.{◌≡◌, refl, sym, ap, subst, ◌∙◌}
use Prim.Native.Nat.{ℕ, zero, suc, ◌+◌, ◌-◌, ◌*◌, ◌/◌, ◌%◌, ◌<◌, ◌≤◌}
use native.Mathlib.Nat.{div-le_self}
use native.Mathlib.Numerals.{add-one}
use native.Mathlib.Omega.{arith}
use lib.ListN.{length, get_or, drop, length-append, length-map}
use lib.IntN.{ℤ, pos, negsuc}
use Rattle.lists.specs.Rows.{flat}
use Rattle.lists.proofs.Flat.{flat_append}
use Rattle.text.specs.Decimal.{digits_down, decimal_down, decimal}
use Rattle.text.proofs.Decimals.{decimal-long}
use Rattle.file_writing.specs.Wrote.{farthest, Wrote}
use Rattle.file_writing.proofs.Laws.{wrote_none, wrote-more, wrote-same}
use Rattle.multiindex.specs.Sign.{induced, sign_number}
use Rattle.complex_faces.specs.Entries.{Entry, signs_in, faces_in, cofaces_in}
use Rattle.lists.specs.Tables.{tab}
use Rattle.lists.proofs.Tables.{length-tab, tab-more}
use Rattle.complex_boundary.specs.Work.{EntryLists}
use Rattle.complex_boundary.proofs.Entries.{sign-even, sign-odd, place-fits}
use Rattle.file_market.specs.File.{head_word, followed_by, line_of_three, signed_of, entry_lines, matrix_file}
use Rattle.file_market.specs.Work.{many_entries, Numbered, line_at, lines_below}

-- ---- the sign at the end of a line
pub sign-plus : (i : ℕ) → i % 2 ≡ 0 → 49 ∷ 10 ∷ [] ≡ followed_by (signed_of (sign_number (induced i))) 10
unfolding decimal_down digits_down
sign-plus i h = sym (ap (λ (z : ℤ). followed_by (signed_of z) 10) (sign-even i h))

pub sign-minus : (i : ℕ) → (i % 2 ≡ 0 → ⊥) → 45 ∷ 49 ∷ 10 ∷ [] ≡ followed_by (signed_of (sign_number (induced i))) 10
unfolding decimal_down digits_down
sign-minus i h = sym (ap (λ (z : ℤ). followed_by (signed_of z) 10) (sign-odd i h))

-- ---- how long
pub signed-long : (z : ℤ) → length (signed_of z) ≤ 11
signed-long (pos n) = omega (arith, decimal-long 9 n)
signed-long (negsuc n) = omega (arith, decimal-long 9 (n + 1))

followed-long : (x : List ℕ) (b m : ℕ) → length x ≤ m → length (followed_by x b) ≤ m + 1
followed-long x b m h = omega (arith, length-append x (b ∷ []))

pub field-long : (n b : ℕ) {at : ℕ} {to : List ℕ} {r : ℕ} {to' : List ℕ} → Wrote (followed_by (decimal n) b) at to r to' → r ≤ at + 11
field-long n b a = omega (arith, a.next, followed-long (decimal n) b 10 (decimal-long 9 n))

pub line-long : (x y z : List ℕ) → length x ≤ 10 → length y ≤ 10 → length z ≤ 11 → length (line_of_three x y z) ≤ 34
line-long x y z h i j =
    omega (arith, length-append (followed_by x 32) (followed_by y 32 ++ followed_by z 10), length-append (followed_by y 32) (followed_by z 10), followed-long x 32 10 h, followed-long y 32 10 i, followed-long z 10 11 j)

pub sizes-long : (a b c : ℕ) → length (line_of_three (decimal a) (decimal b) (decimal c)) ≤ 34
sizes-long a b c = line-long (decimal a) (decimal b) (decimal c) (decimal-long 9 a) (decimal-long 9 b) (omega (arith, decimal-long 9 c))

pub sizes-end : (a b c : ℕ) {at : ℕ} {to : List ℕ} {r : ℕ} {to' : List ℕ} → Wrote (line_of_three (decimal a) (decimal b) (decimal c)) at to r to' → r ≤ at + 34
sizes-end a b c w = omega (arith, w.next, sizes-long a b c)

at_long : (k : ℕ) (ids : List ℕ) (x : ℕ) → length (line_at k ids x) ≤ 34
at_long k ids x =
    line-long (decimal (get_or ids (x / (k + 1) * (k + 1) + (k - x % (k + 1))) 0 + 1)) (decimal (x / (k + 1) + 1)) (signed_of (sign_number (induced (x % (k + 1))))) (decimal-long 9 (get_or ids (x / (k + 1) * (k + 1) + (k - x % (k + 1))) 0 + 1)) (decimal-long 9 (x / (k + 1) + 1)) (signed-long (sign_number (induced (x % (k + 1)))))

line-end : (k x : ℕ) (ids : List ℕ) {at : ℕ} {to : List ℕ} {r : ℕ} {to' : List ℕ} → Wrote (line_at k ids x) at to r to' → r ≤ at + 34
line-end k x ids w = omega (arith, w.next, at_long k ids x)

lines_more : (k : ℕ) (ids : List ℕ) (x : ℕ) → lines_below k ids (suc x) ≡ lines_below k ids x ++ line_at k ids x
lines_more k ids x = ap flat (tab-more x (line_at k ids)) ∙ flat_append (tab x (line_at k ids)) (line_at k ids x ∷ []) ∙ ap (λ (l : List ℕ). flat (tab x (line_at k ids)) ++ l) (append-nil (line_at k ids x))

lines_none : (k : ℕ) (ids : List ℕ) → lines_below k ids 0 ≡ []
lines_none k ids = refl

pub lines_long : (k : ℕ) (ids : List ℕ) (x : ℕ) → length (lines_below k ids x) ≤ 34 * x
lines_long k ids zero = omega (arith, ap length (lines_none k ids))
lines_long k ids (suc x) = omega (arith, ap length (lines_more k ids x), length-append (lines_below k ids x) (line_at k ids x), lines_long k ids x, at_long k ids x)

-- ---- the loop: the lines below x are written
pub record Listing (k : ℕ) (ids : List ℕ) (x start : ℕ) (to : List ℕ) (r : ℕ) (to' : List ℕ) : Type 0 where
  pub wrote : Wrote (lines_below k ids x) start to r to'
  pub near : r ≤ start + 34 * x

pub listing_none : (k : ℕ) (ids : List ℕ) (start : ℕ) (to : List ℕ) → Listing k ids 0 start to start to
listing_none k ids start to = record { wrote = wrote_none start to; near = omega arith }

pub listing-more : (k : ℕ) (ids : List ℕ) (x start : ℕ) (to : List ℕ) {r : ℕ} {to' : List ℕ} {s : ℕ} {to'' : List ℕ} → Listing k ids x start to r to' → Wrote (line_at k ids x) r to' s to'' → Listing k ids (x + 1) start to s to''
listing-more k ids x start to {s = s} {to'' = to''} a b =
    subst (λ (z : ℕ). Listing k ids z start to s to'') (sym (add-one x))
    (record {
      wrote = wrote-same (sym (lines_more k ids x)) (wrote-more a.wrote b);
      near = omega (arith, a.near, line-end k x ids b);
    })

pub listing-near : (k f g : ℕ) (ids : List ℕ) (x start : ℕ) (to : List ℕ) {r : ℕ} {to' : List ℕ} → Numbered k f g ids → x ≤ f * (k + 1) → start ≤ 100 → Listing k ids x start to r to' → r + 25 ≤ farthest
listing-near k f g ids x start to n h l a = omega (arith, n.entries, a.near)

pub listing-done : (k n : ℕ) (ids : List ℕ) (x start : ℕ) (to : List ℕ) {r : ℕ} {to' : List ℕ} → x ≤ n → n ≤ x → Listing k ids x start to r to' → Wrote (lines_below k ids n) start to r to'
listing-done k n ids x start to h l a = let e : x ≡ n = omega arith in wrote-same (ap (λ (z : ℕ). lines_below k ids z) e) a.wrote

-- ---- what the line of entry x reads
pub place-below : (k f g : ℕ) (ids : List ℕ) (x : ℕ) → Numbered k f g ids → x < f * (k + 1) → get_or ids (x / (k + 1) * (k + 1) + (k - x % (k + 1))) 0 < many_entries
place-below k f g ids x n h = n.below (x / (k + 1) * (k + 1) + (k - x % (k + 1))) (place-fits k f x h).0

pub coface-below : (k f g : ℕ) (ids : List ℕ) (x : ℕ) → Numbered k f g ids → x < f * (k + 1) → x / (k + 1) < many_entries
coface-below k f g ids x n h = omega (arith, div-le_self x (k + 1), n.entries)

-- ---- the lines are those of the entries
-- three lists read together
three-lists : (h : ℕ → ℕ → ℤ → List ℕ) (es : List Entry) (n : ℕ) (fa co : ℕ → ℕ) (si : ℕ → ℤ) → faces_in es ≡ tab n fa → cofaces_in es ≡ tab n co → signs_in es ≡ tab n si → map (λ (e : Entry). h e.face e.coface e.sign) es ≡ tab n (λ x. h (fa x) (co x) (si x))
three-lists h [] zero fa co si p q r = refl
three-lists h (e ∷ es) zero fa co si p q r = absurd (let z : suc (length (faces_in es)) ≡ 0 = ap length p in omega arith)
three-lists h [] (suc n) fa co si p q r = absurd (let z : 0 ≡ suc n = ap length p ∙ length-tab (suc n) fa in omega arith)
three-lists h (e ∷ es) (suc n) fa co si p q r =
    ap (λ (l : List (List ℕ)). h e.face e.coface e.sign ∷ l) (three-lists h es n (λ x. fa (suc x)) (λ x. co (suc x)) (λ x. si (suc x)) (ap (λ (l : List ℕ). drop 1 l) p) (ap (λ (l : List ℕ). drop 1 l) q) (ap (λ (l : List ℤ). drop 1 l) r))
    ∙ ap (λ (z : ℕ). h z e.coface e.sign ∷ tab n (λ x. h (fa (suc x)) (co (suc x)) (si (suc x)))) (ap (λ (l : List ℕ). get_or l 0 0) p)
    ∙ ap (λ (z : ℕ). h (fa 0) z e.sign ∷ tab n (λ x. h (fa (suc x)) (co (suc x)) (si (suc x)))) (ap (λ (l : List ℕ). get_or l 0 0) q)
    ∙ ap (λ (z : ℤ). h (fa 0) (co 0) z ∷ tab n (λ x. h (fa (suc x)) (co (suc x)) (si (suc x)))) (ap (λ (l : List ℤ). get_or l 0 (pos 0)) r)

module _ (k f : ℕ) (ids : List ℕ) (es : List Entry) (a : EntryLists k f ids es) where
  lines_same : lines_below k ids (f * (k + 1)) ≡ entry_lines es
  lines_same =
      ap flat
      (sym (three-lists (λ x y z. line_of_three (decimal (x + 1)) (decimal (y + 1)) (signed_of z)) es (f * (k + 1)) (λ x. get_or ids (x / (k + 1) * (k + 1) + (k - x % (k + 1))) 0) (λ x. x / (k + 1)) (λ x. sign_number (induced (x % (k + 1)))) a.faces_are a.cofaces_are a.signs_are))

  many : length es ≡ f * (k + 1)
  many = sym (length-map es (λ (e : Entry). e.sign)) ∙ ap length a.signs_are ∙ length-tab (f * (k + 1)) (λ x. sign_number (induced (x % (k + 1))))

  pub file-same : (g : ℕ) → head_word ++ (line_of_three (decimal g) (decimal f) (decimal (f * (k + 1))) ++ lines_below k ids (f * (k + 1))) ≡ matrix_file g f es
  unfolding matrix_file
  file-same g =
      ap (λ (l : List ℕ). head_word ++ (line_of_three (decimal g) (decimal f) (decimal (f * (k + 1))) ++ l)) lines_same
      ∙ ap (λ (n : ℕ). head_word ++ (line_of_three (decimal g) (decimal f) (decimal n) ++ entry_lines es)) (sym many)
