-- Bytes written one thing after another; the whole file in a list that is long enough, and in an empty one. Assumes nothing.
use mathlib.Core.Path.{◌≡◌, refl, sym, ap, subst, ◌∙◌}
use mathlib.Core.List.{List, [], ◌∷◌, ◌++◌}
use Prim.Native.Nat.{ℕ, suc, ◌+◌, ◌-◌, ◌≤◌, ◌<◌}
use native.Mathlib.Nat.{zero-add, add-zero}
use native.Mathlib.Numerals.{add-one}
use native.Mathlib.Omega.{arith}
use lib.ListN.{length, get_or, take, drop, set, length-append, length-take}
use lib.Seq.{take-suc, take_all, sets, sets-eq, length-sets, set_out}
use Rattle.file_writing.specs.Wrote.{farthest, Wrote}

pub wrote_none : (at : ℕ) (to : List ℕ) → Wrote [] at to at to
wrote_none at to = record { next = sym (add-zero at); stored = refl }

pub sets_more : (x y : List ℕ) (at : ℕ) (to : List ℕ) → sets to at (x ++ y) ≡ sets (sets to at x) (at + length x) y
sets_more [] y at to = ap (λ (n : ℕ). sets to n y) (sym (add-zero at))
sets_more (b ∷ x) y at to =
    sets_more x y (suc at) (set to at b)
    ∙ ap (λ (n : ℕ). sets (sets (set to at b) (suc at) x) n y) (let e : suc at + length x ≡ at + length (b ∷ x) = omega arith in e)

pub wrote-more : {x y : List ℕ} {at : ℕ} {to : List ℕ} {r : ℕ} {to' : List ℕ} {s : ℕ} {to'' : List ℕ} → Wrote x at to r to' → Wrote y r to' s to'' → Wrote (x ++ y) at to s to''
wrote-more {x} {y} {at} {to} {r} {to'} {s} {to''} a b = record {
  next = omega (arith, a.next, b.next, length-append x y);
  stored = b.stored ∙ ap (λ (l : List ℕ). sets l r y) a.stored ∙ ap (λ (n : ℕ). sets (sets to at x) n y) a.next ∙ sym (sets_more x y at to);
}

pub wrote-same : {x y : List ℕ} {at : ℕ} {to : List ℕ} {r : ℕ} {to' : List ℕ} → x ≡ y → Wrote x at to r to' → Wrote y at to r to'
wrote-same {at = at} {to = to} {r = r} {to' = to'} e a = subst (λ (z : List ℕ). Wrote z at to r to') e a

-- one byte, stored or past the end
pub byte-stored : (to : List ℕ) (at b : ℕ) → Wrote (b ∷ []) at to (at + 1) (set to at b)
byte-stored to at b = record { next = refl; stored = refl }

pub byte_past : (to : List ℕ) (at b : ℕ) → length to ≤ at → Wrote (b ∷ []) at to (at + 1) to
byte_past to at b h = record { next = refl; stored = sym (set_out to at b h) }

-- a word's bytes one by one
pub word_byte : (w : List ℕ) (i : ℕ) {at : ℕ} {to : List ℕ} {r : ℕ} {to' : List ℕ} {s : ℕ} {to'' : List ℕ} → i < length w → Wrote (take i w) at to r to' → Wrote (get_or w i 0 ∷ []) r to' s to'' →
    Wrote (take (i + 1) w) at to s to''
word_byte w i h a b = wrote-same (sym (ap (λ (k : ℕ). take k w) (add-one i) ∙ take-suc w i 0 h)) (wrote-more a b)

pub word_room : (w : List ℕ) (i : ℕ) {at : ℕ} {to : List ℕ} {r : ℕ} {to' : List ℕ} → i < length w → Wrote (take i w) at to r to' → at + length w ≤ farthest → r < farthest
word_room w i h a l = omega (arith, a.next, length-take i w)

pub word-done : (w : List ℕ) (i : ℕ) {at : ℕ} {to : List ℕ} {r : ℕ} {to' : List ℕ} → length w ≤ i → Wrote (take i w) at to r to' → Wrote w at to r to'
word-done w i h a = wrote-same (take_all i w h) a

-- ---- a whole file

-- in a list that is long enough it stands from the start on, and the rest is as it was
pub wrote-whole : {x to : List ℕ} {r : ℕ} {to' : List ℕ} → length x ≤ length to → Wrote x 0 to r to' → to' ≡ x ++ drop (length x) to
wrote-whole {x} {to} h a =
    a.stored ∙ sets-eq x to 0 (omega arith) ∙ ap (λ (n : ℕ). x ++ drop n to) (zero-add (length x))

-- in an empty one nothing is stored
pub wrote-nowhere : (x : List ℕ) (at : ℕ) → sets [] at x ≡ []
wrote-nowhere [] at = refl
wrote-nowhere (b ∷ x) at = wrote-nowhere x (suc at)

pub wrote-long : {x to : List ℕ} {r : ℕ} {to' : List ℕ} → Wrote x 0 to r to' → r ≡ length x
wrote-long {x} a = a.next ∙ zero-add (length x)

-- the list is as long as it was
pub wrote-length : {x : List ℕ} {at : ℕ} {to : List ℕ} {r : ℕ} {to' : List ℕ} → Wrote x at to r to' → length to' ≡ length to
wrote-length {x} {at} {to} a = ap length a.stored ∙ length-sets to at x
