-- Words by their counts: a sorted word has the word's numbers, and a rising word is known by its numbers. Assumes nothing.
use mathlib.Core.Bool.{Bool, true, false, ◌||◌}
use mathlib.Core.Path.{◌≡◌, refl, sym, ap, ◌∙◌}
use mathlib.Core.Logic.{inl, inr, ⊎_elim}
use mathlib.Core.List.Memᴰ
use mathlib.Core.List.{List, [], ◌∷◌, Memᴰ}
use Prim.Native.Nat.{ℕ, ◌+◌, ◌≤◌, ◌<◌}
use native.Mathlib.Decide.{ℕ_discrete, dec_lt}
use native.Mathlib.Omega.{arith}
use lib.Dec.{ltb, eqb}
use borrow.Author.Tests.{eqb-true, eqb-false}
use Rattle.lists.specs.Words.{among, has_repeat, same}
use Rattle.lists.proofs.Members.{All, Pairs}
use Rattle.multiindex.specs.Sort.{insert_by, insert, sort_word}
use Rattle.complex_cells.proofs.Words.{Word, In}
use Rattle.complex_cells.proofs.Strict.{sort-strict}
use Rattle.refine_lattice.specs.Complex.{occurrences, common, Rises}
use Rattle.lists.proofs.Words.{same_self, same-yes, same-no, or-false}
use Rattle.refine_lattice.proofs.After.{keep-yes}
use Rattle.refine_lattice.proofs.Faces.{rising}

-- the two ways to say that a word is in a list
pub to_mem : (r : Word) (xs : List Word) → In r xs → Memᴰ r xs
to_mem r [] m = absurd m
to_mem r (x ∷ xs) (inl e) = Memᴰ.head (sym e)
to_mem r (x ∷ xs) (inr m) = Memᴰ.tail (to_mem r xs m)

pub of_mem : (r : Word) (xs : List Word) → Memᴰ r xs → In r xs
of_mem r [] m = absurd (Memᴰ.not-nil m)
of_mem r (x ∷ xs) m = ⊎_elim (λ e. inl (sym e)) (λ q. inr (of_mem r xs q)) (Memᴰ.cases_cons m)

-- sorting keeps the counts
insert-times : (x : ℕ) (ys : List ℕ) (v : ℕ) → occurrences (insert x ys) v ≡ same v x + occurrences ys v
unfolding insert insert_by
insert-times x [] v = refl
insert-times x (y ∷ ys) v = go (ltb y x) (insert-times x ys v)
  where
    go : (t : Bool) → occurrences (insert x ys) v ≡ same v x + occurrences ys v → occurrences (insert_by t x y ys (insert x ys)) v ≡ same v x + (same v y + occurrences ys v)
    go true e = omega arith
    go false e = refl

pub sort-times : (w : List ℕ) (v : ℕ) → occurrences (sort_word w) v ≡ occurrences w v
unfolding sort_word
sort-times [] v = refl
sort-times (x ∷ w) v = insert-times x (sort_word w) v ∙ ap (λ (n : ℕ). same v x + n) (sort-times w v)

-- no number twice
among-times : (v : ℕ) (w : List ℕ) → among v w ≡ false → occurrences w v ≡ 0
unfolding among
among-times v [] e = refl
among-times v (x ∷ w) e = go (eqb x v) refl e (among-times v w)
  where
    go : (t : Bool) → eqb x v ≡ t → (t || among v w) ≡ false → (among v w ≡ false → occurrences w v ≡ 0) → same v x + occurrences w v ≡ 0
    go true p e r = let z : ◌≡◌ {A = ℕ} 0 1 = cc in absurd (omega arith)
    go false p e r = omega (arith, same-no v x (λ q. eqb-false x v p (sym q)), r e)

pub times-among : (v : ℕ) (w : List ℕ) → among v w ≡ true → 0 < occurrences w v
unfolding among
times-among v [] e = let z : ◌≡◌ {A = ℕ} 0 1 = cc in absurd (omega arith)
times-among v (x ∷ w) e = go (eqb x v) refl e (times-among v w)
  where
    go : (t : Bool) → eqb x v ≡ t → (t || among v w) ≡ true → (among v w ≡ true → 0 < occurrences w v) → 0 < same v x + occurrences w v
    go true p e r = omega (arith, same-yes v x (sym (eqb-true x v p)))
    go false p e r = omega (arith, r e)

pub plain_of : (w : List ℕ) → has_repeat w ≡ false → (v : ℕ) → occurrences w v ≤ 1
unfolding has_repeat
plain_of [] e v = omega arith
plain_of (x ∷ w) e v =
    let r = or-false (among x w) (has_repeat w) e in
    elim (ℕ_discrete v x) [
      | yes q ↦ omega (arith, same-yes v x q, ap (occurrences w) q, among-times x w r.0)
      | no q ↦ omega (arith, same-no v x q, plain_of w r.1 v)
    ]

-- and back
among_none : (v : ℕ) (w : List ℕ) → occurrences w v ≡ 0 → among v w ≡ false
unfolding among
among_none v [] e = refl
among_none v (x ∷ w) e = go (eqb x v) refl (among_none v w)
  where
    go : (t : Bool) → eqb x v ≡ t → (occurrences w v ≡ 0 → among v w ≡ false) → (t || among v w) ≡ false
    go true p r = absurd (omega (arith, same-yes v x (sym (eqb-true x v p))))
    go false p r = r (omega arith)

pub among-some : (v : ℕ) (w : List ℕ) → 0 < occurrences w v → among v w ≡ true
unfolding among
among-some v [] e = absurd (omega arith)
among-some v (x ∷ w) e = go (eqb x v) refl (among-some v w)
  where
    go : (t : Bool) → eqb x v ≡ t → (0 < occurrences w v → among v w ≡ true) → (t || among v w) ≡ true
    go true p r = refl
    go false p r = r (omega (arith, same-no v x (λ q. eqb-false x v p (sym q))))

pub repeat-none : (w : List ℕ) → ((v : ℕ) → occurrences w v ≤ 1) → has_repeat w ≡ false
unfolding has_repeat
repeat-none [] p = refl
repeat-none (x ∷ w) p = rw (among_none x w (omega (arith, p x, same_self x)), repeat-none w (λ v. omega (arith, p v)))

-- a word with no number twice rises when it is sorted
all-times : (x : ℕ) (w : List ℕ) → All (λ b. x < b) w → (v : ℕ) → 0 < occurrences w v → x < v
all-times x [] a v h = absurd (omega arith)
all-times x (y ∷ w) a v h =
    elim (ℕ_discrete v y) [
      | yes e ↦ omega (arith, a.0)
      | no e ↦ all-times x w a.1 v (omega (arith, same-no v y e))
    ]

pub rises-pairs : (w : List ℕ) → Pairs (λ a b. a < b) w → Rises w
rises-pairs [] p = tt
rises-pairs (x ∷ w) p = (all-times x w p.0, rises-pairs w p.1)

pub rises-sort : (w : List ℕ) → ((v : ℕ) → occurrences w v ≤ 1) → Rises (sort_word w)
rises-sort w p = rises-pairs (sort_word w) (sort-strict w (repeat-none w p))

-- a rising word is known by its numbers
pub common-all : (k l : List ℕ) → ((v : ℕ) → 0 < occurrences k v → 0 < occurrences l v) → common k l ≡ k
common-all [] l f = refl
common-all (x ∷ k) l f =
    keep-yes (occurrences l x) x (common k l) (f x (omega (arith, same_self x)))
    ∙ ap (λ (r : List ℕ). x ∷ r) (common-all k l (λ v h. f v (omega arith)))

pub one-rising : (k l : List ℕ) → Rises k → Rises l → ((v : ℕ) → occurrences k v ≡ occurrences l v) → k ≡ l
one-rising k l h i e =
    sym (common-all k l (λ v p. omega (arith, e v))) ∙ rising k l h i ∙ common-all l k (λ v p. omega (arith, e v))

pub sort-one : (k l : List ℕ) → ((v : ℕ) → occurrences k v ≤ 1) → ((v : ℕ) → occurrences k v ≡ occurrences l v) → sort_word k ≡ sort_word l
sort-one k l p e =
    one-rising (sort_word k) (sort_word l) (rises-sort k p) (rises-sort l (λ v. omega (arith, p v, e v)))
    (λ v. sort-times k v ∙ e v ∙ sym (sort-times l v))

pub rises-plain : (k : List ℕ) → Rises k → (v : ℕ) → occurrences k v ≤ 1
rises-plain [] h v = omega arith
rises-plain (x ∷ k) h v =
    elim (ℕ_discrete v x) [
      | yes e ↦ elim (dec_lt 0 (occurrences k v)) [ yes m ↦ omega (arith, h.0 v m) | no m ↦ omega (arith, same-yes v x e) ]
      | no e ↦ omega (arith, same-no v x e, rises-plain k h.1 v)
    ]

pub sort-fixed : (k : List ℕ) → Rises k → sort_word k ≡ k
sort-fixed k h = one-rising (sort_word k) k (rises-sort k (rises-plain k h)) h (sort-times k)
