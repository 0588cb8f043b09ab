-- Entries copied from the front, and the values by number where they are read and where they are refused. Assumes nothing.
use Rattle.refusal.specs.declared.Refusal.TheVariants.{BadDimension, TooShort}
use Rattle.std.specs.Prelude.{Err, Ok}
use mathlib.Core.Bool.{Bool, true, false, cond, ◌&&◌}
use mathlib.Core.List.{List, [], ◌∷◌, ◌++◌, append-nil}
use mathlib.Core.Path.{◌≡◌, refl, sym, ap, ◌∙◌, subst}
use Prim.Native.Nat.{ℕ, zero, suc, ◌+◌, ◌-◌, ◌*◌, ◌<◌, ◌≤◌}
use native.Mathlib.Nat.{mul-le-mul_left}
use native.Mathlib.Numerals.{add-one}
use native.Mathlib.Decide.{dec_lt}
use native.Mathlib.Omega.{arith}
use borrow.Author.Tests.{lt-ltb, le-ltb, lt-leb, le-leb, ltb-true, leb-true}
use lib.Dec.{ltb}
use lib.IntN.{ℤ}
use lib.Ieee.{Float}
use lib.ListN.{length, get_or, take, drop, set, replicate, length-drop, drop_of_length-le}
use lib.Seq.{length-take-le, take_all}
use Rattle.lists.proofs.Rows.{part-row}
use Rattle.lists.specs.Rows.{row}
use Rattle.lists.specs.Words.{none}
use Rattle.refine_jacobian.specs.Entries.{nought}
use Rattle.refine_values.specs.Reading.{reaches, has_child, child_of, word_in, word_along, four, support, has_birth, birth_of}

-- ---- a copy from the front
module _ {A : Type 0} where
  put-suc : (x : A) (src dst : List A) (i : ℕ) → i < length src → i < length dst → set (take i src ++ drop i dst) i (get_or src i x) ≡ take (suc i) src ++ drop (suc i) dst
  put-suc x [] dst i h k = absurd (omega arith)
  put-suc x (s ∷ src) [] i h k = absurd (omega arith)
  put-suc x (s ∷ src) (t ∷ dst) zero h k = refl
  put-suc x (s ∷ src) (t ∷ dst) (suc i) h k = ap (λ (l : List A). s ∷ l) (put-suc x src dst i (omega arith) (omega arith))

  -- one more entry
  pub put : (x : A) (src dst : List A) (i : ℕ) → i < length src → i < length dst → set (take i src ++ drop i dst) i (get_or src i x) ≡ take (i + 1) src ++ drop (i + 1) dst
  put x src dst i h k = subst (λ (n : ℕ). set (take i src ++ drop i dst) i (get_or src i x) ≡ take n src ++ drop n dst) (sym (add-one i)) (put-suc x src dst i h k)

  -- all of them
  pub whole : (src dst : List A) (i : ℕ) → length src ≤ i → length dst ≤ i → take i src ++ drop i dst ≡ src
  whole src dst i h k = ap (λ (l : List A). take i src ++ l) (drop_of_length-le dst k) ∙ append-nil (take i src) ∙ take_all i src h

  drop-same : (n i : ℕ) (z : A) → drop i (replicate n z) ≡ replicate (n - i) z
  drop-same n zero z = let e : n ≡ n - 0 = omega arith in ap (λ (k : ℕ). replicate k z) e
  drop-same zero (suc i) z = let e : 0 ≡ 0 - suc i = omega arith in ap (λ (k : ℕ). replicate k z) e
  drop-same (suc n) (suc i) z = let e : n - i ≡ suc n - suc i = omega arith in drop-same n i z ∙ ap (λ (k : ℕ). replicate k z) e

  pub front : (z : A) (src : List A) (i : ℕ) → i ≡ length src → take i src ++ drop i (replicate 4 z) ≡ four z src
  front z src i e =
      let h : take i src ≡ src = take_all i src (omega arith) in
      let k : drop i (replicate 4 z) ≡ replicate (4 - length src) z = drop-same 4 i z ∙ ap (λ (n : ℕ). replicate (4 - n) z) e in
      cc

  pub row-long : (n k : ℕ) (l : List A) → k * n + n ≤ length l → length (row l n k) ≡ n
  row-long n k l h = length-take-le n (drop (k * n) l) (omega (arith, length-drop (k * n) l))

-- ---- three tests
pub first-no : (a b c : Bool) → a ≡ false → false ≡ (a && (b && c))
first-no false b c e = refl
first-no true b c e = let z : ◌≡◌ {A = ℕ} 0 1 = cc in absurd (omega arith)

pub second-no : (a b c : Bool) → a ≡ true → b ≡ false → false ≡ (a && (b && c))
second-no a false c e f = rw e
second-no a true c e f = let z : ◌≡◌ {A = ℕ} 0 1 = cc in absurd (omega arith)

pub third : (a b c : Bool) → a ≡ true → b ≡ true → c ≡ (a && (b && c))
third a b c e f = rw (e, f)

pub both : (a b : Bool) → (a && b) ≡ true → (a ≡ true) × (b ≡ true)
both true b e = (refl, e)
both false b e = let z : ◌≡◌ {A = ℕ} 0 1 = cc in absurd (omega arith)

-- no number below i passes the test, nor does i
pub more-none : (p : ℕ → Bool) (i : ℕ) → ((j : ℕ) → j < i → p j ≡ false) → p i ≡ false → (j : ℕ) → j < i + 1 → p j ≡ false
more-none p i f e j h = elim (dec_lt j i) [ yes l ↦ f j l | no l ↦ let q : i ≡ j = omega arith in subst (λ (k : ℕ). p k ≡ false) q e ]

-- ---- a child
module _ (k : ℕ) (parents : List ℕ) (jacobians : List Float) (wholes : List ℤ) where
  pub child-none : has_child k (length parents) (length jacobians) (length wholes) ≡ false → Err TooShort ≡ child_of k parents jacobians wholes
  child-none e = rw e

  module _ (e : has_child k (length parents) (length jacobians) (length wholes) ≡ true) where
    pub parent_in : k < length parents
    parent_in = ltb-true k (length parents) (both (ltb k (length parents)) (reaches 9 k (length jacobians) && reaches 9 k (length wholes)) e).0

    rest : (reaches 9 k (length jacobians) ≡ true) × (reaches 9 k (length wholes) ≡ true)
    rest = both (reaches 9 k (length jacobians)) (reaches 9 k (length wholes)) (both (ltb k (length parents)) (reaches 9 k (length jacobians) && reaches 9 k (length wholes)) e).1

    pub jacobian-in : k * 9 + 9 ≤ length jacobians
    jacobian-in = leb-true (k * 9 + 9) (length jacobians) rest.0

    pub whole_in : k * 9 + 9 ≤ length wholes
    whole_in = leb-true (k * 9 + 9) (length wholes) rest.1

    pub child-there : (js : List Float) (ws : List ℤ) → js ≡ take (k * 9 + 9 - k * 9) (drop (k * 9) jacobians) → ws ≡ take (k * 9 + 9 - k * 9) (drop (k * 9) wholes)
        → Ok (record { parent = get_or parents k 0; jacobian = js; whole = ws }) ≡ child_of k parents jacobians wholes
    child-there js ws f g = rw (e, f ∙ part-row jacobians 9 k, g ∙ part-row wholes 9 k)

-- ---- a word
module _ (d k : ℕ) (words : List ℕ) where
  pub word-dimension : 3 < d → take 0 words ≡ word_in d k words
  word-dimension h = rw (lt-leb d 3 h)

  size : k * (d + 1) + (d + 1) ≡ k * suc d + suc d
  size = ap (λ (n : ℕ). k * n + n) (add-one d)

  pub word-short : d ≤ 3 → length words < k * (d + 1) + (d + 1) → take 0 words ≡ word_in d k words
  word-short h l = rw (le-leb d 3 h, lt-leb (k * suc d + suc d) (length words) (omega (arith, size)))

  pub word-there : d ≤ 3 → k * (d + 1) + (d + 1) ≤ length words → take (k * (d + 1) + (d + 1) - k * (d + 1)) (drop (k * (d + 1)) words) ≡ word_in d k words
  word-there h l =
      part-row words (d + 1) k ∙ ap (λ (n : ℕ). row words n k) (add-one d)
      ∙ rw (le-leb d 3 h, le-leb (k * suc d + suc d) (length words) (omega (arith, size)))

  pub word_end : d ≤ 3 → k < 4294967296 → k * (d + 1) + (d + 1) < 17179869188
  word_end h l = omega (arith, mul-le-mul_left k (let q : d + 1 ≤ 4 = omega arith in q))

pub word-order : (given : Bool) → given ≡ true → (d k : ℕ) (cells order r : List ℕ) → r ≡ word_in d k order → r ≡ word_along given d k cells order
word-order given e d k cells order r f = f ∙ ap (λ (b : Bool). word_in d k (cond b order cells)) (sym e)

pub word_cell : (given : Bool) → given ≡ false → (d k : ℕ) (cells order r : List ℕ) → r ≡ word_in d k cells → r ≡ word_along given d k cells order
word_cell given e d k cells order r f = f ∙ ap (λ (b : Bool). word_in d k (cond b order cells)) (sym e)

-- ---- a birth
pub row-end : (n k : ℕ) → n ≤ 4 → k < 4294967296 → k * n + n < 17179869188
row-end n k h l = omega (arith, mul-le-mul_left k h)

module _ (d k : ℕ) (vertices weights : List ℕ) (shares : List Float) where
  pub birth-dimension : 3 < d → Err BadDimension ≡ birth_of d k vertices weights shares
  birth-dimension h = rw (lt-ltb 3 d h)

  module _ (h : d ≤ 3) where
    pub birth-none : has_birth (d + 1) k (length vertices) (length weights) (length shares) ≡ false → Err TooShort ≡ birth_of d k vertices weights shares
    birth-none e =
        let f : has_birth (suc d) k (length vertices) (length weights) (length shares) ≡ false = subst (λ (n : ℕ). has_birth n k (length vertices) (length weights) (length shares) ≡ false) (add-one d) e in
        rw (le-ltb 3 d h, f)

    module _ (e : has_birth (d + 1) k (length vertices) (length weights) (length shares) ≡ true) where
      tests : (reaches (d + 1) k (length vertices) ≡ true) × ((reaches (d + 1) k (length weights) && reaches (d + 1) k (length shares)) ≡ true)
      tests = both (reaches (d + 1) k (length vertices)) (reaches (d + 1) k (length weights) && reaches (d + 1) k (length shares)) e

      rest-tests : (reaches (d + 1) k (length weights) ≡ true) × (reaches (d + 1) k (length shares) ≡ true)
      rest-tests = both (reaches (d + 1) k (length weights)) (reaches (d + 1) k (length shares)) tests.1

      pub vertices-in : k * (d + 1) + (d + 1) ≤ length vertices
      vertices-in = leb-true (k * (d + 1) + (d + 1)) (length vertices) tests.0

      pub weights-in : k * (d + 1) + (d + 1) ≤ length weights
      weights-in = leb-true (k * (d + 1) + (d + 1)) (length weights) rest-tests.0

      pub shares-in : k * (d + 1) + (d + 1) ≤ length shares
      shares-in = leb-true (k * (d + 1) + (d + 1)) (length shares) rest-tests.1

      pub birth-there : (count : ℕ) (vs ws : List ℕ) (ss : List Float) → count ≡ support (take (k * (d + 1) + (d + 1) - k * (d + 1)) (drop (k * (d + 1)) vertices))
          → vs ≡ four none (take (k * (d + 1) + (d + 1) - k * (d + 1)) (drop (k * (d + 1)) vertices)) → ws ≡ four 0 (take (k * (d + 1) + (d + 1) - k * (d + 1)) (drop (k * (d + 1)) weights))
          → ss ≡ four nought (take (k * (d + 1) + (d + 1) - k * (d + 1)) (drop (k * (d + 1)) shares))
          → Ok (record { count = count; vertices = vs; weights = ws; shares = ss }) ≡ birth_of d k vertices weights shares
      birth-there count vs ws ss f g i j =
          let p : take (k * (d + 1) + (d + 1) - k * (d + 1)) (drop (k * (d + 1)) vertices) ≡ row vertices (suc d) k = part-row vertices (d + 1) k ∙ ap (λ (n : ℕ). row vertices n k) (add-one d) in
          let q : take (k * (d + 1) + (d + 1) - k * (d + 1)) (drop (k * (d + 1)) weights) ≡ row weights (suc d) k = part-row weights (d + 1) k ∙ ap (λ (n : ℕ). row weights n k) (add-one d) in
          let r : take (k * (d + 1) + (d + 1) - k * (d + 1)) (drop (k * (d + 1)) shares) ≡ row shares (suc d) k = part-row shares (d + 1) k ∙ ap (λ (n : ℕ). row shares n k) (add-one d) in
          let has : has_birth (suc d) k (length vertices) (length weights) (length shares) ≡ true = subst (λ (n : ℕ). has_birth n k (length vertices) (length weights) (length shares) ≡ true) (add-one d) e in
          rw (le-ltb 3 d h, has, f ∙ ap support p, g ∙ ap (four none) p, i ∙ ap (four 0) q, j ∙ ap (four nought) r)
