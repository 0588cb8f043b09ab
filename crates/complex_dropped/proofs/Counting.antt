-- The numbers that pass a test, rising, and how many of them lie below a number. Assumes nothing.
use mathlib.Core.Bool.{Bool, true, false}
use mathlib.Core.List.{List, [], ◌∷◌, ◌++◌, append-nil}
use mathlib.Core.Path.{◌≡◌, refl, sym, ap, ◌∙◌, subst}
use mathlib.Core.Logic.{⊎_elim}
use Prim.Native.Nat.{ℕ, zero, suc, ◌<◌, ◌≤◌}
use native.Mathlib.Nat.{eq-or-lt_of_le, le_of_suc-le-suc, le_refl}
use native.Mathlib.Decide.{dec_lt}
use native.Mathlib.Omega.{arith}
use lib.ListN.{length, get_or, length-append, get_or-append}
use lib.Seq.{get_or-append_seam}
use Rattle.lists.specs.Tables.{upto}
use Rattle.lists.proofs.Tables.{tab-more}
use Rattle.complex.specs.Skeleton.{numbers}

module _ (p : ℕ → Bool) where
  pub numbers-yes : (n : ℕ) → p n ≡ true → numbers p (suc n) ≡ numbers p n ++ (n ∷ [])
  unfolding numbers
  numbers-yes n e = rw e

  pub numbers-no : (n : ℕ) → p n ≡ false → numbers p (suc n) ≡ numbers p n
  unfolding numbers
  numbers-no n e = rw e (append-nil (numbers p n))

  pub count_yes : (n : ℕ) → p n ≡ true → length (numbers p (suc n)) ≡ suc (length (numbers p n))
  count_yes n e = ap length (numbers-yes n e) ∙ length-append (numbers p n) (n ∷ []) ∙ omega arith

  pub count_no : (n : ℕ) → p n ≡ false → length (numbers p (suc n)) ≡ length (numbers p n)
  count_no n e = ap length (numbers-no n e)

  count-step : (n : ℕ) (t : Bool) → p n ≡ t → length (numbers p n) ≤ length (numbers p (suc n))
  count-step n true e = omega (arith, count_yes n e)
  count-step n false e = omega (arith, count_no n e)

  pub count-mono : (u v : ℕ) → u ≤ v → length (numbers p u) ≤ length (numbers p v)
  count-mono u zero h = let e : u ≡ zero = omega arith in rw e (le_refl (length (numbers p zero)))
  count-mono u (suc v) h =
      ⊎_elim (λ (e : u ≡ suc v). rw e (le_refl (length (numbers p (suc v))))) (λ (l : u < suc v). omega (arith, count-step v (p v) refl, count-mono u v (omega arith))) (eq-or-lt_of_le h)

  -- a number that passes is counted above it
  pub count_less : (u v : ℕ) → u < v → p u ≡ true → length (numbers p u) < length (numbers p v)
  count_less u v h e = omega (arith, count_yes u e, count-mono (suc u) v h)

  pub count_most : (n : ℕ) → length (numbers p n) ≤ n
  unfolding numbers
  count_most zero = omega arith
  count_most (suc n) = go (p n) refl (count_most n)
    where
      go : (t : Bool) → p n ≡ t → length (numbers p n) ≤ n → length (numbers p (suc n)) ≤ suc n
      go true e r = omega (arith, count_yes n e)
      go false e r = omega (arith, count_no n e)

  -- a number that passes stands where as many are before it as lie below it
  pub numbers-at : (n v : ℕ) → v < n → p v ≡ true → get_or (numbers p n) (length (numbers p v)) 0 ≡ v
  numbers-at zero v h e = absurd (omega arith)
  numbers-at (suc n) v h e =
      ⊎_elim
      (λ (s : v ≡ n). subst (λ (z : ℕ). get_or (numbers p (suc n)) (length (numbers p z)) 0 ≡ z) (sym s)
      (ap (λ (l : List ℕ). get_or l (length (numbers p n)) 0) (numbers-yes n (ap p (sym s) ∙ e)) ∙ get_or-append_seam (numbers p n) n [] 0))
      (λ (l : v < n). go (p n) refl l (numbers-at n v l e))
      (eq-or-lt_of_le (le_of_suc-le-suc h))
    where
      go : (t : Bool) → p n ≡ t → v < n → get_or (numbers p n) (length (numbers p v)) 0 ≡ v → get_or (numbers p (suc n)) (length (numbers p v)) 0 ≡ v
      go true q l r = ap (λ (l : List ℕ). get_or l (length (numbers p v)) 0) (numbers-yes n q) ∙ get_or-append (numbers p n) (n ∷ []) 0 (length (numbers p v)) (count_less v n l e) ∙ r
      go false q l r = ap (λ (l : List ℕ). get_or l (length (numbers p v)) 0) (numbers-no n q) ∙ r

  -- what stands at i: it passes, it is below the bound, and i of the others are below it
  pub record Stands (n i x : ℕ) : Type 0 where
    pub low : x < n
    pub passes : p x ≡ true
    pub rank : length (numbers p x) ≡ i

  pub numbers-stands : (n i : ℕ) → i < length (numbers p n) → Stands n i (get_or (numbers p n) i 0)
  unfolding numbers
  numbers-stands zero i h = absurd (omega arith)
  numbers-stands (suc n) i h = go (p n) refl (numbers-stands n i)
    where
      up : (x : ℕ) → Stands n i x → Stands (suc n) i x
      up x s = record { low = omega (arith, s.low); passes = s.passes; rank = s.rank }

      go : (t : Bool) → p n ≡ t → (i < length (numbers p n) → Stands n i (get_or (numbers p n) i 0)) → Stands (suc n) i (get_or (numbers p (suc n)) i 0)
      go false e r =
          subst (λ (l : List ℕ). Stands (suc n) i (get_or l i 0)) (sym (numbers-no n e)) (up (get_or (numbers p n) i 0) (r (omega (arith, count_no n e))))
      go true e r =
          ⊎_elim
          (λ (s : i ≡ length (numbers p n)).
          let f : get_or (numbers p (suc n)) i 0 ≡ n = ap (λ (l : List ℕ). get_or l i 0) (numbers-yes n e) ∙ ap (λ (z : ℕ). get_or (numbers p n ++ (n ∷ [])) z 0) s ∙ get_or-append_seam (numbers p n) n [] 0 in
          subst (λ (z : ℕ). Stands (suc n) i z) (sym f) (record { low = omega arith; passes = e; rank = sym s }))
          (λ (l : i < length (numbers p n)).
          let f : get_or (numbers p (suc n)) i 0 ≡ get_or (numbers p n) i 0 = ap (λ (l : List ℕ). get_or l i 0) (numbers-yes n e) ∙ get_or-append (numbers p n) (n ∷ []) 0 i l in
          subst (λ (z : ℕ). Stands (suc n) i z) (sym f) (up (get_or (numbers p n) i 0) (r l)))
          (eq-or-lt_of_le (le_of_suc-le-suc (rw (count_yes n e) at h)))

  -- they rise
  pub numbers-rising : (n i j : ℕ) → i < j → j < length (numbers p n) → get_or (numbers p n) i 0 < get_or (numbers p n) j 0
  numbers-rising n i j l h =
      let a = numbers-stands n i (omega arith) in
      let b = numbers-stands n j h in
      elim (dec_lt (get_or (numbers p n) i 0) (get_or (numbers p n) j 0)) [
        | yes k ↦ k
        | no k ↦ absurd (omega (arith, count-mono (get_or (numbers p n) j 0) (get_or (numbers p n) i 0) (omega arith), a.rank, b.rank))
      ]

  -- numbers that all fail add nothing
  pub numbers-past : (m n : ℕ) → m ≤ n → ((v : ℕ) → m ≤ v → v < n → p v ≡ false) → numbers p n ≡ numbers p m
  numbers-past m zero h f = ap (numbers p) (omega arith)
  numbers-past m (suc n) h f =
      ⊎_elim (λ (e : m ≡ suc n). ap (numbers p) (sym e))
      (λ (l : m < suc n). numbers-no n (f n (omega arith) (omega arith)) ∙ numbers-past m n (omega arith) (λ v a b. f v a (omega arith)))
      (eq-or-lt_of_le h)

-- two tests that agree below n have the same numbers
pub numbers-same : (p q : ℕ → Bool) (n : ℕ) → ((v : ℕ) → v < n → p v ≡ q v) → numbers p n ≡ numbers q n
unfolding numbers
numbers-same p q zero f = refl
numbers-same p q (suc n) f = let r : numbers p n ≡ numbers q n = numbers-same p q n (λ v h. f v (omega arith)) in let e : p n ≡ q n = f n (omega arith) in rw (r, e)

-- all numbers pass: as many as there are
pub count-all : (p : ℕ → Bool) (n : ℕ) → ((v : ℕ) → v < n → p v ≡ true) → length (numbers p n) ≡ n
unfolding numbers
count-all p zero f = refl
count-all p (suc n) f = count_yes p n (f n (omega arith)) ∙ ap suc (count-all p n (λ v h. f v (omega arith)))

pub numbers-all : (p : ℕ → Bool) (n : ℕ) → ((v : ℕ) → v < n → p v ≡ true) → numbers p n ≡ upto n
unfolding numbers
numbers-all p zero f = refl
numbers-all p (suc n) f = numbers-yes p n (f n (omega arith)) ∙ ap (λ (l : List ℕ). l ++ (n ∷ [])) (numbers-all p n (λ v h. f v (omega arith))) ∙ sym (tab-more n (λ i. i))
