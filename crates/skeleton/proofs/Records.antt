-- The border by the records: a facet lies in one cell exactly where its record names no other cell. Assumes nothing.
use mathlib.Core.Bool.{Bool, true, false}
use mathlib.Core.List.{List, [], ◌∷◌, ◌++◌, append-nil}
use mathlib.Core.Path.{◌≡◌, refl, subst}
use Prim.Native.Nat.{ℕ, zero, suc, ◌*◌, ◌/◌, ◌<◌, ◌≤◌}
use native.Mathlib.Nat.{div-le_self}
use native.Mathlib.Decide.{dec_lt}
use native.Mathlib.Omega.{arith}
use lib.ListN.{length, get_or, drop, length-append, get_or-append}
use lib.Seq.{get_or-append_seam}
use Rattle.lists.specs.Words.{same_word, none}
use Rattle.complex.specs.Facets.{slots}
use Rattle.complex.specs.Skeleton.{facet_row_of, only_if, numbers, rows_with}
use Rattle.complex_facets.specs.Records.{signed_of, agree_of, record_of}

-- the numbers below n that pass a test are below n
numbers-below : (p : ℕ → Bool) (n j : ℕ) → j < length (numbers p n) → get_or (numbers p n) j 0 < n
unfolding numbers
numbers-below p zero j h = absurd (omega arith)
numbers-below p (suc n) j h = go (p n) (numbers-below p n j) h
  where
    go : (t : Bool) → (j < length (numbers p n) → get_or (numbers p n) j 0 < n) → j < length (numbers p n ++ only_if t n) → get_or (numbers p n ++ only_if t n) j 0 < suc n
    go false b k =
        let e = append-nil (numbers p n) in
        rw e (let l : j < length (numbers p n) = rw e at k in omega (arith, b l))
    go true b k =
        elim (dec_lt j (length (numbers p n))) [
          | yes l ↦ rw (get_or-append (numbers p n) (n ∷ []) 0 j l) (omega (arith, b l))
          | no l ↦
              let e : length (numbers p n) ≡ j = omega (arith, length-append (numbers p n) (n ∷ [])) in
              subst (λ (i : ℕ). get_or (numbers p n ++ (n ∷ [])) i 0 < suc n) e (rw (get_or-append_seam (numbers p n) n [] 0) (omega arith))
        ]

module _ (d : ℕ) (cs ks : List (List ℕ)) (f : List ℕ) (few : length cs * slots d ≤ none) where
  -- the third number of a facet's record
  abbrev other : List ℕ → ℕ
  other l = get_or (signed_of d l ++ (signed_of d (drop 1 l) ++ (agree_of d cs ks l ∷ []))) 2 0

  pub border-none : length (rows_with d cs f) ≡ 1 → get_or (record_of d cs ks f) 2 0 ≡ none
  border-none e = go (rows_with d cs f) e
    where
      go : (l : List ℕ) → length l ≡ 1 → other l ≡ none
      go [] h = absurd (omega arith)
      go (x ∷ []) h = refl
      go (x ∷ y ∷ l) h = absurd (omega arith)

  pub none-border : 0 < length (rows_with d cs f) → get_or (record_of d cs ks f) 2 0 ≡ none → length (rows_with d cs f) ≡ 1
  none-border h e = go (rows_with d cs f) (numbers-below (λ x. same_word (facet_row_of d cs x) f) (length cs * slots d) 1) h e
    where
      go : (l : List ℕ) → (1 < length l → get_or l 1 0 < length cs * slots d) → 0 < length l → other l ≡ none → length l ≡ 1
      go [] b k q = absurd (omega arith)
      go (x ∷ []) b k q = refl
      go (x ∷ y ∷ l) b k q = let t : y / slots d ≡ none = q in absurd (omega (arith, b (omega arith), div-le_self y (slots d), t, few))
