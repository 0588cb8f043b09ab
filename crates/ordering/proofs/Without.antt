-- The word without a vertex, one number at a time. Assumes nothing.
use mathlib.Core.Bool.{Bool, true, false}
use mathlib.Core.List.{List, [], ◌∷◌}
use mathlib.Core.Path.{◌≡◌, refl, sym, ap, ◌∙◌}
use Prim.Native.Nat.{ℕ, ◌+◌, ◌<◌, ◌≤◌}
use native.Mathlib.Numerals.{add-one}
use lib.ListN.{length, get_or, drop, drop_of_length-le}
use lib.Seq.{drop-cons}
use borrow.Author.Tests.{eq-eqb, ne_eqb}
use Rattle.lists.specs.Words.{same_word, without}
use Rattle.lists.proofs.Words.{same-yes, same-no}

pub without-hit : (v : ℕ) (w : List ℕ) (i : ℕ) → i < length w → get_or w i 0 ≡ v → without v (drop i w) ≡ without v (drop (i + 1) w)
without-hit v w i h e = rw add-one (ap (without v) (drop-cons w i 0 h) ∙ rw (same-yes v (get_or w i 0) (sym e)))

pub without-miss : (v : ℕ) (w : List ℕ) (i : ℕ) → i < length w → (get_or w i 0 ≡ v → ⊥) → without v (drop i w) ≡ get_or w i 0 ∷ without v (drop (i + 1) w)
without-miss v w i h e = rw add-one (ap (without v) (drop-cons w i 0 h) ∙ rw (same-no v (get_or w i 0) (λ q. e (sym q))))

pub without_end : (v : ℕ) (w : List ℕ) (i : ℕ) → length w ≤ i → without v (drop i w) ≡ []
without_end v w i h = ap (without v) (drop_of_length-le w h)

-- ---- what is left to compare
pub same-nil : same_word [] [] ≡ true
same-nil = refl

pub same-longer : (x : ℕ) (w : List ℕ) → same_word [] (x ∷ w) ≡ false
same-longer x w = refl

pub same-shorter : (x : ℕ) (w : List ℕ) → same_word (x ∷ w) [] ≡ false
same-shorter x w = refl

pub same-heads : (x y : ℕ) (w u : List ℕ) → x ≡ y → same_word (x ∷ w) (y ∷ u) ≡ same_word w u
same-heads x y w u e = rw (eq-eqb x y e)

pub other-heads : (x y : ℕ) (w u : List ℕ) → (x ≡ y → ⊥) → same_word (x ∷ w) (y ∷ u) ≡ false
other-heads x y w u e = rw (ne_eqb x y e)

-- the words from i and from j on
abbrev pub From : List ℕ → ℕ → List ℕ → ℕ → ℕ → ℕ → Bool
From w v u t i j = same_word (without v (drop i w)) (without t (drop j u))

module _ (w : List ℕ) (v : ℕ) (u : List ℕ) (t : ℕ) (i j : ℕ) (hi : i < length w) where
  pub skip-left : get_or w i 0 ≡ v → From w v u t i j ≡ From w v u t (i + 1) j
  skip-left e = ap (λ (l : List ℕ). same_word l (without t (drop j u))) (without-hit v w i hi e)

  module _ (e : get_or w i 0 ≡ v → ⊥) where
    left : without v (drop i w) ≡ get_or w i 0 ∷ without v (drop (i + 1) w)
    left = without-miss v w i hi e

    pub ran_out : length u ≤ j → From w v u t i j ≡ false
    ran_out h = ap (λ (l : List ℕ). same_word l (without t (drop j u))) left ∙ ap (same_word (get_or w i 0 ∷ without v (drop (i + 1) w))) (without_end t u j h) ∙ same-shorter (get_or w i 0) (without v (drop (i + 1) w))

    module _ (hj : j < length u) where
      pub skip-right : get_or u j 0 ≡ t → From w v u t i j ≡ From w v u t i (j + 1)
      skip-right f = ap (same_word (without v (drop i w))) (without-hit t u j hj f)

      module _ (f : get_or u j 0 ≡ t → ⊥) where
        both : From w v u t i j ≡ same_word (get_or w i 0 ∷ without v (drop (i + 1) w)) (get_or u j 0 ∷ without t (drop (j + 1) u))
        both = ap (λ (l : List ℕ). same_word l (without t (drop j u))) left ∙ ap (same_word (get_or w i 0 ∷ without v (drop (i + 1) w))) (without-miss t u j hj f)

        pub step_both : get_or w i 0 ≡ get_or u j 0 → From w v u t i j ≡ From w v u t (i + 1) (j + 1)
        step_both s = both ∙ same-heads (get_or w i 0) (get_or u j 0) (without v (drop (i + 1) w)) (without t (drop (j + 1) u)) s

        pub step_other : (get_or w i 0 ≡ get_or u j 0 → ⊥) → From w v u t i j ≡ false
        step_other s = both ∙ other-heads (get_or w i 0) (get_or u j 0) (without v (drop (i + 1) w)) (without t (drop (j + 1) u)) s

pub left_out : (w : List ℕ) (v : ℕ) (u : List ℕ) (t i j : ℕ) → length w ≤ i → From w v u t i j ≡ same_word [] (without t (drop j u))
left_out w v u t i j h = ap (λ (l : List ℕ). same_word l (without t (drop j u))) (without_end v w i h)

-- only t is left
pub only-hit : (t : ℕ) (u : List ℕ) (j : ℕ) → j < length u → get_or u j 0 ≡ t → same_word [] (without t (drop j u)) ≡ same_word [] (without t (drop (j + 1) u))
only-hit t u j h e = ap (same_word []) (without-hit t u j h e)

pub only-miss : (t : ℕ) (u : List ℕ) (j : ℕ) → j < length u → (get_or u j 0 ≡ t → ⊥) → same_word [] (without t (drop j u)) ≡ false
only-miss t u j h e = ap (same_word []) (without-miss t u j h e) ∙ same-longer (get_or u j 0) (without t (drop (j + 1) u))

pub only_end : (t : ℕ) (u : List ℕ) (j : ℕ) → length u ≤ j → same_word [] (without t (drop j u)) ≡ true
only_end t u j h = ap (same_word []) (without_end t u j h) ∙ same-nil
