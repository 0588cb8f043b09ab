-- Where no facet lies in three cells, each facet row is counted once: rows and border together are twice the facets, so rows are border and twice the inner facets. Assumes nothing.
use mathlib.Core.Bool.{Bool, true, false}
use mathlib.Core.List.{List, [], ◌∷◌, ◌++◌}
use mathlib.Core.Path.{◌≡◌, refl, sym, ap, ◌∙◌, subst}
use mathlib.Core.Logic.{inl, inr}
use Prim.Native.Nat.{ℕ, zero, suc, ◌+◌, ◌*◌, ◌<◌, ◌≤◌}
use native.Mathlib.Decide.{ℕ_discrete}
use native.Mathlib.Omega.{arith}
use lib.Dec.{eqb}
use lib.ListN.{length, length-append}
use borrow.Author.Tests.{eq-eqb, ne_eqb}
use Rattle.complex.specs.Facets.{Crowded, Cells, slots}
use Rattle.lists.specs.Tables.{tab}
use Rattle.lists.specs.Words.{same_word}
use Rattle.complex.specs.Skeleton.{facet_row_of, facets_of, only_if, numbers, rows_with, keep, border_of}
use Rattle.complex_cells.proofs.Words.{Word, Each, Rising, In, each_in, each_of}
use Rattle.complex_cells.proofs.Order.{Colex, colex-irr}
use Rattle.complex_cells.proofs.Named.{in_colex-has}
use Rattle.lists.proofs.Words.{word-true, word-false}
use Rattle.complex_facets.proofs.Numbers.{tab-in}
use Rattle.skeleton.proofs.Laws.{facets-rising, facet-rows-long, at_least_one, at_most_two}

-- ---- sums over a list of words
abbrev sum_over : (Word → ℕ) → List Word → ℕ
sum_over k [] = 0
sum_over k (f ∷ fs) = k f + sum_over k fs

sum-split : (a b c : Word → ℕ) → ((f : Word) → c f ≡ a f + b f) → (fs : List Word) → sum_over c fs ≡ sum_over a fs + sum_over b fs
sum-split a b c h [] = refl
sum-split a b c h (f ∷ fs) = omega (arith, h f, sum-split a b c h fs)

sum-zero : (fs : List Word) → sum_over (λ f. 0) fs ≡ 0
sum-zero [] = refl
sum-zero (f ∷ fs) = omega (arith, sum-zero fs)

abbrev one_if : Bool → ℕ
one_if true = 1
one_if false = 0

none-same : (w : Word) (fs : List Word) → Each (λ f. w ≡ f → ⊥) fs → sum_over (λ f. one_if (same_word w f)) fs ≡ 0
none-same w [] a = refl
none-same w (f ∷ fs) a = rw (word-false w f a.0) (omega (arith, none-same w fs a.1))

-- a word of a list without duplicates is counted once
once : (R : Word → Word → Type 0) → ((x : Word) → R x x → ⊥) → (w : Word) (fs : List Word) → Rising R fs → In w fs → sum_over (λ f. one_if (same_word w f)) fs ≡ 1
once R irr w [] r m = absurd m
once R irr w (f ∷ fs) r (inl e) =
    rw (word-true w f (sym e)) (omega (arith, none-same w fs (each_of (λ g. w ≡ g → ⊥) fs (λ g k q. irr f (subst (λ (z : Word). R f z) (sym q ∙ sym e) (each_in (R f) g fs r.0 k))))))
once R irr w (f ∷ fs) r (inr m) =
    rw (word-false w f (λ q. irr f (subst (λ (z : Word). R f z) q (each_in (R f) w fs r.0 m)))) (omega (arith, once R irr w fs r.1 m))

-- each of the rows 0 to n - 1 is one of the words: together they are counted n times
module _ (R : Word → Word → Type 0) (irr : (x : Word) → R x x → ⊥) (g : ℕ → Word) (fs : List Word) (up : Rising R fs) where
  counted : (n : ℕ) → ((x : ℕ) → x < n → In (g x) fs) → sum_over (λ f. length (numbers (λ x. same_word (g x) f) n)) fs ≡ n
  unfolding numbers
  counted zero h = sum-zero fs
  counted (suc n) h =
      omega (
        arith,
        sum-split (λ f. length (numbers (λ x. same_word (g x) f) n)) (λ f. one_if (same_word (g n) f)) (λ f. length (numbers (λ x. same_word (g x) f) n ++ only_if (same_word (g n) f) n))
            (λ f. length-append (numbers (λ x. same_word (g x) f) n) (only_if (same_word (g n) f) n) ∙ ap (λ (z : ℕ). length (numbers (λ x. same_word (g x) f) n) + z) (size (same_word (g n) f))) fs,
        counted n (λ x l. h x (omega arith)),
        once R irr (g n) fs up (h n (omega arith)),
      )
    where
      size : (t : Bool) → length (only_if t n) ≡ one_if t
      size true = refl
      size false = refl

-- ones and twos
twice : (k : Word → ℕ) (fs : List Word) → Each (λ f. (1 ≤ k f) × (k f ≤ 2)) fs → sum_over k fs + length (keep (λ f. eqb (k f) 1) fs) ≡ 2 * length fs
unfolding keep
twice k [] a = refl
twice k (f ∷ fs) a =
    elim (ℕ_discrete (k f) 1) [
      | yes e ↦ rw (eq-eqb (k f) 1 e) (omega (arith, twice k fs a.1))
      | no e ↦ rw (ne_eqb (k f) 1 e) (let h = a.0.0 in let l = a.0.1 in omega (arith, twice k fs a.1))
    ]

-- the number of facet rows is the border and twice the inner facets
pub rows-count : (d : ℕ) (cs : List Word) → Cells d cs → (Crowded d cs → ⊥) → length cs * slots d + length (border_of d cs) ≡ 2 * length (facets_of d cs)
rows-count d cs good free =
    let a = counted (Colex d) (colex-irr d) (facet_row_of d cs) (facets_of d cs) (facets-rising d cs) (length cs * slots d)
    (λ x h. in_colex-has d (tab (length cs * slots d) (facet_row_of d cs)) (facet_row_of d cs x) (facet-rows-long d cs good) (tab-in (length cs * slots d) (facet_row_of d cs) x h)) in
    let b = twice (λ f. length (rows_with d cs f)) (facets_of d cs) (each_of (λ f. (1 ≤ length (rows_with d cs f)) × (length (rows_with d cs f) ≤ 2)) (facets_of d cs) (λ f m. (at_least_one d cs good free f m, at_most_two d cs good free f m))) in
    omega (arith, a, b)
