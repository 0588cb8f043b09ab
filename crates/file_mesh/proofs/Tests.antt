-- The tests of single fields, case by case as the code makes them. Assumes nothing.
use mathlib.Core.Path.{◌≡◌, refl, sym, ap, subst, ◌∙◌}
use mathlib.Core.Bool.{true, false}
use mathlib.Core.List.{List, ◌++◌}
use Prim.Native.Nat.{ℕ, zero, suc, ◌+◌, ◌-◌, ◌≤◌, ◌<◌}
use native.Mathlib.Numerals.{add-one}
use native.Mathlib.Omega.{arith}
use lib.ListN.{length, get_or, take, length-append}
use lib.Seq.{take_at}
use lib.Dec.{eqb}
use borrow.Author.Tests.{lt-ltb, le-ltb, le-leb, lt-leb, eq-eqb, ne_eqb}
use Rattle.multiindex.specs.Sort.{sort_word}
use Rattle.multiindex.proofs.SortLaws.{sort-length}
use Rattle.complex.specs.Cells.{comes_before, decides}
use Rattle.file_mesh.specs.declared.Run.{Run}
use Rattle.file_mesh.specs.Rules.{more, begun, number_fits, refinement_fits, run_ends}

module _ (vertices : ℕ) (run : Run) (n : ℕ) where
  pub number-high : vertices ≤ n → false ≡ number_fits vertices run n
  number-high h = rw (le-ltb n vertices h)

  pub number-first : n < vertices → run.r ≡ 0 → true ≡ number_fits vertices run n
  number-first h e = rw (lt-ltb n vertices h, eq-eqb run.r 0 e)

  pub number-next : n < vertices → (run.r ≡ 0 → ⊥) → eqb n run.next ≡ number_fits vertices run n
  number-next h e = rw (lt-ltb n vertices h, ne_eqb run.r 0 e)

module _ (run : Run) (r : ℕ) where
  pub refinement-low : r < 2 → false ≡ refinement_fits run r
  refinement-low h = rw (lt-leb 2 r h)

  pub refinement-high : 2 ≤ r → 64 < r → false ≡ refinement_fits run r
  refinement-high h k = rw (le-leb 2 r h, lt-leb r 64 k)

  pub refinement-first : 2 ≤ r → r ≤ 64 → run.r ≡ 0 → true ≡ refinement_fits run r
  refinement-first h k e = rw (le-leb 2 r h, le-leb r 64 k, eq-eqb run.r 0 e)

  pub refinement-same : 2 ≤ r → r ≤ 64 → (run.r ≡ 0 → ⊥) → eqb r run.r ≡ refinement_fits run r
  refinement-same h k e = rw (le-leb 2 r h, le-leb r 64 k, ne_eqb run.r 0 e)

module _ (vertices : ℕ) (run : Run) where
  pub ends-none : run.r ≡ 0 → true ≡ run_ends vertices run
  ends-none e = rw (eq-eqb run.r 0 e)

  pub ends_some : (run.r ≡ 0 → ⊥) → eqb run.next vertices ≡ run_ends vertices run
  ends_some e = rw (ne_eqb run.r 0 e)

begun-some : (k : ℕ) (run : Run) (n r : ℕ) → (k ≡ 0 → ⊥) → ◌≡◌ {A = Run} (record { first = run.first; r = r; next = n + 1 }) (begun k run n r)
unfolding begun
begun-some zero run n r f = absurd (f refl)
begun-some (suc k) run n r f = rw (add-one n)

module _ (run : Run) (n r : ℕ) where
  pub more-first : run.r ≡ 0 → ◌≡◌ {A = Run} (record { first = n; r = r; next = n + 1 }) (more run n r)
  unfolding begun
  more-first e = rw (e, add-one n)

  pub more-next : (run.r ≡ 0 → ⊥) → ◌≡◌ {A = Run} (record { first = run.first; r = r; next = n + 1 }) (more run n r)
  more-next e = begun-some run.r run n r e

-- ---- one word before another

pub before-yes : (i : ℕ) (v w : List ℕ) → 0 < i → get_or v (i - 1) 0 < get_or w (i - 1) 0 → comes_before i v w ≡ true
unfolding comes_before decides
before-yes zero v w h k = absurd (omega arith)
before-yes (suc i) v w h k =
    let e : suc i - 1 ≡ i = omega arith in
    rw (lt-ltb (get_or v i 0) (get_or w i 0) (subst (λ (j : ℕ). get_or v j 0 < get_or w j 0) e k))

pub before-not : (i : ℕ) (v w : List ℕ) → 0 < i → get_or w (i - 1) 0 < get_or v (i - 1) 0 → comes_before i v w ≡ false
unfolding comes_before decides
before-not zero v w h k = absurd (omega arith)
before-not (suc i) v w h k =
    let e : suc i - 1 ≡ i = omega arith in
    let q : get_or w i 0 < get_or v i 0 = subst (λ (j : ℕ). get_or w j 0 < get_or v j 0) e k in
    rw (le-ltb (get_or v i 0) (get_or w i 0) (omega arith), ne_eqb (get_or v i 0) (get_or w i 0) (λ s. omega arith))

pub before_same : (i : ℕ) (v w : List ℕ) → 0 < i → get_or w (i - 1) 0 ≤ get_or v (i - 1) 0 → get_or v (i - 1) 0 ≤ get_or w (i - 1) 0 → comes_before i v w ≡ comes_before (i - 1) v w
unfolding comes_before decides
before_same zero v w h p q = absurd (omega arith)
before_same (suc i) v w h p q =
    let e : suc i - 1 ≡ i = omega arith in
    let a : get_or w i 0 ≤ get_or v i 0 = subst (λ (j : ℕ). get_or w j 0 ≤ get_or v j 0) e p in
    let b : get_or v i 0 ≤ get_or w i 0 = subst (λ (j : ℕ). get_or v j 0 ≤ get_or w j 0) e q in
    rw (le-ltb (get_or v i 0) (get_or w i 0) a, eq-eqb (get_or v i 0) (get_or w i 0) (omega arith), e)

pub before-none : (v w : List ℕ) → comes_before 0 v w ≡ false
unfolding comes_before
before-none v w = refl

-- ---- a word sorted at the front of a list

module _ (w ys z : List ℕ) (e : ys ≡ w) where
  pub copied-fits : length w ≤ length (ys ++ z)
  copied-fits = omega (arith, length-append ys z, ap length e)

  pub copied-front : take (length w) (ys ++ z) ≡ w
  copied-front = take_at ys z (length w) (ap length e) ∙ e

  pub copied-long : length w ≡ length (take (length w) (ys ++ z))
  copied-long = sym (ap length copied-front)

  pub sorted_front : (zs x : List ℕ) → zs ≡ sort_word (take (length w) (ys ++ z)) → take (length w) (zs ++ x) ≡ sort_word w
  sorted_front zs x q =
      let s : zs ≡ sort_word w = q ∙ ap sort_word copied-front in
      take_at zs x (length w) (ap length s ∙ sort-length w) ∙ s
