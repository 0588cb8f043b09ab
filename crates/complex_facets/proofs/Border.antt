-- The facets in one cell, one class at a time. Assumes nothing.
use mathlib.Core.Bool.{Bool, true, false}
use mathlib.Core.List.{List, [], ◌∷◌, ◌++◌, append-nil}
use mathlib.Core.Path.{◌≡◌, refl, sym, ap, ◌∙◌}
use Prim.Native.Nat.{ℕ, zero, suc, ◌+◌, ◌*◌, ◌<◌, ◌≤◌}
use native.Mathlib.Nat.{mul-le-mul_right}
use native.Mathlib.Numerals.{add-one}
use native.Mathlib.Decide.{ℕ_discrete, dec_lt}
use native.Mathlib.Omega.{arith}
use lib.Dec.{eqb}
use lib.ListN.{length, get_or, take, drop, set, length-append, get_or-append}
use lib.Seq.{take-suc, take_at, length-take-le, get_or-take, get_or-append_seam}
use borrow.Author.Tests.{eq-eqb, ne_eqb}
use Rattle.lists.proofs.Front.{put}
use Rattle.lists.specs.Rows.{row}
use Rattle.complex.specs.Facets.{Crowded}
use Rattle.complex.specs.Skeleton.{facets_of, rows_with, only_if, keep_if, keep, border_of}
use Rattle.complex_cells.specs.WorkNamed.{row_list, Named}
use Rattle.complex_cells.proofs.Words.{Word}
use Rattle.complex_cells.proofs.Named.{row_list-append, row_list-at}
use Rattle.lists.specs.Words.{none}
use Rattle.complex_facets.specs.WorkClasses.{Classes, lone_rows}

-- ---- the loop
pub lone-skip : (i : ℕ) (reps others : List ℕ) → (get_or others i 0 ≡ none → ⊥) → lone_rows (i + 1) reps others ≡ lone_rows i reps others
unfolding lone_rows
lone-skip i reps others n = rw (add-one i, ne_eqb _ _ n) (append-nil (lone_rows i reps others))

pub lone-more : (i : ℕ) (reps others : List ℕ) → get_or others i 0 ≡ none → lone_rows (i + 1) reps others ≡ lone_rows i reps others ++ (get_or reps i 0 ∷ [])
unfolding lone_rows
lone-more i reps others e = rw (add-one i, eq-eqb _ _ e)

pub lone-length : (i : ℕ) (reps others : List ℕ) → length (lone_rows i reps others) ≤ i
unfolding lone_rows
lone-length zero reps others = omega arith
lone-length (suc i) reps others = omega (arith, length-append (lone_rows i reps others) (only_if (eqb (get_or others i 0) none) (get_or reps i 0)), lone-length i reps others, at_most (eqb (get_or others i 0) none))
  where
    at_most : (t : Bool) → length (only_if t (get_or reps i 0)) ≤ 1
    at_most true = omega arith
    at_most false = omega arith

-- one more is stored
pub lone-turn : (i j : ℕ) (reps others to₀ to : List ℕ) → get_or others i 0 ≡ none → j ≡ length (lone_rows i reps others) → to ≡ lone_rows i reps others ++ drop j to₀ → j < length to₀ →
    (j + 1 ≡ length (lone_rows (i + 1) reps others)) × (set to j (get_or reps i 0) ≡ lone_rows (i + 1) reps others ++ drop (j + 1) to₀)
lone-turn i j reps others to₀ to e n t h =
    let m = lone-more i reps others e in
    (omega (arith, ap length m, length-append (lone_rows i reps others) (get_or reps i 0 ∷ [])), ap (λ (l : List ℕ). set l j (get_or reps i 0)) t ∙ put (lone_rows i reps others) to₀ j (get_or reps i 0) (sym n) h ∙ ap (λ (l : List ℕ). l ++ drop (j + 1) to₀) (sym m))

-- ---- what they are
keep_append : (p : Word → Bool) (xs ys : List Word) → keep p (xs ++ ys) ≡ keep p xs ++ keep p ys
unfolding keep
keep_append p [] ys = refl
keep_append p (x ∷ xs) ys = go (p x) (keep_append p xs ys)
  where
    go : (t : Bool) → keep p (xs ++ ys) ≡ keep p xs ++ keep p ys → keep_if t x (keep p (xs ++ ys)) ≡ keep_if t x (keep p xs) ++ keep p ys
    go true r = ap (λ (l : List Word). x ∷ l) r
    go false r = r

module _ (p : Word → Bool) (keys : List ℕ) (s : ℕ) (reps others : List ℕ) where
  keep_one : (i : ℕ) → p (row keys s (get_or reps i 0)) ≡ eqb (get_or others i 0) none → keep p (row keys s (get_or reps i 0) ∷ []) ≡ row_list keys s (only_if (eqb (get_or others i 0) none) (get_or reps i 0))
  unfolding keep
  keep_one i e = ap (λ (t : Bool). keep_if t (row keys s (get_or reps i 0)) []) e ∙ go (eqb (get_or others i 0) none)
    where
      go : (t : Bool) → keep_if t (row keys s (get_or reps i 0)) [] ≡ row_list keys s (only_if t (get_or reps i 0))
      go true = refl
      go false = refl

  -- the words that pass are the rows of the classes without another row
  lone-words : (f : ℕ) → f ≤ length reps → ((i : ℕ) → i < f → p (row keys s (get_or reps i 0)) ≡ eqb (get_or others i 0) none) → keep p (row_list keys s (take f reps)) ≡ row_list keys s (lone_rows f reps others)
  unfolding lone_rows keep
  lone-words zero h t = refl
  lone-words (suc f) h t =
      ap (λ (l : List ℕ). keep p (row_list keys s l)) (take-suc reps f 0 h) ∙ ap (keep p) (row_list-append keys s (take f reps) (get_or reps f 0 ∷ []))
      ∙ keep_append p (row_list keys s (take f reps)) (row keys s (get_or reps f 0) ∷ [])
      ∙ ap (λ (l : List Word). l ++ keep p (row keys s (get_or reps f 0) ∷ [])) (lone-words f (omega arith) (λ i k. t i (omega arith)))
      ∙ ap (λ (l : List Word). row_list keys s (lone_rows f reps others) ++ l) (keep_one f (t f (omega arith)))
      ∙ sym (row_list-append keys s (lone_rows f reps others) (only_if (eqb (get_or others f 0) none) (get_or reps f 0)))

-- the border of cells whose facets are in classes
module _ (d : ℕ) (cs : List Word) (f : ℕ) (keys reps others : List ℕ) (a : Classes d cs f keys reps others) (free : Crowded d cs → ⊥) where
  facet-at : (i : ℕ) → i < f → get_or (facets_of d cs) i [] ≡ row keys d (get_or reps i 0)
  facet-at i h =
      ap (λ (v : List Word). get_or v i []) a.named.same ∙ row_list-at keys d (take f reps) i (omega (arith, length-take-le f reps a.named.rows.long)) ∙ ap (row keys d) (get_or-take f reps i 0 h)

  test-is : (i : ℕ) → i < f → eqb (length (rows_with d cs (row keys d (get_or reps i 0)))) 1 ≡ eqb (get_or others i 0) none
  test-is i h =
      ap (λ (w : Word). eqb (length (rows_with d cs w)) 1) (sym (facet-at i h))
      ∙ elim (ℕ_discrete (get_or others i 0) none) [
        | yes e ↦ ap (λ (l : List ℕ). eqb (length l) 1) (a.one i h e) ∙ sym (eq-eqb (get_or others i 0) none e)
        | no e ↦ ap (λ (l : List ℕ). eqb (length l) 1) (a.two free i h e) ∙ sym (ne_eqb (get_or others i 0) none e)
      ]

  border-is : border_of d cs ≡ row_list keys d (lone_rows f reps others)
  border-is =
      ap (keep (λ w. eqb (length (rows_with d cs w)) 1)) a.named.same
      ∙ lone-words (λ w. eqb (length (rows_with d cs w)) 1) keys d reps others f a.named.rows.long test-is

  -- each lone row is the lowest row of a class
  lone-inside : (n : ℕ) → n ≤ f → (i : ℕ) → i < length (lone_rows n reps others) → get_or (lone_rows n reps others) i 0 * d + d ≤ length keys
  unfolding lone_rows
  lone-inside zero h i l = absurd (omega arith)
  lone-inside (suc n) h i l =
      elim (dec_lt i (length (lone_rows n reps others))) [
        | yes k ↦ rw (get_or-append (lone_rows n reps others) (only_if (eqb (get_or others n 0) none) (get_or reps n 0)) 0 i k) (lone-inside n (omega arith) i k)
        | no k ↦ last (eqb (get_or others n 0) none) (omega arith) l
      ]
    where
      last : (t : Bool) → length (lone_rows n reps others) ≤ i → i < length (lone_rows n reps others ++ only_if t (get_or reps n 0)) → get_or (lone_rows n reps others ++ only_if t (get_or reps n 0)) i 0 * d + d ≤ length keys
      last true k l =
          let e : i ≡ length (lone_rows n reps others) = omega (arith, length-append (lone_rows n reps others) (get_or reps n 0 ∷ [])) in
          rw (e, get_or-append_seam (lone_rows n reps others) (get_or reps n 0) [] 0) (a.named.rows.inside n h)
      last false k l = absurd (omega (arith, length-append {A = ℕ} (lone_rows n reps others) []))

  pub border-named : (j : ℕ) (to tail : List ℕ) → j ≡ length (lone_rows f reps others) → to ≡ lone_rows f reps others ++ tail → Named (border_of d cs) d j keys to
  border-named j to tail n e =
      let t : take j to ≡ lone_rows f reps others = ap (take j) e ∙ take_at (lone_rows f reps others) tail j (sym n) in
      let m : j ≤ f = omega (arith, lone-length f reps others) in
      record {
        rows =
            record {
              inside = λ i h. rw (e, get_or-append (lone_rows f reps others) tail 0 i (omega arith)) (lone-inside f (omega arith) i (omega arith));
              long = omega (arith, ap length e, length-append (lone_rows f reps others) tail);
              few = omega (arith, a.named.rows.few);
              fits = omega (arith, mul-le-mul_right d m, a.named.rows.fits);
            };
        same = border-is ∙ ap (row_list keys d) (sym t);
      }
