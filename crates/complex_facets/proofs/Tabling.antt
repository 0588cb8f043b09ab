-- The facet table, one facet at a time, and what it holds. Assumes nothing.
use mathlib.Core.List.{List, [], ◌∷◌, ◌++◌, append_assoc, append-nil}
use mathlib.Core.Path.{◌≡◌, refl, sym, ap, ◌∙◌}
use Prim.Native.Nat.{ℕ, zero, suc, ◌+◌, ◌*◌, ◌<◌, ◌≤◌}
use native.Mathlib.Nat.{suc-mul}
use native.Mathlib.Numerals.{add-one}
use native.Mathlib.Decide.{ℕ_discrete}
use native.Mathlib.Omega.{arith}
use lib.ListN.{length, get_or, take, drop, set, length-append}
use lib.Seq.{take-suc, take-length}
use borrow.Author.Tests.{eq-eqb, ne_eqb}
use Rattle.lists.proofs.Front.{put}
use Rattle.complex.specs.Facets.{Crowded, slots}
use Rattle.complex.specs.Skeleton.{facets_of}
use Rattle.complex_cells.proofs.Words.{Word}
use Rattle.complex_cells.proofs.Named.{named-many}
use Rattle.lists.specs.Words.{none}
use Rattle.complex_facets.specs.WorkClasses.{Classes}
use Rattle.complex_facets.specs.Sides.{side_of, sides_of, each_sides, table_of}
use Rattle.complex_facets.specs.WorkSides.{cell_of, place_of, four_of, fours}

snoc-length : (p : List ℕ) (a n : ℕ) → length p ≡ n → length (p ++ (a ∷ [])) ≡ n + 1
snoc-length p a n e = omega (arith, length-append p (a ∷ []))

-- four numbers more behind p
put_four : (p t : List ℕ) (n a b c e : ℕ) → length p ≡ n → n + 4 ≤ length t →
    set (set (set (set (p ++ drop n t) n a) (n + 1) b) (n + 1 + 1) c) (n + 1 + 1 + 1) e ≡ (p ++ (a ∷ b ∷ c ∷ e ∷ [])) ++ drop (n + 4) t
put_four p t n a b c e l h =
    let l1 = snoc-length p a n l in
    let l2 = snoc-length (p ++ (a ∷ [])) b (n + 1) l1 in
    let l3 = snoc-length ((p ++ (a ∷ [])) ++ (b ∷ [])) c (n + 1 + 1) l2 in
    let e1 = put p t n a l (omega arith) in
    let e2 = put (p ++ (a ∷ [])) t (n + 1) b l1 (omega arith) in
    let e3 = put ((p ++ (a ∷ [])) ++ (b ∷ [])) t (n + 1 + 1) c l2 (omega arith) in
    let e4 = put (((p ++ (a ∷ [])) ++ (b ∷ [])) ++ (c ∷ [])) t (n + 1 + 1 + 1) e l3 (omega arith) in
    let i : n + 1 + 1 + 1 + 1 ≡ n + 4 = omega arith in
    let g : (((p ++ (a ∷ [])) ++ (b ∷ [])) ++ (c ∷ [])) ++ (e ∷ []) ≡ p ++ (a ∷ b ∷ c ∷ e ∷ []) = simp append_assoc in
    ap (λ (z : List ℕ). set (set (set z (n + 1) b) (n + 1 + 1) c) (n + 1 + 1 + 1) e) e1
    ∙ ap (λ (z : List ℕ). set (set z (n + 1 + 1) c) (n + 1 + 1 + 1) e) e2
    ∙ ap (λ (z : List ℕ). set z (n + 1 + 1 + 1) e) e3
    ∙ e4
    ∙ ap (λ (z : List ℕ). z ++ drop (n + 1 + 1 + 1 + 1) t) g
    ∙ ap (λ (z : ℕ). (p ++ (a ∷ b ∷ c ∷ e ∷ [])) ++ drop z t) i

module _ (d k : ℕ) (reps others : List ℕ) where
  pub fours-length : (f : ℕ) → length (fours d k f reps others) ≡ f * 4
  unfolding fours
  fours-length zero = refl
  fours-length (suc f) =
      omega (arith, length-append (fours d k f reps others) (four_of d k (get_or reps f 0) (get_or others f 0)), fours-length f, suc-mul f 4)

  pub fours-turn : (i : ℕ) (table₀ table : List ℕ) (a b c e : ℕ) → i * 4 + 4 ≤ length table₀ → table ≡ fours d k i reps others ++ drop (i * 4) table₀ → a ≡ cell_of k (get_or reps i 0) → b ≡ place_of d k (get_or reps i 0) → c ≡ cell_of k (get_or others i 0) → e ≡ place_of d k (get_or others i 0) →
      set (set (set (set table (i * 4) a) (i * 4 + 1) b) (i * 4 + 1 + 1) c) (i * 4 + 1 + 1 + 1) e ≡ fours d k (i + 1) reps others ++ drop ((i + 1) * 4) table₀
  unfolding fours
  fours-turn i table₀ table a b c e h t ea eb ec ee =
      let n : (i + 1) * 4 ≡ i * 4 + 4 = omega arith in
      let q : a ∷ b ∷ c ∷ e ∷ [] ≡ four_of d k (get_or reps i 0) (get_or others i 0) = cc in
      ap (λ (z : List ℕ). set (set (set (set z (i * 4) a) (i * 4 + 1) b) (i * 4 + 1 + 1) c) (i * 4 + 1 + 1 + 1) e) t
      ∙ put_four (fours d k i reps others) table₀ (i * 4) a b c e (fours-length i) h
      ∙ ap (λ (z : List ℕ). (fours d k i reps others ++ z) ++ drop (i * 4 + 4) table₀) q
      ∙ rw (add-one i) (ap (λ (z : ℕ). (fours d k i reps others ++ four_of d k (get_or reps i 0) (get_or others i 0)) ++ drop z table₀) (sym n ∙ ap (λ (z : ℕ). z * 4) (add-one i)))

-- ---- what it holds
sides-append : (d : ℕ) (cs xs ys : List Word) → each_sides d cs (xs ++ ys) ≡ each_sides d cs xs ++ each_sides d cs ys
unfolding each_sides
sides-append d cs [] ys = refl
sides-append d cs (x ∷ xs) ys = ap (λ (l : List ℕ). sides_of d cs x ++ l) (sides-append d cs xs ys) ∙ sym (append_assoc (sides_of d cs x) (each_sides d cs xs) (each_sides d cs ys))

sides-one : (d : ℕ) (cs : List Word) (x : Word) → each_sides d cs (x ∷ []) ≡ sides_of d cs x
unfolding each_sides
sides-one d cs x = append-nil (sides_of d cs x)

module _ (d : ℕ) (cs : List Word) (f : ℕ) (keys reps others : List ℕ) (a : Classes d cs f keys reps others) (free : Crowded d cs → ⊥) where
  many : length (facets_of d cs) ≡ f
  many = named-many (facets_of d cs) d f keys reps a.named

  four_is : (i : ℕ) → i < f → sides_of d cs (get_or (facets_of d cs) i []) ≡ four_of d (slots d) (get_or reps i 0) (get_or others i 0)
  four_is i h =
      let n : get_or reps i 0 ≡ none → ⊥ = λ e. omega (arith, a.small i h) in
      elim (ℕ_discrete (get_or others i 0) none) [
        | yes e ↦ ap (λ (l : List ℕ). side_of d l ++ side_of d (drop 1 l)) (a.one i h e) ∙ rw (ne_eqb (get_or reps i 0) none n, eq-eqb (get_or others i 0) none e)
        | no e ↦ ap (λ (l : List ℕ). side_of d l ++ side_of d (drop 1 l)) (a.two free i h e) ∙ rw (ne_eqb (get_or reps i 0) none n, ne_eqb (get_or others i 0) none e)
      ]

  fours-are : (n : ℕ) → n ≤ f → each_sides d cs (take n (facets_of d cs)) ≡ fours d (slots d) n reps others
  unfolding fours each_sides
  fours-are zero h = refl
  fours-are (suc n) h =
      ap (each_sides d cs) (take-suc (facets_of d cs) n [] (omega (arith, many))) ∙ sides-append d cs (take n (facets_of d cs)) (get_or (facets_of d cs) n [] ∷ [])
      ∙ ap (λ (l : List ℕ). each_sides d cs (take n (facets_of d cs)) ++ l) (sides-one d cs (get_or (facets_of d cs) n []) ∙ four_is n h)
      ∙ ap (λ (l : List ℕ). l ++ four_of d (slots d) (get_or reps n 0) (get_or others n 0)) (fours-are n (omega arith))

  pub table_is : table_of d cs ≡ fours d (slots d) f reps others
  table_is = ap (each_sides d cs) (sym (take-length (facets_of d cs)) ∙ ap (λ (n : ℕ). take n (facets_of d cs)) many) ∙ fours-are f (omega arith)
