-- The words of a grid by its classes pass the checks of a cell list except 4: they are whole, few, below the limit, and no class is left out. So the check of a cell list
-- answers 4 at the first word that names a class twice, or nothing. Assumes nothing.
use Rattle.refusal.specs.declared.Refusal.TheVariants.{BadDimension, RaggedWords, TooManyCells, VertexTwice}
use Rattle.refusal.specs.Says.{Answer, fine}
use Rattle.std.specs.Prelude.{Err}
use mathlib.Core.Path.{◌≡◌, sym, ap, subst, ◌∙◌}
use mathlib.Core.Bool.{Bool, true, false, not}
use mathlib.Core.Logic.{⊎_elim}
use mathlib.Core.List.{List, [], ◌∷◌}
use Prim.Native.Nat.{ℕ, ◌+◌, ◌/◌, ◌%◌, ◌≤◌, ◌<◌}
use native.Mathlib.Nat.{mul-suc}
use native.Mathlib.Omega.{arith}
use lib.Dec.{eqb, ltb}
use lib.ListN.{length, get_or}
use borrow.Author.Tests.{ne_eqb, eq-eqb, lt-ltb, le-ltb}
use Rattle.refusal.specs.Refuse.{refuse}
use Rattle.refusal.specs.Limits.{most_dimension, most_cells, most_vertices}
use Rattle.lists.specs.Words.{has_repeat, largest_of}
use Rattle.lists.specs.Rows.{row}
use Rattle.lists.proofs.Members.{All, All-of}
use Rattle.complex.specs.Check.{first_repeat, answer_of, Passed}
use Rattle.complex.proofs.Fine.{first-full, passed-fine}
use Rattle.quotient.specs.declared.Grid.{Grid}
use Rattle.quotient.specs.Shape.{check_of, cell_count}
use Rattle.quotient.proofs.Laws.{lt-or-ge}
use Rattle.grid_words.specs.Cells.{flat_words}
use Rattle.grid_words.proofs.Good.{words-pass, words_count, some-cells}
use Rattle.grid_words.proofs.Listed as Grids
use Rattle.grid_chained.specs.Classing.{Classing}
use Rattle.grid_chained_words.specs.Words.{flat_by}
use Rattle.grid_chained_words.proofs.Listed.{words_long, classes-all, classes-low}

largest-under : (m : ℕ) (ws : List ℕ) → 0 < m → All (λ x. x < m) ws → largest_of ws < m
unfolding largest_of
largest-under m [] h a = h
largest-under m (x ∷ ws) h a = let y : largest_of ws < m = largest-under m ws h a.1 in let z : x < m = a.0 in omega arith

fourth : (a b c d e : Bool) (x : ℕ) (rest : Answer) → a ≡ false → b ≡ false → c ≡ false → d ≡ false → e ≡ true →
    refuse a BadDimension (refuse b RaggedWords (refuse c RaggedWords (refuse d TooManyCells (refuse e (VertexTwice x) rest)))) ≡ Err (VertexTwice x)
fourth a b c d e x rest ha hb hc hd he = rw (ha, hb, hc, hd, he)

module _ (g : Grid) (taken : check_of g ≡ fine) (c : ℕ → ℕ) (m : ℕ) (k : Classing g c m) (few : m ≤ most_vertices) where
  same-long : length (flat_words g) ≡ length (flat_by g c)
  same-long = Grids.words_long g taken ∙ sym (words_long g taken c)

  some_number : 0 < length (flat_by g c)
  some_number = omega (arith, words_long g taken c, some-cells g taken, mul-suc (cell_count g) g.d)

  under : largest_of (flat_by g c) < m
  under =
      let z : get_or (flat_by g c) 0 0 < m = classes-low g taken c m k 0 some_number in
      largest-under m (flat_by g c) (omega arith) (All-of (λ x. x < m) (flat_by g c) (λ i h. classes-low g taken c m k i h))

  -- as many words as cells
  pub by_count : length (flat_by g c) / (g.d + 1) ≡ cell_count g
  by_count = ap (λ (n : ℕ). n / (g.d + 1)) (sym same-long) ∙ words_count g taken

  -- where no word names a class twice the words pass all checks
  pub by-pass : cell_count g ≤ first_repeat (g.d + 1) (flat_by g c) (cell_count g) → Passed g.d (flat_by g c)
  by-pass h =
      let p : Passed g.d (flat_words g) = words-pass g taken in
      record {
        small = p.small;
        some_words = λ e. omega (arith, some_number, e);
        whole = ap (λ (n : ℕ). n % (g.d + 1)) (sym same-long) ∙ p.whole;
        few = subst (λ (n : ℕ). n / (g.d + 1) ≤ most_cells) same-long p.few;
        apart = λ i l. first-full (λ x. has_repeat (row (flat_by g c) (g.d + 1) x)) (cell_count g) h i (subst (λ (n : ℕ). i < n) by_count l);
        low = (let u : largest_of (flat_by g c) < m = under in omega arith);
        used = λ v l. classes-all g taken c m k v (let u : largest_of (flat_by g c) < m = under in omega arith);
      }

  -- the first tests of a cell list are not met
  met : first_repeat (g.d + 1) (flat_by g c) (cell_count g) < cell_count g → answer_of g.d (flat_by g c) ≡ Err (VertexTwice (first_repeat (g.d + 1) (flat_by g c) (cell_count g)))
  unfolding answer_of
  met l =
      let p : Passed g.d (flat_words g) = words-pass g taken in
      let z : length (flat_by g c) ≡ 0 → ⊥ = λ e. omega (arith, some_number, e) in
      let w : length (flat_by g c) % (g.d + 1) ≡ 0 = ap (λ (n : ℕ). n % (g.d + 1)) (sym same-long) ∙ p.whole in
      let f : length (flat_by g c) / (g.d + 1) ≤ most_cells = subst (λ (n : ℕ). n / (g.d + 1) ≤ most_cells) same-long p.few in
      let t : ltb (first_repeat (g.d + 1) (flat_by g c) (length (flat_by g c) / (g.d + 1))) (length (flat_by g c) / (g.d + 1)) ≡ true =
      subst (λ (n : ℕ). ltb (first_repeat (g.d + 1) (flat_by g c) n) n ≡ true) (sym by_count) (lt-ltb (first_repeat (g.d + 1) (flat_by g c) (cell_count g)) (cell_count g) l) in
      fourth (ltb most_dimension g.d) (eqb (length (flat_by g c)) 0) (not (eqb (length (flat_by g c) % (g.d + 1)) 0)) (ltb most_cells (length (flat_by g c) / (g.d + 1)))
      (ltb (first_repeat (g.d + 1) (flat_by g c) (length (flat_by g c) / (g.d + 1))) (length (flat_by g c) / (g.d + 1)))
      (first_repeat (g.d + 1) (flat_by g c) (length (flat_by g c) / (g.d + 1))) _
      (le-ltb most_dimension g.d p.small) (ne_eqb (length (flat_by g c)) 0 z) (ap not (eq-eqb (length (flat_by g c) % (g.d + 1)) 0 w)) (le-ltb most_cells (length (flat_by g c) / (g.d + 1)) f) t
      ∙ ap (λ (n : ℕ). Err (VertexTwice (first_repeat (g.d + 1) (flat_by g c) n))) by_count

  -- 4 at the first word that names a class twice, or nothing
  pub only-four : answer_of g.d (flat_by g c) ≡ refuse (ltb (first_repeat (g.d + 1) (flat_by g c) (cell_count g)) (cell_count g)) (VertexTwice (first_repeat (g.d + 1) (flat_by g c) (cell_count g))) fine
  only-four =
      let first : ℕ = first_repeat (g.d + 1) (flat_by g c) (cell_count g) in
      ⊎_elim
      (λ (l : first < cell_count g). met l ∙ sym (ap (λ (b : Bool). refuse b (VertexTwice first) fine) (lt-ltb first (cell_count g) l)))
      (λ (l : cell_count g ≤ first). passed-fine g.d (flat_by g c) (by-pass l) ∙ sym (ap (λ (b : Bool). refuse b (VertexTwice first) fine) (le-ltb first (cell_count g) l)))
      (lt-or-ge first (cell_count g))
