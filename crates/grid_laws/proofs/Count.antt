-- How many cells a glued grid has. It has no more than words; as many exactly if no two words sort to one cell; and where it has fewer, a facet lies in three cells. So
-- where 7 is not given a grid that is taken has d! cells for each box, and an order is handed out exactly if its words agree on every facet. Assumes nothing.
use Rattle.refusal.specs.Says.{fine}
use mathlib.Core.Path.{◌≡◌, refl, sym, ap, subst, ◌∙◌}
use mathlib.Core.Bool.{Bool, true, false, false≢true}
use mathlib.Core.Logic.{◌⊎◌, inl, inr, ⊎_elim}
use mathlib.Core.List.{List}
use Prim.Native.Nat.{ℕ, zero, suc, ◌≤◌, ◌<◌}
use native.Mathlib.Nat.{le_refl}
use native.Mathlib.Decide.{ℕ_discrete}
use native.Mathlib.Omega.{arith}
use lib.ListN.{length}
use Rattle.multiindex.specs.Sort.{sort_word}
use Rattle.complex.specs.Facets.{Crowded}
use Rattle.complex.specs.Cells.{in_order}
use Rattle.complex_cells.proofs.Words.{Word, Each}
use Rattle.lists.specs.Words.{same_word}
use Rattle.ordering_words.specs.Order.{IsOrder, AgreeOnFacets}
use Rattle.lists.proofs.Words.{same_word_lem, word-true}
use Rattle.ordering_words.proofs.Orders.{order-length, same-order}
use Rattle.quotient.specs.declared.Grid.{Grid}
use Rattle.quotient.specs.Fold.{some}
use Rattle.quotient.specs.Shape.{check_of, cell_count}
use Rattle.quotient.specs.Chain.{Untangled}
use Rattle.quotient.proofs.Laws.{some-true}
use Rattle.grid_words.specs.Cells.{words_of}
use Rattle.grid_mesh.specs.Words.{glued_cells}
use Rattle.grid_mesh.proofs.Steps.{words-many}
use Rattle.grid_order.specs.Promise.{own_words, words_by_cell, HandsOut}
use Rattle.grid_mesh.proofs.Turns.{some-found}
use Rattle.grid_laws.specs.Counts.{CellsForBoxes, HandsOutExactly}
use Rattle.grid_laws.proofs.Apart.{cells-many, many-apart}
use Rattle.grid_mesh.proofs.Words.{word_no, words-each, own-words, glued-are, word-is}
use Rattle.grid_mesh.proofs.Twice.{two-words}
use Rattle.grid_mesh.proofs.Seven.{untangled-never-seven}

module _ (g : Grid) (taken : check_of g ≡ fine) where
  -- no more cells than words
  pub cells-most : length (glued_cells g) ≤ cell_count g
  cells-most = omega (arith, ap length (glued-are g taken), order-length (suc g.d) (words_of g), words-many g taken)

  -- as many, exactly if no two words sort to one cell
  pub apart-many : ((x y : ℕ) → x < y → y < cell_count g → sort_word (word_no g x) ≡ sort_word (word_no g y) → ⊥) → length (glued_cells g) ≡ cell_count g
  apart-many f =
      ap length (glued-are g taken)
      ∙ cells-many (suc g.d) (words_of g) (words-each g taken)
      (λ i j h l e.
      let m : j < cell_count g = omega (arith, words-many g taken) in
      f i j h m (ap sort_word (sym (word-is g taken i (omega arith))) ∙ e ∙ ap sort_word (word-is g taken j m)))
      ∙ words-many g taken

  pub cells-apart : length (glued_cells g) ≡ cell_count g → (x y : ℕ) → x < y → y < cell_count g → sort_word (word_no g x) ≡ sort_word (word_no g y) → ⊥
  cells-apart e x y h l q =
      many-apart (suc g.d) (words_of g) (words-each g taken) (ap length (sym (glued-are g taken)) ∙ e ∙ sym (words-many g taken)) x y h (omega (arith, words-many g taken))
      (ap sort_word (word-is g taken x (omega arith)) ∙ q ∙ ap sort_word (sym (word-is g taken y l)))

  -- ---- the grid's words as the promises read them: each has d + 1 vertices, and sorted they are the cells
  own-each : Each (λ v. length v ≡ suc g.d) (own_words g)
  own-each = subst (λ (ws : List Word). Each (λ v. length v ≡ suc g.d) ws) (sym (own-words g taken)) (words-each g taken)

  own-cells : in_order (suc g.d) (own_words g) ≡ glued_cells g
  own-cells = ap (in_order (suc g.d)) (own-words g taken) ∙ sym (glued-are g taken)

  -- an order is handed out exactly where no two words sort to one cell and all facets agree
  pub hands-out-exactly : HandsOutExactly g
  hands-out-exactly =
      record {
        only = λ h. (many-apart (suc g.d) (own_words g) own-each (ap length own-cells ∙ sym h.order.many), h.agree);
        all =
            λ apart a.
            record {
              order = same-order (suc g.d) (glued_cells g) (own_words g) (omega arith) own-each (sym (cells-many (suc g.d) (own_words g) own-each apart) ∙ ap length own-cells) own-cells;
              agree = a;
            };
      }

  -- ---- where 7 is not given
  -- d! cells for each box
  pub cells-number : (Crowded g.d (glued_cells g) → ⊥) → CellsForBoxes g
  cells-number free = apart-many (λ x y h l e. free (two-words g taken x y h l e))

  -- the words are one for each cell
  pub words-order : (Crowded g.d (glued_cells g) → ⊥) → IsOrder (glued_cells g) (own_words g)
  words-order free = same-order (suc g.d) (glued_cells g) (own_words g) (omega arith) own-each (ap length (own-words g taken) ∙ words-many g taken ∙ sym (cells-number free)) own-cells

  -- an order is handed out exactly if they agree on every facet
  pub agree-hands-out : (Crowded g.d (glued_cells g) → ⊥) → AgreeOnFacets g.d (glued_cells g) (words_by_cell g) → HandsOut g
  agree-hands-out free a = record { order = words-order free; agree = a }

  -- ---- where there are fewer cells than words, 7 is given
  pub record Pair (n : ℕ) : Type 0 where
    pub first : ℕ
    pub second : ℕ
    pub order : first < second
    pub within : second < n
    pub one : sort_word (word_no g first) ≡ sort_word (word_no g second)

  pair-or-not : (n : ℕ) → Pair n ⊎ ((x y : ℕ) → x < y → y < n → sort_word (word_no g x) ≡ sort_word (word_no g y) → ⊥)
  pair-or-not zero = inr (λ x y h l e. omega arith)
  pair-or-not (suc n) = go (some (λ x. same_word (sort_word (word_no g x)) (sort_word (word_no g n))) n) refl (pair-or-not n)
    where
      go : (b : Bool) → some (λ x. same_word (sort_word (word_no g x)) (sort_word (word_no g n))) n ≡ b → Pair n ⊎ ((x y : ℕ) → x < y → y < n → sort_word (word_no g x) ≡ sort_word (word_no g y) → ⊥) → Pair (suc n) ⊎ ((x y : ℕ) → x < y → y < suc n → sort_word (word_no g x) ≡ sort_word (word_no g y) → ⊥)
      go true q r =
          let w = some-found (λ x. same_word (sort_word (word_no g x)) (sort_word (word_no g n))) n q in
          inl (record { first = w.0; second = n; order = w.1; within = le_refl (suc n); one = same_word_lem _ _ w.2 })
      go false q (inl p) = inl (record { first = p.first; second = p.second; order = p.order; within = omega (arith, p.within); one = p.one })
      go false q (inr f) =
          inr (λ x y h l e.
          elim (ℕ_discrete y n) [
            | yes z ↦
                false≢true (sym q ∙ some-true (λ x. same_word (sort_word (word_no g x)) (sort_word (word_no g n))) n x (omega arith) (word-true (sort_word (word_no g x)) (sort_word (word_no g n)) (e ∙ ap (λ (k : ℕ). sort_word (word_no g k)) z)))
            | no z ↦ f x y h (omega arith) e
          ])

  pub as-many-or-seven : (length (glued_cells g) ≡ cell_count g) ⊎ Crowded g.d (glued_cells g)
  as-many-or-seven =
      ⊎_elim
      (λ (p : Pair (cell_count g)). inr (two-words g taken p.first p.second p.order p.within p.one))
      (λ (f : (x y : ℕ) → x < y → y < cell_count g → sort_word (word_no g x) ≡ sort_word (word_no g y) → ⊥). inl (apart-many f))
      (pair-or-not (cell_count g))

-- where no axis with a non-empty set is itself reflected there are d! cells for each box
pub untangled-number : (g : Grid) → check_of g ≡ fine → Untangled g → CellsForBoxes g
untangled-number g taken u = cells-number g taken (untangled-never-seven g taken u)
