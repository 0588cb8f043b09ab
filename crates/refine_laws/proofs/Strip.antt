-- The composition law on document 01's periodic band, 3 by 1, along the order that is handed out: six triangles glued at a seam. Agreement and the facets are one
-- computed test each. Assumes nothing.
use mathlib.Core.Bool.{Bool, true, false, ◌||◌}
use mathlib.Core.Path.{◌≡◌, refl, sym, subst}
use mathlib.Core.List.{List, [], ◌∷◌}
use Prim.Native.Nat.{ℕ, zero, suc, ◌*◌, ◌<◌}
use native.Mathlib.Omega.{arith}
use lib.Dec.{eqb}
use lib.ListN.{get_or}
use borrow.Author.Tests.{ne_eqb, eqb-true}
use Rattle.lists.specs.Words.{among, has_repeat, largest_of, found_at, first_where, same_word, without}
use Rattle.lists.specs.Rows.{cut, rows, flat}
use Rattle.multiindex.specs.Sort.{insert_by, insert, sort_word}
use Rattle.multiindex.proofs.Tables.{all_below, at-below}
use Rattle.complex.specs.Cells.{decides, comes_before, placed, place, in_order, cells_of}
use Rattle.complex.specs.Check.{answer_of}
use Rattle.complex.specs.Facets.{cell_at, facet_at, Crowded}
use Rattle.ordering_words.specs.Order.{word_if, word_of, by_cell, IsOrder, AgreeOnFacets}
use Rattle.lists.proofs.Words.{same_word_lem, word-true}
use Rattle.refine_lattice.specs.Refine.{vertices}
use Rattle.refine_results.specs.Refined.{order_words, refined_cells, refined_words}
use Rattle.refine_results.specs.Results.{Refines}
use Rattle.refine_laws.specs.Composition.{Accepted, Ordered, Composes, Law}
use Rattle.refine_laws.proofs.Composition.{composition}

-- the words of the band, and as their order themselves
abbrev band : List ℕ
band = 0 ∷ 1 ∷ 4 ∷ 0 ∷ 3 ∷ 4 ∷ 1 ∷ 2 ∷ 5 ∷ 1 ∷ 4 ∷ 5 ∷ 2 ∷ 0 ∷ 3 ∷ 2 ∷ 5 ∷ 3 ∷ []

abbrev cells : List (List ℕ)
cells = (0 ∷ 2 ∷ 3 ∷ []) ∷ (0 ∷ 1 ∷ 4 ∷ []) ∷ (0 ∷ 3 ∷ 4 ∷ []) ∷ (1 ∷ 2 ∷ 5 ∷ []) ∷ (2 ∷ 3 ∷ 5 ∷ []) ∷ (1 ∷ 4 ∷ 5 ∷ []) ∷ []

abbrev words : List (List ℕ)
words = (2 ∷ 0 ∷ 3 ∷ []) ∷ (0 ∷ 1 ∷ 4 ∷ []) ∷ (0 ∷ 3 ∷ 4 ∷ []) ∷ (1 ∷ 2 ∷ 5 ∷ []) ∷ (2 ∷ 5 ∷ 3 ∷ []) ∷ (1 ∷ 4 ∷ 5 ∷ []) ∷ []

cells_are : cells_of 2 band ≡ cells
unfolding cells_of cut in_order place placed comes_before decides sort_word insert insert_by
cells_are = refl

rows_are : rows 3 band ≡ (0 ∷ 1 ∷ 4 ∷ []) ∷ (0 ∷ 3 ∷ 4 ∷ []) ∷ (1 ∷ 2 ∷ 5 ∷ []) ∷ (1 ∷ 4 ∷ 5 ∷ []) ∷ (2 ∷ 0 ∷ 3 ∷ []) ∷ (2 ∷ 5 ∷ 3 ∷ []) ∷ []
unfolding cut
rows_are = refl

words_are : order_words 2 band band ≡ words
unfolding cells_of cut in_order place placed comes_before decides sort_word insert insert_by word_if word_of by_cell
words_are = refl

-- ---- the tests
abbrev meet : ℕ → ℕ → ℕ → ℕ → Bool
meet c i c' i' = same_word (facet_at (cell_at cells c) i) (facet_at (cell_at cells c') i')

abbrev unless : Bool → Bool → Bool
unless true b = b
unless false b = true

-- cells that meet list the facet in one sequence
abbrev agree : ℕ → ℕ → ℕ → ℕ → Bool
agree c i c' i' =
    unless (meet c i c' i') (eqb c c' || same_word (without (get_or (cell_at cells c) i 0) (cell_at words c)) (without (get_or (cell_at cells c') i' 0) (cell_at words c')))

all-agree : all_below 6 (λ c. all_below 3 (λ i. all_below 6 (λ c'. all_below 3 (λ i'. agree c i c' i')))) ≡ true
all-agree = refl

-- of three cells that meet two are the same
abbrev thin : ℕ → ℕ → ℕ → ℕ → ℕ → ℕ → Bool
thin c i c' i' c'' i'' = unless (meet c i c' i') (unless (meet c i c'' i'') (eqb c c' || (eqb c c'' || eqb c' c'')))

all-thin : all_below 6 (λ c. all_below 3 (λ i. all_below 6 (λ c'. all_below 3 (λ i'. all_below 6 (λ c''. all_below 3 (λ i''. thin c i c' i' c'' i'')))))) ≡ true
all-thin = refl

held : (a b : Bool) → a ≡ true → unless a b ≡ true → b ≡ true
held true b e h = h
held false b e h = let z : ◌≡◌ {A = ℕ} 0 1 = cc in absurd (omega arith)

other : (a b : Bool) → a ≡ false → (a || b) ≡ true → b ≡ true
other true b e h = let z : ◌≡◌ {A = ℕ} 0 1 = cc in absurd (omega arith)
other false b e h = h

agrees : AgreeOnFacets 2 cells words
agrees = record {
  one = λ c i c' i' m.
      let hi : i < 3 = omega (arith, m.this.place) in
      let hi' : i' < 3 = omega (arith, m.that.place) in
      let t : agree c i c' i' ≡ true =
      at-below 3 (λ i'. agree c i c' i')
      (at-below 6 (λ c'. all_below 3 (λ i'. agree c i c' i'))
      (at-below 3 (λ i. all_below 6 (λ c'. all_below 3 (λ i'. agree c i c' i')))
      (at-below 6 (λ c. all_below 3 (λ i. all_below 6 (λ c'. all_below 3 (λ i'. agree c i c' i')))) all-agree c m.this.cell) i hi) c' m.that.cell) i' hi' in
      let w : List ℕ = without (get_or (cell_at cells c) i 0) (cell_at words c) in
      let w' : List ℕ = without (get_or (cell_at cells c') i' 0) (cell_at words c') in
      same_word_lem w w'
      (other (eqb c c') (same_word w w') (ne_eqb c c' m.apart)
      (held (meet c i c' i') (eqb c c' || same_word w w') (word-true (facet_at (cell_at cells c) i) (facet_at (cell_at cells c') i') m.one) t));
}

uncrowded : Crowded 2 cells → ⊥
uncrowded w =
    let one = w.one in
    let two = w.other in
    let c : ℕ = w.cell in
    let i : ℕ = w.at in
    let c' : ℕ = w.first in
    let i' : ℕ = w.at_first in
    let c'' : ℕ = w.second in
    let i'' : ℕ = w.at_second in
    let hi : i < 3 = omega (arith, one.this.place) in
    let hi' : i' < 3 = omega (arith, one.that.place) in
    let hi'' : i'' < 3 = omega (arith, two.that.place) in
    let t : thin c i c' i' c'' i'' ≡ true =
    at-below 3 (λ i''. thin c i c' i' c'' i'')
    (at-below 6 (λ c''. all_below 3 (λ i''. thin c i c' i' c'' i''))
    (at-below 3 (λ i'. all_below 6 (λ c''. all_below 3 (λ i''. thin c i c' i' c'' i'')))
    (at-below 6 (λ c'. all_below 3 (λ i'. all_below 6 (λ c''. all_below 3 (λ i''. thin c i c' i' c'' i''))))
    (at-below 3 (λ i. all_below 6 (λ c'. all_below 3 (λ i'. all_below 6 (λ c''. all_below 3 (λ i''. thin c i c' i' c'' i'')))))
    (at-below 6 (λ c. all_below 3 (λ i. all_below 6 (λ c'. all_below 3 (λ i'. all_below 6 (λ c''. all_below 3 (λ i''. thin c i c' i' c'' i'')))))) all-thin c one.this.cell)
    i hi) c' one.that.cell) i' hi') c'' two.that.cell) i'' hi'' in
    let s : (eqb c c' || (eqb c c'' || eqb c' c'')) ≡ true =
    held (meet c i c'' i'') (eqb c c' || (eqb c c'' || eqb c' c'')) (word-true (facet_at (cell_at cells c) i) (facet_at (cell_at cells c'') i'') two.one)
    (held (meet c i c' i') (unless (meet c i c'' i'') (eqb c c' || (eqb c c'' || eqb c' c'')))
    (word-true (facet_at (cell_at cells c) i) (facet_at (cell_at cells c') i') one.one) t) in
    w.apart
    (eqb-true c' c''
    (other (eqb c c'') (eqb c' c'') (ne_eqb c c'' two.apart) (other (eqb c c') (eqb c c'' || eqb c' c'') (ne_eqb c c' one.apart) s)))

-- ---- the premises
accepted : Accepted 2 band
unfolding answer_of among has_repeat largest_of found_at first_where
accepted = record { fine = refl; uncrowded = subst (λ (cs : List (List ℕ)). Crowded 2 cs → ⊥) (sym cells_are) uncrowded }

in_order_lem : IsOrder cells (rows 3 band)
unfolding cut sort_word insert insert_by word_if word_of
in_order_lem = record { many = refl; each = each }
  where
    each : (c : ℕ) → c < 6 → sort_word (word_of (rows 3 band) (cell_at cells c)) ≡ cell_at cells c
    each zero h = refl
    each (suc zero) h = refl
    each (suc (suc zero)) h = refl
    each (suc (suc (suc zero))) h = refl
    each (suc (suc (suc (suc zero)))) h = refl
    each (suc (suc (suc (suc (suc zero))))) h = refl
    each (suc (suc (suc (suc (suc (suc c)))))) h = absurd (omega arith)

ordered : Ordered 2 band band
ordered = record {
  orders = record { whole = refl; words = subst (λ (cs : List (List ℕ)). IsOrder cs (rows 3 band)) (sym cells_are) in_order_lem };
  agrees =
      subst (λ (ks : List (List ℕ)). AgreeOnFacets 2 (cells_of 2 band) ks) (sym words_are)
      (subst (λ (cs : List (List ℕ)). AgreeOnFacets 2 cs words) (sym cells_are) agrees);
}

fits : Refines 2 (2 * 2) 6 (order_words 2 band band)
fits =
    subst (λ (ks : List (List ℕ)). Refines 2 (2 * 2) 6 ks) (sym words_are)
    (record { least = omega arith; most = omega arith; few_cells = omega arith; few_vertices = omega (arith, so-many) })
  where
    so-many : vertices 2 4 6 words ≡ 60
    so-many = refl

-- six triangles refined by 2 and again by 2: the band refined by 4
pub band-composes : Composes 2 2 2 6 words (flat (refined_cells 2 2 6 words)) (flat (refined_words 2 2 6 words))
unfolding Law largest_of
band-composes =
    subst (λ (ks : List (List ℕ)). Composes 2 2 2 6 ks (flat (refined_cells 2 2 6 ks)) (flat (refined_words 2 2 6 ks))) words_are
    (composition 2 2 2 band band accepted ordered fits)
