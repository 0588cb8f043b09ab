-- The premises of the law on a figure, each by one computed test: of m cells and their words agreement on facets, coherent signs, and no crowded facet; and a call that
-- nothing refuses. Assumes nothing.
use mathlib.Core.Bool.{Bool, true, false, ◌&&◌, ◌||◌}
use mathlib.Core.Path.{◌≡◌, refl}
use mathlib.Core.List.{List}
use Prim.Native.Nat.{ℕ, suc, ◌<◌}
use native.Mathlib.Nat.{le_refl}
use native.Mathlib.Omega.{arith}
use lib.Dec.{eqb}
use lib.ListN.{length, get_or}
use borrow.Author.Tests.{ne_eqb, eqb-true}
use Rattle.lists.proofs.Words.{same_word_lem, word-true}
use Rattle.lists.specs.Words.{same_word, without}
use Rattle.refusal.specs.Call.{ended}
use Rattle.multiindex.specs.Sign.{Sign, plus, minus, opposite, times, induced}
use Rattle.multiindex.proofs.Tables.{all_below, at-below}
use Rattle.complex.specs.Cells.{cells_of}
use Rattle.complex.specs.Facets.{cell_at, facet_at, Mates, Crowded}
use Rattle.orientation_signs.specs.Signs.{Coherent}
use Rattle.ordering_words.specs.Order.{AgreeOnFacets}
use Rattle.refine_lattice.specs.Refine.{vertices}
use Rattle.refine_results.specs.Says.{sizes}
use Rattle.refine_results.specs.Refined.{coarse, refined_cells}
use Rattle.refine_results.specs.Results.{Lengths, Holds, Refines, results_of, made}
use Rattle.refine.specs.Space.{space_of, Enough}
use Rattle.refine.specs.Promise.{finished}
use Rattle.refine_laws.specs.Composition.{Accepted}
use Rattle.refine_laws.specs.Calls.{Called}

-- a call with lists just long enough, where nothing refuses it
pub call : (d R : ℕ) (ws : List ℕ) (Good : Type 0) (ks : List (List ℕ)) → Accepted d ws → Good → Refines d R (coarse ws) ks
    → Called d R ws Good ks (sizes (length (refined_cells d R (coarse ws) ks)) (vertices d R (coarse ws) ks)) (results_of d R (coarse ws) (cells_of d ws) ks)
call d R ws Good ks a g f = record {
  given = given;
  have = space_of d (length ws) R;
  used = space_of d (length ws) R;
  comes = ended a.fine roomy (finished a.uncrowded g (made f long));
  roomy = roomy;
  long = long;
}
  where
    given : Lengths
    given =
        let h = results_of d R (coarse ws) (cells_of d ws) ks in
        record {
          cells_lent = length h.cells_out;
          words_lent = length h.words_out;
          parents_lent = length h.parents_out;
          jacobians_lent = length h.jacobians_out;
          wholes_lent = length h.wholes_out;
          vertices_lent = length h.birth_vertices;
          weights_lent = length h.birth_weights;
          shares_lent = length h.birth_shares;
        }

    long : Holds given (results_of d R (coarse ws) (cells_of d ws) ks)
    long = record {
      of_cells = le_refl _;
      of_words = le_refl _;
      of_parents = le_refl _;
      of_jacobians = le_refl _;
      of_wholes = le_refl _;
      of_vertices = le_refl _;
      of_weights = le_refl _;
      of_shares = le_refl _;
    }

    roomy : Enough (space_of d (length ws) R) (space_of d (length ws) R)
    roomy = record {
      in_cells = le_refl _;
      in_along = le_refl _;
      in_pattern = le_refl _;
      in_keys = le_refl _;
      in_rows = le_refl _;
      in_spare = le_refl _;
      in_counts = le_refl _;
      in_sorted = le_refl _;
      in_firsts = le_refl _;
      in_buckets = le_refl _;
    }

-- ---- tests
abbrev unless : Bool → Bool → Bool
unless true b = b
unless false b = true

abbrev same_sign : Sign → Sign → Bool
same_sign plus plus = true
same_sign plus minus = false
same_sign minus plus = false
same_sign minus minus = true

same_sign_lem : (a b : Sign) → same_sign a b ≡ true → a ≡ b
same_sign_lem plus plus e = refl
same_sign_lem plus minus e = let z : ◌≡◌ {A = ℕ} 0 1 = cc in absurd (omega arith)
same_sign_lem minus plus e = let z : ◌≡◌ {A = ℕ} 0 1 = cc in absurd (omega arith)
same_sign_lem minus minus e = refl

held : (a b : Bool) → a ≡ true → unless a b ≡ true → b ≡ true
held true b e h = h
held false b e h = let z : ◌≡◌ {A = ℕ} 0 1 = cc in absurd (omega arith)

other : (a b : Bool) → a ≡ false → (a || b) ≡ true → b ≡ true
other true b e h = let z : ◌≡◌ {A = ℕ} 0 1 = cc in absurd (omega arith)
other false b e h = h

both : (a b : Bool) → (a && b) ≡ true → (a ≡ true) × (b ≡ true)
both true b e = (refl, e)
both false b e = let z : ◌≡◌ {A = ℕ} 0 1 = cc in absurd (omega arith)

module _ (d : ℕ) (cells words : List (List ℕ)) (σ : ℕ → Sign) where
  abbrev meet : ℕ → ℕ → ℕ → ℕ → Bool
  meet c i c' i' = same_word (facet_at (cell_at cells c) i) (facet_at (cell_at cells c') i')

  -- the words list the facet in one sequence
  abbrev alike : ℕ → ℕ → ℕ → ℕ → Bool
  alike c i c' i' = same_word (without (get_or (cell_at cells c) i 0) (cell_at words c)) (without (get_or (cell_at cells c') i' 0) (cell_at words c'))

  -- the signs are opposed on it
  abbrev opposed : ℕ → ℕ → ℕ → ℕ → Bool
  opposed c i c' i' = same_sign (times (σ c) (induced i)) (opposite (times (σ c') (induced i')))

  abbrev fair : ℕ → ℕ → ℕ → ℕ → Bool
  fair c i c' i' = alike c i c' i' && opposed c i c' i'

  abbrev test : ℕ → ℕ → ℕ → ℕ → Bool
  test c i c' i' = unless (meet c i c' i') (eqb c c' || fair c i c' i')

  -- agreement and coherent signs, over all pairs of places
  abbrev pub all_fair : ℕ → Bool
  all_fair m = all_below m (λ c. all_below (suc d) (λ i. all_below m (λ c'. all_below (suc d) (λ i'. test c i c' i'))))

  -- of three cells that meet two are the same
  abbrev thin : ℕ → ℕ → ℕ → ℕ → ℕ → ℕ → Bool
  thin c i c' i' c'' i'' = unless (meet c i c' i') (unless (meet c i c'' i'') (eqb c c' || (eqb c c'' || eqb c' c'')))

  abbrev pub all_thin : ℕ → Bool
  all_thin m = all_below m (λ c. all_below (suc d) (λ i. all_below m (λ c'. all_below (suc d) (λ i'. all_below m (λ c''. all_below (suc d) (λ i''. thin c i c' i' c'' i''))))))

  module _ (fairly : all_fair (length cells) ≡ true) where
    fair-at : (c i c' i' : ℕ) → Mates d cells c i c' i' → fair c i c' i' ≡ true
    fair-at c i c' i' u =
        let m : ℕ = length cells in
        let hi : i < suc d = omega (arith, u.this.place) in
        let hi' : i' < suc d = omega (arith, u.that.place) in
        let t : test c i c' i' ≡ true =
        at-below (suc d) (λ i'. test c i c' i')
        (at-below m (λ c'. all_below (suc d) (λ i'. test c i c' i'))
        (at-below (suc d) (λ i. all_below m (λ c'. all_below (suc d) (λ i'. test c i c' i')))
        (at-below m (λ c. all_below (suc d) (λ i. all_below m (λ c'. all_below (suc d) (λ i'. test c i c' i')))) fairly c u.this.cell) i hi) c' u.that.cell) i' hi' in
        other (eqb c c') (fair c i c' i') (ne_eqb c c' u.apart)
        (held (meet c i c' i') (eqb c c' || fair c i c' i') (word-true (facet_at (cell_at cells c) i) (facet_at (cell_at cells c') i') u.one) t)

    pub fair-agrees : AgreeOnFacets d cells words
    fair-agrees = record {
      one = λ c i c' i' u.
          same_word_lem (without (get_or (cell_at cells c) i 0) (cell_at words c)) (without (get_or (cell_at cells c') i' 0) (cell_at words c'))
          (both (alike c i c' i') (opposed c i c' i') (fair-at c i c' i' u)).0;
    }

    pub fair-coherent : Coherent d cells σ
    fair-coherent = record {
      opposed = λ c i c' i' u.
          same_sign_lem (times (σ c) (induced i)) (opposite (times (σ c') (induced i'))) (both (alike c i c' i') (opposed c i c' i') (fair-at c i c' i' u)).1;
    }

  pub thin-uncrowded : all_thin (length cells) ≡ true → Crowded d cells → ⊥
  thin-uncrowded thinly w =
      let m : ℕ = length cells in
      let s : ℕ = suc d in
      let one = w.one in
      let two = w.other in
      let c : ℕ = w.cell in
      let i : ℕ = w.at in
      let c' : ℕ = w.first in
      let i' : ℕ = w.at_first in
      let c'' : ℕ = w.second in
      let i'' : ℕ = w.at_second in
      let hi : i < suc d = omega (arith, one.this.place) in
      let hi' : i' < suc d = omega (arith, one.that.place) in
      let hi'' : i'' < suc d = omega (arith, two.that.place) in
      let t : thin c i c' i' c'' i'' ≡ true =
      at-below s (λ i''. thin c i c' i' c'' i'')
      (at-below m (λ c''. all_below s (λ i''. thin c i c' i' c'' i''))
      (at-below s (λ i'. all_below m (λ c''. all_below s (λ i''. thin c i c' i' c'' i'')))
      (at-below m (λ c'. all_below s (λ i'. all_below m (λ c''. all_below s (λ i''. thin c i c' i' c'' i''))))
      (at-below s (λ i. all_below m (λ c'. all_below s (λ i'. all_below m (λ c''. all_below s (λ i''. thin c i c' i' c'' i'')))))
      (at-below m (λ c. all_below s (λ i. all_below m (λ c'. all_below s (λ i'. all_below m (λ c''. all_below s (λ i''. thin c i c' i' c'' i'')))))) thinly c one.this.cell)
      i hi) c' one.that.cell) i' hi') c'' two.that.cell) i'' hi'' in
      let e : (eqb c c' || (eqb c c'' || eqb c' c'')) ≡ true =
      held (meet c i c'' i'') (eqb c c' || (eqb c c'' || eqb c' c'')) (word-true (facet_at (cell_at cells c) i) (facet_at (cell_at cells c'') i'') two.one)
      (held (meet c i c' i') (unless (meet c i c'' i'') (eqb c c' || (eqb c c'' || eqb c' c'')))
      (word-true (facet_at (cell_at cells c) i) (facet_at (cell_at cells c') i') one.one) t) in
      w.apart
      (eqb-true c' c''
      (other (eqb c c'') (eqb c' c'') (ne_eqb c c'' two.apart) (other (eqb c c') (eqb c c'' || eqb c' c'') (ne_eqb c c' one.apart) e)))
