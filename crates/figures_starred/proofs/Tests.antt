-- Tests that antt computes on a small list of cells: no facet in three cells, signs that are coherent, words that agree on every facet. Assumes nothing.
use mathlib.Core.Bool.{Bool, true, false, not, ◌&&◌, false≢true}
use mathlib.Core.List.{List}
use mathlib.Core.Path.{◌≡◌, refl, sym, ◌∙◌}
use Prim.Native.Nat.{ℕ, suc, ◌<◌, ◌≤◌}
use native.Mathlib.Omega.{arith}
use lib.Dec.{eqb}
use lib.ListN.{length, get_or}
use borrow.Author.Tests.{ne_eqb}
use Rattle.multiindex.specs.Sign.{Sign, plus, minus, opposite, times, induced}
use Rattle.complex.specs.Facets.{cell_at, facet_at, Mates, Crowded}
use Rattle.lists.specs.Words.{same_word, without}
use Rattle.lists.proofs.Words.{same_word_lem, word-true}
use Rattle.orientation_signs.specs.Signs.{Coherent}
use Rattle.orientation_signs.specs.Looks.{same_sign}
use Rattle.quotient.specs.Fold.{some}
use Rattle.quotient.proofs.Laws.{some-true}
use Rattle.ordering_words.specs.Order.{AgreeOnFacets}

abbrev Four : Type 0
Four = ℕ → ℕ → ℕ → ℕ → Bool

-- ---- a test that fails at each number below a bound
none : (p : ℕ → Bool) (n k : ℕ) → some p n ≡ false → k < n → p k ≡ false
none p n k e h = go (p k) refl
  where
    go : (b : Bool) → p k ≡ b → b ≡ false
    go true f = absurd (false≢true (sym e ∙ some-true p n k h f))
    go false f = refl

-- some two places of n cells with k facets each pass
abbrev pub some_two : ℕ → ℕ → Four → Bool
some_two n k P = some (λ c. some (λ i. some (λ c'. some (P c i c') k) n) k) n

none-two : (n k : ℕ) (P : Four) → some_two n k P ≡ false → (c i c' i' : ℕ) → c < n → i < k → c' < n → i' < k → P c i c' i' ≡ false
none-two n k P e c i c' i' hc hi hc' hi' =
    none (P c i c') k i' (none (λ c'. some (P c i c') k) n c' (none (λ i. some (λ c'. some (P c i c') k) n) k i (none (λ c. some (λ i. some (λ c'. some (P c i c') k) n) k) n c e hc) hi) hc') hi'

right : (a b : Bool) → a && b ≡ false → a ≡ true → b ≡ false
right true b e f = e
right false b e f = absurd (false≢true f)

-- ---- two different cells have one facet
abbrev pub meets : List (List ℕ) → Four
meets cs c i c' i' = not (eqb c c') && same_word (facet_at (cell_at cs c) i) (facet_at (cell_at cs c') i')

mates-meet : (d : ℕ) (cs : List (List ℕ)) (c i c' i' : ℕ) → Mates d cs c i c' i' → meets cs c i c' i' ≡ true
mates-meet d cs c i c' i' m = rw (ne_eqb c c' m.apart, word-true (facet_at (cell_at cs c) i) (facet_at (cell_at cs c') i') m.one)

module _ (d : ℕ) (cs : List (List ℕ)) (Q : Four) (e : some_two (length cs) (suc d) (λ c i c' i'. meets cs c i c' i' && Q c i c' i') ≡ false) where
  at-mates : (c i c' i' : ℕ) → Mates d cs c i c' i' → Q c i c' i' ≡ false
  at-mates c i c' i' m =
      let hi : i ≤ d = m.this.place in
      let hi' : i' ≤ d = m.that.place in
      right (meets cs c i c' i') (Q c i c' i') (none-two (length cs) (suc d) (λ c i c' i'. meets cs c i c' i' && Q c i c' i') e c i c' i' m.this.cell (omega arith) m.that.cell (omega arith)) (mates-meet d cs c i c' i' m)

-- ---- coherent signs
not_same : (a b : Sign) → same_sign a b ≡ false → a ≡ opposite b
not_same plus plus e = absurd (false≢true (sym e))
not_same plus minus e = refl
not_same minus plus e = refl
not_same minus minus e = absurd (false≢true (sym e))

abbrev pub clash : List (List ℕ) → (ℕ → Sign) → Four
clash cs σ c i c' i' = meets cs c i c' i' && same_sign (times (σ c) (induced i)) (times (σ c') (induced i'))

pub coherent-by : (d : ℕ) (cs : List (List ℕ)) (σ : ℕ → Sign) → some_two (length cs) (suc d) (clash cs σ) ≡ false → Coherent d cs σ
coherent-by d cs σ e =
    record { opposed = λ c i c' i' m. not_same (times (σ c) (induced i)) (times (σ c') (induced i')) (at-mates d cs (λ c i c' i'. same_sign (times (σ c) (induced i)) (times (σ c') (induced i'))) e c i c' i' m) }

-- ---- words that agree
abbrev pub read_differently : List (List ℕ) → List (List ℕ) → Four
read_differently cs ks c i c' i' = meets cs c i c' i' && not (same_word (without (get_or (cell_at cs c) i 0) (cell_at ks c)) (without (get_or (cell_at cs c') i' 0) (cell_at ks c')))

not-not : (b : Bool) → not b ≡ false → b ≡ true
not-not true e = refl
not-not false e = absurd (false≢true (sym e))

pub agree-by : (d : ℕ) (cs ks : List (List ℕ)) → some_two (length cs) (suc d) (read_differently cs ks) ≡ false → AgreeOnFacets d cs ks
agree-by d cs ks e =
    record {
      one =
          λ c i c' i' m.
          same_word_lem (without (get_or (cell_at cs c) i 0) (cell_at ks c)) (without (get_or (cell_at cs c') i' 0) (cell_at ks c'))
          (not-not _ (at-mates d cs (λ c i c' i'. not (same_word (without (get_or (cell_at cs c) i 0) (cell_at ks c)) (without (get_or (cell_at cs c') i' 0) (cell_at ks c')))) e c i c' i' m));
    }

-- ---- no facet in three cells
abbrev pub third : ℕ → List (List ℕ) → Four
third k cs c i c' i' = meets cs c i c' i' && some (λ c''. some (λ i''. not (eqb c' c'') && meets cs c i c'' i'') k) (length cs)

pub free-by : (d : ℕ) (cs : List (List ℕ)) → some_two (length cs) (suc d) (third (suc d) cs) ≡ false → Crowded d cs → ⊥
free-by d cs e w =
    let m = w.one in
    let n = w.other in
    let at : w.at_second ≤ d = n.that.place in
    let a = at-mates d cs (λ c i c' i'. some (λ c''. some (λ i''. not (eqb c' c'') && meets cs c i c'' i'') (suc d)) (length cs)) e w.cell w.at w.first w.at_first m in
    let b = none (λ c''. some (λ i''. not (eqb w.first c'') && meets cs w.cell w.at c'' i'') (suc d)) (length cs) w.second a n.that.cell in
    let c = none (λ i''. not (eqb w.first w.second) && meets cs w.cell w.at w.second i'') (suc d) w.at_second b (omega arith) in
    let x : not (eqb w.first w.second) ≡ true = rw (ne_eqb w.first w.second w.apart) in
    false≢true (sym (right (not (eqb w.first w.second)) (meets cs w.cell w.at w.second w.at_second) c x) ∙ mates-meet d cs w.cell w.at w.second w.at_second n)
