-- The searches of specs/Looks find what the mates of cells say: where a facet has a mate its cell and position are found, and where it has none nothing is. Assumes nothing.
use mathlib.Core.Bool.{Bool, true, false, not, ◌&&◌}
use mathlib.Core.List.{List}
use mathlib.Core.Path.{◌≡◌, refl, sym, ap, ◌∙◌}
use Prim.Native.Nat.{ℕ, suc, ◌<◌, ◌≤◌}
use native.Mathlib.Omega.{arith}
use borrow.Author.Tests.{eqb-false, ne_eqb, ltb-true, ltb-false, not-true}
use lib.Dec.{eqb, ltb}
use lib.ListN.{length}
use Rattle.complex.specs.Facets.{cell_at, facet_at, FacetOf, Mates}
use Rattle.lists.specs.Words.{same_word}
use Rattle.lists.proofs.Words.{same_word_lem, word-true}
use Rattle.complex.proofs.Fine.{first-full, first_found}
use Rattle.orientation_signs.specs.Looks.{dropped_for, cell_beyond}

pub false-true : false ≡ true → ⊥
false-true e = let z : ◌≡◌ {A = ℕ} 0 1 = cc in omega arith

both_true : (a b : Bool) → (a && b) ≡ true → (a ≡ true) × (b ≡ true)
both_true true b e = (refl, e)
both_true false b e = absurd (false-true e)

both_false : (a b : Bool) → (a && b) ≡ false → a ≡ true → b ≡ false
both_false true b e q = e
both_false false b e q = absurd (false-true q)

-- ---- the facet of cell c without position i
module _ (d : ℕ) (cs : List (List ℕ)) (c i : ℕ) where
  -- what is found is a mate
  pub beyond-mates : FacetOf d cs c i → cell_beyond d cs c (facet_at (cell_at cs c) i) < length cs → Mates d cs c i (cell_beyond d cs c (facet_at (cell_at cs c) i)) (dropped_for d cs (facet_at (cell_at cs c) i) (cell_beyond d cs c (facet_at (cell_at cs c) i)))
  beyond-mates u h =
      let f = facet_at (cell_at cs c) i in
      let c' = cell_beyond d cs c f in
      let i' = dropped_for d cs f c' in
      let r = both_true (not (eqb c' c)) (ltb i' (suc d)) (first_found (λ x. not (eqb x c) && ltb (dropped_for d cs f x) (suc d)) (length cs) h) in
      let l : i' < suc d = ltb-true i' (suc d) r.1 in
      let s : facet_at (cell_at cs c') i' ≡ f = same_word_lem (facet_at (cell_at cs c') i') f (first_found (λ x. same_word (facet_at (cell_at cs c') x) f) (suc d) l) in
      record {
        this = u;
        that = record { some = u.some; cell = h; place = omega arith };
        apart = λ e. eqb-false c' c (not-true (eqb c' c) r.0) (sym e);
        one = sym s;
      }

  -- a mate is found
  pub mates-beyond : {c' i' : ℕ} → Mates d cs c i c' i' → cell_beyond d cs c (facet_at (cell_at cs c) i) < length cs
  mates-beyond {c'} {i'} u = go (ltb (cell_beyond d cs c (facet_at (cell_at cs c) i)) (length cs)) refl
    where
      go : (t : Bool) → ltb (cell_beyond d cs c (facet_at (cell_at cs c) i)) (length cs) ≡ t → cell_beyond d cs c (facet_at (cell_at cs c) i) < length cs
      go true q = ltb-true _ _ q
      go false q =
          let f = facet_at (cell_at cs c) i in
          let n = first-full (λ x. not (eqb x c) && ltb (dropped_for d cs f x) (suc d)) (length cs) (ltb-false _ _ q) c' u.that.cell in
          let a : not (eqb c' c) ≡ true = ap not (ne_eqb c' c (λ e. u.apart (sym e))) in
          let l : suc d ≤ dropped_for d cs f c' = ltb-false _ _ (both_false (not (eqb c' c)) (ltb (dropped_for d cs f c') (suc d)) n a) in
          let s : same_word (facet_at (cell_at cs c') i') f ≡ false = first-full (λ x. same_word (facet_at (cell_at cs c') x) f) (suc d) l i' (omega (arith, u.that.place)) in
          absurd (false-true (sym s ∙ word-true (facet_at (cell_at cs c') i') f (sym u.one)))
