-- The boundary of a boundary is zero. Assumes nothing.
use mathlib.Core.List.{List, [], ◌∷◌}
use mathlib.Core.Path.{◌≡◌, refl, sym, ap, ◌∙◌, subst}
use Prim.Native.Nat.{ℕ, suc, ◌<◌}
use native.Mathlib.Decide.{dec_lt}
use native.Mathlib.Omega.{arith}
use lib.ListN.{length, get_or, get_or-eq_default}
use lib.IntN.{ℤ, pos, ◌*ℤ◌}
use Rattle.complex.specs.Facets.{facet_at}
use Rattle.complex_cells.proofs.Words.{In, in-at}
use Rattle.complex_faces.specs.Faces.{faces_of}
use Rattle.complex_faces.specs.Entries.{Entry, number_of, entries_of, coef, sum_of, product_at, BoundaryTwice, signs_in, faces_in, cofaces_in, entries_from}
use Rattle.complex_faces.proofs.Whole.{sum-ext, sum_one}
use Rattle.complex_faces.proofs.Alternating.{alternating, alt-ext, alt-times, alt-sum, alt-twice}
use Rattle.complex_faces.proofs.Coefficients.{is_face, coefficient}
use Rattle.complex_faces.proofs.Members.{face-facet, number-found}

module _ (cs : List (List ℕ)) where
  -- the facets of a face of dimension k + 1, or of no face, are faces of dimension k
  facets-there : (k c i : ℕ) → i < length (get_or (faces_of cs (suc k)) c []) → In (facet_at (get_or (faces_of cs (suc k)) c []) i) (faces_of cs k)
  facets-there k c i h =
      elim (dec_lt c (length (faces_of cs (suc k)))) [
        | yes l ↦ face-facet cs k (get_or (faces_of cs (suc k)) c []) i (in-at (faces_of cs (suc k)) c l) h
        | no l ↦ absurd (omega (arith, ap length (get_or-eq_default (faces_of cs (suc k)) [] {n = c} (omega arith))))
      ]

  coef-of : (k f c : ℕ) → coef (entries_of cs (suc k)) f c ≡ alternating (is_face (faces_of cs k) f) (get_or (faces_of cs (suc k)) c [])
  unfolding entries_of
  coef-of k f c = coefficient (faces_of cs k) f (faces_of cs (suc k)) c

  pub boundary-twice : BoundaryTwice cs
  boundary-twice k f c =
      let mid = faces_of cs (suc k) in
      let w = get_or (faces_of cs (suc (suc k))) c [] in
      let a : ℕ → ℤ = λ m. coef (entries_of cs (suc k)) f m in
      sum-ext (length (faces_of cs (suc k))) (λ m. a m *ℤ coef (entries_of cs (suc (suc k))) m c) (λ m. alternating (λ u. a m *ℤ is_face (faces_of cs (suc k)) m u) (get_or (faces_of cs (suc (suc k))) c []))
      (λ m l. ap (λ (z : ℤ). a m *ℤ z) (coef-of (suc k) m c) ∙ alt-times (a m) (is_face (faces_of cs (suc k)) m) (get_or (faces_of cs (suc (suc k))) c []))
      ∙ alt-sum (length (faces_of cs (suc k))) (λ m u. a m *ℤ is_face (faces_of cs (suc k)) m u) (get_or (faces_of cs (suc (suc k))) c [])
      ∙ alt-ext (λ u. sum_of (length (faces_of cs (suc k))) (λ m. a m *ℤ is_face (faces_of cs (suc k)) m u)) (λ u. alternating (is_face (faces_of cs k) f) u) (get_or (faces_of cs (suc (suc k))) c [])
      (λ i h.
      let n = number-found (faces_of cs (suc k)) (facet_at (get_or (faces_of cs (suc (suc k))) c []) i) (facets-there (suc k) c i h) in
      sum_one (length (faces_of cs (suc k))) (number_of (faces_of cs (suc k)) (facet_at (get_or (faces_of cs (suc (suc k))) c []) i)) a n.0
      ∙ coef-of k f (number_of (faces_of cs (suc k)) (facet_at (get_or (faces_of cs (suc (suc k))) c []) i))
      ∙ ap (alternating (is_face (faces_of cs k) f)) n.1)
      ∙ alt-twice (is_face (faces_of cs k) f) (get_or (faces_of cs (suc (suc k))) c [])

-- ---- over what the calls hand out
pub read_back : (es : List Entry) → entries_from (signs_in es) (faces_in es) (cofaces_in es) ≡ es
unfolding entries_from
read_back [] = refl
read_back (e ∷ es) = ap (λ (z : List Entry). e ∷ z) (read_back es)

-- the entries of two operators, read from the lists that two calls hand out
pub boundary-twice-handed : (cs : List (List ℕ)) (k : ℕ) (ss ss' : List ℤ) (fs fs' gs gs' : List ℕ) →
    ss ≡ signs_in (entries_of cs (suc k)) → fs ≡ faces_in (entries_of cs (suc k)) → gs ≡ cofaces_in (entries_of cs (suc k)) →
    ss' ≡ signs_in (entries_of cs (suc (suc k))) → fs' ≡ faces_in (entries_of cs (suc (suc k))) → gs' ≡ cofaces_in (entries_of cs (suc (suc k))) →
    (f c : ℕ) → product_at (length (faces_of cs (suc k))) (entries_from ss fs gs) (entries_from ss' fs' gs') f c ≡ pos 0
boundary-twice-handed cs k ss ss' fs fs' gs gs' a b c a' b' c' f g =
    let e : entries_from ss fs gs ≡ entries_of cs (suc k) = cc (read_back (entries_of cs (suc k))) in
    let e' : entries_from ss' fs' gs' ≡ entries_of cs (suc (suc k)) = cc (read_back (entries_of cs (suc (suc k)))) in
    subst (λ (z : List Entry). product_at (length (faces_of cs (suc k))) z (entries_from ss' fs' gs') f g ≡ pos 0) (sym e)
    (subst (λ (z : List Entry). product_at (length (faces_of cs (suc k))) (entries_of cs (suc k)) z f g ≡ pos 0) (sym e') (boundary-twice cs k f g))
