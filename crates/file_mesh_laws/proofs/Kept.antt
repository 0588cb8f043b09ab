-- What a refinement hands out keeps the rules of a mesh file. Assumes nothing.
use mathlib.Core.Path.{◌≡◌, refl, sym, ap, ◌∙◌}
use mathlib.Core.Bool.{true}
use mathlib.Core.Logic.{⊎_elim}
use mathlib.Core.List.Memᴰ
use mathlib.Core.List.{List, [], ◌∷◌, ◌++◌, Memᴰ}
use Prim.Native.Nat.{ℕ, zero, suc, ◌+◌, ◌*◌, ◌/◌, ◌≤◌, ◌<◌, max}
use native.Mathlib.Nat.{div-eq_of_eq-mul_left}
use native.Mathlib.Decide.{ℕ_discrete}
use native.Mathlib.Omega.{arith}
use lib.ListN.{length, get_or}
use Rattle.lists.specs.Rows.{flat}
use Rattle.multiindex.proofs.SortLaws.{sort-length}
use Rattle.complex_cells.proofs.Order.{order-rising}
use Rattle.lists.proofs.Words.{same-yes, same-no}
use Rattle.refine_lattice.specs.Complex.{occurrences}
use Rattle.refine_lattice.specs.Conform.{Used, Sound}
use Rattle.refine_lattice.specs.Refine.{words, vertices, births, In}
use Rattle.refine_lattice.proofs.Count.{Nodup}
use Rattle.refine_results.specs.Refined.{refined_cells, refined_words}
use Rattle.refine_laws.proofs.Again.{visited, refined-listed, to_sorted, of_sorted}
use Rattle.file_mesh.specs.Mesh.{past}
use Rattle.file_mesh.specs.Rules.{no_birth, rise, births_fit, rules}
use Rattle.file_mesh.proofs.Parts.{and_both}
use Rattle.file_mesh_laws.specs.Births.{numbered, pairs, refined_mesh}
use Rattle.file_mesh_laws.proofs.Between.{refined-births}
use Rattle.file_mesh_laws.proofs.Order.{Sorts, sorts-by, words-rise, flat-long}

-- ---- one past the last vertex

past-has : (k : List ℕ) (v : ℕ) → 0 < occurrences k v → suc v ≤ past k
unfolding past
past-has [] v h = absurd (omega arith)
past-has (x ∷ k) v h =
    elim (ℕ_discrete v x) [
      | yes e ↦ omega (arith, e)
      | no e ↦ omega (arith, past-has k v (omega (arith, same-no v x e)))
    ]

past-most : (k : List ℕ) (n : ℕ) → ((v : ℕ) → 0 < occurrences k v → v < n) → past k ≤ n
unfolding past
past-most [] n f = omega arith
past-most (x ∷ k) n f =
    let a : x < n = f x (omega (arith, same-yes x x refl)) in
    let b = past-most k n (λ v h. f v (omega arith)) in
    omega arith

past-append : (k l : List ℕ) → past (k ++ l) ≡ max (past k) (past l)
unfolding past
past-append [] l = omega arith
past-append (x ∷ k) l = omega (arith, past-append k l)

past-part : (ks : List (List ℕ)) (k : List ℕ) → Memᴰ k ks → past k ≤ past (flat ks)
past-part [] k m = absurd (Memᴰ.not-nil m)
past-part (x ∷ ks) k m =
    ⊎_elim (λ e. omega (arith, ap past e, past-append x (flat ks))) (λ q. omega (arith, past-part ks k q, past-append x (flat ks))) (Memᴰ.cases_cons m)

past-flat : (ks : List (List ℕ)) (n : ℕ) → ((k : List ℕ) → Memᴰ k ks → past k ≤ n) → past (flat ks) ≤ n
unfolding past
past-flat [] n f = omega arith
past-flat (k ∷ ks) n f = omega (arith, past-append k (flat ks), f k (Memᴰ.head refl), past-flat ks n (λ x m. f x (Memᴰ.tail m)))

-- ---- the mesh

module _ (d R n : ℕ) (ks : List (List ℕ)) (two : 2 ≤ R) (most : R ≤ 64) (sound : Sound d n (In ks)) (nodup : Nodup ks) where
  some : 0 < R
  some = omega arith

  abbrev cs : List (List ℕ)
  cs = refined_cells d R n ks

  abbrev ws : List (List ℕ)
  ws = refined_words d R n ks

  sorted : Sorts (suc d) cs ws
  sorted =
      let l = refined-listed d R n ks some sound nodup in
      sorts-by (suc d) cs ws l.many l.sorts (λ i h. sym (sort-length (get_or ws i [])) ∙ ap length (l.sorts i h) ∙ l.long i h)

  vertices-are : past (flat ws) ≡ vertices d R n ks
  unfolding Used
  vertices-are =
      let v = visited d R n ks some sound nodup in
      let high : past (flat ws) ≤ vertices d R n ks = past-flat ws (vertices d R n ks) (λ k m. past-most k (vertices d R n ks) (v.complex.below k (of_sorted d R n ks some sound nodup k m))) in
      let low : vertices d R n ks ≤ past (flat ws) =
      go (vertices d R n ks) (λ u h. let (k, m, p) = v.used u h in omega (arith, past-has k u p, past-part ws k (to_sorted d R n ks some sound nodup k m))) in
      omega arith
    where
      go : (N : ℕ) → ((u : ℕ) → u < N → suc u ≤ past (flat ws)) → N ≤ past (flat ws)
      go zero f = omega arith
      go (suc N) f = f N (omega arith)

  -- THE LAW: what a refinement by R ≥ 2 hands out keeps the rules
  pub refined-keeps : rules (refined_mesh d R n ks) ≡ true
  refined-keeps =
      let c : length (flat ws) / (d + 1) ≡ length ws = div-eq_of_eq-mul_left {n = d + 1} {m = length (flat ws)} {k = length ws} (omega arith) (flat-long (suc d) cs ws sorted ∙ ap (λ (x : ℕ). length ws * x) {x = suc d} {y = d + 1} (omega arith)) in
      and_both
      (ap (λ (x : ℕ). rise d x [] (flat ws)) c ∙ words-rise d cs ws sorted (order-rising (suc d) (words d R n ks)))
      (ap (λ (x : ℕ). births_fit x no_birth (numbered R n (births d R n ks)) (pairs (births d R n ks))) vertices-are ∙ refined-births d R n ks two sound.complex.long sound.complex.below most)
