-- The words that a refinement hands out pass the checks of a cell list, so that a mesh file takes them. Assumes nothing.
use mathlib.Core.Path.{◌≡◌, sym, ap, subst, ◌∙◌}
use mathlib.Core.List.Memᴰ
use mathlib.Core.List.{List, [], ◌∷◌, Memᴰ}
use Prim.Native.Nat.{ℕ, suc, ◌≤◌, ◌<◌}
use native.Mathlib.Numerals.{add-one}
use native.Mathlib.Nat.{mul-le-mul_right}
use native.Mathlib.Omega.{arith}
use lib.ListN.{length, get_or}
use Rattle.lists.specs.Rows.{flat}
use Rattle.lists.specs.Words.{has_repeat, largest_of}
use Rattle.lists.proofs.Flat.{flat-length, flat-at, cut-flat, flat-count, flat-whole, rows-flat}
use Rattle.complex.specs.Check.{Passed}
use Rattle.complex.specs.Cells.{in_order, cells_of}
use Rattle.complex.specs.Facets.{Crowded}
use Rattle.complex_cells.proofs.Words.{each_of}
use Rattle.complex_cells.proofs.Order.{order_same}
use Rattle.refine_lattice.specs.Complex.{occurrences}
use Rattle.refine_lattice.specs.Refine.{words, vertices, In}
use Rattle.refine_lattice.specs.Conform.{Used, Sound}
use Rattle.refine_lattice.proofs.Count.{Nodup}
use Rattle.refine_lattice.proofs.Refines.{mem-at}
use Rattle.refine_results.specs.Refined.{refined_cells, refined_words}
use Rattle.refine_results.specs.Results.{Refines}
use Rattle.refine_laws.proofs.Words.{to_mem, of_mem, repeat-none, among-some}
use Rattle.refine_laws.proofs.Checked.{cut-times, cut_has, largest-times}
use Rattle.refine_laws.proofs.Again.{visited, refined-listed, to_sorted, of_sorted, sorted-sound, cells-many}
use Rattle.refine_laws.proofs.Facets.{listed-uncrowded}

-- sound words one after the other
module _ (d N : ℕ) (ks : List (List ℕ)) (s : Sound d N (In ks)) (some : 0 < length ks) where
  long : (w : List ℕ) → Memᴰ w ks → length w ≡ suc d
  long = s.complex.long

  flat_in : (v : ℕ) → 0 < occurrences (flat ks) v → v < N
  flat_in v h =
      let (w, m, q) = cut_has (suc d) (length ks) (flat ks) (sym (flat-length (suc d) ks long)) v h in
      s.complex.below w (subst (λ (ws : List (List ℕ)). Memᴰ w ws) (cut-flat (suc d) ks long) m) v q

  flat-used : (v : ℕ) → v < N → 0 < occurrences (flat ks) v
  unfolding Used
  flat-used v h =
      let (k, m, q) = s.used v h in
      omega (arith, q, cut-times (suc d) (length ks) (flat ks) k (subst (λ (ws : List (List ℕ)). Memᴰ k ws) (sym (cut-flat (suc d) ks long)) m) v)

  flat-some : length (flat ks) ≡ 0 → ⊥
  flat-some e = omega (arith, flat-length (suc d) ks long, mul-le-mul_right {m = 1} {n = length ks} (suc d) some)

  largest-in : largest_of (flat ks) < N
  largest-in = flat_in (largest_of (flat ks)) (largest-times (flat ks) flat-some)

  pub words-passed : d ≤ 3 → length ks ≤ 4096 → N ≤ 4096 → Passed d (flat ks)
  words-passed small few low = record {
    small = small;
    some_words = flat-some;
    whole = rw (add-one d) (flat-whole d ks long);
    few = rw (add-one d, flat-count d ks long) few;
    apart = λ k h.
        let b : k < length ks = omega (arith, flat-count d ks long, rw (add-one d) at h) in
        rw (add-one d) (ap has_repeat (flat-at (suc d) ks long k b) ∙ repeat-none (get_or ks k []) (s.complex.plain (get_or ks k []) (mem-at ks k b)));
    low = omega (arith, largest-in);
    used = λ v h. among-some v (flat ks) (flat-used v (omega (arith, largest-in)));
  }

module _ (d R n : ℕ) (ks : List (List ℕ)) (sound : Sound d n (In ks)) (nodup : Nodup ks) (fit : Refines d R n ks) where
  abbrev cs : List (List ℕ)
  cs = refined_cells d R n ks

  abbrev ws : List (List ℕ)
  ws = refined_words d R n ks

  after : Sound d (vertices d R n ks) (In ws)
  after = sorted-sound d R n ks fit.least sound nodup

  pub refined-some : 0 < n → 0 < length ws
  unfolding Used
  refined-some h =
      let (k, m, p) = after.used 0 (omega arith) in
      some_in ws k m
    where
      some_in : (ls : List (List ℕ)) (k : List ℕ) → Memᴰ k ls → 0 < length ls
      some_in [] k m = absurd (Memᴰ.not-nil m)
      some_in (l ∷ ls) k m = omega arith

  -- none of 1 to 6 applies to the words
  pub refined-passes : d ≤ 3 → 0 < length ws → Passed d (flat ws)
  refined-passes small some =
      words-passed d (vertices d R n ks) ws after some small
      (omega (arith, fit.few_cells, cells-many d R n ks fit.least sound nodup, (refined-listed d R n ks fit.least sound nodup).many)) fit.few_vertices

  -- their cells are the refined cells
  pub refined-cells : cells_of d (flat ws) ≡ cs
  unfolding cells_of
  refined-cells =
      let v = visited d R n ks fit.least sound nodup in
      rw (add-one d)
      (ap (in_order (suc d)) (rows-flat d ws after.complex.long)
      ∙ order_same (suc d) ws (words d R n ks)
      (each_of (λ w. length w ≡ suc d) ws (λ w q. after.complex.long w (to_mem w ws q)))
      (each_of (λ w. length w ≡ suc d) (words d R n ks) (λ w q. v.complex.long w (to_mem w (words d R n ks) q)))
      (λ w q. of_mem w (words d R n ks) (of_sorted d R n ks fit.least sound nodup w (to_mem w ws q)))
      (λ w q. of_mem w ws (to_sorted d R n ks fit.least sound nodup w (to_mem w (words d R n ks) q))))

  -- nor does 7
  pub refined-uncrowded : Crowded d (cells_of d (flat ws)) → ⊥
  refined-uncrowded =
      subst (λ (l : List (List ℕ)). Crowded d l → ⊥) (sym refined-cells) (listed-uncrowded d (vertices d R n ks) cs ws (refined-listed d R n ks fit.least sound nodup) after.thin)
