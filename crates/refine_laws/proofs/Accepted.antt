-- What a refinement hands out is an accepted complex again, whether its order agrees or not, and the children's words are an order of it. Assumes nothing.
use mathlib.Core.Path.{◌≡◌, sym, subst}
use mathlib.Core.List.{List}
use Prim.Native.Nat.{ℕ, suc, ◌≤◌, ◌<◌}
use native.Mathlib.Omega.{arith}
use lib.ListN.{length}
use Rattle.lists.specs.Rows.{flat}
use Rattle.complex.specs.Cells.{cells_of}
use Rattle.complex.specs.Check.{Passed}
use Rattle.complex.specs.Facets.{Crowded}
use Rattle.complex.proofs.Fine.{fine-passed, passed-fine}
use Rattle.complex_cells.proofs.Order.{order-rising}
use Rattle.ordering_words.specs.Order.{Orders}
use Rattle.refine_lattice.specs.Refine.{words, vertices, In}
use Rattle.refine_lattice.specs.Conform.{Used, Sound}
use Rattle.refine_lattice.proofs.Count.{Nodup}
use Rattle.refine_results.specs.Refined.{coarse, order_words, refined_cells, refined_words}
use Rattle.refine_results.specs.Results.{Refines}
use Rattle.refine_laws.specs.Composition.{Accepted}
use Rattle.refine_laws.specs.Refinement.{Taken}
use Rattle.refine_laws.proofs.Listed.{Listed, number_of}
use Rattle.refine_laws.proofs.Facets.{listed-nodup, listed-uncrowded}
use Rattle.refine_laws.proofs.Checked.{cells-listed, order-listed, sound-of}
use Rattle.refine_laws.proofs.Flat.{flat-cells, flat-coarse, flat-passed, flat-orders}
use Rattle.refine_laws.proofs.Again.{refined-listed, sorted-sound, cells-many}

module _ (d R n : ℕ) (ks : List (List ℕ)) (sound : Sound d n (In ks)) (nodup : Nodup ks) (fit : Refines d R n ks) (small : d ≤ 3) (some : 0 < n) where
  abbrev cs : List (List ℕ)
  cs = refined_cells d R n ks

  abbrev N : ℕ
  N = vertices d R n ks

  listed : Listed d (vertices d R n ks) (refined_cells d R n ks) (refined_words d R n ks)
  listed = refined-listed d R n ks fit.least sound nodup

  after : Sound d (vertices d R n ks) (In (refined_words d R n ks))
  after = sorted-sound d R n ks fit.least sound nodup

  some-cells : 0 < length (refined_cells d R n ks)
  unfolding Used
  some-cells =
      let (k, m, p) = after.used 0 (omega arith) in
      let (c, h, e) = number_of d N cs (refined_words d R n ks) listed k m in
      omega arith

  passed : Passed d (flat (refined_cells d R n ks))
  passed =
      flat-passed d N cs (refined_words d R n ks) listed some-cells after.used small
      (omega (arith, fit.few_cells, cells-many d R n ks fit.least sound nodup)) fit.few_vertices

  same-cells : cells_of d (flat (refined_cells d R n ks)) ≡ refined_cells d R n ks
  same-cells = flat-cells d N cs (refined_words d R n ks) listed (order-rising (suc d) (words d R n ks))

  pub taken : Taken d R n ks
  taken = record {
    accepted = record {
      fine = passed-fine d (flat cs) passed;
      uncrowded = subst (λ (l : List (List ℕ)). Crowded d l → ⊥) (sym same-cells) (listed-uncrowded d N cs (refined_words d R n ks) listed after.thin);
    };
    orders = subst (λ (l : List (List ℕ)). Orders d l (flat (refined_words d R n ks))) (sym same-cells) (flat-orders d N cs (refined_words d R n ks) listed);
    counted = flat-coarse d N cs (refined_words d R n ks) listed some-cells after.used;
  }

-- of an accepted complex, along any order or along its cells
pub refinement-taken : (d R : ℕ) (ws os : List ℕ) → Accepted d ws → Orders d (cells_of d ws) os → Refines d R (coarse ws) (order_words d ws os) → Taken d R (coarse ws) (order_words d ws os)
refinement-taken d R ws os acc ord fit =
    let p : Passed d ws = fine-passed d ws acc.fine in
    let ks : List (List ℕ) = order_words d ws os in
    let l : Listed d (coarse ws) (cells_of d ws) ks = order-listed d ws p os ord in
    taken d R (coarse ws) ks (sound-of d ws p ks l acc.uncrowded) (listed-nodup d (coarse ws) (cells_of d ws) ks l) fit p.small (omega arith)

pub refinement-taken-sorted : (d R : ℕ) (ws : List ℕ) → Accepted d ws → Refines d R (coarse ws) (cells_of d ws) → Taken d R (coarse ws) (cells_of d ws)
refinement-taken-sorted d R ws acc fit =
    let p : Passed d ws = fine-passed d ws acc.fine in
    let ks : List (List ℕ) = cells_of d ws in
    let l : Listed d (coarse ws) ks ks = cells-listed d ws p in
    taken d R (coarse ws) ks (sound-of d ws p ks l acc.uncrowded) (listed-nodup d (coarse ws) ks ks l) fit p.small (omega arith)
