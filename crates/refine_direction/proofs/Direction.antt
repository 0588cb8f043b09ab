-- CHILDREN INHERIT DIRECTION over the calls themselves: from their promises, a refinement that is not refused hands out the defined lists of an accepted complex.
-- Assumes nothing.
use mathlib.Core.Path.{◌≡◌, sym, ap, ◌∙◌, subst}
use mathlib.Core.List.{List, Memᴰ}
use Prim.Native.Nat.{ℕ, suc, ◌≤◌, ◌<◌}
use lib.ListN.{length}
use Rattle.refusal.specs.Limits.{most_dimension}
use Rattle.lists.specs.Rows.{flat}
use Rattle.lists.proofs.Flat.{rows-flat}
use Rattle.multiindex.specs.Sign.{Sign}
use Rattle.complex.specs.Check.{Passed}
use Rattle.complex.specs.Cells.{cells_of}
use Rattle.complex.proofs.Fine.{fine-passed}
use Rattle.complex_cells.proofs.Words.{at_in}
use Rattle.complex_cells.proofs.Order.{order-rising}
use Rattle.orientation_signs.specs.Signs.{Coherent, sign_list}
use Rattle.orientation_laws.specs.Asked.{OrientByCalled}
use Rattle.orientation_laws.proofs.Coherent.{coherent-yes, coherent-found}
use Rattle.ordering_words.specs.Order.{Orders}
use Rattle.refine_lattice.specs.Refine.{words, vertices}
use Rattle.refine_lattice.proofs.Fits.{Stage}
use Rattle.refine_results.specs.Says.{sizes}
use Rattle.refine_results.specs.Refined.{coarse, order_words, refined_cells, refined_words}
use Rattle.refine_results.specs.Results.{Results, Refines, results_of}
use Rattle.refine_laws.specs.Composition.{Accepted}
use Rattle.refine_laws.specs.Refinement.{Taken}
use Rattle.refine_laws.specs.Calls.{Called}
use Rattle.refine_laws.specs.Demand.{children_said}
use Rattle.refine_laws.proofs.Words.{of_mem}
use Rattle.refine_laws.proofs.Listed.{Listed}
use Rattle.refine_laws.proofs.Checked.{cells-listed, order-listed, stage-of, stage-sorted}
use Rattle.refine_laws.proofs.Flat.{flat-cells}
use Rattle.refine_laws.proofs.Again.{refined-listed}
use Rattle.refine_laws.proofs.Made.{IsMade, Makes, tells}
use Rattle.refine_laws.proofs.Accepted.{refinement-taken, refinement-taken-sorted}
use Rattle.refine_direction.specs.Direction.{inherited, Inherits, InheritLaw, InheritLawSorted}
use Rattle.refine_direction.proofs.Children.{unit-at, children-coherent}

-- ---- what a call that is not refused hands out
module _ (d R n : ℕ) (cs ks : List (List ℕ)) (l : Listed d n cs ks) (stage : Stage d n ks) (σ : ℕ → Sign) (co : Coherent d cs σ) (small : d ≤ most_dimension) (some : 0 < R) (taken : Taken d R n ks) where
  abbrev h : Results
  h = results_of d R n cs ks

  abbrev rcs : List (List ℕ)
  rcs = refined_cells d R n ks

  listed : Listed d (vertices d R n ks) (refined_cells d R n ks) (refined_words d R n ks)
  listed = refined-listed d R n ks some stage.sound stage.nodup

  same-cells : cells_of d (flat (refined_cells d R n ks)) ≡ refined_cells d R n ks
  same-cells = flat-cells d (vertices d R n ks) rcs (refined_words d R n ks) listed (order-rising (suc d) (words d R n ks))

  long : (w : List ℕ) → Memᴰ w rcs → length w ≡ suc d
  long w m = let (c, b, e) = at_in w rcs (of_mem w rcs m) in ap length (sym e) ∙ listed.long c b

  coherent-here : Coherent d (cells_of d (flat (refined_cells d R n ks))) (inherited d (results_of d R n cs ks) σ)
  coherent-here = subst (λ (x : List (List ℕ)). Coherent d x (inherited d h σ)) (sym same-cells) (children-coherent d R n cs ks l stage σ co small some)

  lists-inherit : Inherits d (length (refined_cells d R n ks)) (results_of d R n cs ks) σ
  lists-inherit = record {
    unit = unit-at d R n cs ks l stage σ co small some;
    coherent = coherent-here;
    agreed = λ pd r x.
        coherent-yes d (flat rcs) taken.accepted.fine taken.accepted.uncrowded (inherited d h σ) coherent-here pd r
        (subst (λ (i : ℕ). OrientByCalled d (flat rcs) (sign_list (inherited d h σ) i) r) (sym (ap length same-cells)) x);
    two_sided = coherent-found d (flat rcs) taken.accepted.fine taken.accepted.uncrowded (inherited d h σ) coherent-here;
    cells = same-cells ∙ sym (rows-flat d rcs long);
    many = ap length same-cells;
  }

-- what an accepted complex with an order gives: its words listed, a stage of the lattice, and a refinement of it is taken again
record Ready (d R : ℕ) (ws : List ℕ) (ks : List (List ℕ)) : Type 0 where
  listed : Listed d (coarse ws) (cells_of d ws) ks
  stage : Stage d (coarse ws) ks
  taken : Taken d R (coarse ws) ks

inherit-of : (d R : ℕ) (ws : List ℕ) (Good : Type 0) (ks : List (List ℕ)) → (Accepted d ws → Good → Refines d R (coarse ws) ks → Ready d R ws ks)
    → (m N : ℕ) (h : Results) (σ : ℕ → Sign) → Called d R ws Good ks (sizes m N) h → Coherent d (cells_of d ws) σ → Inherits d m h σ
unfolding IsMade
inherit-of d R ws Good ks f m N h σ x co =
    let k : Makes d R ws Good ks (sizes m N) h = tells d R ws Good ks x.given x.have x.used (sizes m N) h x.comes tt in
    let y : Ready d R ws ks = f k.accepted k.good k.fits in
    let p : Passed d ws = fine-passed d ws k.accepted.fine in
    subst (λ (i : ℕ). Inherits d i h σ) (ap children_said (sym k.says))
    (subst (λ (z : Results). Inherits d (length (refined_cells d R (coarse ws) ks)) z σ) (sym k.hands)
    (lists-inherit d R (coarse ws) (cells_of d ws) ks y.listed y.stage σ co p.small k.fits.least y.taken))

pub inherit : (d R : ℕ) (ws os : List ℕ) → InheritLaw d R ws os
unfolding InheritLaw
inherit d R ws os m N h σ x agree co =
    let ks : List (List ℕ) = order_words d ws os in
    inherit-of d R ws (Orders d (cells_of d ws) os) ks
    (λ acc ord fit.
    let p : Passed d ws = fine-passed d ws acc.fine in
    let l : Listed d (coarse ws) (cells_of d ws) ks = order-listed d ws p os ord in
    record { listed = l; stage = stage-of d ws p ks l acc.uncrowded agree; taken = refinement-taken d R ws os acc ord fit })
    m N h σ x co

pub inherit-sorted : (d R : ℕ) (ws : List ℕ) → InheritLawSorted d R ws
unfolding InheritLawSorted
inherit-sorted d R ws m N h σ x co =
    inherit-of d R ws (Unit {0}) (cells_of d ws)
    (λ acc ord fit.
    let p : Passed d ws = fine-passed d ws acc.fine in
    record { listed = cells-listed d ws p; stage = stage-sorted d ws p acc.uncrowded; taken = refinement-taken-sorted d R ws acc fit })
    m N h σ x co
