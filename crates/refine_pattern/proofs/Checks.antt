-- The checks of `corners`, what they tell, and how it ends. Assumes nothing.
use Rattle.refusal.specs.declared.Refusal.{Refusal}
use Rattle.refusal.specs.declared.Refusal.TheVariants.{BadDimension, BadRefinement, TooManyCells, TooShort}
use Rattle.refusal.specs.Says.{Answer, fine}
use Rattle.std.specs.Prelude.{Err, Ok}
use mathlib.Core.Path.{◌≡◌, refl, sym, ap, ◌∙◌}
use mathlib.Core.Bool.{Bool, true, false, not}
use mathlib.Core.List.{List}
use Prim.Native.Nat.{ℕ, zero, suc, ◌+◌, ◌*◌, ◌^◌, ◌≤◌, ◌<◌}
use native.Mathlib.Numerals.{add-one}
use native.Mathlib.Nat.{mul-le-mul}
use native.Mathlib.Decide.{dec_lt}
use native.Mathlib.Omega.{arith}
use lib.Dec.{ltb, leb}
use lib.ListN.{length}
use borrow.Author.Tests.{lt-ltb, le-ltb, ltb-false, le-leb, lt-leb}
use Rattle.refusal.specs.Limits.{most_dimension, most_cells}
use Rattle.refusal.specs.Refuse.{refuse}
use Rattle.refusal.specs.Lent.{onto}
use Rattle.refusal.proofs.Chain.{refuse-fine}
use Rattle.lists.specs.Rows.{flat}
use Rattle.refine_lattice.specs.Pattern.{pattern_of}
use Rattle.refine_lattice.proofs.Pattern.{row_count}
use Rattle.refine_pattern.specs.WorkChains.{Ready}
use Rattle.refine_pattern.specs.Promise.{outside, answer_of, said, handed, Corners, Few}

pub inside_is : (R : ℕ) → (R ≡ 0 → ⊥) → leb R 64 ≡ not (outside R)
inside_is zero h = absurd (h refl)
inside_is (suc R) h =
    elim (dec_lt 64 (suc R)) [
      | yes l ↦ lt-leb (suc R) 64 l ∙ sym (ap not (lt-ltb 64 (suc R) l))
      | no l ↦ le-leb (suc R) 64 (omega arith) ∙ sym (ap not (le-ltb 64 (suc R) (omega arith)))
    ]

pub outside-no : (R : ℕ) → outside R ≡ false → R ≤ 64
outside-no zero e = omega arith
outside-no (suc R) e = ltb-false 64 (suc R) e

-- the answer, test by test
module _ (d R len : ℕ) where
  abbrev fourth : Answer
  fourth = refuse (ltb len (R ^ d * (suc d * suc d))) TooShort fine

  abbrev third : Answer
  third = refuse (ltb most_cells (R ^ d)) TooManyCells fourth

  abbrev second : Answer
  second = refuse (outside R) BadRefinement third

  pub says-dimension : most_dimension < d → Err BadDimension ≡ answer_of d R len
  says-dimension h = sym (ap (λ (t : Bool). refuse t BadDimension second) (lt-ltb 3 d h))

  module _ (h : d ≤ most_dimension) where
    first-passed : second ≡ answer_of d R len
    first-passed = sym (ap (λ (t : Bool). refuse t BadDimension second) (le-ltb 3 d h))

    pub says-refinement : outside R ≡ true → Err BadRefinement ≡ answer_of d R len
    says-refinement e = sym (ap (λ (t : Bool). refuse t BadRefinement third) e) ∙ first-passed

    module _ (e : outside R ≡ false) where
      second-passed : third ≡ answer_of d R len
      second-passed = sym (ap (λ (t : Bool). refuse t BadRefinement third) e) ∙ first-passed

      pub says-cells : most_cells < R ^ d → Err TooManyCells ≡ answer_of d R len
      says-cells l = sym (ap (λ (t : Bool). refuse t TooManyCells fourth) (lt-ltb 4096 (R ^ d) l)) ∙ second-passed

      module _ (l : R ^ d ≤ most_cells) where
        third-passed : fourth ≡ answer_of d R len
        third-passed = sym (ap (λ (t : Bool). refuse t TooManyCells fourth) (le-ltb 4096 (R ^ d) l)) ∙ second-passed

        pub says-short : len < R ^ d * (suc d * suc d) → Err TooShort ≡ answer_of d R len
        says-short s = sym (ap (λ (t : Bool). refuse t TooShort fine) (lt-ltb len (R ^ d * (suc d * suc d)) s)) ∙ third-passed

        pub says-fine : R ^ d * (suc d * suc d) ≤ len → fine ≡ answer_of d R len
        says-fine s = sym (ap (λ (t : Bool). refuse t TooShort fine) (le-ltb len (R ^ d * (suc d * suc d)) s)) ∙ third-passed

  -- what fine tells
  module _ (e : answer_of d R len ≡ fine) where
    one : (ltb most_dimension d ≡ false) × (second ≡ fine)
    one = refuse-fine _ _ _ e

    two : (outside R ≡ false) × (third ≡ fine)
    two = refuse-fine _ _ _ one.1

    three : (ltb most_cells (R ^ d) ≡ false) × (fourth ≡ fine)
    three = refuse-fine _ _ _ two.1

    four : (ltb len (R ^ d * (suc d * suc d)) ≡ false) × (fine ≡ fine)
    four = refuse-fine _ _ _ three.1

    pub few : Few d R
    few = record {
      axes = ltb-false 3 d one.0;
      most = outside-no R two.0;
      children = ltb-false 4096 (R ^ d) three.0;
    }

    pub ready : Ready d R len
    ready = record {
      axes = few.axes;
      most = few.most;
      room = ltb-false len (R ^ d * (suc d * suc d)) four.0;
    }

-- how many corners there are fits
pub corners-few : (d R n : ℕ) → Few d R → n ≡ R ^ d → n * (d + 1) ≤ 16384
corners-few d R n f e =
    let a : n ≤ 4096 = omega (arith, f.children) in
    let b : d + 1 ≤ 4 = omega (arith, f.axes) in
    omega (arith, mul-le-mul a b)

pub corners-count : (d R n : ℕ) → n ≡ R ^ d → n * (d + 1) ≡ length (pattern_of d R)
corners-count d R n e =
    ap (λ (x : ℕ). x * (d + 1)) e ∙ ap (λ (x : ℕ). R ^ d * x) (add-one d) ∙ sym (row_count d R)

-- the ways to end
module _ (d R : ℕ) (to : List ℕ) where
  pub ends-refused : (why : Refusal) → answer_of d R (length to) ≡ Err why → Corners d R (Err why) to to
  ends-refused why e = record {
    says = sym (ap (λ (a : Answer). said a (pattern_of d R)) e);
    list = sym (ap (λ (a : Answer). onto (handed a (pattern_of d R)) to) e);
  }

  pub ends-listed : (n : ℕ) (to' : List ℕ) → answer_of d R (length to) ≡ fine → n ≡ length (pattern_of d R) → to' ≡ onto (flat (pattern_of d R)) to
      → Corners d R (Ok n) to to'
  ends-listed n to' e m l = record {
    says = ap Ok m ∙ sym (ap (λ (a : Answer). said a (pattern_of d R)) e);
    list = l ∙ sym (ap (λ (a : Answer). onto (handed a (pattern_of d R)) to) e);
  }
