-- A box of which no corner is a has no visit of an edge at a: what is known of the edge stays as it is. Assumes nothing.
use Rattle.refusal.specs.Says.{fine}
use mathlib.Core.Path.{◌≡◌, sym, ap, subst, ◌∙◌}
use mathlib.Core.Bool.{Bool, false}
use mathlib.Core.List.{◌++◌, append-nil}
use Prim.Native.Nat.{ℕ, zero, suc, ◌+◌, ◌*◌, ◌≤◌, ◌<◌}
use native.Mathlib.Nat.{suc-mul, zero-mul, mul-le-mul_right}
use native.Mathlib.Numerals.{add-one}
use native.Mathlib.Omega.{arith}
use lib.Arith.{digits_div}
use Rattle.quotient.specs.declared.Grid.{Grid}
use Rattle.quotient.specs.Shape.{check_of}
use Rattle.grid_words.specs.Cells.{boxes_of}
use Rattle.grid_words.specs.Work.{touches_at}
use Rattle.grid_lengths.specs.declared.EdgeLength.{EdgeLength}
use Rattle.grid_lengths.specs.declared.EdgeLength.TheVariants.{NoEdge}
use Rattle.grid_lengths.specs.Edges.{visits_of, square_at, visits_edge}
use Rattle.grid_lengths.specs.Settled.{settle_from, settle, only_if, values_to, edge_values}
use Rattle.grid_lengths.specs.Work.{visits_each, Settling}
use Rattle.grid_lengths.proofs.Boxed.{visits-boxes, visit-skipped}

-- ---- visits that are none of the edge's
module _ (g : Grid) (a b : ℕ) where
  value_none : (r : ℕ) → visits_edge g a b r ≡ false → values_to g a b (suc r) ≡ values_to g a b r
  unfolding values_to
  value_none r e = ap (λ (t : Bool). values_to g a b r ++ only_if t (square_at g r)) e ∙ append-nil (values_to g a b r)

  pub values-none : (r n : ℕ) → ((i : ℕ) → i < n → visits_edge g a b (r + i) ≡ false) → values_to g a b (r + n) ≡ values_to g a b r
  values-none r zero h = ap (values_to g a b) (let e : r + 0 ≡ r = omega arith in e)
  values-none r (suc n) h =
      ap (values_to g a b) (let e : r + suc n ≡ suc (r + n) = omega arith in e) ∙ value_none (r + n) (h n (omega arith)) ∙ values-none r n (λ i l. h i (omega arith))

-- ---- the loop over the boxes: what is known is what the visits of the boxes before x come to
module _ (g : Grid) (passed : check_of g ≡ fine) (a b : ℕ) where
  pub settled-none : NoEdge ≡ settle (values_to g a b (0 * visits_each g))
  unfolding values_to settle_from
  settled-none = ap (λ (n : ℕ). settle (values_to g a b n)) (sym (zero-mul (visits_each g)))

  next-box : (x : ℕ) → (x + 1) * visits_each g ≡ x * visits_each g + visits_each g
  next-box x = ap (λ (n : ℕ). n * visits_each g) (add-one x) ∙ suc-mul x (visits_each g)

  module _ (x : ℕ) (h : x < boxes_of g) where
    in-visits : x * visits_each g + visits_each g ≤ visits_of g
    in-visits = omega (arith, mul-le-mul_right (visits_each g) h, suc-mul x (visits_each g), visits-boxes g passed)

    pub box-visits : (each : ℕ) → each ≡ visits_each g → x * each + each ≤ visits_of g
    box-visits each e = rw e in-visits

    -- the box has a corner at a
    pub settling : (each : ℕ) → each ≡ visits_each g → (known : EdgeLength) → known ≡ settle (values_to g a b (x * visits_each g)) → Settling g a b (x * each) (x * each + each) known
    settling each e known k =
        record { taken = passed; rising = omega arith; within = box-visits each e; so_far = k ∙ ap (λ (n : ℕ). settle (values_to g a b (x * n))) (sym e) }

    pub settled-box : (each : ℕ) → each ≡ visits_each g → (known : EdgeLength) → known ≡ settle (values_to g a b (x * each + each)) → known ≡ settle (values_to g a b ((x + 1) * visits_each g))
    settled-box each e known k = k ∙ ap (λ (n : ℕ). settle (values_to g a b (x * n + n))) e ∙ ap (λ (n : ℕ). settle (values_to g a b n)) (sym (next-box x))

    -- and it has none
    pub skipped-box : (t : Bool) → t ≡ touches_at g x a → t ≡ false → (known : EdgeLength) → known ≡ settle (values_to g a b (x * visits_each g)) → known ≡ settle (values_to g a b ((x + 1) * visits_each g))
    skipped-box t e f known k =
        k
        ∙ ap settle
        (sym
        (ap (values_to g a b) (next-box x)
        ∙ values-none g a b (x * visits_each g) (visits_each g)
        (λ i l. visit-skipped g passed (x * visits_each g + i) (omega (arith, in-visits)) a b (subst (λ (y : ℕ). touches_at g y a ≡ false) (sym (digits_div x l)) (sym e ∙ f)))))

  pub settled-done : (x n : ℕ) → x ≡ n → n ≡ boxes_of g → (known : EdgeLength) → known ≡ settle (values_to g a b (x * visits_each g)) → known ≡ settle (edge_values g a b)
  settled-done x n e f known k = k ∙ ap (λ (m : ℕ). settle (values_to g a b (m * visits_each g))) (e ∙ f) ∙ ap (λ (m : ℕ). settle (values_to g a b m)) (visits-boxes g passed)
