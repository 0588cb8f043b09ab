-- What a returned number says to C's macros (include/planner.h), and to what range an answer's parts keep. Assumes nothing.
use Rattle.std.specs.Prelude.{◌≡◌, ℕ, ◌/◌, ◌%◌, ◌≤◌, ◌<◌, Bool, cond, Result, Ok, Err}
use Rattle.refusal.specs.declared.Refusal.{Refusal}
use Rattle.refusal.specs.Table.{number_of, place_of}
use Rattle.refusal.specs.Says.{Counted, Verdict}
use Rattle.refusal.specs.Limits.{most_cells}
use Rattle.quotient.specs.declared.Grid.{Grid}
use Rattle.quotient.specs.declared.Crossing.{Crossing}
use Rattle.quotient.specs.Says.{Made, Parity, Reduced}
use Rattle.orientation.specs.declared.Coherence.{Coherence}
use Rattle.orientation.specs.Promise.{counted_of}
use Rattle.ordering.specs.declared.Ordered.{Ordered}
use Rattle.ordering.specs.declared.Ordered.TheVariants.{Agree, Differ}
use Rattle.grid_order.specs.declared.Triangulated.{Triangulated}
use Rattle.grid_lengths.specs.declared.EdgeLength.{EdgeLength}
use Rattle.refine_results.specs.declared.Refinement.{Refinement}
use Rattle.planner_passing.specs.Said.{length_number}

-- the macros planner_number and planner_value: the upper 32 bits and the lower; planner_count and planner_yes: the lowest 31 bits and the one above them
abbrev pub number_said : ℕ → ℕ
number_said r = r / 4294967296

abbrev pub value_said : ℕ → ℕ
value_said r = r % 4294967296

abbrev pub count_said : ℕ → ℕ
count_said r = r % 2147483648

abbrev pub yes_said : ℕ → ℕ
yes_said r = r / 2147483648 % 2

-- what an answer tells: a refusal, a value, or a count of cells with a yes (1) or a no (0) beside it
pub data Told : Type 0 where
  refusal : (why : Refusal) → Told
  value : (v : ℕ) → Told
  counted : (cells beside : ℕ) → Told

-- the place and a value have 32 bits, and no more cells are counted than may be
abbrev pub InRange : Told → Type 0
InRange (refusal why) = place_of why < 4294967296
InRange (value v) = v < 4294967296
InRange (counted cells beside) = (cells ≤ most_cells) × (beside ≤ 1)

-- r tells it through the macros: planner_number is the refusal's number, and 0 where nothing is refused
abbrev pub Decodes : ℕ → Told → Type 0
Decodes r (refusal why) = (number_said r ≡ number_of why) × (value_said r ≡ place_of why)
Decodes r (value v) = (number_said r ≡ 0) × (value_said r ≡ v)
Decodes r (counted cells beside) = (number_said r ≡ 0) × (count_said r ≡ cells) × (yes_said r ≡ beside)

-- what each answer tells
abbrev pub told_of : {T : Type 0} → (T → Told) → Result T Refusal → Told
told_of tell (Ok x) = tell x
told_of tell (Err why) = refusal why

abbrev pub told_answer : {T : Type 0} → (T → ℕ) → Result T Refusal → Told
told_answer {T} number = told_of (λ (x : T). value (number x))

abbrev pub told_counted : Counted → Told
told_counted = told_answer (λ (n : ℕ). n)

abbrev pub told_coherence : Result Coherence Refusal → Told
told_coherence said = told_counted (counted_of said)

abbrev pub told_verdict : Verdict → Told
told_verdict = told_answer (λ (yes : Bool). cond yes 1 0)

abbrev pub told_parity : Parity → Told
told_parity = told_verdict

abbrev pub told_reduced : Reduced → Told
told_reduced = told_answer (λ (c : Crossing). c.vertex.0)

abbrev pub told_made : Made → Told
told_made = told_answer (λ (g : Grid). 0)

abbrev pub cells_ordered : Ordered → Told
cells_ordered (Agree n) = counted n 1
cells_ordered (Differ n) = counted n 0

abbrev pub told_ordered : Result Ordered Refusal → Told
told_ordered = told_of cells_ordered

abbrev pub cells_triangulated : Triangulated → Told
cells_triangulated (Triangulated.Ordered n) = counted n 1
cells_triangulated (Triangulated.Unordered n) = counted n 0

abbrev pub told_triangulated : Result Triangulated Refusal → Told
told_triangulated = told_of cells_triangulated

abbrev pub told_length : Result EdgeLength Refusal → Told
told_length = told_answer length_number

abbrev pub told_refined : Result Refinement Refusal → Told
told_refined = told_answer (λ (made : Refinement). made.children)
