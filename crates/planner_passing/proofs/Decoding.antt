-- The returned number decodes: for every answer the header's macros give back its refusal's number and place, or 0 and the answer. Assumes nothing.
use Prim.Native.Nat.{ℕ, ◌+◌, ◌≤◌, ◌<◌}
use mathlib.Core.Bool.{Bool, cond}
use native.Mathlib.Omega.{arith}
use Rattle.std.specs.Prelude.{Result, Ok, Err}
use Rattle.refusal.specs.declared.Refusal.{Refusal}
use Rattle.refusal.specs.Table.{place_of}
use Rattle.refusal.specs.Says.{Counted, Verdict}
use Rattle.refusal.specs.Limits.{most_cells}
use Rattle.quotient.specs.declared.Grid.{Grid}
use Rattle.quotient.specs.declared.Crossing.{Crossing}
use Rattle.quotient.specs.Says.{Made, Parity, Reduced}
use Rattle.orientation.specs.declared.Coherence.{Coherence}
use Rattle.orientation.specs.Promise.{counted_of}
use Rattle.ordering.specs.declared.Ordered.{Ordered}
use Rattle.ordering.specs.declared.Ordered.TheVariants.{Agree, Differ}
use Rattle.grid_order.specs.declared.Triangulated.{Triangulated}
use Rattle.grid_lengths.specs.declared.EdgeLength.{EdgeLength}
use Rattle.refine_results.specs.declared.Refinement.{Refinement}
use Rattle.planner_passing.specs.Said.{refused_code, answer_code, counted_code, coherence_code, verdict_code, parity_code, reduced_code, made_code, ordered_code, triangulated_code, length_number, length_code, refined_code}
use Rattle.planner_passing.specs.Decoding.{refusal, value, counted, InRange, Decodes, told_counted, told_coherence, told_verdict, told_answer, told_parity, told_reduced, told_made, told_ordered, told_triangulated, told_length, told_refined}

-- ---- the three ways to tell, and how each is returned
pub refusal-decodes : (why : Refusal) → InRange (refusal why) → Decodes (refused_code why) (refusal why)
refusal-decodes why h = let p : place_of why < 4294967296 = h in (omega arith, omega arith)

value-decodes : (v : ℕ) → InRange (value v) → Decodes v (value v)
value-decodes v h = (omega arith, omega arith)

yes-decodes : (n : ℕ) → InRange (counted n 1) → Decodes (n + 2147483648) (counted n 1)
yes-decodes n h = let l : n ≤ most_cells = h.0 in (omega arith, omega arith, omega arith)

no-decodes : (n : ℕ) → InRange (counted n 0) → Decodes n (counted n 0)
no-decodes n h = let l : n ≤ most_cells = h.0 in (omega arith, omega arith, omega arith)

-- ---- answer by answer
pub answer-decodes : {T : Type 0} (number : T → ℕ) (said : Result T Refusal) → InRange (told_answer number said) → Decodes (answer_code number said) (told_answer number said)
answer-decodes number (Ok x) h = value-decodes (number x) h
answer-decodes number (Err why) h = refusal-decodes why h

pub counted-decodes : (said : Counted) → InRange (told_counted said) → Decodes (counted_code said) (told_counted said)
counted-decodes = answer-decodes (λ (n : ℕ). n)

pub coherence-decodes : (said : Result Coherence Refusal) → InRange (told_coherence said) → Decodes (coherence_code said) (told_coherence said)
coherence-decodes said h = counted-decodes (counted_of said) h

pub verdict-decodes : (said : Verdict) → InRange (told_verdict said) → Decodes (verdict_code said) (told_verdict said)
verdict-decodes = answer-decodes (λ (yes : Bool). cond yes 1 0)

pub parity-decodes : (said : Parity) → InRange (told_parity said) → Decodes (parity_code said) (told_parity said)
parity-decodes = verdict-decodes

pub reduced-decodes : (said : Reduced) → InRange (told_reduced said) → Decodes (reduced_code said) (told_reduced said)
reduced-decodes = answer-decodes (λ (c : Crossing). c.vertex.0)

pub made-decodes : (said : Made) → InRange (told_made said) → Decodes (made_code said) (told_made said)
made-decodes = answer-decodes (λ (g : Grid). 0)

pub ordered-decodes : (said : Result Ordered Refusal) → InRange (told_ordered said) → Decodes (ordered_code said) (told_ordered said)
ordered-decodes (Ok (Agree n)) h = yes-decodes n h
ordered-decodes (Ok (Differ n)) h = no-decodes n h
ordered-decodes (Err why) h = refusal-decodes why h

pub triangulated-decodes : (said : Result Triangulated Refusal) → InRange (told_triangulated said) → Decodes (triangulated_code said) (told_triangulated said)
triangulated-decodes (Ok (Triangulated.Ordered n)) h = yes-decodes n h
triangulated-decodes (Ok (Triangulated.Unordered n)) h = no-decodes n h
triangulated-decodes (Err why) h = refusal-decodes why h

pub length-decodes : (said : Result EdgeLength Refusal) → InRange (told_length said) → Decodes (length_code said) (told_length said)
length-decodes = answer-decodes length_number

pub refined-decodes : (said : Result Refinement Refusal) → InRange (told_refined said) → Decodes (refined_code said) (told_refined said)
refined-decodes = answer-decodes (λ (made : Refinement). made.children)
