-- How an answer is returned to C, in one number of 64 bits: a refusal's number in the upper half and its place in the lower; where there is no refusal, 0 and the answer. Assumes nothing.
use Rattle.std.specs.Prelude.{◌≡◌, ℕ, ◌+◌, ◌*◌, Bool, cond, List, [], ◌∷◌, Float, set, Result, Ok, Err}
use Rattle.refusal.specs.declared.Refusal.{Refusal}
use Rattle.refusal.specs.Table.{number_of, place_of}
use Rattle.refusal.specs.Says.{Counted, Verdict}
use Rattle.quotient.specs.declared.Grid.{Grid}
use Rattle.quotient.specs.declared.Crossing.{Crossing}
use Rattle.quotient.specs.Says.{Made, Parity, Reduced}
use Rattle.orientation.specs.declared.Coherence.{Coherence}
use Rattle.orientation.specs.declared.Coherence.TheVariants.{Signs, OneSided}
use Rattle.orientation.specs.Promise.{counted_of}
use Rattle.ordering.specs.declared.Ordered.{Ordered}
use Rattle.ordering.specs.declared.Ordered.TheVariants.{Agree, Differ}
use Rattle.grid_order.specs.declared.Triangulated.{Triangulated}
use Rattle.grid_lengths.specs.declared.EdgeLength.{EdgeLength}
use Rattle.grid_lengths.specs.declared.EdgeLength.TheVariants.{Length, Clash, NoEdge}
use Rattle.refine_results.specs.declared.Refinement.{Refinement}
use Rattle.planner_passing.specs.Given.{axes_of}

-- 2 ^ 32 times the number, and the place
abbrev pub refused_code : Refusal → ℕ
refused_code why = number_of why * 4294967296 + place_of why

-- the answer's number, where there is no refusal
abbrev pub answer_code : {T : Type 0} → (T → ℕ) → Result T Refusal → ℕ
answer_code number (Ok x) = number x
answer_code number (Err why) = refused_code why

-- the answer's list that is handed out, and on a refusal what stood there
abbrev pub answer_list : {T A : Type 0} → (T → List A) → Result T Refusal → List A → List A
answer_list list (Ok x) old = list x
answer_list list (Err why) old = old

-- a count
abbrev pub counted_code : Counted → ℕ
counted_code = answer_code (λ (n : ℕ). n)

-- signs, or that there are none: a count without the looks, 13 at place 0 where no coherent signs exist
abbrev pub coherence_code : Result Coherence Refusal → ℕ
coherence_code said = counted_code (counted_of said)

-- the facet looks, with signs and where none exist; on another refusal what stood there
abbrev pub coherence_looks : Result Coherence Refusal → List ℕ → List ℕ
coherence_looks (Ok (Signs cells looks)) list = set list 0 looks
coherence_looks (Ok (OneSided looks)) list = set list 0 looks
coherence_looks (Err why) list = list

-- 1 for yes, 0 for no
abbrev pub verdict_code : Verdict → ℕ
verdict_code = answer_code (λ (yes : Bool). cond yes 1 0)

-- 1 where orientation is preserved, 0 where it is not
abbrev pub parity_code : Parity → ℕ
parity_code = verdict_code

-- the number of a glued vertex
abbrev pub reduced_code : Reduced → ℕ
reduced_code = answer_code (λ (c : Crossing). c.vertex.0)

-- the sets that are handed out, the wrapped axes and the reversed ones; on a refusal what stood there
abbrev pub reduced_sets : Reduced → List ℕ → List ℕ
reduced_sets = answer_list (λ (c : Crossing). c.wrapped ∷ c.reversed ∷ [])

-- 0 where a grid was made
abbrev pub made_code : Made → ℕ
made_code = answer_code (λ (g : Grid). 0)

-- the axes that are handed out: those of the grid, and on a refusal what stood there
abbrev pub made_axes : Made → List ℕ → List ℕ
made_axes = answer_list axes_of

-- a count of cells, with 2 ^ 31 more where the order agrees
abbrev pub ordered_number : Ordered → ℕ
ordered_number (Agree n) = n + 2147483648
ordered_number (Differ n) = n

abbrev pub ordered_code : Result Ordered Refusal → ℕ
ordered_code = answer_code ordered_number

-- a count of cells, with 2 ^ 31 more where an order is handed out
abbrev pub triangulated_number : Triangulated → ℕ
triangulated_number (Triangulated.Ordered n) = n + 2147483648
triangulated_number (Triangulated.Unordered n) = n

abbrev pub triangulated_code : Result Triangulated Refusal → ℕ
triangulated_code = answer_code triangulated_number

-- how many squared lengths an edge has: 0 where there is no such edge, 2 where they clash
abbrev pub length_number : EdgeLength → ℕ
length_number (Length x) = 1
length_number (Clash x y) = 2
length_number NoEdge = 0

abbrev pub length_code : Result EdgeLength Refusal → ℕ
length_code = answer_code length_number

-- the squared lengths that are handed out, from the start; past them, and on a refusal, what stood there
abbrev pub length_squares : Result EdgeLength Refusal → List Float → List Float
length_squares (Ok (Length x)) squares = set squares 0 x
length_squares (Ok (Clash x y)) squares = set (set squares 0 x) 1 y
length_squares (Ok NoEdge) squares = squares
length_squares (Err why) squares = squares

-- how many children a refinement has
abbrev pub refined_code : Result Refinement Refusal → ℕ
refined_code = answer_code (λ (made : Refinement). made.children)

-- the number of vertices that is handed out; on a refusal what stood there
abbrev pub refined_vertices : Result Refinement Refusal → List ℕ → List ℕ
refined_vertices (Ok made) vertices = set vertices 0 made.vertices
refined_vertices (Err why) vertices = vertices

-- r returns an answer that meets the call's promise
pub record Said {S : Type 0} (code : S → ℕ) (Meets : S → Type 0) (r : ℕ) : Type 0 where
  pub answer : S
  pub coded : r ≡ code answer
  pub meets : Meets answer
