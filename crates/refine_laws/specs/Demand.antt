-- DEMAND 3 over the promise that `refine` and `refine_with` make, and over the caller's own lists: all that is read of a call is what it said and what stands in the
-- lent lists at exit, and the second call of the tower is given what stands there. Assumes nothing.
use Rattle.refusal.specs.declared.Refusal.{Refusal}
use Rattle.refusal.specs.declared.Refusal.TheVariants.{TooShort}
use Rattle.std.specs.Prelude.{List, ◌≡◌, ℕ, suc, ◌*◌, ◌-◌, ℤ, Float, take, Err, Ok, Result}
use Rattle.refusal.specs.Limits.{square_most}
use Rattle.complex.specs.Cells.{cells_of}
use Rattle.ordering_words.specs.Order.{Orders, AgreeOnFacets}
use Rattle.refine_results.specs.declared.Refinement.{Refinement}
use Rattle.refine_results.specs.Says.{sizes}
use Rattle.refine_results.specs.Refined.{coarse, order_words}
use Rattle.refine_results.specs.Results.{Results}
use Rattle.refine.specs.Promise.{Refining}
use Rattle.refine_laws.specs.Calls.{Tower}

-- the lists that a caller lends to one refinement: eight for what is handed out, ten to work in
pub record Lists : Type 0 where
  pub out_cells : List ℕ
  pub out_words : List ℕ
  pub parents : List ℕ
  pub jacobians : List Float
  pub wholes : List ℤ
  pub birth_vertices : List ℕ
  pub birth_weights : List ℕ
  pub birth_shares : List Float
  pub cells : List ℕ
  pub along : List ℕ
  pub pattern : List ℕ
  pub keys : List ℕ
  pub rows : List ℕ
  pub spare : List ℕ
  pub counts : List ℕ
  pub sorted : List ℕ
  pub firsts : List ℕ
  pub buckets : List ℕ

-- the promise of a call that said r: its lists were l, and are l' at exit
abbrev pub Promised : (d R : ℕ) (ws : List ℕ) (Ordered : Type 0) (ks : List (List ℕ)) → Result Refinement Refusal → Lists → Lists → Type 0
Promised d R ws Ordered ks r l l' =
    Refining d ws R Ordered ks r l.out_cells l'.out_cells l.out_words l'.out_words l.parents l'.parents l.jacobians l'.jacobians
    l.wholes l'.wholes l.birth_vertices l'.birth_vertices l.birth_weights l'.birth_weights l.birth_shares l'.birth_shares
    l.cells l'.cells l.along l'.along l.pattern l'.pattern l.keys l'.keys l.rows l'.rows l.spare l'.spare
    l.counts l'.counts l.sorted l'.sorted l.firsts l'.firsts l.buckets l'.buckets

-- that of `refine`
abbrev pub RefinePromised : ℕ → ℕ → List ℕ → Result Refinement Refusal → Lists → Lists → Type 0
RefinePromised d R ws r l l' = Promised d R ws (Unit {0}) (cells_of d ws) r l l'

-- that of `refine_with`
abbrev pub RefineWithPromised : ℕ → ℕ → List ℕ → List ℕ → Result Refinement Refusal → Lists → Lists → Type 0
RefineWithPromised d R ws os r l l' = Promised d R ws (Orders d (cells_of d ws) os) (order_words d ws os) r l l'

-- how many children, and how many vertices, a call said: none where it is refused
abbrev pub children_said : Result Refinement Refusal → ℕ
children_said (Ok said) = said.children
children_said (Err why) = 0

abbrev pub vertices_said : Result Refinement Refusal → ℕ
vertices_said (Ok said) = said.vertices
vertices_said (Err why) = 0

-- what a caller reads of his lists after a call on the words ws that said r: a row for each child, and one for each vertex past those of ws
abbrev pub read_by : ℕ → List ℕ → Result Refinement Refusal → Lists → Results
read_by d ws r l =
    record {
      cells_out = take (children_said r * suc d) l.out_cells;
      words_out = take (children_said r * suc d) l.out_words;
      parents_out = take (children_said r) l.parents;
      jacobians_out = take (children_said r * square_most) l.jacobians;
      wholes_out = take (children_said r * square_most) l.wholes;
      birth_vertices = take ((vertices_said r - coarse ws) * suc d) l.birth_vertices;
      birth_weights = take ((vertices_said r - coarse ws) * suc d) l.birth_weights;
      birth_shares = take ((vertices_said r - coarse ws) * suc d) l.birth_shares;
    }

-- a call that had room: it did not say 12
abbrev pub HadRoom : Result Refinement Refusal → Type 0
HadRoom r = r ≡ Err TooShort → ⊥

-- DEMAND 3, for an order that agrees on every shared facet: `refine_with` by a * b is accepted, `refine_with` by a and then by b, on what the first of the two left in
-- its lists, have room.
unfoldable pub Demand3 : ℕ → ℕ → ℕ → List ℕ → List ℕ → Type 0
Demand3 d a b ws os =
    (m N : ℕ) (r₁ r₂ : Result Refinement Refusal) (l l' l₁ l₁' l₂ l₂' : Lists)
    → RefineWithPromised d (a * b) ws os (sizes m N) l l'
    → AgreeOnFacets d (cells_of d ws) (order_words d ws os)
    → RefineWithPromised d a ws os r₁ l₁ l₁' → HadRoom r₁
    → RefineWithPromised d b (read_by d ws r₁ l₁').cells_out (read_by d ws r₁ l₁').words_out r₂ l₂ l₂' → HadRoom r₂
    → Tower d a b ws m N (read_by d ws (sizes m N) l') r₁ (read_by d ws r₁ l₁') r₂ (read_by d (read_by d ws r₁ l₁').cells_out r₂ l₂')

-- and along the cells' sorted vertices, which always agree: `refine` by a * b, `refine` by a and then `refine_with` by b
unfoldable pub Demand3Sorted : ℕ → ℕ → ℕ → List ℕ → Type 0
Demand3Sorted d a b ws =
    (m N : ℕ) (r₁ r₂ : Result Refinement Refusal) (l l' l₁ l₁' l₂ l₂' : Lists)
    → RefinePromised d (a * b) ws (sizes m N) l l'
    → RefinePromised d a ws r₁ l₁ l₁' → HadRoom r₁
    → RefineWithPromised d b (read_by d ws r₁ l₁').cells_out (read_by d ws r₁ l₁').words_out r₂ l₂ l₂' → HadRoom r₂
    → Tower d a b ws m N (read_by d ws (sizes m N) l') r₁ (read_by d ws r₁ l₁') r₂ (read_by d (read_by d ws r₁ l₁').cells_out r₂ l₂')
