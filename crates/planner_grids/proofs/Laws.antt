-- Answers of the calls on the grid that is given. Assumes nothing.
use Rattle.refusal.specs.declared.Refusal.{Refusal}
use Rattle.refusal.specs.Says.{Counted}
use Rattle.std.specs.Prelude.{Result}
use mathlib.Core.Path.{◌≡◌, ap, subst, ◌∙◌}
use Prim.Native.Nat.{ℕ}
use mathlib.Core.List.{List}
use lib.Ieee.{Float}
use Rattle.quotient.specs.declared.Grid.{Grid}
use Rattle.grid_mesh.specs.Words.{CellWords}
use Rattle.grid_order.specs.declared.Triangulated.{Triangulated}
use Rattle.grid_order.specs.Promise.{TriangulateOrdered}
use Rattle.grid_lengths.specs.Lengths.{EdgeLengths}
use Rattle.planner_passing.specs.Said.{Said, counted_code, triangulated_code}

-- an answer that is the call's, on a value that is the one given
pub called : {A B : Type 0} (code : B → ℕ) (f : A → B) {r : ℕ} {b : B} {a given : A} → r ≡ code b → b ≡ f a → a ≡ given → r ≡ code (f given)
called code f e h k = e ∙ ap code (h ∙ ap f k)

-- a grid's words, where the grid is the one given
pub words-said : {g given : Grid} {r : ℕ} {a : Counted} {words words' keys keys' rows rows' spare spare' counts counts' : List ℕ}
    → r ≡ counted_code a → CellWords g a words words' keys keys' rows rows' spare spare' counts counts' → g ≡ given
    → Said counted_code (λ (x : Counted). CellWords given x words words' keys keys' rows rows' spare spare' counts counts') r
words-said {a} {words} {words'} {keys} {keys'} {rows} {rows'} {spare} {spare'} {counts} {counts'} e h k =
    record { answer = a; coded = e; meets = subst (λ (x : Grid). CellWords x a words words' keys keys' rows rows' spare spare' counts counts') k h }

-- a grid's cells and their order, where the grid is the one given
pub triangulated-said : {g given : Grid} {r : ℕ} {a : Result Triangulated Refusal} {cells cells' order order' keys keys' rows rows' spare spare' counts counts' : List ℕ}
    → r ≡ triangulated_code a → TriangulateOrdered g a cells cells' order order' keys keys' rows rows' spare spare' counts counts' → g ≡ given
    → Said triangulated_code (λ (x : Result Triangulated Refusal). TriangulateOrdered given x cells cells' order order' keys keys' rows rows' spare spare' counts counts') r
triangulated-said {a} {cells} {cells'} {order} {order'} {keys} {keys'} {rows} {rows'} {spare} {spare'} {counts} {counts'} e h k =
    record { answer = a; coded = e; meets = subst (λ (x : Grid). TriangulateOrdered x a cells cells' order order' keys keys' rows rows' spare spare' counts counts') k h }

-- a grid's lengths, where the grid is the one given
pub lengths-said : {g given : Grid} {r : ℕ} {a : Counted} {out out' : List Float} {keys keys' rows rows' spare spare' counts counts' : List ℕ}
    → r ≡ counted_code a → EdgeLengths g a out out' keys keys' rows rows' spare spare' counts counts' → g ≡ given
    → Said counted_code (λ (x : Counted). EdgeLengths given x out out' keys keys' rows rows' spare spare' counts counts') r
lengths-said {a} {out} {out'} {keys} {keys'} {rows} {rows'} {spare} {spare'} {counts} {counts'} e h k =
    record { answer = a; coded = e; meets = subst (λ (x : Grid). EdgeLengths x a out out' keys keys' rows rows' spare spare' counts counts') k h }
