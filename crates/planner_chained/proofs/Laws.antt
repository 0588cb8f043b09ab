-- Answers of the calls on the grid that is given. Assumes nothing.
use Rattle.grid_chained.specs.Says.{Classed}
use Rattle.refusal.specs.Says.{Counted}
use mathlib.Core.Path.{◌≡◌, subst}
use Prim.Native.Nat.{ℕ}
use mathlib.Core.List.{List}
use Rattle.quotient.specs.declared.Grid.{Grid}
use Rattle.grid_chained.specs.PromiseClasses.{ClassesListed}
use Rattle.grid_chained.specs.PromiseReduce.{ReducedTo}
use Rattle.grid_chained.specs.PromiseCount.{CountedTo}
use Rattle.grid_chained_mesh.specs.Words.{CellWords}
use Rattle.planner_passing.specs.Said.{Said, counted_code}
use Rattle.planner_chained.specs.Said.{classed_code}

-- a point's class, where the grid is the one given
pub class-said : {g given : Grid} {r v : ℕ} {a : Classed} {room room' : List ℕ} → r ≡ classed_code a → ReducedTo g v a room room' → g ≡ given →
    Said classed_code (λ (x : Classed). ReducedTo given v x room room') r
class-said {v} {a} {room} {room'} e h k = record { answer = a; coded = e; meets = subst (λ (x : Grid). ReducedTo x v a room room') k h }

-- how many classes there are, likewise
pub count-said : {g given : Grid} {r : ℕ} {a : Counted} {room room' : List ℕ} → r ≡ counted_code a → CountedTo g a room room' → g ≡ given →
    Said counted_code (λ (x : Counted). CountedTo given x room room') r
count-said {a} {room} {room'} e h k = record { answer = a; coded = e; meets = subst (λ (x : Grid). CountedTo x a room room') k h }

-- the list of classes
pub classes-said : {g given : Grid} {r : ℕ} {a : Counted} {to to' room room' : List ℕ} → r ≡ counted_code a → ClassesListed g a to to' room room' → g ≡ given →
    Said counted_code (λ (x : Counted). ClassesListed given x to to' room room') r
classes-said {a} {to} {to'} {room} {room'} e h k = record { answer = a; coded = e; meets = subst (λ (x : Grid). ClassesListed x a to to' room room') k h }

-- the words
pub words-said : {g given : Grid} {r : ℕ} {a : Counted} {words words' keys keys' rows rows' spare spare' counts counts' : List ℕ} → r ≡ counted_code a →
    CellWords g a words words' keys keys' rows rows' spare spare' counts counts' → g ≡ given →
    Said counted_code (λ (x : Counted). CellWords given x words words' keys keys' rows rows' spare spare' counts counts') r
words-said {a} {words} {words'} {keys} {keys'} {rows} {rows'} {spare} {spare'} {counts} {counts'} e h k =
    record { answer = a; coded = e; meets = subst (λ (x : Grid). CellWords x a words words' keys keys' rows rows' spare spare' counts counts') k h }
