-- The laws of both modes and of the square, over the calls. Assumes nothing.
use Rattle.refusal.specs.declared.Refusal.{Refusal}
use Rattle.refusal.specs.declared.Refusal.TheVariants.{BadDimension, BadReflection, ShortAxis, TooManyCells, TooManyVertices}
use Rattle.grid_chained.specs.Says.{Classed}
use Rattle.quotient.specs.Says.{Reduced}
use Rattle.refusal.specs.Says.{Answer, Counted, fine}
use Rattle.refusal.proofs.Chain.{fine-refused}
use Rattle.std.specs.Prelude.{Err, Ok}
use mathlib.Core.List.{List, []}
use mathlib.Core.Bool.{Bool, true, false}
use mathlib.Core.Path.{◌≡◌, refl, sym, ap, ◌∙◌}
use Prim.Native.Nat.{ℕ, suc, ◌+◌, ◌*◌, ◌<◌, ◌≤◌}
use native.Mathlib.Nat.{one-mul}
use native.Mathlib.Omega.{arith}
use lib.Dec.{ltb}
use lib.ListN.{length}
use borrow.Author.Tests.{le-ltb, lt-ltb}
use Rattle.refusal.specs.Refuse.{refuse}
use Rattle.refusal.specs.Limits.{most_dimension, most_cells, most_vertices}
use Rattle.refusal.specs.Call.{Call, refused, cramped, ended}
use Rattle.quotient.specs.declared.Axis.{Axis}
use Rattle.quotient.specs.declared.Grid.{Grid}
use Rattle.quotient.specs.declared.Crossing.{Crossing}
use Rattle.quotient.specs.Fold.{product, factorial}
use Rattle.quotient.specs.Shape.{cells_on, bad_reflection, short_axis, cell_count, vertices_of, check_of, nvertices_of, counted_after}
use Rattle.quotient.specs.Reduce.{vertex_of, crossing_of, reduced_after, reduce_of}
use Rattle.quotient.specs.Points.{points_of}
use Rattle.quotient.specs.Chain.{Untangled}
use Rattle.grid_chained.specs.Classing.{at}
use Rattle.grid_chained.specs.Shape.{shape_of, need_of}
use Rattle.grid_chained.specs.PromiseReduce.{ReduceEnd, ReducedTo}
use Rattle.grid_chained.specs.PromiseReduce as Reducing
use Rattle.grid_chained.specs.PromiseCount.{CountEnd, CountedTo}
use Rattle.grid_chained.specs.PromiseCount as Counting
use Rattle.grid_chained.specs.Laws.{BothModesLaw, Square, SquareLaw}
use Rattle.grid_chained.proofs.Taken.{some-cell, few_cells}
use Rattle.grid_chained.proofs.Unique.{classing-one}
use Rattle.grid_chained.proofs.There.{class_of, class_count, class-numbers}
use Rattle.grid_chained.proofs.BothModes.{class_of_vertex, vertex_of_class, class-is, vertex-is}
use Rattle.grid_chained.proofs.Counts.{untangled-count}
use Rattle.grid_chained.proofs.Square.{square-classes}

-- ---- what the calls say

-- the number that is said, and one more; 0 for a refusal
abbrev said_vertex : Reduced → ℕ
said_vertex (Ok x) = suc x.vertex.0
said_vertex (Err why) = 0

abbrev said_class : Classed → ℕ
said_class (Ok v) = suc v.0
said_class (Err why) = 0

never : {why : Refusal} → fine ≡ Err why → ⊥
never {why} z = fine-refused why (sym z)

-- where the first mode says x, the grid is taken and x is the point's vertex
reduced-vertex : (a : Answer) (z x : Crossing) → reduced_after a (Ok z) ≡ Ok x → (a ≡ fine) × (z.vertex.0 ≡ x.vertex.0)
reduced-vertex (Ok _) z x e = let w : suc z.vertex.0 ≡ suc x.vertex.0 = ap said_vertex e in (refl, omega arith)
reduced-vertex (Err why) z x e = let w : ◌≡◌ {A = ℕ} 0 (suc x.vertex.0) = ap said_vertex e in absurd (let o : ⊥ = omega arith in o)

-- where this mode says y of a grid point, y is the number of its class
module _ (g : Grid) (v y : ℕ) (room room' : List ℕ) (h : v < points_of g) (c : ReducedTo g v (Ok (record { 0 = y })) room room') where
  said-end : (s : Classed) (l : List ℕ) → ReduceEnd g c.numbers c.count v s l → said_class s ≡ suc y → at c.numbers v ≡ y
  said-end s l (Reducing.many u) e = absurd (let z : ⊥ = omega arith in z)
  said-end s l (Reducing.inside u w) e = omega arith
  said-end s l (Reducing.past u w) e = absurd (let z : ⊥ = omega arith in z)

  said-call : (s : Classed) (l : List ℕ) (u : ℕ) → Call Err [] 0 (shape_of g) (need_of g) (need_of g ≤ length room) (ReduceEnd g c.numbers c.count v) s l u → said_class s ≡ suc y → at c.numbers v ≡ y
  said-call s l u (refused f) e = absurd (let z : ⊥ = omega arith in z)
  said-call s l u (cramped f k) e = absurd (let z : ⊥ = omega arith in z)
  said-call s l u (ended f k w) e = said-end _ _ w e

  reduced-class : class_of g v ≡ y
  reduced-class = sym ((classing-one g (at c.numbers) (class_of g) c.count (class_count g) c.classes.classing (class-numbers g)).0 v h) ∙ said-call _ _ _ c.comes refl

module _ (g : Grid) (r : Counted) (room room' : List ℕ) (c : CountedTo g r room room') where
  -- with room `nvertices` says 6, or how many classes there are
  counted-end : shape_of g ≡ fine → need_of g ≤ length room → CountEnd c.count r []
  counted-end e l = by_way r [] c.used c.comes
    where
      by_way : (s : Counted) (h : List ℕ) (u : ℕ) → Call Err [] 0 (shape_of g) (need_of g) (need_of g ≤ length room) (CountEnd c.count) s h u → CountEnd c.count s h
      by_way s h u (refused f) = absurd (never (sym e ∙ f))
      by_way s h u (cramped f k) = absurd (k l)
      by_way s h u (ended f k w) = w

  -- refused by the checks, it says so
  counted-refusal : (why : Refusal) → shape_of g ≡ Err why → r ≡ Err why
  counted-refusal why e = by_way r [] c.used c.comes
    where
      by_way : (s : Counted) (h : List ℕ) (u : ℕ) → Call Err [] 0 (shape_of g) (need_of g) (need_of g ≤ length room) (CountEnd c.count) s h u → s ≡ Err why
      by_way s h u (refused f) = ap (λ (a : Answer). counted_after a (Ok 0)) (sym f ∙ e)
      by_way s h u (cramped f k) = absurd (never (sym f ∙ e))
      by_way s h u (ended f k w) = absurd (never (sym f ∙ e))

-- ---- the first mode's check after this one's
last_one : (a b c d e f : Bool) (m n : ℕ) → refuse a BadDimension (refuse b BadDimension (refuse c (BadReflection m) (refuse d (ShortAxis n) (refuse e TooManyCells fine)))) ≡ fine →
    refuse a BadDimension (refuse b BadDimension (refuse c (BadReflection m) (refuse d (ShortAxis n) (refuse e TooManyCells (refuse f TooManyVertices fine))))) ≡ refuse f TooManyVertices fine
last_one true b c d e f m n q = absurd (never (sym q))
last_one false true c d e f m n q = absurd (never (sym q))
last_one false false true d e f m n q = absurd (never (sym q))
last_one false false false true e f m n q = absurd (never (sym q))
last_one false false false false true f m n q = absurd (never (sym q))
last_one false false false false false f m n q = refl

before_last : (a b c d e f : Bool) (m n : ℕ) (why : Refusal) → refuse a BadDimension (refuse b BadDimension (refuse c (BadReflection m) (refuse d (ShortAxis n) (refuse e TooManyCells fine)))) ≡ Err why →
    refuse a BadDimension (refuse b BadDimension (refuse c (BadReflection m) (refuse d (ShortAxis n) (refuse e TooManyCells (refuse f TooManyVertices fine))))) ≡ Err why
before_last true b c d e f m n why q = q
before_last false true c d e f m n why q = q
before_last false false true d e f m n why q = q
before_last false false false true e f m n why q = q
before_last false false false false true f m n why q = q
before_last false false false false false f m n why q = absurd (never q)

module _ (g : Grid) where
  check-fine : shape_of g ≡ fine → check_of g ≡ refuse (ltb most_vertices (vertices_of g)) TooManyVertices fine
  unfolding check_of shape_of
  check-fine = last_one (ltb g.d 1) (ltb most_dimension g.d) (ltb (bad_reflection g) g.d) (ltb (short_axis g) g.d) (ltb most_cells (cell_count g)) (ltb most_vertices (vertices_of g)) (bad_reflection g) (short_axis g)

  check-refused : (why : Refusal) → shape_of g ≡ Err why → check_of g ≡ Err why
  unfolding check_of shape_of
  check-refused why = before_last (ltb g.d 1) (ltb most_dimension g.d) (ltb (bad_reflection g) g.d) (ltb (short_axis g) g.d) (ltb most_cells (cell_count g)) (ltb most_vertices (vertices_of g)) (bad_reflection g) (short_axis g) why

-- ---- both modes
module _ (g : Grid) (untangled : Untangled g) where
  points-agree : (v y : ℕ) (x : Crossing) (room room' : List ℕ) → v < points_of g → reduce_of g (record { 0 = v }) ≡ Ok x →
      ReducedTo g v (Ok (record { 0 = y })) room room' → (class_of_vertex g (class_of g) x.vertex.0 ≡ y) × (vertex_of_class g (class_of g) y ≡ x.vertex.0)
  unfolding reduce_of
  points-agree v y x room room' h e c =
      let w = reduced-vertex (check_of g) (crossing_of g v) x e in
      let q : class_of g v ≡ y = reduced-class g v y room room' h c in
      let taken : check_of g ≡ fine = w.0 in
      let u : vertex_of g v ≡ x.vertex.0 = w.1 in (
        ap (class_of_vertex g (class_of g)) (sym u) ∙ class-is g taken untangled (class_of g) (class_count g) (class-numbers g) v h ∙ q,
        ap (vertex_of_class g (class_of g)) (sym q) ∙ vertex-is g taken untangled (class_of g) (class_count g) (class-numbers g) v h ∙ u,
      )

  counts-agree : (r : Counted) (room room' : List ℕ) → need_of g ≤ length room → CountedTo g r room room' → r ≡ nvertices_of g
  unfolding nvertices_of
  counts-agree r room room' l c = by_answer (shape_of g) refl
    where
      by_end : (s : Counted) (h : List ℕ) → c.count ≡ vertices_of g → CountEnd c.count s h → s ≡ counted_after (refuse (ltb most_vertices (vertices_of g)) TooManyVertices fine) (Ok (vertices_of g))
      by_end s h e (Counting.many u) = rw (lt-ltb most_vertices (vertices_of g) (let z : most_vertices < vertices_of g = omega arith in z))
      by_end s h e (Counting.counted u) = rw (le-ltb most_vertices (vertices_of g) (let z : vertices_of g ≤ most_vertices = omega arith in z)) (ap Ok e)

      by_answer : (a : Answer) → shape_of g ≡ a → r ≡ counted_after (check_of g) (Ok (vertices_of g))
      by_answer (Ok _) e =
          by_end r [] (untangled-count g e (at c.numbers) c.count c.classes.classing untangled) (counted-end g r room room' c e l)
          ∙ ap (λ (a : Answer). counted_after a (Ok (vertices_of g))) (sym (check-fine g e))
      by_answer (Err why) e =
          counted-refusal g r room room' c why e ∙ ap (λ (a : Answer). counted_after a (Ok (vertices_of g))) (sym (check-refused g why e))

-- where no axis with a non-empty set is itself reflected, the calls of both modes agree
pub both-modes-law : BothModesLaw
both-modes-law g untangled = record { to = class_of_vertex g (class_of g); from = vertex_of_class g (class_of g); point = points-agree g untangled; count = counts-agree g untangled }

-- ---- a projective plane
module _ (g : Grid) (n : ℕ) (square : Square g n) where
  side-0 : cells_on g 0 ≡ n
  side-0 = ap (λ (a : Axis). a.count) square.first

  side-1 : cells_on g 1 ≡ n
  side-1 = ap (λ (a : Axis). a.count) square.second

  square-cells : cell_count g ≡ 2 * (n * n)
  unfolding product
  square-cells =
      ap (λ (d : ℕ). factorial d * product (cells_on g) d) square.flat ∙ ap (λ (x : ℕ). 2 * (x * cells_on g 1)) (one-mul (cells_on g 0))
      ∙ ap (λ (x : ℕ). 2 * (x * cells_on g 1)) side-0 ∙ ap (λ (x : ℕ). 2 * (n * x)) side-1

-- with room `nvertices` says n·n + 1 of a square whose axes are twisted over each other
pub square-law : SquareLaw
square-law g n square taken r room room' l c =
    let some : 1 ≤ cells_on g 0 = some-cell g taken 0 (let f : g.d ≡ 2 = square.flat in omega arith) in
    let e : cells_on g 0 ≡ n = side-0 g n square in
    let m : c.count ≡ n * n + 1 = square-classes g n (omega arith) square.flat square.first square.second (at c.numbers) c.count c.classes.classing in
    let cells : cell_count g ≡ 2 * (n * n) = square-cells g n square in
    let few : cell_count g ≤ most_cells = few_cells g taken in
    by_end r [] m (let z : c.count ≤ most_vertices = omega arith in z) (counted-end g r room room' c taken l)
  where
    by_end : (s : Counted) (h : List ℕ) → c.count ≡ n * n + 1 → c.count ≤ most_vertices → CountEnd c.count s h → s ≡ Ok (n * n + 1)
    by_end s h e k (Counting.many u) = absurd (let z : ⊥ = omega arith in z)
    by_end s h e k (Counting.counted u) = ap Ok e
