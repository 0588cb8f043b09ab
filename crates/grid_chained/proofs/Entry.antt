-- The ways out of the calls. Assumes nothing.
use Rattle.refusal.specs.declared.Refusal.{Refusal}
use Rattle.refusal.specs.declared.Refusal.TheVariants.{TooManyVertices, TooShort}
use Rattle.refusal.specs.Says.{Counted, fine}
use Rattle.std.specs.Prelude.{Err, Ok}
use mathlib.Core.List.{List, [], ◌++◌}
use mathlib.Core.Logic.{⊎_elim}
use mathlib.Core.Path.{◌≡◌, refl, sym, ap, subst, ◌∙◌}
use Prim.Native.Nat.{ℕ, ◌+◌, ◌<◌, ◌≤◌}
use native.Mathlib.Omega.{arith}
use lib.ListN.{length, take, drop, replicate, length-append, get_or-append}
use lib.Seq.{length-take-le, take_at}
use Rattle.refusal.specs.Limits.{most_vertices}
use Rattle.refusal.specs.Lent.{zeroed}
use Rattle.refusal.specs.Call.{refused, cramped, ended}
use Rattle.quotient.specs.declared.Grid.{Grid}
use Rattle.quotient.specs.Points.{points_of}
use Rattle.quotient.specs.Reduce.{no_vertex}
use Rattle.grid_chained.specs.Shape.{shape_of, need_of}
use Rattle.grid_chained.specs.Classing.{at, Classes}
use Rattle.grid_chained.specs.PromiseClasses.{ClassesListed}
use Rattle.grid_chained.specs.PromiseClasses as Listing
use Rattle.grid_chained.specs.PromiseReduce.{ReduceEnd, ReducedTo}
use Rattle.grid_chained.specs.PromiseReduce as Reducing
use Rattle.grid_chained.specs.PromiseCount.{CountedTo}
use Rattle.grid_chained.specs.PromiseCount as Counting
use Rattle.grid_chained.specs.Work.{Pointwise, Working, Worked, Looked}
use Rattle.quotient.proofs.Laws.{lt-or-ge}
use Rattle.grid_chained.proofs.Taken.{points-need}
use Rattle.grid_chained.proofs.There.{class_count, listing}

-- ---- the part of the room that has a place for each point
module _ (g : Grid) (room : List ℕ) (k : Working g room) (n : ℕ) (hn : n ≡ points_of g) where
  pub fits : n ≤ length room
  fits = let a : points_of g ≤ need_of g = points-need g k.taken in let b : length room ≡ need_of g = k.long in omega arith

  pub part : Pointwise g (take n room)
  part = record { taken = k.taken; long = length-take-le n room fits ∙ hn }

  module _ (xs : List ℕ) (m : ℕ) (c : Classes g xs m) where
    pub long_as : length xs ≡ n
    long_as = c.long ∙ sym hn

    pub back_fits : n ≤ length (xs ++ drop n room)
    back_fits = let a : length (xs ++ drop n room) ≡ length xs + length (drop n room) = length-append xs (drop n room) in let b : length xs ≡ n = long_as in omega arith

    pub back-part : take n (xs ++ drop n room) ≡ xs
    back-part = take_at xs (drop n room) n long_as

    -- ---- the ends of the list calls
    module _ (to : List ℕ) where
      pub worked-many : most_vertices < m → Worked g (Err TooManyVertices) to to
      worked-many l = record { numbers = xs; count = m; classes = c; handed = []; ends = Listing.many l; result = refl }

      pub worked-short : m ≤ most_vertices → length to < n → Worked g (Err TooShort) to to
      worked-short l s = record { numbers = xs; count = m; classes = c; handed = []; ends = Listing.short l (subst (λ (x : ℕ). length to < x) hn s); result = refl }

      pub worked-all : m ≤ most_vertices → n ≤ length to → (ys : List ℕ) → ys ≡ take n (xs ++ drop n room) → Worked g (Ok m) to (ys ++ drop n to)
      worked-all l s ys e =
          record {
            numbers = xs;
            count = m;
            classes = c;
            handed = xs;
            ends = Listing.written l (subst (λ (x : ℕ). x ≤ length to) hn s);
            result = ap (λ (zs : List ℕ). zs ++ drop n to) (e ∙ back-part) ∙ ap (λ (i : ℕ). xs ++ drop i to) (sym long_as);
          }

    -- ---- the ends of the questions
    pub look-inside : (v x : ℕ) → v < n → x ≡ at (xs ++ drop n room) v → Looked g v m x
    look-inside v x l e =
        record {
          numbers = xs;
          classes = c;
          inside = λ h. e ∙ get_or-append xs (drop n room) 0 v (let b : length xs ≡ n = long_as in omega arith);
          past = λ h. absurd (let w : ⊥ = omega arith in w);
        }

    pub look-past : (v : ℕ) → n ≤ v → Looked g v m no_vertex
    look-past v l = record { numbers = xs; classes = c; inside = λ h. absurd (let w : ⊥ = omega arith in w); past = λ h. refl }

-- ---- the list calls
module _ (g : Grid) (to room : List ℕ) where
  pub out-refused : (why : Refusal) → shape_of g ≡ Err why → ClassesListed g (Err why) to to room room
  out-refused why e = record { numbers = (listing g).numbers; count = class_count g; classes = (listing g).classes; handed = []; used = 0; comes = refused e; result = refl; cleared = refl }

  pub out-cramped : shape_of g ≡ fine → (n : ℕ) → n ≡ need_of g → length room < n → ClassesListed g (Err TooShort) to to room room
  out-cramped e n q l = record { numbers = (listing g).numbers; count = class_count g; classes = (listing g).classes; handed = []; used = 0; comes = cramped e (λ h. omega arith); result = refl; cleared = refl }

-- the part of the room that is needed
pub working : (g : Grid) (room : List ℕ) (n : ℕ) → shape_of g ≡ fine → n ≡ need_of g → n ≤ length room → Working g (take n room)
working g room n e q l = record { taken = e; long = length-take-le n room l ∙ q }

module _ (g : Grid) (room : List ℕ) (e : shape_of g ≡ fine) (n : ℕ) (q : n ≡ need_of g) (h : n ≤ length room) (zs : List ℕ) (z : zs ≡ replicate (length (take n room)) 0) where
  back-zero : zs ++ drop n room ≡ zeroed (need_of g) room
  back-zero = ap (λ (ys : List ℕ). ys ++ drop n room) (z ∙ ap (λ (i : ℕ). replicate i 0) (length-take-le n room h)) ∙ ap (λ (i : ℕ). zeroed i room) q

  enough : need_of g ≤ length room
  enough = subst (λ (x : ℕ). x ≤ length room) q h

  pub out-ended : (r : Counted) (to to' : List ℕ) → Worked g r to to' → ClassesListed g r to to' room (zs ++ drop n room)
  out-ended r to to' w = record { numbers = w.numbers; count = w.count; classes = w.classes; handed = w.handed; used = need_of g; comes = ended e enough w.ends; result = w.result; cleared = back-zero }

  -- ---- the questions
  module _ (v m x : ℕ) (w : Looked g v m x) where
    pub reduced-many : most_vertices < m → ReducedTo g v (Err TooManyVertices) room (zs ++ drop n room)
    reduced-many l = record { numbers = w.numbers; count = m; classes = w.classes; used = need_of g; comes = ended e enough (Reducing.many l); cleared = back-zero }

    pub reduced-at : m ≤ most_vertices → ReducedTo g v (Ok (record { 0 = x })) room (zs ++ drop n room)
    reduced-at l = record { numbers = w.numbers; count = m; classes = w.classes; used = need_of g; comes = ended e enough by_place; cleared = back-zero }
      where
        by_place : ReduceEnd g w.numbers m v (Ok (record { 0 = x })) []
        by_place =
            ⊎_elim
            (λ (u : v < points_of g). subst (λ (y : ℕ). ReduceEnd g w.numbers m v (Ok (record { 0 = y })) []) (sym (w.inside u)) (Reducing.inside l u))
            (λ (u : points_of g ≤ v). subst (λ (y : ℕ). ReduceEnd g w.numbers m v (Ok (record { 0 = y })) []) (sym (w.past u)) (Reducing.past l u))
            (lt-or-ge v (points_of g))

    pub counted-many : most_vertices < m → CountedTo g (Err TooManyVertices) room (zs ++ drop n room)
    counted-many l = record { numbers = w.numbers; count = m; classes = w.classes; used = need_of g; comes = ended e enough (Counting.many l); cleared = back-zero }

    pub counted-at : m ≤ most_vertices → CountedTo g (Ok m) room (zs ++ drop n room)
    counted-at l = record { numbers = w.numbers; count = m; classes = w.classes; used = need_of g; comes = ended e enough (Counting.counted l); cleared = back-zero }

module _ (g : Grid) (room : List ℕ) where
  pub reduced-refused : (v : ℕ) (why : Refusal) → shape_of g ≡ Err why → ReducedTo g v (Err why) room room
  reduced-refused v why e = record { numbers = (listing g).numbers; count = class_count g; classes = (listing g).classes; used = 0; comes = refused e; cleared = refl }

  pub reduced-cramped : (v : ℕ) → shape_of g ≡ fine → (n : ℕ) → n ≡ need_of g → length room < n → ReducedTo g v (Err TooShort) room room
  reduced-cramped v e n q l = record { numbers = (listing g).numbers; count = class_count g; classes = (listing g).classes; used = 0; comes = cramped e (λ h. omega arith); cleared = refl }

  pub counted-refused : (why : Refusal) → shape_of g ≡ Err why → CountedTo g (Err why) room room
  counted-refused why e = record { numbers = (listing g).numbers; count = class_count g; classes = (listing g).classes; used = 0; comes = refused e; cleared = refl }

  pub counted-cramped : shape_of g ≡ fine → (n : ℕ) → n ≡ need_of g → length room < n → CountedTo g (Err TooShort) room room
  counted-cramped e n q l = record { numbers = (listing g).numbers; count = class_count g; classes = (listing g).classes; used = 0; comes = cramped e (λ h. omega arith); cleared = refl }
