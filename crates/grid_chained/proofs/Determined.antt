-- The promises determine what is said and every list: two calls on equal inputs end alike. So the plain engine and the quick one give the same. Assumes nothing.
use Rattle.grid_chained.specs.Says.{Classed}
use Rattle.refusal.specs.Says.{Counted}
use Rattle.std.specs.Prelude.{Err}
use mathlib.Core.List.{List, []}
use mathlib.Core.Path.{◌≡◌, refl, sym, ap, subst, ◌∙◌}
use Prim.Native.Nat.{ℕ, ◌≤◌, ◌<◌}
use native.Mathlib.Omega.{arith}
use lib.ListN.{length}
use lib.Seq.{ext_get_or}
use Rattle.refusal.specs.Lent.{onto, zeroed}
use Rattle.refusal.specs.Call.{Call}
use Rattle.refusal.proofs.Determined.{call-one}
use Rattle.quotient.specs.declared.Grid.{Grid}
use Rattle.quotient.specs.Points.{points_of}
use Rattle.grid_chained.specs.Shape.{shape_of, need_of}
use Rattle.quotient.specs.Chain.{same}
use Rattle.grid_chained.specs.Classing.{at, Classes}
use Rattle.grid_chained.specs.WorkNumber.{Labelled}
use Rattle.grid_chained.specs.PromiseClasses.{ClassesEnd, ClassesListed}
use Rattle.grid_chained.specs.PromiseClasses as Listing
use Rattle.grid_chained.specs.PromiseReduce.{ReduceEnd, ReducedTo}
use Rattle.grid_chained.specs.PromiseReduce as Reducing
use Rattle.grid_chained.specs.PromiseCount.{CountEnd, CountedTo}
use Rattle.grid_chained.specs.PromiseCount as Counting
use Rattle.grid_chained.proofs.Unique.{classing-one}
use Rattle.grid_chained.proofs.Numbering.{least-one}

-- both engines leave the same labels
pub labels-one : (g : Grid) (xs ys : List ℕ) → Labelled g xs → Labelled g ys → xs ≡ ys
labels-one g xs ys a b =
    ext_get_or 0 xs ys (a.long ∙ sym b.long) (λ i h. let l : i < points_of g = subst (λ (k : ℕ). i < k) a.long h in least-one g same (a.least i l) (b.least i l))

-- a grid has one list of classes
pub classes-one : (g : Grid) (xs ys : List ℕ) (m n : ℕ) → Classes g xs m → Classes g ys n → (xs ≡ ys) × (m ≡ n)
classes-one g xs ys m n a b =
    let w = classing-one g (at xs) (at ys) m n a.classing b.classing in
    (ext_get_or 0 xs ys (a.long ∙ sym b.long) (λ i h. w.0 i (subst (λ (k : ℕ). i < k) a.long h)), w.1)

module _ (g : Grid) where
  -- what holds of one list of classes holds of the other
  along : (P : List ℕ → ℕ → Type 0) (xs ys : List ℕ) (m n : ℕ) → Classes g xs m → Classes g ys n → P xs m → P ys n
  along P xs ys m n a b h = let e = classes-one g xs ys m n a b in subst (λ (zs : List ℕ). P zs n) e.0 (subst (λ (k : ℕ). P xs k) e.1 h)

  ends-one : (xs : List ℕ) (m given : ℕ) (r r' : Counted) (l l' : List ℕ) → ClassesEnd g xs m given r l → ClassesEnd g xs m given r' l' → (r ≡ r') × (l ≡ l')
  ends-one xs m given r r' l l' (Listing.many u) (Listing.many v) = (refl, refl)
  ends-one xs m given r r' l l' (Listing.many u) (Listing.short v w) = absurd (let z : ⊥ = omega arith in z)
  ends-one xs m given r r' l l' (Listing.many u) (Listing.written v w) = absurd (let z : ⊥ = omega arith in z)
  ends-one xs m given r r' l l' (Listing.short u w) (Listing.many v) = absurd (let z : ⊥ = omega arith in z)
  ends-one xs m given r r' l l' (Listing.short u w) (Listing.short v x) = (refl, refl)
  ends-one xs m given r r' l l' (Listing.short u w) (Listing.written v x) = absurd (let z : ⊥ = omega arith in z)
  ends-one xs m given r r' l l' (Listing.written u w) (Listing.many v) = absurd (let z : ⊥ = omega arith in z)
  ends-one xs m given r r' l l' (Listing.written u w) (Listing.short v x) = absurd (let z : ⊥ = omega arith in z)
  ends-one xs m given r r' l l' (Listing.written u w) (Listing.written v x) = (refl, refl)

  -- two exits of a list call, by whichever engine: what is said, the result lists and the rooms are equal
  pub listed-one : (r r' : Counted) (to t t' room o o' : List ℕ) → ClassesListed g r to t room o → ClassesListed g r' to t' room o' → (r ≡ r') × (t ≡ t') × (o ≡ o')
  listed-one r r' to t t' room o o' a b =
      let Comes : List ℕ → ℕ → Counted → List ℕ → ℕ → Type 0 = λ xs m. Call Err [] 0 (shape_of g) (need_of g) (need_of g ≤ length room) (ClassesEnd g xs m (length to)) in
      let e =
      call-one Err [] 0 (shape_of g) (need_of g) (need_of g ≤ length room) (ClassesEnd g b.numbers b.count (length to)) (ends-one b.numbers b.count (length to))
      (along (λ xs m. Comes xs m r a.handed a.used) a.numbers b.numbers a.count b.count a.classes b.classes a.comes) b.comes in
      (e.0, a.result ∙ ap (λ (l : List ℕ). onto l to) e.1 ∙ sym b.result, a.cleared ∙ ap (λ (n : ℕ). zeroed n room) e.2 ∙ sym b.cleared)

  reduce-ends : (xs : List ℕ) (m v : ℕ) (r r' : Classed) (l l' : List ℕ) → ReduceEnd g xs m v r l → ReduceEnd g xs m v r' l' → (r ≡ r') × (l ≡ l')
  reduce-ends xs m v r r' l l' (Reducing.many u) (Reducing.many w) = (refl, refl)
  reduce-ends xs m v r r' l l' (Reducing.many u) (Reducing.inside w x) = absurd (let z : ⊥ = omega arith in z)
  reduce-ends xs m v r r' l l' (Reducing.many u) (Reducing.past w x) = absurd (let z : ⊥ = omega arith in z)
  reduce-ends xs m v r r' l l' (Reducing.inside u x) (Reducing.many w) = absurd (let z : ⊥ = omega arith in z)
  reduce-ends xs m v r r' l l' (Reducing.inside u x) (Reducing.inside w y) = (refl, refl)
  reduce-ends xs m v r r' l l' (Reducing.inside u x) (Reducing.past w y) = absurd (let z : ⊥ = omega arith in z)
  reduce-ends xs m v r r' l l' (Reducing.past u x) (Reducing.many w) = absurd (let z : ⊥ = omega arith in z)
  reduce-ends xs m v r r' l l' (Reducing.past u x) (Reducing.inside w y) = absurd (let z : ⊥ = omega arith in z)
  reduce-ends xs m v r r' l l' (Reducing.past u x) (Reducing.past w y) = (refl, refl)

  pub reduce-one : (v : ℕ) (r r' : Classed) (room o o' : List ℕ) → ReducedTo g v r room o → ReducedTo g v r' room o' → (r ≡ r') × (o ≡ o')
  reduce-one v r r' room o o' a b =
      let Comes : List ℕ → ℕ → Classed → List ℕ → ℕ → Type 0 = λ xs m. Call Err [] 0 (shape_of g) (need_of g) (need_of g ≤ length room) (ReduceEnd g xs m v) in
      let e =
      call-one Err [] 0 (shape_of g) (need_of g) (need_of g ≤ length room) (ReduceEnd g b.numbers b.count v) (reduce-ends b.numbers b.count v)
      (along (λ xs m. Comes xs m r [] a.used) a.numbers b.numbers a.count b.count a.classes b.classes a.comes) b.comes in
      (e.0, a.cleared ∙ ap (λ (n : ℕ). zeroed n room) e.2 ∙ sym b.cleared)

  count-ends : (m : ℕ) (r r' : Counted) (l l' : List ℕ) → CountEnd m r l → CountEnd m r' l' → (r ≡ r') × (l ≡ l')
  count-ends m r r' l l' (Counting.many u) (Counting.many w) = (refl, refl)
  count-ends m r r' l l' (Counting.many u) (Counting.counted w) = absurd (let z : ⊥ = omega arith in z)
  count-ends m r r' l l' (Counting.counted u) (Counting.many w) = absurd (let z : ⊥ = omega arith in z)
  count-ends m r r' l l' (Counting.counted u) (Counting.counted w) = (refl, refl)

  pub nvertices-one : (r r' : Counted) (room o o' : List ℕ) → CountedTo g r room o → CountedTo g r' room o' → (r ≡ r') × (o ≡ o')
  nvertices-one r r' room o o' a b =
      let Comes : List ℕ → ℕ → Counted → List ℕ → ℕ → Type 0 = λ xs m. Call Err [] 0 (shape_of g) (need_of g) (need_of g ≤ length room) (CountEnd m) in
      let e =
      call-one Err [] 0 (shape_of g) (need_of g) (need_of g ≤ length room) (CountEnd b.count) (count-ends b.count)
      (along (λ xs m. Comes xs m r [] a.used) a.numbers b.numbers a.count b.count a.classes b.classes a.comes) b.comes in
      (e.0, a.cleared ∙ ap (λ (n : ℕ). zeroed n room) e.2 ∙ sym b.cleared)
