-- `file_mesh_write::put_births` meets its contract. The invariant: the records of the births before b, whose pairs end at p, are written. Assumes nothing.
use Rattle.refusal.specs.Limits.{most_refinement}
use Rattle.file_mesh_write.proofs.Loops.{BirthsAt, births-begin, births-same, births-count, births-done, three-left, few, pairs-in, own-long, birth-room, birth-tail, birth-more}
use Rattle.file_mesh_write.proofs.Fit.{upto}
use lib.ListN.{length, take, drop, get_or}
use mathlib.Core.List.{List}
use Prim.Native.Nat.{ℕ, ◌+◌, ◌*◌, ◌-◌, ◌/◌, ◌≤◌, ◌<◌}
use native.Mathlib.Omega.{arith}
use native.Mathlib.Nat.{div-add-mod'}
use mathlib.Core.Path.{◌≡◌, ap, subst, ◌∙◌}
use Rattle.file_mesh_write.proofs.put_births.Goals as goal

before-end : (l : List ℕ) (k : ℕ) → k < length l / 3 → k * 3 < length l
before-end l k h = omega (arith, div-add-mod' (length l) 3)

births-on : {births pairs to₀ to : List ℕ} {at p : ℕ} (k : ℕ) → BirthsAt births pairs to₀ to at p (k * 3 + 3) → BirthsAt births pairs to₀ to at p ((k + 1) * 3)
births-on {births} {pairs} {to₀} {to} {at} {p} k s =
    let e : k * 3 + 3 ≡ (k + 1) * 3 = omega arith in
    subst (λ (b : ℕ). BirthsAt births pairs to₀ to at p b) e s

pub loop-k-init : goal.loop-k-init
loop-k-init c = births-begin _ _ _ c.requires.0

pub offset_bounds-births-b : goal.offset_bounds-births-b
offset_bounds-births-b c =
    let h : (c.loop-k.k * 3) < length c.args.births.now = before-end c.args.births.now c.loop-k.k c.loop-k-test.true in
    let left : (c.loop-k.k * 3) + 3 ≤ length c.args.births.now = three-left c.args.births.now c.args.pairs.now c.args.to.now c.loop-k.to c.loop-k.at c.loop-k.p (c.loop-k.k * 3) c.requires.1 c.loop-k.invariant h in
    omega (arith, left)

pub bounds-births-b : goal.bounds-births-b
bounds-births-b c =
    let h : (c.loop-k.k * 3) < length c.args.births.now = before-end c.args.births.now c.loop-k.k c.loop-k-test.true in
    let left : (c.loop-k.k * 3) + 3 ≤ length c.args.births.now = three-left c.args.births.now c.args.pairs.now c.args.to.now c.loop-k.to c.loop-k.at c.loop-k.p (c.loop-k.k * 3) c.requires.1 c.loop-k.invariant h in
    omega (arith, left)

pub overflow_add-r : goal.overflow_add-r
overflow_add-r c =
    let h : (c.loop-k.k * 3) < length c.args.births.now = before-end c.args.births.now c.loop-k.k c.loop-k-test.true in
    let left : (c.loop-k.k * 3) + 3 ≤ length c.args.births.now = three-left c.args.births.now c.args.pairs.now c.args.to.now c.loop-k.to c.loop-k.at c.loop-k.p (c.loop-k.k * 3) c.requires.1 c.loop-k.invariant h in
    omega (arith, left)

pub offset_bounds-births-b-in-loop-k : goal.offset_bounds-births-b-in-loop-k
offset_bounds-births-b-in-loop-k c =
    let h : (c.loop-k.k * 3) < length c.args.births.now = before-end c.args.births.now c.loop-k.k c.loop-k-test.true in
    let left : (c.loop-k.k * 3) + 3 ≤ length c.args.births.now = three-left c.args.births.now c.args.pairs.now c.args.to.now c.loop-k.to c.loop-k.at c.loop-k.p (c.loop-k.k * 3) c.requires.1 c.loop-k.invariant h in
    omega (arith, left)

pub bounds-births-b-in-loop-k : goal.bounds-births-b-in-loop-k
bounds-births-b-in-loop-k c =
    let h : (c.loop-k.k * 3) < length c.args.births.now = before-end c.args.births.now c.loop-k.k c.loop-k-test.true in
    let left : (c.loop-k.k * 3) + 3 ≤ length c.args.births.now = three-left c.args.births.now c.args.pairs.now c.args.to.now c.loop-k.to c.loop-k.at c.loop-k.p (c.loop-k.k * 3) c.requires.1 c.loop-k.invariant h in
    omega (arith, left)

pub overflow_add-count : goal.overflow_add-count
overflow_add-count c =
    let h : (c.loop-k.k * 3) < length c.args.births.now = before-end c.args.births.now c.loop-k.k c.loop-k-test.true in
    let left : (c.loop-k.k * 3) + 3 ≤ length c.args.births.now = three-left c.args.births.now c.args.pairs.now c.args.to.now c.loop-k.to c.loop-k.at c.loop-k.p (c.loop-k.k * 3) c.requires.1 c.loop-k.invariant h in
    omega (arith, left)

pub offset_bounds-births-b-in-loop-k-2 : goal.offset_bounds-births-b-in-loop-k-2
offset_bounds-births-b-in-loop-k-2 c =
    let h : (c.loop-k.k * 3) < length c.args.births.now = before-end c.args.births.now c.loop-k.k c.loop-k-test.true in
    let left : (c.loop-k.k * 3) + 3 ≤ length c.args.births.now = three-left c.args.births.now c.args.pairs.now c.args.to.now c.loop-k.to c.loop-k.at c.loop-k.p (c.loop-k.k * 3) c.requires.1 c.loop-k.invariant h in
    omega (arith, left)

pub bounds-births-b-in-loop-k-2 : goal.bounds-births-b-in-loop-k-2
bounds-births-b-in-loop-k-2 c =
    let h : (c.loop-k.k * 3) < length c.args.births.now = before-end c.args.births.now c.loop-k.k c.loop-k-test.true in
    let left : (c.loop-k.k * 3) + 3 ≤ length c.args.births.now = three-left c.args.births.now c.args.pairs.now c.args.to.now c.loop-k.to c.loop-k.at c.loop-k.p (c.loop-k.k * 3) c.requires.1 c.loop-k.invariant h in
    omega (arith, left)

pub overflow_cast-count : goal.overflow_cast-count
overflow_cast-count c =
    let c3 : ℕ = get_or c.args.births.now ((c.loop-k.k * 3) + 2) 0 in
    let h : (c.loop-k.k * 3) < length c.args.births.now = before-end c.args.births.now c.loop-k.k c.loop-k-test.true in
    let low : c3 ≤ most_refinement = few c.args.births.now c.args.pairs.now c.args.to.now c.loop-k.to c.loop-k.at c.loop-k.p (c.loop-k.k * 3) c.requires.1 c.loop-k.invariant h in
    omega (arith, low)

pub overflow_add-end : goal.overflow_add-end
overflow_add-end c =
    let c3 : ℕ = get_or c.args.births.now ((c.loop-k.k * 3) + 2) 0 in
    let h : (c.loop-k.k * 3) < length c.args.births.now = before-end c.args.births.now c.loop-k.k c.loop-k-test.true in
    let inside : c.loop-k.p + c3 + c3 ≤ length c.args.pairs.now = pairs-in c.args.births.now c.args.pairs.now c.args.to.now c.loop-k.to c.loop-k.at c.loop-k.p (c.loop-k.k * 3) c.requires.1 c.loop-k.invariant h in
    omega (arith, inside)

pub overflow_add-end-in-loop-k : goal.overflow_add-end-in-loop-k
overflow_add-end-in-loop-k c =
    let c3 : ℕ = get_or c.args.births.now ((c.loop-k.k * 3) + 2) 0 in
    let h : (c.loop-k.k * 3) < length c.args.births.now = before-end c.args.births.now c.loop-k.k c.loop-k-test.true in
    let inside : c.loop-k.p + c3 + c3 ≤ length c.args.pairs.now = pairs-in c.args.births.now c.args.pairs.now c.args.to.now c.loop-k.to c.loop-k.at c.loop-k.p (c.loop-k.k * 3) c.requires.1 c.loop-k.invariant h in
    omega (arith, inside)

pub offset_bounds-pairs-p : goal.offset_bounds-pairs-p
offset_bounds-pairs-p c =
    let c3 : ℕ = get_or c.args.births.now ((c.loop-k.k * 3) + 2) 0 in
    let h : (c.loop-k.k * 3) < length c.args.births.now = before-end c.args.births.now c.loop-k.k c.loop-k-test.true in
    let inside : c.loop-k.p + c3 + c3 ≤ length c.args.pairs.now = pairs-in c.args.births.now c.args.pairs.now c.args.to.now c.loop-k.to c.loop-k.at c.loop-k.p (c.loop-k.k * 3) c.requires.1 c.loop-k.invariant h in
    omega (arith, inside)

pub slice_bounds-put_birth-end : goal.slice_bounds-put_birth-end
slice_bounds-put_birth-end c =
    let c3 : ℕ = get_or c.args.births.now ((c.loop-k.k * 3) + 2) 0 in
    let h : (c.loop-k.k * 3) < length c.args.births.now = before-end c.args.births.now c.loop-k.k c.loop-k-test.true in
    let inside : c.loop-k.p + c3 + c3 ≤ length c.args.pairs.now = pairs-in c.args.births.now c.args.pairs.now c.args.to.now c.loop-k.to c.loop-k.at c.loop-k.p (c.loop-k.k * 3) c.requires.1 c.loop-k.invariant h in
    omega (arith, inside)

pub slice_bounds-put_birth-count-in-loop-k : goal.slice_bounds-put_birth-count-in-loop-k
slice_bounds-put_birth-count-in-loop-k c =
    let c3 : ℕ = get_or c.args.births.now ((c.loop-k.k * 3) + 2) 0 in
    let h : (c.loop-k.k * 3) < length c.args.births.now = before-end c.args.births.now c.loop-k.k c.loop-k-test.true in
    let room : c.loop-k.at + (14 + c3 * 6) ≤ length c.loop-k.to = birth-room c.args.births.now c.args.pairs.now c.args.to.now c.loop-k.to c.loop-k.at c.loop-k.p (c.loop-k.k * 3) c.requires.1 c.loop-k.invariant h in
    omega (arith, room)

pub slice_bounds-put_birth-start-in-loop-k : goal.slice_bounds-put_birth-start-in-loop-k
slice_bounds-put_birth-start-in-loop-k c =
    let c3 : ℕ = get_or c.args.births.now ((c.loop-k.k * 3) + 2) 0 in
    let h : (c.loop-k.k * 3) < length c.args.births.now = before-end c.args.births.now c.loop-k.k c.loop-k-test.true in
    let room : c.loop-k.at + (14 + c3 * 6) ≤ length c.loop-k.to = birth-room c.args.births.now c.args.pairs.now c.args.to.now c.loop-k.to c.loop-k.at c.loop-k.p (c.loop-k.k * 3) c.requires.1 c.loop-k.invariant h in
    omega (arith, room)

pub put_birth-requires : goal.put_birth-requires
put_birth-requires c =
    let c3 : ℕ = get_or c.args.births.now ((c.loop-k.k * 3) + 2) 0 in
    let own : List ℕ = take (c.loop-k.p + c3 + c3 - c.loop-k.p) (drop c.loop-k.p c.args.pairs.now) in
    let own_is : own ≡ take (c3 + c3) (drop c.loop-k.p c.args.pairs.now) = upto c.args.pairs.now c.loop-k.p (c.loop-k.p + c3 + c3) (c3 + c3) (omega arith) in
    let h : (c.loop-k.k * 3) < length c.args.births.now = before-end c.args.births.now c.loop-k.k c.loop-k-test.true in
    let low : c3 ≤ most_refinement = few c.args.births.now c.args.pairs.now c.args.to.now c.loop-k.to c.loop-k.at c.loop-k.p (c.loop-k.k * 3) c.requires.1 c.loop-k.invariant h in
    let long : length own ≡ c3 + c3 = ap length own_is ∙ own-long c.args.births.now c.args.pairs.now c.args.to.now c.loop-k.to c.loop-k.at c.loop-k.p (c.loop-k.k * 3) c.requires.1 c.loop-k.invariant h in
    let tail : 14 + c3 * 6 ≤ length (take (length c.loop-k.to - c.loop-k.at) (drop c.loop-k.at c.loop-k.to)) = birth-tail c.args.births.now c.args.pairs.now c.args.to.now c.loop-k.to c.loop-k.at c.loop-k.p (c.loop-k.k * 3) c.requires.1 c.loop-k.invariant h in
    (low, long, tail)

pub overflow_add-at : goal.overflow_add-at
overflow_add-at c =
    let c3 : ℕ = get_or c.args.births.now ((c.loop-k.k * 3) + 2) 0 in
    let same : length c.loop-k.to ≡ length c.args.to.now = births-same c.args.births.now c.args.pairs.now c.args.to.now c.loop-k.to c.loop-k.at c.loop-k.p (c.loop-k.k * 3) c.requires.1 c.loop-k.invariant in
    let h : (c.loop-k.k * 3) < length c.args.births.now = before-end c.args.births.now c.loop-k.k c.loop-k-test.true in
    let room : c.loop-k.at + (14 + c3 * 6) ≤ length c.loop-k.to = birth-room c.args.births.now c.args.pairs.now c.args.to.now c.loop-k.to c.loop-k.at c.loop-k.p (c.loop-k.k * 3) c.requires.1 c.loop-k.invariant h in
    omega (arith, room, same)

pub overflow_mul-at : goal.overflow_mul-at
overflow_mul-at c =
    let c3 : ℕ = get_or c.args.births.now ((c.loop-k.k * 3) + 2) 0 in
    let h : (c.loop-k.k * 3) < length c.args.births.now = before-end c.args.births.now c.loop-k.k c.loop-k-test.true in
    let low : c3 ≤ most_refinement = few c.args.births.now c.args.pairs.now c.args.to.now c.loop-k.to c.loop-k.at c.loop-k.p (c.loop-k.k * 3) c.requires.1 c.loop-k.invariant h in
    omega (arith, low)

pub overflow_add-at-in-loop-k : goal.overflow_add-at-in-loop-k
overflow_add-at-in-loop-k c =
    let c3 : ℕ = get_or c.args.births.now ((c.loop-k.k * 3) + 2) 0 in
    let same : length c.loop-k.to ≡ length c.args.to.now = births-same c.args.births.now c.args.pairs.now c.args.to.now c.loop-k.to c.loop-k.at c.loop-k.p (c.loop-k.k * 3) c.requires.1 c.loop-k.invariant in
    let h : (c.loop-k.k * 3) < length c.args.births.now = before-end c.args.births.now c.loop-k.k c.loop-k-test.true in
    let room : c.loop-k.at + (14 + c3 * 6) ≤ length c.loop-k.to = birth-room c.args.births.now c.args.pairs.now c.args.to.now c.loop-k.to c.loop-k.at c.loop-k.p (c.loop-k.k * 3) c.requires.1 c.loop-k.invariant h in
    omega (arith, room, same)

pub loop-k-preserved : goal.loop-k-preserved
loop-k-preserved c =
    let c3 : ℕ = get_or c.args.births.now ((c.loop-k.k * 3) + 2) 0 in
    let own : List ℕ = take (c.loop-k.p + c3 + c3 - c.loop-k.p) (drop c.loop-k.p c.args.pairs.now) in
    let own_is : own ≡ take (c3 + c3) (drop c.loop-k.p c.args.pairs.now) = upto c.args.pairs.now c.loop-k.p (c.loop-k.p + c3 + c3) (c3 + c3) (omega arith) in
    births-on c.loop-k.k (birth-more c.args.births.now c.args.pairs.now c.args.to.now c.loop-k.to c.loop-k.at c.loop-k.p (c.loop-k.k * 3) c.requires.1 c.loop-k.invariant (before-end c.args.births.now c.loop-k.k c.loop-k-test.true) (own) c.put_birth.new.to (own_is) c.put_birth.ensures)

pub shape_of-to : goal.shape_of-to
shape_of-to c =
    let same : length c.loop-k.to ≡ length c.args.to.now = births-same c.args.births.now c.args.pairs.now c.args.to.now c.loop-k.to c.loop-k.at c.loop-k.p (c.loop-k.k * 3) c.requires.1 c.loop-k.invariant in
    same

pub returns : goal.returns
returns c = record { used = births-count c.args.births.now c.args.pairs.now c.args.to.now c.loop-k.to c.loop-k.at c.loop-k.p (c.loop-k.k * 3) c.requires.1 c.loop-k.invariant (grind (arith, div-add-mod' (length c.args.births.now) 3, c.loop-k-test.false, three-left c.args.births.now c.args.pairs.now c.args.to.now c.loop-k.to c.loop-k.at c.loop-k.p (c.loop-k.k * 3) c.requires.1 c.loop-k.invariant)); list = births-done c.args.births.now c.args.pairs.now c.args.to.now c.loop-k.to c.loop-k.at c.loop-k.p (c.loop-k.k * 3) c.requires.1 c.loop-k.invariant (grind (arith, div-add-mod' (length c.args.births.now) 3, c.loop-k-test.false, three-left c.args.births.now c.args.pairs.now c.args.to.now c.loop-k.to c.loop-k.at c.loop-k.p (c.loop-k.k * 3) c.requires.1 c.loop-k.invariant)) }
