-- `refine::room::need` meets its contract: every product is small, and the record is the definition's. Assumes nothing.
use mathlib.Core.Path.{◌≡◌, sym, subst}
use Prim.Native.Nat.{ℕ, ◌+◌, ◌*◌, ◌/◌, ◌≤◌}
use native.Mathlib.Omega.{arith}
use native.Mathlib.Numerals.{add-one}
use Rattle.refusal.specs.Limits.{most_dimension, most_cells, row_most, most_corners}
use Rattle.refine.specs.Space.{children_room}
use Rattle.refine.proofs.Needed.{children-most, need-is, room_by, corners-few, pattern-few}
use Rattle.refine.proofs.room.need.Goals as goal

-- what is found of the children: few corners, and few numbers of the pattern
few : (d n r k : ℕ) → d ≤ most_dimension → k ≡ children_room d (n / (d + 1)) r → (k * (d + 1) ≤ most_corners) × (k * (d + 1) * (d + 1) ≤ most_corners * row_most)
few d n r k h e =
    let m : k ≤ most_cells = subst (λ (x : ℕ). x ≤ most_cells) (sym e) (children-most d (n / (d + 1)) r) in
    (corners-few d k h m, pattern-few d k h m)

pub children-most-requires : goal.children-most-requires
children-most-requires c = (c.requires.0, subst (λ (x : ℕ). c.args.len / x ≤ most_cells) (sym (add-one c.args.d)) c.requires.1)

pub overflow_mul-corners : goal.overflow_mul-corners
overflow_mul-corners c =
    let f = few c.args.d c.args.len c.args.r c.children-most.result c.requires.0 c.children-most.ensures in
    omega (arith, f.0, f.1, c.requires.2)

pub overflow_mul-result : goal.overflow_mul-result
overflow_mul-result c =
    let f = few c.args.d c.args.len c.args.r c.children-most.result c.requires.0 c.children-most.ensures in
    omega (arith, f.0, f.1, c.requires.2)

pub overflow_mul-result-3 : goal.overflow_mul-result-3
overflow_mul-result-3 c =
    let f = few c.args.d c.args.len c.args.r c.children-most.result c.requires.0 c.children-most.ensures in
    omega (arith, f.0, f.1, c.requires.2)

pub overflow_add-result-2 : goal.overflow_add-result-2
overflow_add-result-2 c =
    let f = few c.args.d c.args.len c.args.r c.children-most.result c.requires.0 c.children-most.ensures in
    omega (arith, f.0, f.1, c.requires.2)

pub overflow_add-result-3 : goal.overflow_add-result-3
overflow_add-result-3 c =
    let f = few c.args.d c.args.len c.args.r c.children-most.result c.requires.0 c.children-most.ensures in
    omega (arith, f.0, f.1, c.requires.2)

pub overflow_add-result-4 : goal.overflow_add-result-4
overflow_add-result-4 c =
    let f = few c.args.d c.args.len c.args.r c.children-most.result c.requires.0 c.children-most.ensures in
    omega (arith, f.0, f.1, c.requires.2)

pub overflow_add-result-5 : goal.overflow_add-result-5
overflow_add-result-5 c =
    let f = few c.args.d c.args.len c.args.r c.children-most.result c.requires.0 c.children-most.ensures in
    omega (arith, f.0, f.1, c.requires.2)

pub overflow_add-result-6 : goal.overflow_add-result-6
overflow_add-result-6 c =
    let f = few c.args.d c.args.len c.args.r c.children-most.result c.requires.0 c.children-most.ensures in
    omega (arith, f.0, f.1, c.requires.2)

pub overflow_add-result-7 : goal.overflow_add-result-7
overflow_add-result-7 c =
    let f = few c.args.d c.args.len c.args.r c.children-most.result c.requires.0 c.children-most.ensures in
    omega (arith, f.0, f.1, c.requires.2)

pub returns : goal.returns
returns c = need-is c.args.d c.args.len _ c.children-most.result (room_by c.args.d c.args.len c.args.r c.children-most.result c.children-most.ensures)
