-- `file_mesh_read::list_births` meets its contract. The invariant: the first k births are read. Assumes nothing.
use Rattle.file_mesh_read.proofs.Taken.{taken_none, same-births, same-pairs, done-births, done-pairs, births-room, fields-inside, pairs-inside, pairs-room, own-long, taken_more}
use Rattle.file_mesh_read.specs.Work.{count_in}
use lib.ListN.{length, length-set}
use Prim.Native.Nat.{ℕ, ◌+◌, ◌*◌, ◌≤◌, ◌<◌}
use native.Mathlib.Omega.{arith}
use mathlib.Core.Path.{◌≡◌}
use Rattle.file_mesh_read.proofs.list_births.Goals as goal

pub loop-k-init : goal.loop-k-init
loop-k-init c = taken_none _ _ _ _ _ c.requires

pub overflow_mul-b : goal.overflow_mul-b
overflow_mul-b c =
    let same-b : length c.loop-k.births ≡ length c.args.births.now = same-births c.args.many c.args.from c.args.bytes.now c.args.births.now c.args.pairs.now c.requires c.loop-k.births c.loop-k.pairs c.loop-k.at c.loop-k.p c.loop-k.k c.loop-k.invariant in
    let h : c.loop-k.k < c.args.many = c.loop-k-test.true in
    let room : c.loop-k.k * 3 + 3 ≤ length c.loop-k.births = births-room c.args.many c.args.from c.args.bytes.now c.args.births.now c.args.pairs.now c.requires c.loop-k.births c.loop-k.pairs c.loop-k.at c.loop-k.p c.loop-k.k c.loop-k.invariant h in
    omega (arith, room, same-b, c.well_formed)

pub overflow_add-at : goal.overflow_add-at
overflow_add-at c =
    let h : c.loop-k.k < c.args.many = c.loop-k-test.true in
    let fields : c.loop-k.at + 14 ≤ length c.args.bytes.now = fields-inside c.args.many c.args.from c.args.bytes.now c.args.births.now c.args.pairs.now c.requires c.loop-k.births c.loop-k.pairs c.loop-k.at c.loop-k.p c.loop-k.k c.loop-k.invariant h in
    omega (arith, fields, c.well_formed)

pub two-count-requires : goal.two-count-requires
two-count-requires c =
    let h : c.loop-k.k < c.args.many = c.loop-k-test.true in
    let fields : c.loop-k.at + 14 ≤ length c.args.bytes.now = fields-inside c.args.many c.args.from c.args.bytes.now c.args.births.now c.args.pairs.now c.requires c.loop-k.births c.loop-k.pairs c.loop-k.at c.loop-k.p c.loop-k.k c.loop-k.invariant h in
    omega (arith, fields)

pub overflow_add-at-in-loop-k : goal.overflow_add-at-in-loop-k
overflow_add-at-in-loop-k c =
    let h : c.loop-k.k < c.args.many = c.loop-k-test.true in
    let fields : c.loop-k.at + 14 ≤ length c.args.bytes.now = fields-inside c.args.many c.args.from c.args.bytes.now c.args.births.now c.args.pairs.now c.requires c.loop-k.births c.loop-k.pairs c.loop-k.at c.loop-k.p c.loop-k.k c.loop-k.invariant h in
    omega (arith, fields, c.well_formed)

pub four-requires : goal.four-requires
four-requires c =
    let h : c.loop-k.k < c.args.many = c.loop-k-test.true in
    let fields : c.loop-k.at + 14 ≤ length c.args.bytes.now = fields-inside c.args.many c.args.from c.args.bytes.now c.args.births.now c.args.pairs.now c.requires c.loop-k.births c.loop-k.pairs c.loop-k.at c.loop-k.p c.loop-k.k c.loop-k.invariant h in
    omega (arith, fields)

pub offset_bounds-births-b : goal.offset_bounds-births-b
offset_bounds-births-b c =
    let same-b : length c.loop-k.births ≡ length c.args.births.now = same-births c.args.many c.args.from c.args.bytes.now c.args.births.now c.args.pairs.now c.requires c.loop-k.births c.loop-k.pairs c.loop-k.at c.loop-k.p c.loop-k.k c.loop-k.invariant in
    let h : c.loop-k.k < c.args.many = c.loop-k-test.true in
    let room : c.loop-k.k * 3 + 3 ≤ length c.loop-k.births = births-room c.args.many c.args.from c.args.bytes.now c.args.births.now c.args.pairs.now c.requires c.loop-k.births c.loop-k.pairs c.loop-k.at c.loop-k.p c.loop-k.k c.loop-k.invariant h in
    omega (arith, room, same-b, c.well_formed)

pub bounds-births-b : goal.bounds-births-b
bounds-births-b c =
    let h : c.loop-k.k < c.args.many = c.loop-k-test.true in
    let room : c.loop-k.k * 3 + 3 ≤ length c.loop-k.births = births-room c.args.many c.args.from c.args.bytes.now c.args.births.now c.args.pairs.now c.requires c.loop-k.births c.loop-k.pairs c.loop-k.at c.loop-k.p c.loop-k.k c.loop-k.invariant h in
    omega (arith, room)

pub overflow_add-at-in-loop-k-2 : goal.overflow_add-at-in-loop-k-2
overflow_add-at-in-loop-k-2 c =
    let h : c.loop-k.k < c.args.many = c.loop-k-test.true in
    let fields : c.loop-k.at + 14 ≤ length c.args.bytes.now = fields-inside c.args.many c.args.from c.args.bytes.now c.args.births.now c.args.pairs.now c.requires c.loop-k.births c.loop-k.pairs c.loop-k.at c.loop-k.p c.loop-k.k c.loop-k.invariant h in
    omega (arith, fields, c.well_formed)

pub two-requires : goal.two-requires
two-requires c =
    let h : c.loop-k.k < c.args.many = c.loop-k-test.true in
    let fields : c.loop-k.at + 14 ≤ length c.args.bytes.now = fields-inside c.args.many c.args.from c.args.bytes.now c.args.births.now c.args.pairs.now c.requires c.loop-k.births c.loop-k.pairs c.loop-k.at c.loop-k.p c.loop-k.k c.loop-k.invariant h in
    omega (arith, fields)

pub overflow_add-births : goal.overflow_add-births
overflow_add-births c =
    let same-b : length c.loop-k.births ≡ length c.args.births.now = same-births c.args.many c.args.from c.args.bytes.now c.args.births.now c.args.pairs.now c.requires c.loop-k.births c.loop-k.pairs c.loop-k.at c.loop-k.p c.loop-k.k c.loop-k.invariant in
    let h : c.loop-k.k < c.args.many = c.loop-k-test.true in
    let room : c.loop-k.k * 3 + 3 ≤ length c.loop-k.births = births-room c.args.many c.args.from c.args.bytes.now c.args.births.now c.args.pairs.now c.requires c.loop-k.births c.loop-k.pairs c.loop-k.at c.loop-k.p c.loop-k.k c.loop-k.invariant h in
    omega (arith, room, same-b, c.well_formed)

pub offset_bounds-births-b-in-loop-k : goal.offset_bounds-births-b-in-loop-k
offset_bounds-births-b-in-loop-k c =
    let same-b : length c.loop-k.births ≡ length c.args.births.now = same-births c.args.many c.args.from c.args.bytes.now c.args.births.now c.args.pairs.now c.requires c.loop-k.births c.loop-k.pairs c.loop-k.at c.loop-k.p c.loop-k.k c.loop-k.invariant in
    let h : c.loop-k.k < c.args.many = c.loop-k-test.true in
    let room : c.loop-k.k * 3 + 3 ≤ length c.loop-k.births = births-room c.args.many c.args.from c.args.bytes.now c.args.births.now c.args.pairs.now c.requires c.loop-k.births c.loop-k.pairs c.loop-k.at c.loop-k.p c.loop-k.k c.loop-k.invariant h in
    omega (arith, room, same-b, c.well_formed)

pub bounds-births-b-in-loop-k : goal.bounds-births-b-in-loop-k
bounds-births-b-in-loop-k c =
    let h : c.loop-k.k < c.args.many = c.loop-k-test.true in
    let room : c.loop-k.k * 3 + 3 ≤ length c.loop-k.births = births-room c.args.many c.args.from c.args.bytes.now c.args.births.now c.args.pairs.now c.requires c.loop-k.births c.loop-k.pairs c.loop-k.at c.loop-k.p c.loop-k.k c.loop-k.invariant h in
    simp length-set (omega (arith, room))

pub overflow_add-births-in-loop-k : goal.overflow_add-births-in-loop-k
overflow_add-births-in-loop-k c =
    let same-b : length c.loop-k.births ≡ length c.args.births.now = same-births c.args.many c.args.from c.args.bytes.now c.args.births.now c.args.pairs.now c.requires c.loop-k.births c.loop-k.pairs c.loop-k.at c.loop-k.p c.loop-k.k c.loop-k.invariant in
    let h : c.loop-k.k < c.args.many = c.loop-k-test.true in
    let room : c.loop-k.k * 3 + 3 ≤ length c.loop-k.births = births-room c.args.many c.args.from c.args.bytes.now c.args.births.now c.args.pairs.now c.requires c.loop-k.births c.loop-k.pairs c.loop-k.at c.loop-k.p c.loop-k.k c.loop-k.invariant h in
    omega (arith, room, same-b, c.well_formed)

pub offset_bounds-births-b-in-loop-k-2 : goal.offset_bounds-births-b-in-loop-k-2
offset_bounds-births-b-in-loop-k-2 c =
    let same-b : length c.loop-k.births ≡ length c.args.births.now = same-births c.args.many c.args.from c.args.bytes.now c.args.births.now c.args.pairs.now c.requires c.loop-k.births c.loop-k.pairs c.loop-k.at c.loop-k.p c.loop-k.k c.loop-k.invariant in
    let h : c.loop-k.k < c.args.many = c.loop-k-test.true in
    let room : c.loop-k.k * 3 + 3 ≤ length c.loop-k.births = births-room c.args.many c.args.from c.args.bytes.now c.args.births.now c.args.pairs.now c.requires c.loop-k.births c.loop-k.pairs c.loop-k.at c.loop-k.p c.loop-k.k c.loop-k.invariant h in
    omega (arith, room, same-b, c.well_formed)

pub bounds-births-b-in-loop-k-2 : goal.bounds-births-b-in-loop-k-2
bounds-births-b-in-loop-k-2 c =
    let h : c.loop-k.k < c.args.many = c.loop-k-test.true in
    let room : c.loop-k.k * 3 + 3 ≤ length c.loop-k.births = births-room c.args.many c.args.from c.args.bytes.now c.args.births.now c.args.pairs.now c.requires c.loop-k.births c.loop-k.pairs c.loop-k.at c.loop-k.p c.loop-k.k c.loop-k.invariant h in
    simp length-set (omega (arith, room))

pub overflow_cast-own : goal.overflow_cast-own
overflow_cast-own c = omega (arith, c.two-count.ensures.small)

pub overflow_mul-end : goal.overflow_mul-end
overflow_mul-end c = omega (arith, c.two-count.ensures.small)

pub overflow_add-end : goal.overflow_add-end
overflow_add-end c =
    let same-p : length c.loop-k.pairs ≡ length c.args.pairs.now = same-pairs c.args.many c.args.from c.args.bytes.now c.args.births.now c.args.pairs.now c.requires c.loop-k.births c.loop-k.pairs c.loop-k.at c.loop-k.p c.loop-k.k c.loop-k.invariant in
    let h : c.loop-k.k < c.args.many = c.loop-k-test.true in
    let n : ℕ = c.two-count.result in
    let e : n ≡ count_in c.loop-k.at c.args.bytes.now = c.two-count.ensures.number in
    let own_room : c.loop-k.p + n * 2 ≤ length c.loop-k.pairs = pairs-room c.args.many c.args.from c.args.bytes.now c.args.births.now c.args.pairs.now c.requires c.loop-k.births c.loop-k.pairs c.loop-k.at c.loop-k.p c.loop-k.k c.loop-k.invariant h n e in
    omega (arith, own_room, same-p, c.well_formed)

pub overflow_add-at-in-loop-k-3 : goal.overflow_add-at-in-loop-k-3
overflow_add-at-in-loop-k-3 c =
    let h : c.loop-k.k < c.args.many = c.loop-k-test.true in
    let fields : c.loop-k.at + 14 ≤ length c.args.bytes.now = fields-inside c.args.many c.args.from c.args.bytes.now c.args.births.now c.args.pairs.now c.requires c.loop-k.births c.loop-k.pairs c.loop-k.at c.loop-k.p c.loop-k.k c.loop-k.invariant h in
    omega (arith, fields, c.well_formed)

pub offset_bounds-pairs-p : goal.offset_bounds-pairs-p
offset_bounds-pairs-p c =
    let same-p : length c.loop-k.pairs ≡ length c.args.pairs.now = same-pairs c.args.many c.args.from c.args.bytes.now c.args.births.now c.args.pairs.now c.requires c.loop-k.births c.loop-k.pairs c.loop-k.at c.loop-k.p c.loop-k.k c.loop-k.invariant in
    let h : c.loop-k.k < c.args.many = c.loop-k-test.true in
    let n : ℕ = c.two-count.result in
    let e : n ≡ count_in c.loop-k.at c.args.bytes.now = c.two-count.ensures.number in
    let own_room : c.loop-k.p + n * 2 ≤ length c.loop-k.pairs = pairs-room c.args.many c.args.from c.args.bytes.now c.args.births.now c.args.pairs.now c.requires c.loop-k.births c.loop-k.pairs c.loop-k.at c.loop-k.p c.loop-k.k c.loop-k.invariant h n e in
    omega (arith, own_room, same-p, c.well_formed)

pub slice_bounds-list_pairs-end : goal.slice_bounds-list_pairs-end
slice_bounds-list_pairs-end c =
    let h : c.loop-k.k < c.args.many = c.loop-k-test.true in
    let n : ℕ = c.two-count.result in
    let e : n ≡ count_in c.loop-k.at c.args.bytes.now = c.two-count.ensures.number in
    let own_room : c.loop-k.p + n * 2 ≤ length c.loop-k.pairs = pairs-room c.args.many c.args.from c.args.bytes.now c.args.births.now c.args.pairs.now c.requires c.loop-k.births c.loop-k.pairs c.loop-k.at c.loop-k.p c.loop-k.k c.loop-k.invariant h n e in
    own_room

pub list_pairs-requires : goal.list_pairs-requires
list_pairs-requires c =
    let h : c.loop-k.k < c.args.many = c.loop-k-test.true in
    let n : ℕ = c.two-count.result in
    let e : n ≡ count_in c.loop-k.at c.args.bytes.now = c.two-count.ensures.number in
    let inside : c.loop-k.at + 14 + n * 6 ≤ length c.args.bytes.now = pairs-inside c.args.many c.args.from c.args.bytes.now c.args.births.now c.args.pairs.now c.requires c.loop-k.births c.loop-k.pairs c.loop-k.at c.loop-k.p c.loop-k.k c.loop-k.invariant h n e in
    (own-long c.args.many c.args.from c.args.bytes.now c.args.births.now c.args.pairs.now c.requires c.loop-k.births c.loop-k.pairs c.loop-k.at c.loop-k.p c.loop-k.k c.loop-k.invariant c.loop-k-test.true c.two-count.result c.two-count.ensures.number, inside)

pub overflow_add-at-in-loop-k-4 : goal.overflow_add-at-in-loop-k-4
overflow_add-at-in-loop-k-4 c =
    let h : c.loop-k.k < c.args.many = c.loop-k-test.true in
    let n : ℕ = c.two-count.result in
    let e : n ≡ count_in c.loop-k.at c.args.bytes.now = c.two-count.ensures.number in
    let inside : c.loop-k.at + 14 + n * 6 ≤ length c.args.bytes.now = pairs-inside c.args.many c.args.from c.args.bytes.now c.args.births.now c.args.pairs.now c.requires c.loop-k.births c.loop-k.pairs c.loop-k.at c.loop-k.p c.loop-k.k c.loop-k.invariant h n e in
    omega (arith, inside, c.well_formed)

pub overflow_mul-at : goal.overflow_mul-at
overflow_mul-at c =
    let h : c.loop-k.k < c.args.many = c.loop-k-test.true in
    let n : ℕ = c.two-count.result in
    let e : n ≡ count_in c.loop-k.at c.args.bytes.now = c.two-count.ensures.number in
    let inside : c.loop-k.at + 14 + n * 6 ≤ length c.args.bytes.now = pairs-inside c.args.many c.args.from c.args.bytes.now c.args.births.now c.args.pairs.now c.requires c.loop-k.births c.loop-k.pairs c.loop-k.at c.loop-k.p c.loop-k.k c.loop-k.invariant h n e in
    omega (arith, inside, c.well_formed)

pub overflow_add-at-in-loop-k-5 : goal.overflow_add-at-in-loop-k-5
overflow_add-at-in-loop-k-5 c =
    let h : c.loop-k.k < c.args.many = c.loop-k-test.true in
    let n : ℕ = c.two-count.result in
    let e : n ≡ count_in c.loop-k.at c.args.bytes.now = c.two-count.ensures.number in
    let inside : c.loop-k.at + 14 + n * 6 ≤ length c.args.bytes.now = pairs-inside c.args.many c.args.from c.args.bytes.now c.args.births.now c.args.pairs.now c.requires c.loop-k.births c.loop-k.pairs c.loop-k.at c.loop-k.p c.loop-k.k c.loop-k.invariant h n e in
    omega (arith, inside, c.well_formed)

pub loop-k-preserved : goal.loop-k-preserved
loop-k-preserved c =
    taken_more c.args.many c.args.from c.args.bytes.now c.args.births.now c.args.pairs.now c.requires c.loop-k.births c.loop-k.pairs c.loop-k.at c.loop-k.p c.loop-k.k c.loop-k.invariant c.loop-k-test.true c.two-count.result c.two-count.ensures.number c.four.result c.two.result c.four.ensures c.two.ensures.number c.list_pairs.new.to c.list_pairs.ensures

pub shape_of-births : goal.shape_of-births
shape_of-births c =
    let same-b : length c.loop-k.births ≡ length c.args.births.now = same-births c.args.many c.args.from c.args.bytes.now c.args.births.now c.args.pairs.now c.requires c.loop-k.births c.loop-k.pairs c.loop-k.at c.loop-k.p c.loop-k.k c.loop-k.invariant in
    same-b

pub shape_of-pairs : goal.shape_of-pairs
shape_of-pairs c =
    let same-p : length c.loop-k.pairs ≡ length c.args.pairs.now = same-pairs c.args.many c.args.from c.args.bytes.now c.args.births.now c.args.pairs.now c.requires c.loop-k.births c.loop-k.pairs c.loop-k.at c.loop-k.p c.loop-k.k c.loop-k.invariant in
    same-p

pub returns : goal.returns
returns c = record { of_births = done-births c.args.many c.args.from c.args.bytes.now c.args.births.now c.args.pairs.now c.requires c.loop-k.births c.loop-k.pairs c.loop-k.at c.loop-k.p c.loop-k.k c.loop-k.invariant c.loop-k-test.false; of_pairs = done-pairs c.args.many c.args.from c.args.bytes.now c.args.births.now c.args.pairs.now c.requires c.loop-k.births c.loop-k.pairs c.loop-k.at c.loop-k.p c.loop-k.k c.loop-k.invariant c.loop-k-test.false }
