-- `refine::refinement` meets its contract, by its three ways out (proofs/Entry): a refusal and too little room touch nothing; else the work's end stands, and what
-- was lent to it came back as zeros. Assumes nothing.
use Rattle.refusal.proofs.Chain.{passed_on}
use Rattle.refusal.specs.Says.{fine}
use mathlib.Core.List.{List}
use mathlib.Core.Path.{◌≡◌, sym, ◌∙◌, subst}
use Prim.Native.Nat.{ℕ, suc, ◌/◌, ◌≤◌, ◌<◌}
use native.Mathlib.Numerals.{add-one}
use lib.ListN.{length}
use lib.Seq.{length-take-le, length_front}
use native.Mathlib.Omega.{arith}
use Rattle.refusal.specs.Limits.{most_dimension, most_cells, many_corners}
use Rattle.complex.specs.Check.{answer_of}
use Rattle.complex.proofs.Fine.{fine-passed}
use Rattle.complex_cells.proofs.Making.{few-corners}
use Rattle.refine.specs.WorkReading.{OrderedBy, words_along}
use Rattle.refine.proofs.Entry.{out-refused, out-cramped, working, out-ended}
use Rattle.refine.proofs.refinement.Goals as goal

asks : (d : ℕ) (ws : List ℕ) → answer_of d ws ≡ fine → (d ≤ most_dimension) × (length ws / suc d ≤ most_cells) × (length ws < many_corners)
asks d ws e =
    let p = fine-passed d ws e in
    (p.small, subst (λ (x : ℕ). length ws / x ≤ most_cells) (add-one d) p.few, omega (arith, few-corners d ws p))

pub returns-in_err-check_cells : goal.returns-in_err-check_cells
returns-in_err-check_cells c = rw (passed_on c.from_residual.ensures.1) (out-refused c.args.d c.args.r c.args.given.now (OrderedBy c.args.with_order c.args.d c.args.given.now c.args.order.now) (words_along c.args.with_order c.args.d c.args.given.now c.args.order.now) c.args.out_cells.now c.args.out_words.now c.args.parents.now c.args.jacobians.now c.args.wholes.now c.args.birth_vertices.now c.args.birth_weights.now c.args.birth_shares.now c.args.cells.now c.args.along.now c.args.pattern.now c.args.keys.now c.args.rows.now c.args.spare.now c.args.counts.now c.args.sorted.now c.args.firsts.now c.args.buckets.now _ (sym c.check_cells.ensures ∙ c.in_err-check_cells.was))

pub need-need-requires : goal.need-need-requires
need-need-requires c =
    asks c.args.d c.args.given.now (sym c.check_cells.ensures ∙ c.in_ok-check_cells.was)

pub returns-then-not-enough : goal.returns-then-not-enough
returns-then-not-enough c =
    out-cramped c.args.d c.args.r c.args.given.now (OrderedBy c.args.with_order c.args.d c.args.given.now c.args.order.now) (words_along c.args.with_order c.args.d c.args.given.now c.args.order.now) c.args.out_cells.now c.args.out_words.now c.args.parents.now c.args.jacobians.now c.args.wholes.now c.args.birth_vertices.now c.args.birth_weights.now c.args.birth_shares.now c.args.cells.now c.args.along.now c.args.pattern.now c.args.keys.now c.args.rows.now c.args.spare.now c.args.counts.now c.args.sorted.now c.args.firsts.now c.args.buckets.now (sym c.check_cells.ensures ∙ c.in_ok-check_cells.was) c.need-need.result c.need-need.ensures (c.enough.ensures.no (c.if-not-enough.true))

pub slice_bounds-cleared-end : goal.slice_bounds-cleared-end
slice_bounds-cleared-end c =
    let h = c.enough.ensures.yes (c.if-not-enough.false) in
    h.in_cells

pub slice_bounds-cleared-end-2 : goal.slice_bounds-cleared-end-2
slice_bounds-cleared-end-2 c =
    let h = c.enough.ensures.yes (c.if-not-enough.false) in
    sym (length-take-le _ _ h.in_cells)

pub slice_bounds-cleared-end-3 : goal.slice_bounds-cleared-end-3
slice_bounds-cleared-end-3 c =
    let h = c.enough.ensures.yes (c.if-not-enough.false) in
    h.in_along

pub slice_bounds-cleared-end-4 : goal.slice_bounds-cleared-end-4
slice_bounds-cleared-end-4 c =
    let h = c.enough.ensures.yes (c.if-not-enough.false) in
    sym (length-take-le _ _ h.in_along)

pub slice_bounds-cleared-end-5 : goal.slice_bounds-cleared-end-5
slice_bounds-cleared-end-5 c =
    let h = c.enough.ensures.yes (c.if-not-enough.false) in
    h.in_pattern

pub slice_bounds-cleared-end-6 : goal.slice_bounds-cleared-end-6
slice_bounds-cleared-end-6 c =
    let h = c.enough.ensures.yes (c.if-not-enough.false) in
    sym (length-take-le _ _ h.in_pattern)

pub slice_bounds-cleared-end-7 : goal.slice_bounds-cleared-end-7
slice_bounds-cleared-end-7 c =
    let h = c.enough.ensures.yes (c.if-not-enough.false) in
    h.in_keys

pub slice_bounds-cleared-end-8 : goal.slice_bounds-cleared-end-8
slice_bounds-cleared-end-8 c =
    let h = c.enough.ensures.yes (c.if-not-enough.false) in
    sym (length-take-le _ _ h.in_keys)

pub slice_bounds-cleared-end-9 : goal.slice_bounds-cleared-end-9
slice_bounds-cleared-end-9 c =
    let h = c.enough.ensures.yes (c.if-not-enough.false) in
    h.in_rows

pub slice_bounds-cleared-end-10 : goal.slice_bounds-cleared-end-10
slice_bounds-cleared-end-10 c =
    let h = c.enough.ensures.yes (c.if-not-enough.false) in
    sym (length-take-le _ _ h.in_rows)

pub slice_bounds-cleared-end-11 : goal.slice_bounds-cleared-end-11
slice_bounds-cleared-end-11 c =
    let h = c.enough.ensures.yes (c.if-not-enough.false) in
    h.in_spare

pub slice_bounds-cleared-end-12 : goal.slice_bounds-cleared-end-12
slice_bounds-cleared-end-12 c =
    let h = c.enough.ensures.yes (c.if-not-enough.false) in
    sym (length-take-le _ _ h.in_spare)

pub slice_bounds-cleared-end-13 : goal.slice_bounds-cleared-end-13
slice_bounds-cleared-end-13 c =
    let h = c.enough.ensures.yes (c.if-not-enough.false) in
    h.in_counts

pub slice_bounds-cleared-end-14 : goal.slice_bounds-cleared-end-14
slice_bounds-cleared-end-14 c =
    let h = c.enough.ensures.yes (c.if-not-enough.false) in
    sym (length-take-le _ _ h.in_counts)

pub slice_bounds-cleared-end-15 : goal.slice_bounds-cleared-end-15
slice_bounds-cleared-end-15 c =
    let h = c.enough.ensures.yes (c.if-not-enough.false) in
    h.in_sorted

pub slice_bounds-cleared-end-16 : goal.slice_bounds-cleared-end-16
slice_bounds-cleared-end-16 c =
    let h = c.enough.ensures.yes (c.if-not-enough.false) in
    sym (length-take-le _ _ h.in_sorted)

pub slice_bounds-cleared-end-17 : goal.slice_bounds-cleared-end-17
slice_bounds-cleared-end-17 c =
    let h = c.enough.ensures.yes (c.if-not-enough.false) in
    h.in_firsts

pub slice_bounds-cleared-end-18 : goal.slice_bounds-cleared-end-18
slice_bounds-cleared-end-18 c =
    let h = c.enough.ensures.yes (c.if-not-enough.false) in
    sym (length-take-le _ _ h.in_firsts)

pub slice_bounds-cleared-end-19 : goal.slice_bounds-cleared-end-19
slice_bounds-cleared-end-19 c =
    let h = c.enough.ensures.yes (c.if-not-enough.false) in
    h.in_buckets

pub slice_bounds-cleared-end-20 : goal.slice_bounds-cleared-end-20
slice_bounds-cleared-end-20 c =
    let h = c.enough.ensures.yes (c.if-not-enough.false) in
    sym (length-take-le _ _ h.in_buckets)

pub cleared-requires : goal.cleared-requires
cleared-requires c =
    let h = c.enough.ensures.yes (c.if-not-enough.false) in
    working c.args.d c.args.r c.args.given.now (OrderedBy c.args.with_order c.args.d c.args.given.now c.args.order.now) (words_along c.args.with_order c.args.d c.args.given.now c.args.order.now) c.args.out_cells.now c.args.out_words.now c.args.parents.now c.args.jacobians.now c.args.wholes.now c.args.birth_vertices.now c.args.birth_weights.now c.args.birth_shares.now c.args.cells.now c.args.along.now c.args.pattern.now c.args.keys.now c.args.rows.now c.args.spare.now c.args.counts.now c.args.sorted.now c.args.firsts.now c.args.buckets.now (sym c.check_cells.ensures ∙ c.in_ok-check_cells.was) c.need-need.result c.need-need.ensures h

pub shape_of-out_cells : goal.shape_of-out_cells
shape_of-out_cells c = c.cleared.auto.out_cells

pub shape_of-out_words : goal.shape_of-out_words
shape_of-out_words c = c.cleared.auto.out_words

pub shape_of-parents : goal.shape_of-parents
shape_of-parents c = c.cleared.auto.parents

pub shape_of-jacobians : goal.shape_of-jacobians
shape_of-jacobians c = c.cleared.auto.jacobians

pub shape_of-wholes : goal.shape_of-wholes
shape_of-wholes c = c.cleared.auto.wholes

pub shape_of-birth_vertices : goal.shape_of-birth_vertices
shape_of-birth_vertices c = c.cleared.auto.birth_vertices

pub shape_of-birth_weights : goal.shape_of-birth_weights
shape_of-birth_weights c = c.cleared.auto.birth_weights

pub shape_of-birth_shares : goal.shape_of-birth_shares
shape_of-birth_shares c = c.cleared.auto.birth_shares

pub shape_of-cells : goal.shape_of-cells
shape_of-cells c =
    length_front c.args.cells.now c.cleared.new.cells c.need-need.result.cells c.cleared.auto.cells

pub shape_of-along : goal.shape_of-along
shape_of-along c =
    length_front c.args.along.now c.cleared.new.along c.need-need.result.along c.cleared.auto.along

pub shape_of-pattern : goal.shape_of-pattern
shape_of-pattern c =
    length_front c.args.pattern.now c.cleared.new.pattern c.need-need.result.pattern c.cleared.auto.pattern

pub shape_of-keys : goal.shape_of-keys
shape_of-keys c =
    length_front c.args.keys.now c.cleared.new.keys c.need-need.result.keys c.cleared.auto.keys

pub shape_of-rows : goal.shape_of-rows
shape_of-rows c =
    length_front c.args.rows.now c.cleared.new.rows c.need-need.result.rows c.cleared.auto.rows

pub shape_of-spare : goal.shape_of-spare
shape_of-spare c =
    length_front c.args.spare.now c.cleared.new.spare c.need-need.result.spare c.cleared.auto.spare

pub shape_of-counts : goal.shape_of-counts
shape_of-counts c =
    length_front c.args.counts.now c.cleared.new.counts c.need-need.result.counts c.cleared.auto.counts

pub shape_of-sorted : goal.shape_of-sorted
shape_of-sorted c =
    length_front c.args.sorted.now c.cleared.new.sorted c.need-need.result.sorted c.cleared.auto.sorted

pub shape_of-firsts : goal.shape_of-firsts
shape_of-firsts c =
    length_front c.args.firsts.now c.cleared.new.firsts c.need-need.result.firsts c.cleared.auto.firsts

pub shape_of-buckets : goal.shape_of-buckets
shape_of-buckets c =
    length_front c.args.buckets.now c.cleared.new.buckets c.need-need.result.buckets c.cleared.auto.buckets

pub returns : goal.returns
returns c =
    let h = c.enough.ensures.yes (c.if-not-enough.false) in
    out-ended c.args.d c.args.r c.args.given.now (OrderedBy c.args.with_order c.args.d c.args.given.now c.args.order.now) (words_along c.args.with_order c.args.d c.args.given.now c.args.order.now) c.args.out_cells.now c.args.out_words.now c.args.parents.now c.args.jacobians.now c.args.wholes.now c.args.birth_vertices.now c.args.birth_weights.now c.args.birth_shares.now c.args.cells.now c.args.along.now c.args.pattern.now c.args.keys.now c.args.rows.now c.args.spare.now c.args.counts.now c.args.sorted.now c.args.firsts.now c.args.buckets.now (sym c.check_cells.ensures ∙ c.in_ok-check_cells.was) c.need-need.result c.need-need.ensures h c.cleared.result c.cleared.new.out_cells c.cleared.new.out_words c.cleared.new.parents c.cleared.new.jacobians c.cleared.new.wholes c.cleared.new.birth_vertices c.cleared.new.birth_weights c.cleared.new.birth_shares c.cleared.new.cells c.cleared.new.along c.cleared.new.pattern c.cleared.new.keys c.cleared.new.rows c.cleared.new.spare c.cleared.new.counts c.cleared.new.sorted c.cleared.new.firsts c.cleared.new.buckets c.cleared.ensures.work c.cleared.ensures.room
