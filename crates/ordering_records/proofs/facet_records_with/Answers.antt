-- to it came back as zeros. Assumes nothing.
use Rattle.refusal.proofs.Chain.{passed_on}
use Rattle.ordering_records.specs.Promise.{GivesRecords}
use Rattle.ordering.proofs.Entry.{preparing}
use Rattle.ordering.specs.Promise.{order_need}
use Rattle.skeleton.proofs.Entry.{out-refused, out-cramped, out-ended}
use Rattle.complex_cells.proofs.Making.{few-corners}
use Rattle.complex.specs.Cells.{cells_of}
use Rattle.complex.proofs.Fine.{fine-passed}
use Rattle.refusal.specs.declared.Room.{Room}
use lib.Seq.{length-take-le}
use lib.ListN.{length}
use mathlib.Core.Path.{refl, sym, ap, ◌∙◌}
use mathlib.Core.List.{[]}
use Rattle.ordering_records.proofs.facet_records_with.Goals as goal

pub returns-in_err-check_cells : goal.returns-in_err-check_cells
returns-in_err-check_cells c = rw (passed_on c.from_residual.ensures.1) (record { handed = ([], []); call = out-refused ([], []) (order_need (length c.args.words.now)) (GivesRecords c.args.d (cells_of c.args.d c.args.words.now) c.args.order.now (length c.args.facets.now) (length c.args.records.now)) c.args.d c.args.words.now c.args.keys.now c.args.rows.now c.args.spare.now c.args.counts.now _ (sym c.check_cells.ensures ∙ c.in_err-check_cells.was); result = refl; sides = refl })

pub need-base-requires : goal.need-base-requires
need-base-requires c = let p = fine-passed c.args.d c.args.words.now (sym c.check_cells.ensures ∙ c.in_ok-check_cells.was) in few-corners c.args.d c.args.words.now p

pub need-need-requires : goal.need-need-requires
need-need-requires c = let p = fine-passed c.args.d c.args.words.now (sym c.check_cells.ensures ∙ c.in_ok-check_cells.was) in few-corners c.args.d c.args.words.now p

pub returns-then-not-has_room : goal.returns-then-not-has_room
returns-then-not-has_room c = record { handed = ([], []); call = out-cramped ([], []) (order_need (length c.args.words.now)) (GivesRecords c.args.d (cells_of c.args.d c.args.words.now) c.args.order.now (length c.args.facets.now) (length c.args.records.now)) c.args.d c.args.words.now c.args.keys.now c.args.rows.now c.args.spare.now c.args.counts.now (sym c.check_cells.ensures ∙ c.in_ok-check_cells.was) c.need-need.result c.need-need.ensures (c.has_room.ensures.no (c.if-not-has_room.true)); result = refl; sides = refl }

pub slice_bounds-cleared-end : goal.slice_bounds-cleared-end
slice_bounds-cleared-end c = (c.has_room.ensures.yes (c.if-not-has_room.false)).in_keys

pub slice_bounds-cleared-end-2 : goal.slice_bounds-cleared-end-2
slice_bounds-cleared-end-2 c = sym (length-take-le _ _ (c.has_room.ensures.yes (c.if-not-has_room.false)).in_keys)

pub slice_bounds-cleared-end-3 : goal.slice_bounds-cleared-end-3
slice_bounds-cleared-end-3 c = (c.has_room.ensures.yes (c.if-not-has_room.false)).in_rows

pub slice_bounds-cleared-end-4 : goal.slice_bounds-cleared-end-4
slice_bounds-cleared-end-4 c = sym (length-take-le _ _ (c.has_room.ensures.yes (c.if-not-has_room.false)).in_rows)

pub slice_bounds-cleared-end-5 : goal.slice_bounds-cleared-end-5
slice_bounds-cleared-end-5 c = (c.has_room.ensures.yes (c.if-not-has_room.false)).in_spare

pub slice_bounds-cleared-end-6 : goal.slice_bounds-cleared-end-6
slice_bounds-cleared-end-6 c = sym (length-take-le _ _ (c.has_room.ensures.yes (c.if-not-has_room.false)).in_spare)

pub slice_bounds-cleared-end-7 : goal.slice_bounds-cleared-end-7
slice_bounds-cleared-end-7 c = (c.has_room.ensures.yes (c.if-not-has_room.false)).in_counts

pub slice_bounds-cleared-end-8 : goal.slice_bounds-cleared-end-8
slice_bounds-cleared-end-8 c = sym (length-take-le _ _ (c.has_room.ensures.yes (c.if-not-has_room.false)).in_counts)

pub cleared-requires : goal.cleared-requires
cleared-requires c = preparing c.args.d c.args.words.now c.args.keys.now c.args.rows.now c.args.spare.now c.args.counts.now (sym c.check_cells.ensures ∙ c.in_ok-check_cells.was) c.need-need.result c.need-need.ensures (c.has_room.ensures.yes (c.if-not-has_room.false)) _ (ap (λ (r : Room). r.keys) c.need-base.ensures)

pub returns : goal.returns
returns c = let w = c.cleared.ensures.work in record { handed = w.handed; call = out-ended ([], []) (order_need (length c.args.words.now)) (GivesRecords c.args.d (cells_of c.args.d c.args.words.now) c.args.order.now (length c.args.facets.now) (length c.args.records.now)) c.args.d c.args.words.now c.args.keys.now c.args.rows.now c.args.spare.now c.args.counts.now (sym c.check_cells.ensures ∙ c.in_ok-check_cells.was) c.need-need.result c.need-need.ensures (c.has_room.ensures.yes (c.if-not-has_room.false)) c.cleared.result w.handed _ _ _ _ w.ends c.cleared.ensures.room; result = w.result; sides = w.sides }
