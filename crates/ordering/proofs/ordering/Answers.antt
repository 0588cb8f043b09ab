-- `ordering::ordering` meets its contract, by its three ways out (proofs/Entry): a refusal and too little room touch nothing; else the work's end stands, and what
-- was lent to it came back as zeros. Assumes nothing.
use Rattle.refusal.proofs.Chain.{passed_on}
use mathlib.Core.Path.{sym, ap, ◌∙◌}
use lib.Seq.{length-take-le}
use Rattle.refusal.specs.declared.Room.{Room}
use Rattle.complex.proofs.Fine.{fine-passed}
use Rattle.complex_cells.proofs.Making.{few-corners}
use Rattle.ordering.proofs.Entry.{preparing, out-refused, out-cramped, out-ended}
use Rattle.ordering.proofs.ordering.Goals as goal

pub returns-in_err-check_cells : goal.returns-in_err-check_cells
returns-in_err-check_cells c = rw (passed_on c.from_residual.ensures.1) (out-refused c.args.d c.args.words.now c.args.order.now c.args.listed.now c.args.keys.now c.args.rows.now c.args.spare.now c.args.counts.now _ (sym c.check_cells.ensures ∙ c.in_err-check_cells.was))

pub need-base-requires : goal.need-base-requires
need-base-requires c = let p = fine-passed c.args.d c.args.words.now (sym c.check_cells.ensures ∙ c.in_ok-check_cells.was) in few-corners c.args.d c.args.words.now p

pub need-need-requires : goal.need-need-requires
need-need-requires c = let p = fine-passed c.args.d c.args.words.now (sym c.check_cells.ensures ∙ c.in_ok-check_cells.was) in few-corners c.args.d c.args.words.now p

pub returns-then-not-has_room : goal.returns-then-not-has_room
returns-then-not-has_room c = out-cramped c.args.d c.args.words.now c.args.order.now c.args.listed.now c.args.keys.now c.args.rows.now c.args.spare.now c.args.counts.now (sym c.check_cells.ensures ∙ c.in_ok-check_cells.was) c.need-need.result c.need-need.ensures (c.has_room.ensures.no (c.if-not-has_room.true))

pub slice_bounds-order_cleared-end : goal.slice_bounds-order_cleared-end
slice_bounds-order_cleared-end c = (c.has_room.ensures.yes (c.if-not-has_room.false)).in_keys

pub slice_bounds-order_cleared-end-2 : goal.slice_bounds-order_cleared-end-2
slice_bounds-order_cleared-end-2 c = sym (length-take-le _ _ (c.has_room.ensures.yes (c.if-not-has_room.false)).in_keys)

pub slice_bounds-order_cleared-end-3 : goal.slice_bounds-order_cleared-end-3
slice_bounds-order_cleared-end-3 c = (c.has_room.ensures.yes (c.if-not-has_room.false)).in_rows

pub slice_bounds-order_cleared-end-4 : goal.slice_bounds-order_cleared-end-4
slice_bounds-order_cleared-end-4 c = sym (length-take-le _ _ (c.has_room.ensures.yes (c.if-not-has_room.false)).in_rows)

pub slice_bounds-order_cleared-end-5 : goal.slice_bounds-order_cleared-end-5
slice_bounds-order_cleared-end-5 c = (c.has_room.ensures.yes (c.if-not-has_room.false)).in_spare

pub slice_bounds-order_cleared-end-6 : goal.slice_bounds-order_cleared-end-6
slice_bounds-order_cleared-end-6 c = sym (length-take-le _ _ (c.has_room.ensures.yes (c.if-not-has_room.false)).in_spare)

pub slice_bounds-order_cleared-end-7 : goal.slice_bounds-order_cleared-end-7
slice_bounds-order_cleared-end-7 c = (c.has_room.ensures.yes (c.if-not-has_room.false)).in_counts

pub slice_bounds-order_cleared-end-8 : goal.slice_bounds-order_cleared-end-8
slice_bounds-order_cleared-end-8 c = sym (length-take-le _ _ (c.has_room.ensures.yes (c.if-not-has_room.false)).in_counts)

pub order_cleared-requires : goal.order_cleared-requires
order_cleared-requires c = preparing c.args.d c.args.words.now c.args.keys.now c.args.rows.now c.args.spare.now c.args.counts.now (sym c.check_cells.ensures ∙ c.in_ok-check_cells.was) c.need-need.result c.need-need.ensures (c.has_room.ensures.yes (c.if-not-has_room.false)) _ (ap (λ (r : Room). r.keys) c.need-base.ensures)

pub returns : goal.returns
returns c = out-ended c.args.d c.args.words.now c.args.order.now c.args.listed.now c.args.keys.now c.args.rows.now c.args.spare.now c.args.counts.now (sym c.check_cells.ensures ∙ c.in_ok-check_cells.was) c.need-need.result c.need-need.ensures (c.has_room.ensures.yes (c.if-not-has_room.false)) c.order_cleared.result _ _ _ _ _ c.order_cleared.ensures.work c.order_cleared.ensures.room
