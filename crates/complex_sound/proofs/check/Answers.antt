-- `complex_sound::check` meets its contract, by its four ways out (proofs/Steps). Assumes nothing.
use Rattle.refusal.proofs.Chain.{passed_on}
use Rattle.complex_sound.proofs.Steps.{out-refused, out-cramped, working, out-free, out-crowded}
use Rattle.complex_cells.proofs.Making.{few-corners}
use Rattle.complex.proofs.Fine.{fine-passed}
use mathlib.Core.Path.{sym, ◌∙◌}
use lib.Seq.{length-take-le}
use Rattle.complex_sound.proofs.check.Goals as goal

pub returns-in_err-check_cells : goal.returns-in_err-check_cells
returns-in_err-check_cells c = rw (passed_on c.from_residual.ensures.1) (out-refused c.args.d c.args.words.now c.args.keys.now c.args.rows.now c.args.spare.now c.args.counts.now _ (sym c.check_cells.ensures ∙ c.in_err-check_cells.was))

pub need-need-requires : goal.need-need-requires
need-need-requires c = let p = fine-passed c.args.d c.args.words.now (sym c.check_cells.ensures ∙ c.in_ok-check_cells.was) in (p.small, few-corners c.args.d c.args.words.now p)

pub returns-then-not-has_room : goal.returns-then-not-has_room
returns-then-not-has_room c = out-cramped c.args.d c.args.words.now c.args.keys.now c.args.rows.now c.args.spare.now c.args.counts.now (sym c.check_cells.ensures ∙ c.in_ok-check_cells.was) c.need-need.result c.need-need.ensures (c.has_room.ensures.no (c.if-not-has_room.true))

pub slice_bounds-cleared-end : goal.slice_bounds-cleared-end
slice_bounds-cleared-end c = (c.has_room.ensures.yes (c.if-not-has_room.false)).in_keys

pub slice_bounds-cleared-end-2 : goal.slice_bounds-cleared-end-2
slice_bounds-cleared-end-2 c = sym (length-take-le _ _ (c.has_room.ensures.yes (c.if-not-has_room.false)).in_keys)

pub slice_bounds-cleared-end-3 : goal.slice_bounds-cleared-end-3
slice_bounds-cleared-end-3 c = (c.has_room.ensures.yes (c.if-not-has_room.false)).in_rows

pub slice_bounds-cleared-end-4 : goal.slice_bounds-cleared-end-4
slice_bounds-cleared-end-4 c = sym (length-take-le _ _ (c.has_room.ensures.yes (c.if-not-has_room.false)).in_rows)

pub slice_bounds-cleared-end-5 : goal.slice_bounds-cleared-end-5
slice_bounds-cleared-end-5 c = (c.has_room.ensures.yes (c.if-not-has_room.false)).in_spare

pub slice_bounds-cleared-end-6 : goal.slice_bounds-cleared-end-6
slice_bounds-cleared-end-6 c = sym (length-take-le _ _ (c.has_room.ensures.yes (c.if-not-has_room.false)).in_spare)

pub slice_bounds-cleared-end-7 : goal.slice_bounds-cleared-end-7
slice_bounds-cleared-end-7 c = (c.has_room.ensures.yes (c.if-not-has_room.false)).in_counts

pub slice_bounds-cleared-end-8 : goal.slice_bounds-cleared-end-8
slice_bounds-cleared-end-8 c = sym (length-take-le _ _ (c.has_room.ensures.yes (c.if-not-has_room.false)).in_counts)

pub cleared-requires : goal.cleared-requires
cleared-requires c = working c.args.d c.args.words.now c.args.keys.now c.args.rows.now c.args.spare.now c.args.counts.now (sym c.check_cells.ensures ∙ c.in_ok-check_cells.was) c.need-need.result c.need-need.ensures (c.has_room.ensures.yes (c.if-not-has_room.false))

pub returns-then-cleared : goal.returns-then-cleared
returns-then-cleared c = out-free c.args.d c.args.words.now c.args.keys.now c.args.rows.now c.args.spare.now c.args.counts.now (sym c.check_cells.ensures ∙ c.in_ok-check_cells.was) c.need-need.result c.need-need.ensures (c.has_room.ensures.yes (c.if-not-has_room.false)) c.cleared.result _ _ _ _ c.cleared.ensures.work c.cleared.ensures.room c.if-cleared.true

pub returns : goal.returns
returns c = out-crowded c.args.d c.args.words.now c.args.keys.now c.args.rows.now c.args.spare.now c.args.counts.now (sym c.check_cells.ensures ∙ c.in_ok-check_cells.was) c.need-need.result c.need-need.ensures (c.has_room.ensures.yes (c.if-not-has_room.false)) c.cleared.result _ _ _ _ c.cleared.ensures.work c.cleared.ensures.room c.if-cleared.false
