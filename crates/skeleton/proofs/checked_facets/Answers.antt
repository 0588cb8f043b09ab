-- `skeleton::checked_facets` meets its contract, by its three ways out (proofs/Entry): a refusal and too little room touch nothing; else the work's end stands, and what was
-- lent to it came back as zeros. Assumes nothing.
use Rattle.refusal.proofs.Chain.{passed_on}
use lib.Seq.{length-take-le}
use Rattle.complex.specs.Cells.{cells_of}
use Rattle.complex.specs.Room.{need_of}
use Rattle.complex.specs.Skeleton.{facets_of}
use Rattle.skeleton.specs.Parts.{beside_for}
use Rattle.complex.proofs.Fine.{fine-passed}
use Rattle.complex_cells.proofs.Making.{few-corners}
use Rattle.skeleton.specs.Promise.{GivesBoth}
use Rattle.skeleton.proofs.Entry.{out-refused, out-cramped, working, out-ended}
use mathlib.Core.Path.{refl, sym, ◌∙◌}
use mathlib.Core.List.{[]}
use lib.ListN.{length}
use Rattle.skeleton.proofs.checked_facets.Goals as goal

pub returns-in_err-check_cells : goal.returns-in_err-check_cells
returns-in_err-check_cells c = rw (passed_on c.from_residual.ensures.1) (let k = c.check_cells in
    record { handed = ([], []); call = out-refused ([], []) (need_of c.args.d (length c.args.words.now)) (GivesBoth (facets_of c.args.d (cells_of c.args.d c.args.words.now)) (beside_for c.args.beside c.args.d (cells_of c.args.d c.args.words.now)) (length c.args.facets.now) (length c.args.list.now)) c.args.d c.args.words.now c.args.keys.now c.args.rows.now c.args.spare.now c.args.counts.now _ (sym c.check_cells.ensures ∙ c.in_err-check_cells.was); result = refl; sides = refl })

pub need-need-requires : goal.need-need-requires
need-need-requires c =
    let p = fine-passed c.args.d c.args.words.now (sym c.check_cells.ensures ∙ c.in_ok-check_cells.was) in
    (p.small, few-corners c.args.d c.args.words.now p)

pub returns-then-not-has_room : goal.returns-then-not-has_room
returns-then-not-has_room c =
    let k = c.check_cells in
    let n = c.need-need in
    record { handed = ([], []); call = out-cramped ([], []) (need_of c.args.d (length c.args.words.now)) (GivesBoth (facets_of c.args.d (cells_of c.args.d c.args.words.now)) (beside_for c.args.beside c.args.d (cells_of c.args.d c.args.words.now)) (length c.args.facets.now) (length c.args.list.now)) c.args.d c.args.words.now c.args.keys.now c.args.rows.now c.args.spare.now c.args.counts.now (sym c.check_cells.ensures ∙ c.in_ok-check_cells.was) c.need-need.result c.need-need.ensures (c.has_room.ensures.no (c.if-not-has_room.true)); result = refl; sides = refl }

pub slice_bounds-facet_cleared-end : goal.slice_bounds-facet_cleared-end
slice_bounds-facet_cleared-end c =
    (c.has_room.ensures.yes (c.if-not-has_room.false)).in_keys

pub slice_bounds-facet_cleared-end-2 : goal.slice_bounds-facet_cleared-end-2
slice_bounds-facet_cleared-end-2 c =
    sym (length-take-le _ _ (c.has_room.ensures.yes (c.if-not-has_room.false)).in_keys)

pub slice_bounds-facet_cleared-end-3 : goal.slice_bounds-facet_cleared-end-3
slice_bounds-facet_cleared-end-3 c =
    (c.has_room.ensures.yes (c.if-not-has_room.false)).in_rows

pub slice_bounds-facet_cleared-end-4 : goal.slice_bounds-facet_cleared-end-4
slice_bounds-facet_cleared-end-4 c =
    sym (length-take-le _ _ (c.has_room.ensures.yes (c.if-not-has_room.false)).in_rows)

pub slice_bounds-facet_cleared-end-5 : goal.slice_bounds-facet_cleared-end-5
slice_bounds-facet_cleared-end-5 c =
    (c.has_room.ensures.yes (c.if-not-has_room.false)).in_spare

pub slice_bounds-facet_cleared-end-6 : goal.slice_bounds-facet_cleared-end-6
slice_bounds-facet_cleared-end-6 c =
    sym (length-take-le _ _ (c.has_room.ensures.yes (c.if-not-has_room.false)).in_spare)

pub slice_bounds-facet_cleared-end-7 : goal.slice_bounds-facet_cleared-end-7
slice_bounds-facet_cleared-end-7 c =
    (c.has_room.ensures.yes (c.if-not-has_room.false)).in_counts

pub slice_bounds-facet_cleared-end-8 : goal.slice_bounds-facet_cleared-end-8
slice_bounds-facet_cleared-end-8 c =
    sym (length-take-le _ _ (c.has_room.ensures.yes (c.if-not-has_room.false)).in_counts)

pub facet_cleared-requires : goal.facet_cleared-requires
facet_cleared-requires c =
    working ([], []) (need_of c.args.d (length c.args.words.now)) (GivesBoth (facets_of c.args.d (cells_of c.args.d c.args.words.now)) (beside_for c.args.beside c.args.d (cells_of c.args.d c.args.words.now)) (length c.args.facets.now) (length c.args.list.now)) c.args.d c.args.words.now c.args.keys.now c.args.rows.now c.args.spare.now c.args.counts.now (sym c.check_cells.ensures ∙ c.in_ok-check_cells.was) c.need-need.result c.need-need.ensures (c.has_room.ensures.yes (c.if-not-has_room.false))

pub returns : goal.returns
returns c =
    let w = c.facet_cleared in
    let v = c.facet_cleared.ensures.work in
    record {
      handed = v.handed;
      call = out-ended ([], []) (need_of c.args.d (length c.args.words.now)) (GivesBoth (facets_of c.args.d (cells_of c.args.d c.args.words.now)) (beside_for c.args.beside c.args.d (cells_of c.args.d c.args.words.now)) (length c.args.facets.now) (length c.args.list.now)) c.args.d c.args.words.now c.args.keys.now c.args.rows.now c.args.spare.now c.args.counts.now (sym c.check_cells.ensures ∙ c.in_ok-check_cells.was) c.need-need.result c.need-need.ensures (c.has_room.ensures.yes (c.if-not-has_room.false)) c.facet_cleared.result v.handed _ _ _ _ v.ends c.facet_cleared.ensures.room;
      result = v.result;
      sides = v.sides;
    }
