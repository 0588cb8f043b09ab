-- `complex_boundary::faces` meets its contract, by its three ways out (proofs/Entry): a refusal and too little room touch nothing; else the work's end stands, and what was
-- lent to it came back as zeros. Assumes nothing.
use Rattle.refusal.proofs.Chain.{passed_on}
use lib.Seq.{length-take-le}
use Rattle.complex.specs.Cells.{cells_of}
use Rattle.complex.proofs.Fine.{fine-passed}
use Rattle.complex_cells.proofs.Making.{few-corners}
use Rattle.skeleton.specs.Promise.{Gives}
use Rattle.complex_faces.specs.Faces.{faces_of}
use Rattle.complex_boundary.specs.Need.{face_need}
use Rattle.complex_boundary.specs.Promise.{Within}
use Rattle.skeleton.proofs.Entry.{out-refused, out-cramped, working, out-ended}
use mathlib.Core.Path.{refl, sym, ◌∙◌}
use mathlib.Core.List.{[]}
use Prim.Native.Nat.{◌≤◌}
use lib.ListN.{length}
use Rattle.complex_boundary.proofs.faces.Goals as goal

pub returns-in_err-check_cells : goal.returns-in_err-check_cells
returns-in_err-check_cells c = rw (passed_on c.from_residual.ensures.1) (record { handed = []; call = out-refused [] (face_need c.args.d (length c.args.words.now)) (Within [] (c.args.k ≤ c.args.d) (Gives (faces_of (cells_of c.args.d c.args.words.now) c.args.k) (length c.args.faces.now))) c.args.d c.args.words.now c.args.keys.now c.args.rows.now c.args.spare.now c.args.counts.now _ (sym c.check_cells.ensures ∙ c.in_err-check_cells.was); result = refl })

pub need-need-requires : goal.need-need-requires
need-need-requires c =
    let p = fine-passed c.args.d c.args.words.now (sym c.check_cells.ensures ∙ c.in_ok-check_cells.was) in
    (p.small, few-corners c.args.d c.args.words.now p)

pub returns-then-not-has_room : goal.returns-then-not-has_room
returns-then-not-has_room c =
    record { handed = []; call = out-cramped [] (face_need c.args.d (length c.args.words.now)) (Within [] (c.args.k ≤ c.args.d) (Gives (faces_of (cells_of c.args.d c.args.words.now) c.args.k) (length c.args.faces.now))) c.args.d c.args.words.now c.args.keys.now c.args.rows.now c.args.spare.now c.args.counts.now (sym c.check_cells.ensures ∙ c.in_ok-check_cells.was) c.need-need.result c.need-need.ensures (c.has_room.ensures.no (c.if-not-has_room.true)); result = refl }

pub slice_bounds-faces_cleared-end : goal.slice_bounds-faces_cleared-end
slice_bounds-faces_cleared-end c =
    (c.has_room.ensures.yes (c.if-not-has_room.false)).in_keys

pub slice_bounds-faces_cleared-end-2 : goal.slice_bounds-faces_cleared-end-2
slice_bounds-faces_cleared-end-2 c =
    sym (length-take-le _ _ (c.has_room.ensures.yes (c.if-not-has_room.false)).in_keys)

pub slice_bounds-faces_cleared-end-3 : goal.slice_bounds-faces_cleared-end-3
slice_bounds-faces_cleared-end-3 c =
    (c.has_room.ensures.yes (c.if-not-has_room.false)).in_rows

pub slice_bounds-faces_cleared-end-4 : goal.slice_bounds-faces_cleared-end-4
slice_bounds-faces_cleared-end-4 c =
    sym (length-take-le _ _ (c.has_room.ensures.yes (c.if-not-has_room.false)).in_rows)

pub slice_bounds-faces_cleared-end-5 : goal.slice_bounds-faces_cleared-end-5
slice_bounds-faces_cleared-end-5 c =
    (c.has_room.ensures.yes (c.if-not-has_room.false)).in_spare

pub slice_bounds-faces_cleared-end-6 : goal.slice_bounds-faces_cleared-end-6
slice_bounds-faces_cleared-end-6 c =
    sym (length-take-le _ _ (c.has_room.ensures.yes (c.if-not-has_room.false)).in_spare)

pub slice_bounds-faces_cleared-end-7 : goal.slice_bounds-faces_cleared-end-7
slice_bounds-faces_cleared-end-7 c =
    (c.has_room.ensures.yes (c.if-not-has_room.false)).in_counts

pub slice_bounds-faces_cleared-end-8 : goal.slice_bounds-faces_cleared-end-8
slice_bounds-faces_cleared-end-8 c =
    sym (length-take-le _ _ (c.has_room.ensures.yes (c.if-not-has_room.false)).in_counts)

pub faces_cleared-requires : goal.faces_cleared-requires
faces_cleared-requires c =
    working [] (face_need c.args.d (length c.args.words.now)) (Within [] (c.args.k ≤ c.args.d) (Gives (faces_of (cells_of c.args.d c.args.words.now) c.args.k) (length c.args.faces.now))) c.args.d c.args.words.now c.args.keys.now c.args.rows.now c.args.spare.now c.args.counts.now (sym c.check_cells.ensures ∙ c.in_ok-check_cells.was) c.need-need.result c.need-need.ensures (c.has_room.ensures.yes (c.if-not-has_room.false))

pub returns : goal.returns
returns c =
    let w = c.faces_cleared in
    let v = c.faces_cleared.ensures.work in
    record {
      handed = v.handed;
      call = out-ended [] (face_need c.args.d (length c.args.words.now)) (Within [] (c.args.k ≤ c.args.d) (Gives (faces_of (cells_of c.args.d c.args.words.now) c.args.k) (length c.args.faces.now))) c.args.d c.args.words.now c.args.keys.now c.args.rows.now c.args.spare.now c.args.counts.now (sym c.check_cells.ensures ∙ c.in_ok-check_cells.was) c.need-need.result c.need-need.ensures (c.has_room.ensures.yes (c.if-not-has_room.false)) c.faces_cleared.result v.handed _ _ _ _ v.ends c.faces_cleared.ensures.room;
      result = v.result;
    }
