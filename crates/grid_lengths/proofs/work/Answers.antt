-- `grid_lengths::work` meets its contract: each call asks what the calls before it gave (proofs/Steps). Assumes nothing.
use mathlib.Core.Path.{sym}
use native.Mathlib.Omega.{arith}
use lib.ListN.{length}
use lib.Seq.{length-take-le}
use Rattle.grid_lengths.proofs.Measuring.{visits-few}
use Rattle.grid_lengths.proofs.Steps.{noting, handing, worked-clash, worked-short, worked-listed}
use Rattle.grid_lengths.proofs.work.Goals as goal

pub classes-m-requires : goal.classes-m-requires
classes-m-requires c = c.requires

pub visits-total-requires : goal.visits-total-requires
visits-total-requires c = c.requires.taken

pub note_last-requires : goal.note_last-requires
note_last-requires c = let g = c.args.grid in let t = c.requires.taken in let q = c.classes-m in (noting g t c.classes-m.result c.classes-m.new.counts c.classes-m.ensures c.fill.new.self (length c.classes-m.new.rows) (c.fill.ensures.after (λ y e. e)) (omega (arith, c.classes-m.auto, c.requires.rows_long)) (omega (arith, c.classes-m.auto, c.requires.counts_long)), c.visits-total.ensures)

pub returns-then-not-note_last : goal.returns-then-not-note_last
returns-then-not-note_last c = let g = c.args.grid in let t = c.requires.taken in let q = c.classes-m in let x = c.note_last in worked-clash g c.args.lengths.now (c.note_last.ensures.no (c.if-not-note_last.true))

pub returns-then-lengths-m : goal.returns-then-lengths-m
returns-then-lengths-m c = let g = c.args.grid in let t = c.requires.taken in let q = c.classes-m in let x = c.note_last in worked-short g t c.classes-m.result c.classes-m.new.counts c.classes-m.ensures c.note_last.new.last (omega (arith, c.note_last.auto, c.fill.ensures.len, c.classes-m.auto, c.requires.rows_long)) (c.note_last.ensures.yes (c.if-not-note_last.false)) c.args.lengths.now c.if-lengths-m.true

pub slice_bounds-hand_out-end-2 : goal.slice_bounds-hand_out-end-2
slice_bounds-hand_out-end-2 c = sym (length-take-le _ _ c.if-lengths-m.false)

pub hand_out-requires : goal.hand_out-requires
hand_out-requires c = let g = c.args.grid in let t = c.requires.taken in let q = c.classes-m in let x = c.note_last in handing g t c.classes-m.result c.classes-m.new.counts c.classes-m.ensures c.note_last.new.last (omega (arith, c.note_last.auto, c.fill.ensures.len, c.classes-m.auto, c.requires.rows_long)) (c.note_last.ensures.yes (c.if-not-note_last.false)) _ (length-take-le _ _ c.if-lengths-m.false)

pub overflow_cast-result : goal.overflow_cast-result
overflow_cast-result c = let g = c.args.grid in let t = c.requires.taken in let q = c.classes-m in omega (arith, visits-few g t, c.classes-m.ensures.few)

pub returns : goal.returns
returns c = let g = c.args.grid in let t = c.requires.taken in let q = c.classes-m in let x = c.note_last in worked-listed g t c.classes-m.result c.classes-m.new.counts c.classes-m.ensures c.note_last.new.last (omega (arith, c.note_last.auto, c.fill.ensures.len, c.classes-m.auto, c.requires.rows_long)) (c.note_last.ensures.yes (c.if-not-note_last.false)) c.args.lengths.now c.hand_out.new.lengths _ (length-take-le _ _ c.if-lengths-m.false) c.if-lengths-m.false c.hand_out.ensures
