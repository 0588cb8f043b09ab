-- `complex_dropped::keep_others` meets its contract. What is gathered is renumbered and handed out. Assumes nothing.
use mathlib.Core.Path.{sym}
use lib.Seq.{length-take-le}
use Rattle.complex_dropped.proofs.Steps.{front_fits, numbering, handing}
use Rattle.complex_dropped.proofs.Outcome.{worked-emptied, worked-handed}
use Rattle.complex_dropped.proofs.keep_others.Goals as goal

pub returns-then-staying-eq0 : goal.returns-then-staying-eq0
returns-then-staying-eq0 c =
    worked-emptied c.args.d c.args.words.now c.args.gone.now c.gather_staying-staying.result c.gather_staying-staying.new.keys c.args.kept.now c.args.old.now c.requires.present c.gather_staying-staying.ensures c.if-staying-eq0.true

pub slice_bounds-renumber-end : goal.slice_bounds-renumber-end
slice_bounds-renumber-end c =
    front_fits c.args.d c.args.words.now c.args.gone.now c.args.keys.now c.args.rows.now c.args.spare.now c.args.counts.now c.requires c.gather_staying-staying.result c.gather_staying-staying.new.keys c.gather_staying-staying.new.rows c.gather_staying-staying.new.spare c.gather_staying-staying.auto.keys c.gather_staying-staying.auto.rows c.gather_staying-staying.auto.spare c.gather_staying-staying.ensures

pub slice_bounds-renumber-end-2 : goal.slice_bounds-renumber-end-2
slice_bounds-renumber-end-2 c =
    sym (length-take-le _ _ (front_fits c.args.d c.args.words.now c.args.gone.now c.args.keys.now c.args.rows.now c.args.spare.now c.args.counts.now c.requires c.gather_staying-staying.result c.gather_staying-staying.new.keys c.gather_staying-staying.new.rows c.gather_staying-staying.new.spare c.gather_staying-staying.auto.keys c.gather_staying-staying.auto.rows c.gather_staying-staying.auto.spare c.gather_staying-staying.ensures))

pub renumber-vertices-requires : goal.renumber-vertices-requires
renumber-vertices-requires c =
    numbering c.args.d c.args.words.now c.args.gone.now c.args.keys.now c.args.rows.now c.args.spare.now c.args.counts.now c.requires c.gather_staying-staying.result c.gather_staying-staying.new.keys c.gather_staying-staying.new.rows c.gather_staying-staying.new.spare c.gather_staying-staying.auto.keys c.gather_staying-staying.auto.rows c.gather_staying-staying.auto.spare c.gather_staying-staying.ensures

pub slice_bounds-hand_out-end : goal.slice_bounds-hand_out-end
slice_bounds-hand_out-end c =
    front_fits c.args.d c.args.words.now c.args.gone.now c.args.keys.now c.args.rows.now c.args.spare.now c.args.counts.now c.requires c.gather_staying-staying.result c.gather_staying-staying.new.keys c.gather_staying-staying.new.rows c.gather_staying-staying.new.spare c.gather_staying-staying.auto.keys c.gather_staying-staying.auto.rows c.gather_staying-staying.auto.spare c.gather_staying-staying.ensures

pub slice_bounds-hand_out-end-2 : goal.slice_bounds-hand_out-end-2
slice_bounds-hand_out-end-2 c =
    sym (length-take-le _ _ (front_fits c.args.d c.args.words.now c.args.gone.now c.args.keys.now c.args.rows.now c.args.spare.now c.args.counts.now c.requires c.gather_staying-staying.result c.gather_staying-staying.new.keys c.gather_staying-staying.new.rows c.gather_staying-staying.new.spare c.gather_staying-staying.auto.keys c.gather_staying-staying.auto.rows c.gather_staying-staying.auto.spare c.gather_staying-staying.ensures))

pub slice_bounds-hand_out-end-4 : goal.slice_bounds-hand_out-end-4
slice_bounds-hand_out-end-4 c =
    sym (length-take-le _ _ c.renumber-vertices.ensures.most)

pub hand_out-requires : goal.hand_out-requires
hand_out-requires c =
    handing c.args.d c.args.words.now c.args.gone.now c.args.keys.now c.args.rows.now c.args.spare.now c.args.counts.now c.requires c.gather_staying-staying.result c.gather_staying-staying.new.keys c.gather_staying-staying.new.rows c.gather_staying-staying.new.spare c.gather_staying-staying.auto.keys c.gather_staying-staying.auto.rows c.gather_staying-staying.auto.spare c.gather_staying-staying.ensures c.renumber-vertices.result c.renumber-vertices.new.rows c.renumber-vertices.new.spare c.renumber-vertices.auto.rows c.renumber-vertices.auto.spare c.renumber-vertices.ensures

pub returns : goal.returns
returns c =
    worked-handed c.args.d c.args.words.now c.args.gone.now c.gather_staying-staying.result c.gather_staying-staying.new.keys c.gather_staying-staying.ensures c.renumber-vertices.result c.renumber-vertices.new.rows c.renumber-vertices.new.spare c.renumber-vertices.ensures c.requires.present c.if-staying-eq0.false c.args.kept.now c.args.old.now c.hand_out.result c.hand_out.new.kept c.hand_out.new.old c.hand_out.ensures
