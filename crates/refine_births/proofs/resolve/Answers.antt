-- `refine_births::resolve` meets its contract: what each call asks, and what is left at the end, follows from the rows of the visits, their classes and their numbers (proofs/Complex). Assumes nothing.
use mathlib.Core.Path.{refl, ◌∙◌}
use Prim.Native.Nat.{◌+◌}
use native.Mathlib.Numerals.{add-one}
use Rattle.refine_births.proofs.Complex.{resolve-visiting, resolve-classing, resolve-done}
use Rattle.refine_births.proofs.resolve.Goals as goal

pub write-requires : goal.write-requires
write-requires c =
    resolve-visiting c.args.d c.args.r c.args.n c.args.m c.args.p c.args.words.now c.args.pattern.now c.args.keys.now c.args.rows.now c.args.spare.now c.args.counts.now c.requires (c.args.d + 1) (add-one c.args.d)

pub classes-requires : goal.classes-requires
classes-requires c =
    resolve-classing c.args.d c.args.r c.args.n c.args.m c.args.p c.args.words.now c.args.pattern.now c.args.keys.now c.args.rows.now c.args.spare.now c.args.counts.now c.requires (c.args.d + 1) (add-one c.args.d) c.write.new.keys c.write.auto.keys _ (refl) c.write.ensures

pub returns : goal.returns
returns c =
    resolve-done c.args.d c.args.r c.args.n c.args.m c.args.p c.args.words.now c.args.pattern.now c.args.keys.now c.args.rows.now c.args.spare.now c.args.counts.now c.requires (c.args.d + 1) (add-one c.args.d) c.write.new.keys c.classes.new.counts c.number.result _ _ (c.number.auto.corners ∙ c.classes.auto.counts) c.write.ensures c.classes.ensures c.number.ensures
