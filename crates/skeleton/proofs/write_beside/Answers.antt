-- `skeleton::write_beside` meets its contract, case by case. Assumes nothing.
use Rattle.skeleton.specs.Work.{Besides}
use Rattle.skeleton.specs.Parts.{width_of, beside_as}
use Rattle.skeleton.specs.declared.Beside.TheVariants.{Places, Signs}
use Rattle.skeleton.specs.declared.Beside.{Beside}
use mathlib.Core.List.{◌++◌}
use lib.ListN.{drop}
use Prim.Native.Nat.{◌*◌}
use mathlib.Core.Path.{sym, ap, ◌∙◌, subst}
use Rattle.skeleton.proofs.write_beside.Goals as goal

pub write_table-requires : goal.write_table-requires
write_table-requires c = let p : Besides Places c.args.d c.args.k c.args.f c.args.reps.now c.args.others.now c.args.list.now = subst (λ (b : Beside). Besides b c.args.d c.args.k c.args.f c.args.reps.now c.args.others.now c.args.list.now) c.in-Places.is c.requires in record { some = p.some; few = p.few; dim = p.dim; in_reps = p.in_reps; in_others = p.in_others; room = p.room }

pub write_records-requires : goal.write_records-requires
write_records-requires c = let p : Besides Signs c.args.d c.args.k c.args.f c.args.reps.now c.args.others.now c.args.list.now = subst (λ (b : Beside). Besides b c.args.d c.args.k c.args.f c.args.reps.now c.args.others.now c.args.list.now) c.in-Signs.is c.requires in record { some = p.some; few = p.few; dim = p.dim; in_reps = p.in_reps; in_others = p.in_others; room = p.room }

pub returns-in-Places : goal.returns-in-Places
returns-in-Places c = c.write_table.ensures ∙ ap (λ (b : Beside). beside_as b c.args.d c.args.k c.args.f c.args.reps.now c.args.others.now ++ drop (c.args.f * width_of b) c.args.list.now) (sym c.in-Places.is)

pub returns-in-Signs : goal.returns-in-Signs
returns-in-Signs c = c.write_records.ensures ∙ ap (λ (b : Beside). beside_as b c.args.d c.args.k c.args.f c.args.reps.now c.args.others.now ++ drop (c.args.f * width_of b) c.args.list.now) (sym c.in-Signs.is)
