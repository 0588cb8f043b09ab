-- `complex_facets::facets` meets its contract: the classes of rows are the facets, and the mates of their lowest rows are the other rows. Assumes nothing.
use Rattle.complex_facets.proofs.Passing.{turning, classed-pass}
use Rattle.complex_mates.proofs.Meeting.{slots-most}
use native.Mathlib.Nat.{mul-le-mul_left}
use native.Mathlib.Omega.{arith}
use mathlib.Core.Path.{◌≡◌, subst}
use Rattle.lists.specs.Rows.{cut}
use Prim.Native.Nat.{ℕ, suc}
use Rattle.std.specs.Prelude.{Some, None}
use Rattle.complex_facets.specs.WorkClasses.{Pass}
use Rattle.complex_facets.proofs.facets.Goals as goal

pub others-requires : goal.others-requires
others-requires c =
    turning c.args.d c.args.m c.args.b c.args.keys.now c.args.rows.now c.args.spare.now c.args.counts.now c.requires.0 c.in_ok-f.f c.classes.new.keys c.classes.new.spare c.classes.new.counts c.classes.new.rows c.classes.auto.keys c.classes.auto.spare c.classes.auto.rows (c.classes.ensures.all _ c.in_ok-f.was) c.classes.new.counts (omega (arith, (c.classes.ensures.all _ c.in_ok-f.was).distinct.few, mul-le-mul_left c.args.m (slots-most c.args.d), c.requires.0.counts_long, c.classes.auto.counts))

pub returns : goal.returns
returns c =
    record { yes = λ f e. subst (λ (z : ℕ). Pass c.args.d (cut (suc c.args.d) c.args.m c.args.rows.now) z c.classes.new.keys c.classes.new.spare c.others.new.to c.classes.new.rows) (let g : c.in_ok-f.f ≡ f = cc in g) (classed-pass c.args.d c.args.m c.args.b c.args.keys.now c.args.rows.now c.args.spare.now c.args.counts.now c.requires.0 c.in_ok-f.f c.classes.new.keys c.classes.new.spare c.classes.new.counts c.classes.new.rows c.classes.auto.keys c.classes.auto.spare c.classes.auto.rows (c.classes.ensures.all _ c.in_ok-f.was) c.requires.1 c.others.new.to (omega (arith, (c.classes.ensures.all _ c.in_ok-f.was).distinct.few, mul-le-mul_left c.args.m (slots-most c.args.d), c.requires.0.counts_long, c.classes.auto.counts, c.others.auto.to)) c.others.ensures); no = λ e. absurd (let g : Some c.in_ok-f.f ≡ None = e in cc) }
