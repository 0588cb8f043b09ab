-- `file_mesh_write::birth_fits` meets its contract: the tests in their order. Assumes nothing.
use Rattle.file_mesh.specs.declared.Run.{Run}
use Rattle.file_mesh_write.proofs.Fit.{birth-number, birth-refinement, birth-count, birth-pairs, weigh}
use mathlib.Core.Path.{sym, ap, ◌∙◌}
use Rattle.file_mesh_write.proofs.birth_fits.Goals as goal

pub returns-then-not-number_fits : goal.returns-then-not-number_fits
returns-then-not-number_fits c =
    sym (birth-number c.args.vertices c.args.run c.args.n c.args.r c.args.count c.args.pairs.now (sym c.number_fits.ensures ∙ c.if-not-number_fits.true))

pub returns-then-not-refinement_fits : goal.returns-then-not-refinement_fits
returns-then-not-refinement_fits c =
    sym (birth-refinement c.args.vertices c.args.run c.args.n c.args.r c.args.count c.args.pairs.now (sym c.number_fits.ensures ∙ c.if-not-number_fits.false) (sym c.refinement_fits.ensures ∙ c.if-not-refinement_fits.true))

pub returns-then-count-lt2 : goal.returns-then-count-lt2
returns-then-count-lt2 c =
    sym (birth-count c.args.vertices c.args.run c.args.n c.args.r c.args.count c.args.pairs.now (sym c.number_fits.ensures ∙ c.if-not-number_fits.false) (sym c.refinement_fits.ensures ∙ c.if-not-refinement_fits.false) c.if-count-lt2.true)

pub returns : goal.returns
returns c =
    c.pairs_fit.ensures ∙ ap (λ (x : Run). weigh x.first 0 c.args.r c.args.pairs.now) c.run_on-next.ensures
    ∙ sym (birth-pairs c.args.vertices c.args.run c.args.n c.args.r c.args.count c.args.pairs.now (sym c.number_fits.ensures ∙ c.if-not-number_fits.false) (sym c.refinement_fits.ensures ∙ c.if-not-refinement_fits.false) c.if-count-lt2.false c.requires)
