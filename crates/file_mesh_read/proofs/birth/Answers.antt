-- `file_mesh_read::birth` meets its contract: each field is tested when its last byte has come, the sum after the last pair. Assumes nothing.
use Rattle.refusal.proofs.Chain.{passed_on}
use Rattle.file_mesh_read.proofs.Pairs.{born-refused, born-read, birth-ends, birth-number, birth-cut, birth-refinement, birth-short, birth-few, birth-len, birth-pairs}
use Rattle.file_mesh_read.specs.Work.{born_of, refusal_of, weighed}
use Rattle.file_mesh.specs.Read.{pairs_from}
use Rattle.file_mesh.specs.Rules.{more}
use Rattle.file_mesh.specs.declared.Run.{Run}
use lib.ListN.{drop}
use Prim.Native.Nat.{◌+◌}
use mathlib.Core.Path.{sym, ap, ◌∙◌}
use Rattle.file_mesh_read.proofs.birth.Goals as goal

pub returns-then-left-lt4 : goal.returns-then-left-lt4
returns-then-left-lt4 c =
    sym (ap born_of (birth-ends c.args.vertices c.args.run c.args.len c.args.bytes.now c.args.at c.requires c.if-left-lt4.true))

pub returns-then-not-number_fits : goal.returns-then-not-number_fits
returns-then-not-number_fits c =
    sym (ap born_of (birth-number c.args.vertices c.args.run c.args.len c.args.bytes.now c.args.at c.requires c.if-left-lt4.false c.four-n.result c.four-n.ensures (sym c.number_fits.ensures ∙ c.if-not-number_fits.true)))

pub returns-then-left-lt6 : goal.returns-then-left-lt6
returns-then-left-lt6 c =
    sym (ap born_of (birth-cut c.args.vertices c.args.run c.args.len c.args.bytes.now c.args.at c.requires c.if-left-lt4.false c.four-n.result c.four-n.ensures (sym c.number_fits.ensures ∙ c.if-not-number_fits.false) c.if-left-lt6.true))

pub returns-then-not-refinement_fits : goal.returns-then-not-refinement_fits
returns-then-not-refinement_fits c =
    sym (ap born_of (birth-refinement c.args.vertices c.args.run c.args.len c.args.bytes.now c.args.at c.requires c.if-left-lt4.false c.four-n.result c.four-n.ensures (sym c.number_fits.ensures ∙ c.if-not-number_fits.false) c.if-left-lt6.false c.two-r.result c.two-r.ensures.number (sym c.refinement_fits.ensures ∙ c.if-not-refinement_fits.true)))

pub returns-then-left-lt8 : goal.returns-then-left-lt8
returns-then-left-lt8 c =
    sym (ap born_of (birth-short c.args.vertices c.args.run c.args.len c.args.bytes.now c.args.at c.requires c.if-left-lt4.false c.four-n.result c.four-n.ensures (sym c.number_fits.ensures ∙ c.if-not-number_fits.false) c.if-left-lt6.false c.two-r.result c.two-r.ensures.number (sym c.refinement_fits.ensures ∙ c.if-not-refinement_fits.false) c.if-left-lt8.true))

pub returns-then-count-lt2 : goal.returns-then-count-lt2
returns-then-count-lt2 c =
    sym (ap born_of (birth-few c.args.vertices c.args.run c.args.len c.args.bytes.now c.args.at c.requires c.if-left-lt4.false c.four-n.result c.four-n.ensures (sym c.number_fits.ensures ∙ c.if-not-number_fits.false) c.if-left-lt6.false c.two-r.result c.two-r.ensures.number (sym c.refinement_fits.ensures ∙ c.if-not-refinement_fits.false) c.if-left-lt8.false c.two-count.result c.two-count.ensures.number c.if-count-lt2.true))

pub returns-then-len-count : goal.returns-then-len-count
returns-then-len-count c =
    sym (ap born_of (birth-len c.args.vertices c.args.run c.args.len c.args.bytes.now c.args.at c.requires c.if-left-lt4.false c.four-n.result c.four-n.ensures (sym c.number_fits.ensures ∙ c.if-not-number_fits.false) c.if-left-lt6.false c.two-r.result c.two-r.ensures.number (sym c.refinement_fits.ensures ∙ c.if-not-refinement_fits.false) c.if-left-lt8.false c.two-count.result c.two-count.ensures.number c.if-count-lt2.false c.if-len-count.true))

pub returns-in_err-pairs_refusal : goal.returns-in_err-pairs_refusal
returns-in_err-pairs_refusal c =
    let p = pairs_from (more c.args.run c.four-n.result c.two-r.result).first 0 c.two-count.result (drop (c.args.at + 8) c.args.bytes.now) in
    let e = c.in_err-pairs_refusal.ensures ∙ ap (λ (x : Run). refusal_of (weighed c.two-r.result (pairs_from x.first 0 c.two-count.result (drop (c.args.at + 8) c.args.bytes.now)))) c.run_on-next.ensures in
    rw (passed_on c.from_residual.ensures.1)
    (sym (ap born_of (birth-pairs c.args.vertices c.args.run c.args.len c.args.bytes.now c.args.at c.requires c.if-left-lt4.false c.four-n.result c.four-n.ensures (sym c.number_fits.ensures ∙ c.if-not-number_fits.false) c.if-left-lt6.false c.two-r.result c.two-r.ensures.number (sym c.refinement_fits.ensures ∙ c.if-not-refinement_fits.false) c.if-left-lt8.false c.two-count.result c.two-count.ensures.number c.if-count-lt2.false c.if-len-count.false) ∙ born-refused c.four-n.result c.two-r.result c.two-count.result p _ e))

pub returns : goal.returns
returns c =
    let p = pairs_from (more c.args.run c.four-n.result c.two-r.result).first 0 c.two-count.result (drop (c.args.at + 8) c.args.bytes.now) in
    let e = c.in_ok-pairs_refusal.ensures ∙ ap (λ (x : Run). refusal_of (weighed c.two-r.result (pairs_from x.first 0 c.two-count.result (drop (c.args.at + 8) c.args.bytes.now)))) c.run_on-next.ensures in
    sym (ap born_of (birth-pairs c.args.vertices c.args.run c.args.len c.args.bytes.now c.args.at c.requires c.if-left-lt4.false c.four-n.result c.four-n.ensures (sym c.number_fits.ensures ∙ c.if-not-number_fits.false) c.if-left-lt6.false c.two-r.result c.two-r.ensures.number (sym c.refinement_fits.ensures ∙ c.if-not-refinement_fits.false) c.if-left-lt8.false c.two-count.result c.two-count.ensures.number c.if-count-lt2.false c.if-len-count.false) ∙ born-read c.four-n.result c.two-r.result c.two-count.result p e)
