-- `file_mesh_read::birth_or_end` meets its contract: the opening, and then a birth or the end of the file. Assumes nothing.
use Rattle.file_mesh_read.proofs.Nexts.{born-refused, next-born, next-no, next-short, next-ragged, next-birth, next-kind, next-len, next-run, next_more, next-end}
use Rattle.refusal.proofs.Chain.{passed_on}
use Rattle.file_mesh_read.proofs.Parts.{opened-no, opened-at}
use Rattle.file_mesh_read.specs.Work.{next_of}
use native.Mathlib.Omega.{arith}
use mathlib.Core.Path.{sym, ap, ◌∙◌}
use Rattle.file_mesh_read.proofs.birth_or_end.Goals as goal

pub returns-then-len-lt10 : goal.returns-then-len-lt10
returns-then-len-lt10 c =
    sym (ap next_of (next-short c.args.vertices c.args.run c.args.bytes.now c.args.at _ _ (opened-at c.args.bytes.now c.args.at _ c.in_ok-len.ensures) c.if-kind-eq-BIRTH_KIND.true c.if-len-lt10.true))

pub returns-then-len-ne0 : goal.returns-then-len-ne0
returns-then-len-ne0 c =
    sym (ap next_of (next-ragged c.args.vertices c.args.run c.args.bytes.now c.args.at _ _ (opened-at c.args.bytes.now c.args.at _ c.in_ok-len.ensures) c.if-kind-eq-BIRTH_KIND.true c.if-len-lt10.false c.if-len-ne0.true))

pub birth-requires : goal.birth-requires
birth-requires c =
    omega (arith, (opened-at c.args.bytes.now c.args.at _ c.in_ok-len.ensures).inside, c.requires)

pub returns-in_err-birth : goal.returns-in_err-birth
returns-in_err-birth c =
    rw (passed_on c.from_residual-in_err-birth.ensures.1)
    (born-refused _ _ c.in_err-birth.ensures ∙ sym (ap next_of (next-birth c.args.vertices c.args.run c.args.bytes.now c.args.at _ _ (opened-at c.args.bytes.now c.args.at _ c.in_ok-len.ensures) c.if-kind-eq-BIRTH_KIND.true c.if-len-lt10.false c.if-len-ne0.false)))

pub returns-then-kind-eq-BIRTH_KIND : goal.returns-then-kind-eq-BIRTH_KIND
returns-then-kind-eq-BIRTH_KIND c =
    next-born _ _ c.in_ok-birth.ensures ∙ sym (ap next_of (next-birth c.args.vertices c.args.run c.args.bytes.now c.args.at _ _ (opened-at c.args.bytes.now c.args.at _ c.in_ok-len.ensures) c.if-kind-eq-BIRTH_KIND.true c.if-len-lt10.false c.if-len-ne0.false))

pub returns-then-kind-ne-END_KIND : goal.returns-then-kind-ne-END_KIND
returns-then-kind-ne-END_KIND c =
    sym (ap next_of (next-kind c.args.vertices c.args.run c.args.bytes.now c.args.at _ _ (opened-at c.args.bytes.now c.args.at _ c.in_ok-len.ensures) c.if-kind-eq-BIRTH_KIND.false c.if-kind-ne-END_KIND.true))

pub returns-then-len-ne2 : goal.returns-then-len-ne2
returns-then-len-ne2 c =
    sym (ap next_of (next-len c.args.vertices c.args.run c.args.bytes.now c.args.at _ _ (opened-at c.args.bytes.now c.args.at _ c.in_ok-len.ensures) c.if-kind-ne-END_KIND.false c.if-len-ne2.true))

pub returns-then-not-run_ends : goal.returns-then-not-run_ends
returns-then-not-run_ends c =
    sym (ap next_of (next-run c.args.vertices c.args.run c.args.bytes.now c.args.at _ _ (opened-at c.args.bytes.now c.args.at _ c.in_ok-len.ensures) c.if-kind-ne-END_KIND.false c.if-len-ne2.false (sym c.run_ends.ensures ∙ c.if-not-run_ends.true)))

pub returns-then-bytes-at : goal.returns-then-bytes-at
returns-then-bytes-at c =
    sym (ap next_of (next_more c.args.vertices c.args.run c.args.bytes.now c.args.at _ _ (opened-at c.args.bytes.now c.args.at _ c.in_ok-len.ensures) c.if-kind-ne-END_KIND.false c.if-len-ne2.false (sym c.run_ends.ensures ∙ c.if-not-run_ends.false) c.if-bytes-at.true))

pub returns-in_err-len : goal.returns-in_err-len
returns-in_err-len c =
    rw (passed_on c.from_residual.ensures.1) (sym (ap next_of (next-no c.args.vertices c.args.run c.args.bytes.now c.args.at _ (opened-no _ _ c.in_err-len.ensures))))

pub returns : goal.returns
returns c =
    sym (ap next_of (next-end c.args.vertices c.args.run c.args.bytes.now c.args.at _ _ (opened-at c.args.bytes.now c.args.at _ c.in_ok-len.ensures) c.if-kind-ne-END_KIND.false c.if-len-ne2.false (sym c.run_ends.ensures ∙ c.if-not-run_ends.false) c.if-bytes-at.false))
