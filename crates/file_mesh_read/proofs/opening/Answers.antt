-- `file_mesh_read::opening` meets its contract: each field is tested when its last byte has come. Assumes nothing.
use Rattle.file_mesh_read.proofs.Parts.{open-ends, open-small, open-cut, open-zero, open-high, open-got}
use Rattle.file_mesh_read.specs.Work.{opened_of}
use mathlib.Core.Path.{sym, ap}
use Rattle.file_mesh_read.proofs.opening.Goals as goal

pub returns-then-left-lt4 : goal.returns-then-left-lt4
returns-then-left-lt4 c =
    sym (ap opened_of (open-ends c.args.bytes.now c.args.at c.requires c.if-left-lt4.true))

pub returns-then-len-lt2 : goal.returns-then-len-lt2
returns-then-len-lt2 c =
    sym (ap opened_of (open-small c.args.bytes.now c.args.at c.requires c.if-left-lt4.false c.four-len.result c.four-len.ensures c.if-len-lt2.true))

pub returns-then-left-lt6 : goal.returns-then-left-lt6
returns-then-left-lt6 c =
    sym (ap opened_of (open-cut c.args.bytes.now c.args.at c.requires c.if-left-lt4.false c.four-len.result c.four-len.ensures c.if-len-lt2.false c.if-left-lt6.true))

pub returns-then-kind-eq0 : goal.returns-then-kind-eq0
returns-then-kind-eq0 c =
    sym (ap opened_of (open-zero c.args.bytes.now c.args.at c.requires c.if-left-lt4.false c.four-len.result c.four-len.ensures c.if-len-lt2.false c.if-left-lt6.false c.two-kind.result c.two-kind.ensures.number c.if-kind-eq0.true))

pub returns-then-kind-gt-END_KIND : goal.returns-then-kind-gt-END_KIND
returns-then-kind-gt-END_KIND c =
    sym (ap opened_of (open-high c.args.bytes.now c.args.at c.requires c.if-left-lt4.false c.four-len.result c.four-len.ensures c.if-len-lt2.false c.if-left-lt6.false c.two-kind.result c.two-kind.ensures.number c.if-kind-eq0.false c.if-kind-gt-END_KIND.true))

pub returns : goal.returns
returns c =
    sym (ap opened_of (open-got c.args.bytes.now c.args.at c.requires c.if-left-lt4.false c.four-len.result c.four-len.ensures c.if-len-lt2.false c.if-left-lt6.false c.two-kind.result c.two-kind.ensures.number c.if-kind-eq0.false c.if-kind-gt-END_KIND.false))
