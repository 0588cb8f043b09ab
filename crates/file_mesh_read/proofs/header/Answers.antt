-- `file_mesh_read::header` meets its contract: the opening, and then the two numbers. Assumes nothing.
use Rattle.refusal.proofs.Chain.{passed_on}
use Rattle.file_mesh_read.proofs.Parts.{opened-no, opened-at, header-no, header-kind, header-len, header-ends, header-got}
use Rattle.file_mesh_read.specs.Work.{headed_of}
use mathlib.Core.Path.{sym, ap}
use Rattle.file_mesh_read.proofs.header.Goals as goal

pub returns-then-kind-ne-HEAD_KIND : goal.returns-then-kind-ne-HEAD_KIND
returns-then-kind-ne-HEAD_KIND c =
    let bs = c.args.bytes.now in record { read = sym (ap headed_of (header-kind bs _ _ (opened-at bs 0 _ c.in_ok-len.ensures) c.if-kind-ne-HEAD_KIND.true)); small = tt }

pub returns-then-len-ne6 : goal.returns-then-len-ne6
returns-then-len-ne6 c =
    let bs = c.args.bytes.now in record { read = sym (ap headed_of (header-len bs _ _ (opened-at bs 0 _ c.in_ok-len.ensures) c.if-kind-ne-HEAD_KIND.false c.if-len-ne6.true)); small = tt }

pub returns-then-bytes-lt10 : goal.returns-then-bytes-lt10
returns-then-bytes-lt10 c =
    let bs = c.args.bytes.now in record { read = sym (ap headed_of (header-ends bs _ _ (opened-at bs 0 _ c.in_ok-len.ensures) c.if-kind-ne-HEAD_KIND.false c.if-len-ne6.false c.if-bytes-lt10.true)); small = tt }

pub returns-in_err-len : goal.returns-in_err-len
returns-in_err-len c =
    let bs = c.args.bytes.now in rw (passed_on c.from_residual.ensures.1) (record { read = sym (ap headed_of (header-no bs _ (opened-no _ _ c.in_err-len.ensures))); small = tt })

pub returns : goal.returns
returns c =
    let bs = c.args.bytes.now in record { read = sym (ap headed_of (header-got bs _ _ (opened-at bs 0 _ c.in_ok-len.ensures) c.if-kind-ne-HEAD_KIND.false c.if-len-ne6.false c.if-bytes-lt10.false c.two.result c.two-2.result c.two.ensures.number c.two-2.ensures.number)); small = (c.two.ensures.small, c.two-2.ensures.small) }
