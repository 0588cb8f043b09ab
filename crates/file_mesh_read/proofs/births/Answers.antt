-- `file_mesh_read::births` meets its contract. The invariant: the births are counted as those from `at` on are, after the run and the counts so far. Assumes nothing.
use Rattle.refusal.proofs.Chain.{passed_on}
use Rattle.file_mesh_read.proofs.Records.{births-refused, births-ended, birth-inside, births-more}
use native.Mathlib.Omega.{arith}
use mathlib.Core.Path.{sym, ◌∙◌}
use Rattle.file_mesh_read.proofs.births.Goals as goal

pub returns-in_err-born : goal.returns-in_err-born
returns-in_err-born c =
    rw (passed_on c.from_residual.ensures.1)
    (sym (c.loop-born.invariant.3 ∙ births-refused c.args.vertices c.loop-born.run c.args.bytes.now c.loop-born.at c.loop-born.many c.loop-born.pairs c.loop-born.invariant.0 c.loop-born.invariant.1 _ c.in_err-born.ensures))

pub loop-born-smaller : goal.loop-born-smaller
loop-born-smaller c =
    omega (arith, c.loop-born.invariant.0, birth-inside c.args.vertices c.loop-born.run c.args.bytes.now c.loop-born.at c.loop-born.many c.loop-born.pairs c.loop-born.invariant.0 c.loop-born.invariant.1 c.in-Some.born (rw c.in-Some.is at c.in_ok-born.ensures))

pub loop-born-preserved : goal.loop-born-preserved
loop-born-preserved c =
    let e = rw c.in-Some.is at c.in_ok-born.ensures in (
      birth-inside c.args.vertices c.loop-born.run c.args.bytes.now c.loop-born.at c.loop-born.many c.loop-born.pairs c.loop-born.invariant.0 c.loop-born.invariant.1 c.in-Some.born e,
      omega (arith, c.loop-born.invariant.1),
      omega (arith, c.loop-born.invariant.2),
      c.loop-born.invariant.3 ∙ births-more c.args.vertices c.loop-born.run c.args.bytes.now c.loop-born.at c.loop-born.many c.loop-born.pairs c.loop-born.invariant.0 c.loop-born.invariant.1 c.in-Some.born e c.run_on-run.result c.run_on-run.ensures,
    )

pub returns : goal.returns
returns c =
    sym (c.loop-born.invariant.3 ∙ births-ended c.args.vertices c.loop-born.run c.args.bytes.now c.loop-born.at c.loop-born.many c.loop-born.pairs c.loop-born.invariant.0 c.loop-born.invariant.1 (rw c.in_default.is at c.in_ok-born.ensures))
