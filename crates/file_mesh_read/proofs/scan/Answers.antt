-- `file_mesh_read::scan` meets its contract: the header, the words, and the births, each where the part before it ends. Assumes nothing.
use Rattle.refusal.proofs.Chain.{passed_on}
use Rattle.file_mesh_read.proofs.Whole.{headed-no, headed-at, worded-no, worded-at, scan-header, scan-words, scan-no, scan-of}
use native.Mathlib.Omega.{arith}
use mathlib.Core.Path.{sym}
use Rattle.file_mesh_read.proofs.scan.Goals as goal

pub words-requires : goal.words-requires
words-requires c =
    let bs = c.args.bytes.now in
    let h = headed-at bs _ c.in_ok-d.ensures.read in
    (c.in_ok-d.ensures.small.0, c.in_ok-d.ensures.small.1, h.inside)

pub overflow_mul-from : goal.overflow_mul-from
overflow_mul-from c =
    let bs = c.args.bytes.now in
    let h = headed-at bs _ c.in_ok-d.ensures.read in
    let w = worded-at _ _ bs _ h.inside c.in_ok-vertices.ensures in
    omega (arith, w.inside)

pub overflow_add-from : goal.overflow_add-from
overflow_add-from c =
    let bs = c.args.bytes.now in
    let h = headed-at bs _ c.in_ok-d.ensures.read in
    let w = worded-at _ _ bs _ h.inside c.in_ok-vertices.ensures in
    omega (arith, w.inside)

pub births-requires : goal.births-requires
births-requires c =
    let bs = c.args.bytes.now in
    let h = headed-at bs _ c.in_ok-d.ensures.read in
    let w = worded-at _ _ bs _ h.inside c.in_ok-vertices.ensures in
    (omega arith, w.inside)

pub returns-in_err-d : goal.returns-in_err-d
returns-in_err-d c =
    let bs = c.args.bytes.now in
    rw (passed_on c.from_residual.ensures.1) (sym (scan-header bs _ (headed-no _ _ c.in_err-d.ensures.read)))

pub returns-in_err-vertices : goal.returns-in_err-vertices
returns-in_err-vertices c =
    let bs = c.args.bytes.now in
    let h = headed-at bs _ c.in_ok-d.ensures.read in
    rw (passed_on c.from_residual-in_err-vertices.ensures.1) (sym (scan-words bs _ _ h _ (worded-no _ _ c.in_err-vertices.ensures)))

pub returns-in_err-counts : goal.returns-in_err-counts
returns-in_err-counts c =
    let bs = c.args.bytes.now in
    let h = headed-at bs _ c.in_ok-d.ensures.read in
    let w = worded-at _ _ bs _ h.inside c.in_ok-vertices.ensures in
    rw (passed_on c.from_residual-in_err-counts.ensures.1) (sym (scan-no bs _ _ h _ w _ c.in_err-counts.ensures))

pub returns : goal.returns
returns c =
    let bs = c.args.bytes.now in
    let h = headed-at bs _ c.in_ok-d.ensures.read in
    let w = worded-at _ _ bs _ h.inside c.in_ok-vertices.ensures in
    sym (scan-of bs _ _ h _ w _ c.in_ok-counts.ensures)
