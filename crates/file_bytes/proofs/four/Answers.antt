-- `file_bytes::four` meets its contract: the two lower bytes and the two upper ones. Assumes nothing.
use mathlib.Core.Path.{ap, ◌∙◌}
use Prim.Native.Nat.{ℕ, ◌+◌, ◌*◌}
use lib.ListN.{take, drop}
use Rattle.file_bytes.specs.Bytes.{said}
use Rattle.file_bytes.proofs.Steps.{four-said}
use native.Mathlib.Omega.{arith}
use Rattle.file_bytes.proofs.four.Goals as goal

pub overflow_mul-result : goal.overflow_mul-result
overflow_mul-result c = omega (arith, c.two-2.ensures.small)

pub overflow_add-result : goal.overflow_add-result
overflow_add-result c = omega (arith, c.two-2.ensures.small, c.two.ensures.small)

pub returns : goal.returns
returns c =
    ap (λ (x : ℕ). x + 65536 * c.two-2.result) c.two.ensures.number
    ∙ ap (λ (x : ℕ). said (take 2 (drop c.args.at c.args.from.now)) + 65536 * x) c.two-2.ensures.number
    ∙ four-said c.args.from.now c.args.at c.requires
