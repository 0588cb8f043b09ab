-- `file_bytes::two` meets its contract: two bytes, each below 256. Assumes nothing.
use mathlib.Core.Path.{ap, ◌∙◌}
use Prim.Native.Nat.{ℕ, ◌+◌, ◌*◌}
use lib.ListN.{get_or}
use Rattle.file_bytes.proofs.Steps.{two_said}
use native.Mathlib.Omega.{arith}
use Rattle.file_bytes.proofs.two.Goals as goal

pub returns-clause-number : goal.returns-clause-number
returns-clause-number c = two_said c.args.from.now c.args.at c.requires
