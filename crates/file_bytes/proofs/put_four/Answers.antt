-- `file_bytes::put_four` meets its contract. Assumes nothing.
use mathlib.Core.Path.{sym, subst}
use Prim.Native.Nat.{ℕ, ◌<◌}
use lib.ListN.{length-set}
use Rattle.file_bytes.specs.Bytes.{little}
use Rattle.file_bytes.proofs.Steps.{put_four}
use native.Mathlib.Omega.{arith}
use Rattle.file_bytes.proofs.put_four.Goals as goal

pub bounds-to-1 : goal.bounds-to-1
bounds-to-1 c = subst (λ (n : ℕ). 1 < n) (sym (length-set c.args.to.now 0 _)) (omega (arith, c.requires))

pub bounds-to-2 : goal.bounds-to-2
bounds-to-2 c = simp length-set (omega (arith, c.requires))

pub returns : goal.returns
unfolding little
returns c = put_four c.args.to.now _ _ _ _ c.requires
