-- `file_mesh_write::put_pair` meets its contract: one part stands at the front, and the next one was written after it. Assumes nothing.
use Rattle.file_bytes.specs.Bytes.{little}
use Rattle.file_mesh_write.proofs.Bytes.{onto-more}
use Rattle.file_bytes.proofs.Laws.{little-length}
use native.Mathlib.Omega.{arith}
use Prim.Native.Nat.{◌-◌}
use lib.ListN.{length}
use Rattle.file_mesh_write.proofs.put_pair.Goals as goal

pub returns : goal.returns
returns c =
    onto-more (little 4 c.args.v) (little 2 c.args.w) c.args.to.now c.put_four.new.to c.put_two.new.to 4 (length c.put_four.new.to - 4) (little-length 4 c.args.v) (omega (arith, c.requires, little-length 2 c.args.w)) c.put_four.ensures (omega arith) c.put_two.ensures
