-- `figures_mesh_file::hex::line` meets its contract: the place begins at `from` and never passes the end of the text. Assumes nothing.
use Prim.Native.Nat.{◌≤◌}
use lib.ListN.{length}
use Rattle.figures_mesh_file.proofs.hex.line.Given as goal

abbrev pub invariant-loop-i : goal.invariant-loop-i
invariant-loop-i l = (l.from ≤ l.end) × (l.end ≤ length l.text)
