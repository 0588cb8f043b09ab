-- `file_mesh_write::put_word` meets its contract: the opening stands at the front, and after it the vertices. Assumes nothing.
use Rattle.file_mesh_write.proofs.Bytes.{onto-more, opening-long, word-is}
use Rattle.file_bytes.proofs.Laws.{fours-length}
use Rattle.file_bytes.specs.Bytes.{little, fours}
use Rattle.refusal.specs.Lent.{onto}
use lib.ListN.{length}
use Prim.Native.Nat.{ℕ, ◌+◌, ◌*◌, ◌-◌}
use native.Mathlib.Omega.{arith}
use mathlib.Core.List.{List, ◌++◌}
use mathlib.Core.Path.{ap, ◌∙◌}
use Rattle.file_mesh_write.proofs.put_word.Goals as goal

pub returns : goal.returns
returns c =
    let a = c.put_opening.new.to in
    let n = 2 + length c.args.w.now * 4 in
    onto-more (little 4 n ++ little 2 2) (fours c.args.w.now) c.args.to.now a c.put_fours.new.to 6 (length a - 6) (opening-long n 2) (omega (arith, c.requires, fours-length c.args.w.now)) c.put_opening.ensures (omega arith) c.put_fours.ensures
    ∙ ap (λ (l : List ℕ). onto l c.args.to.now) (word-is c.args.w.now)
