-- `file_mesh_write::put_birth` meets its contract: the opening stands at the front, and after it the three numbers and the pairs. Assumes nothing.
use Rattle.file_mesh_write.proofs.Bytes.{onto-more, opening-long, birth-is}
use Rattle.file_mesh.proofs.Written.{pairs-long}
use Rattle.file_mesh.specs.File.{pairs_of}
use Rattle.file_bytes.proofs.Laws.{little-length}
use Rattle.file_bytes.specs.Bytes.{little}
use Rattle.refusal.specs.Lent.{onto}
use lib.ListN.{length, take, drop, length-append}
use Prim.Native.Nat.{ℕ, ◌+◌, ◌*◌, ◌-◌}
use native.Mathlib.Omega.{arith}
use mathlib.Core.List.{List, ◌++◌}
use mathlib.Core.Path.{ap, ◌∙◌}
use Rattle.file_mesh_write.proofs.put_birth.Goals as goal

pub returns : goal.returns
returns c =
    let n = c.args.n in
    let r = c.args.r in
    let m = c.args.count in
    let ps = c.args.pairs.now in
    let to = c.args.to.now in
    let a = c.put_opening.new.to in
    let x = little 4 (10 + m * 6) ++ little 2 3 in
    let lx = opening-long (10 + m * 6) 3 in
    let ln = little-length 4 n in
    let lr = little-length 2 r in
    let lm = little-length 2 m in
    let lp = pairs-long m ps c.requires.1 in
    let t = take 6 a ++ (c.put_four.new.to ++ drop (length a - 6) (drop 6 a)) in
    let one = onto-more x (little 4 n) to a c.put_four.new.to 6 (length a - 6) lx (omega arith) c.put_opening.ensures (omega arith) c.put_four.ensures in
    let l1 = length-append x (little 4 n) in
    let t2 = take 10 t ++ (c.put_two.new.to ++ drop (length t - 10) (drop 10 t)) in
    let two = onto-more (x ++ little 4 n) (little 2 r) to t c.put_two.new.to 10 (length t - 10) (omega arith) (omega arith) one (omega arith) c.put_two.ensures in
    let l2 = length-append (x ++ little 4 n) (little 2 r) in
    let t3 = take 12 t2 ++ (c.put_two-2.new.to ++ drop (length t2 - 12) (drop 12 t2)) in
    let three = onto-more ((x ++ little 4 n) ++ little 2 r) (little 2 m) to t2 c.put_two-2.new.to 12 (length t2 - 12) (omega arith) (omega arith) two (omega arith) c.put_two-2.ensures in
    let l3 = length-append ((x ++ little 4 n) ++ little 2 r) (little 2 m) in
    onto-more (((x ++ little 4 n) ++ little 2 r) ++ little 2 m) (pairs_of ps) to t3 c.put_pairs.new.to 14 (length t3 - 14) (omega arith) (omega arith) three (omega arith) c.put_pairs.ensures
    ∙ ap (λ (l : List ℕ). onto l to) (birth-is n r m ps c.requires.1)
