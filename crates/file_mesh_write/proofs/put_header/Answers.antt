-- `file_mesh_write::put_header` meets its contract: the opening stands at the front, and after it the two numbers. Assumes nothing.
use Rattle.file_mesh_write.proofs.Bytes.{onto-more, opening-long, header_is}
use Rattle.file_bytes.proofs.Laws.{little-length}
use Rattle.file_bytes.specs.Bytes.{little}
use Rattle.refusal.specs.Lent.{onto}
use lib.ListN.{length, take, drop, length-append}
use Prim.Native.Nat.{ℕ, ◌-◌}
use native.Mathlib.Omega.{arith}
use mathlib.Core.List.{List, ◌++◌}
use mathlib.Core.Path.{ap, ◌∙◌}
use Rattle.file_mesh_write.proofs.put_header.Goals as goal

pub returns : goal.returns
returns c =
    let a = c.put_opening.new.to in
    let x = little 4 6 ++ little 2 1 in
    let lx = opening-long 6 1 in
    let ld = little-length 2 c.args.d in
    let t = take 6 a ++ (c.put_two.new.to ++ drop (length a - 6) (drop 6 a)) in
    let one = onto-more x (little 2 c.args.d) c.args.to.now a c.put_two.new.to 6 (length a - 6) lx (omega (arith, c.requires)) c.put_opening.ensures (omega arith) c.put_two.ensures in
    let two = onto-more (x ++ little 2 c.args.d) (little 2 c.args.count) c.args.to.now t c.put_two-2.new.to 8 (length t - 8) (length-append x (little 2 c.args.d) ∙ omega arith) (omega (arith, c.requires, little-length 2 c.args.count)) one (omega arith) c.put_two-2.ensures in
    two ∙ ap (λ (l : List ℕ). onto l c.args.to.now) (header_is c.args.d c.args.count)
