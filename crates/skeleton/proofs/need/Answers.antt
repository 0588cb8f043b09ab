-- `skeleton::need` meets its contract, part by part. Assumes nothing.
use Rattle.refusal.specs.declared.Room.{Room}
use Rattle.skeleton.specs.Parts.{need_for}
use Rattle.skeleton.proofs.Steps.{room_most}
use native.Mathlib.Omega.{arith}
use mathlib.Core.Path.{sym, ap, ◌∙◌}
use Prim.Native.Nat.{◌*◌}
use Rattle.skeleton.specs.declared.Part.{Part}
use Rattle.skeleton.proofs.need.Goals as goal

pub overflow_mul-result : goal.overflow_mul-result
overflow_mul-result c =
    omega (arith, ap (λ (r : Room). r.keys) c.need-plain.ensures, room_most c.args.d c.args.len c.requires.0)

pub returns-in-Cells : goal.returns-in-Cells
returns-in-Cells c =
    c.need-plain.ensures ∙ ap (λ (p : Part). need_for p c.args.d c.args.len) (sym c.in-Cells.is)

pub returns-in-Edges : goal.returns-in-Edges
returns-in-Edges c =
    ap (λ (r : Room). record { keys = r.keys * 2; rows = r.keys; spare = r.keys; counts = r.keys }) c.need-plain.ensures ∙ ap (λ (p : Part). need_for p c.args.d c.args.len) (sym c.in-Edges.is)

pub returns-in-Border : goal.returns-in-Border
returns-in-Border c =
    c.need-plain.ensures ∙ ap (λ (p : Part). need_for p c.args.d c.args.len) (sym c.in-Border.is)
