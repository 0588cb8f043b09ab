-- `grid_mesh::tangled_by` meets its contract. Assumes nothing.
use mathlib.Core.Path.{sym, ◌∙◌}
use Rattle.grid_mesh.proofs.Told.{by-yes, by-no}
use Rattle.grid_mesh.proofs.tangled_by.Goals as goal

pub returns-then-member_of : goal.returns-then-member_of
returns-then-member_of c = by-yes c.args.grid c.args.a c.args.b _ _ c.axis-x.ensures c.axis-y.ensures _ _ c.mask.ensures c.mask-then-member_of.ensures (sym c.member_of.ensures ∙ c.if-member_of.true)

pub returns-else-member_of : goal.returns-else-member_of
returns-else-member_of c = by-no c.args.grid c.args.a c.args.b _ c.axis-x.ensures _ c.mask.ensures (sym c.member_of.ensures ∙ c.if-member_of.false)
