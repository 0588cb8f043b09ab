-- `complex_boundary::hand_entries` meets its contract: what is written are the entries (proofs/Entries). Assumes nothing.
use native.Mathlib.Omega.{arith}
use Rattle.complex_boundary.proofs.Entries.{few-signs, few-faces, few-cofaces, all-handed}
use Rattle.complex_boundary.proofs.hand_entries.Goals as goal

pub returns-then-signs-total : goal.returns-then-signs-total
returns-then-signs-total c = λ es a. few-signs c.args.k c.args.f c.args.ids.now es a c.args.signs.now c.args.faces.now c.args.cofaces.now c.if-signs-total.true

pub returns-then-faces-total : goal.returns-then-faces-total
returns-then-faces-total c = λ es a. few-faces c.args.k c.args.f c.args.ids.now es a c.args.signs.now c.args.faces.now c.args.cofaces.now c.if-faces-total.true

pub returns-then-cofaces-total : goal.returns-then-cofaces-total
returns-then-cofaces-total c = λ es a. few-cofaces c.args.k c.args.f c.args.ids.now es a c.args.signs.now c.args.faces.now c.args.cofaces.now c.if-cofaces-total.true

pub returns : goal.returns
returns c =
    λ es a.
    all-handed c.args.k c.args.f c.args.ids.now es a c.args.signs.now c.args.faces.now c.args.cofaces.now _ _ _ (omega arith) (omega arith) (omega arith) c.write_signs.ensures c.write_faces.ensures c.write_cofaces.ensures
