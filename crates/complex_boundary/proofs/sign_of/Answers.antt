-- `complex_boundary::sign_of` meets its contract, by the position's parity. Assumes nothing.
use mathlib.Core.Path.{sym}
use Rattle.complex_boundary.proofs.Entries.{sign-even, sign-odd}
use Rattle.complex_boundary.proofs.sign_of.Goals as goal

pub returns-then-i-eq0 : goal.returns-then-i-eq0
returns-then-i-eq0 c = sym (sign-even c.args.i c.if-i-eq0.true)

pub returns : goal.returns
returns c = sym (sign-odd c.args.i c.if-i-eq0.false)
