-- `complex_records::sign_number` meets its contract: by its tests. Assumes nothing.
use borrow.Author.Tests.{eq-eqb, ne_eqb}
use Rattle.complex_records.proofs.sign_number.Goals as goal

pub returns-then-mark-eq1 : goal.returns-then-mark-eq1
returns-then-mark-eq1 c = simp (eq-eqb _ _ c.if-mark-eq1.true)

pub returns-then-mark-eq2 : goal.returns-then-mark-eq2
returns-then-mark-eq2 c = simp (ne_eqb _ _ c.if-mark-eq1.false, eq-eqb _ _ c.if-mark-eq2.true)

pub returns : goal.returns
returns c = simp (ne_eqb _ _ c.if-mark-eq1.false, ne_eqb _ _ c.if-mark-eq2.false)
