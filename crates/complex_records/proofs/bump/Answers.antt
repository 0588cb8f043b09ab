-- `complex_records::bump` meets its contract: by the test. Assumes nothing.
use borrow.Author.Rules.{rules}
use borrow.Author.Tests.{eq-eqb, ne_eqb}
use Rattle.complex_records.proofs.bump.Goals as goal

pub returns-then-r-eq4294967295 : goal.returns-then-r-eq4294967295
returns-then-r-eq4294967295 c = simp (eq-eqb _ _ c.if-r-eq4294967295.true)

pub returns-else-r-eq4294967295 : goal.returns-else-r-eq4294967295
returns-else-r-eq4294967295 c = simp (ne_eqb _ _ c.if-r-eq4294967295.false) (search rules)
