-- `complex_facets::flip_of` meets its contract. Assumes nothing.
use Rattle.complex_facets.specs.Records.{one_if}
use borrow.Author.Tests.{eq-eqb, ne_eqb}
use mathlib.Core.Path.{sym, ap}
use Rattle.complex_facets.proofs.flip_of.Goals as goal

pub returns-then-sign-there : goal.returns-then-sign-there
returns-then-sign-there c = sym (ap one_if (eq-eqb c.args.sign c.args.there c.if-sign-there.true))

pub returns : goal.returns
returns c = sym (ap one_if (ne_eqb c.args.sign c.args.there c.if-sign-there.false))
