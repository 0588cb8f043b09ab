-- `complex_facets::sign_of` meets its contract. Assumes nothing.
use Rattle.complex_facets.specs.WorkRecords.{zero_if}
use Rattle.lists.specs.Words.{none}
use borrow.Author.Tests.{eq-eqb, ne_eqb}
use mathlib.Core.Bool.{Bool}
use native.Mathlib.Nat.{mod-lt}
use mathlib.Core.Path.{sym, ap}
use Prim.Native.Nat.{◌+◌, ◌-◌, ◌%◌}
use native.Mathlib.Omega.{arith}
use Rattle.complex_facets.proofs.sign_of.Goals as goal

pub returns-then-x-eq-NONE : goal.returns-then-x-eq-NONE
returns-then-x-eq-NONE c = sym (ap (λ (t : Bool). zero_if t ((c.args.d - c.args.x % c.args.k) % 2 + 1)) (eq-eqb c.args.x none c.if-x-eq-NONE.true))

pub overflow_sub-place : goal.overflow_sub-place
overflow_sub-place c = omega (arith, mod-lt c.args.x c.requires.0, c.requires.1)

pub returns : goal.returns
returns c = sym (ap (λ (t : Bool). zero_if t ((c.args.d - c.args.x % c.args.k) % 2 + 1)) (ne_eqb c.args.x none c.if-x-eq-NONE.false))
