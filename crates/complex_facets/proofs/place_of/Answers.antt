-- `complex_facets::place_of` meets its contract. Assumes nothing.
use native.Mathlib.Nat.{mod-lt}
use mathlib.Core.Bool.{Bool}
use mathlib.Core.Path.{sym, ap}
use Prim.Native.Nat.{◌-◌, ◌%◌}
use native.Mathlib.Omega.{arith}
use borrow.Author.Tests.{eq-eqb, ne_eqb}
use Rattle.lists.specs.Words.{none}
use Rattle.complex_facets.specs.WorkSides.{or_none}
use Rattle.complex_facets.proofs.place_of.Goals as goal

pub returns-then-x-eq-NONE : goal.returns-then-x-eq-NONE
returns-then-x-eq-NONE c =
    sym (ap (λ (t : Bool). or_none t (c.args.d - c.args.x % c.args.k)) (eq-eqb c.args.x none c.if-x-eq-NONE.true))

pub overflow_sub-result : goal.overflow_sub-result
overflow_sub-result c =
    omega (arith, mod-lt c.args.x c.requires.0, c.requires.1)

pub overflow_cast-result : goal.overflow_cast-result
overflow_cast-result c =
    omega (arith, c.requires.2)

pub returns : goal.returns
returns c =
    sym (ap (λ (t : Bool). or_none t (c.args.d - c.args.x % c.args.k)) (ne_eqb c.args.x none c.if-x-eq-NONE.false))
