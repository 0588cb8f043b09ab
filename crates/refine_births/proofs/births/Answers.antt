-- `refine_births::births` meets its contract: one row of d + 1 numbers for each birth. Assumes nothing.
use Prim.Native.Nat.{◌-◌}
use native.Mathlib.Omega.{arith}
use native.Mathlib.Numerals.{add-one}
use Rattle.refine_births.proofs.births.Goals as goal

pub overflow_add-d : goal.overflow_add-d
overflow_add-d c = omega (arith, c.requires.small)

pub write_births-requires : goal.write_births-requires
write_births-requires c = rw (add-one c.args.d) c.requires

pub returns : goal.returns
returns c = rw (add-one c.args.d) at c.write_births.ensures
