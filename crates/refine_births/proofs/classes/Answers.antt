-- `refine_births::classes` meets its contract: equal rows stand together in the sorted list, and so are in one class. Assumes nothing.
use Prim.Native.Nat.{◌-◌}
use native.Mathlib.Omega.{arith}
use Rattle.refine_births.proofs.Complex.{classed}
use Rattle.refine_births.proofs.classes.Goals as goal

pub distinct-requires : goal.distinct-requires
distinct-requires c = record { sorted = c.sort_rows.ensures.sorted; n_bound = (omega (arith, c.requires.table.few), omega (arith, c.requires.table.long), omega (arith, c.requires.rows_long, c.sort_rows.auto), omega (arith, c.requires.spare_long, c.sort_rows.auto), omega (arith, c.requires.counts_long, c.sort_rows.auto)) }

pub returns : goal.returns
returns c = classed c.args.keys.now c.args.stride c.args.total _ _ _ c.distinct.ensures.distinct c.requires.table.long
