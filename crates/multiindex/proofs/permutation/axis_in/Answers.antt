-- The table holds the orders of fewer axes in front, raised by the axes that are not there. Assumes nothing.
use mathlib.Core.Path.{◌≡◌, sym, ap, ◌∙◌}
use mathlib.Core.List.{List}
use Prim.Native.Nat.{ℕ, ◌*◌, ◌+◌, ◌-◌, ◌<◌, ◌≤◌}
use native.Mathlib.Omega.{arith}
use lib.ListN.{get_or, length}
use Rattle.refusal.specs.Limits.{most_dimension}
use Rattle.multiindex.specs.Permutation.{order_of, orders, order_table}
use Rattle.multiindex.proofs.Tables.{table_is, axis-at, place-within}
use Rattle.multiindex.proofs.permutation.axis_in.Goals as goal

pub bounds-table-at : goal.bounds-table-at
bounds-table-at c = omega (arith, place-within c.args.d c.args.k c.args.i c.requires.1 c.requires.2 c.requires.3)

pub overflow_mul-at : goal.overflow_mul-at
overflow_mul-at c = omega (arith, place-within c.args.d c.args.k c.args.i c.requires.1 c.requires.2 c.requires.3)

pub overflow_add-at : goal.overflow_add-at
overflow_add-at c = omega (arith, place-within c.args.d c.args.k c.args.i c.requires.1 c.requires.2 c.requires.3)

-- what is read at the place
read : (table : List ℕ) (d k i : ℕ) → table ≡ order_table → d ≤ most_dimension → k < length (orders d) → i < d → get_or table (k * most_dimension + i) 0 ≡ get_or (order_of d k) i 0 + (most_dimension - d)
read table d k i e hd hk hi = ap (λ (t : List ℕ). get_or t (k * most_dimension + i) 0) (e ∙ sym table_is) ∙ axis-at d k i hd hk hi

pub overflow_sub-result-2 : goal.overflow_sub-result-2
overflow_sub-result-2 c = omega (arith, read c.args.table.now c.args.d c.args.k c.args.i c.requires.0 c.requires.1 c.requires.2 c.requires.3)

pub returns : goal.returns
returns c = omega (arith, read c.args.table.now c.args.d c.args.k c.args.i c.requires.0 c.requires.1 c.requires.2 c.requires.3)
