-- `file_geojson::number::mesh_number` meets its contract: the place of the cell in its row, turned as proofs/Places has it. Assumes nothing.
use Rattle.file_geojson.proofs.Numbers.{columns-below, cell_below, told-on, told-third, told-second, told-first, place-some}
use Rattle.quotient.specs.declared.Axis.{Axis}
use Prim.Native.Nat.{◌*◌}
use mathlib.Core.Path.{ap}
use native.Mathlib.Omega.{arith}
use native.Mathlib.Nat.{mod-le}
use Rattle.file_geojson.proofs.number.mesh_number.Goals as goal

pub overflow_cast-row : goal.overflow_cast-row
overflow_cast-row c = let f = columns-below c.args.grid c.requires.0 c.requires.1 c.axis-axis.result.count (ap (λ (a : Axis). a.count) c.axis-axis.ensures) in omega (arith, f.1)

pub overflow_mul-row : goal.overflow_mul-row
overflow_mul-row c = let f = columns-below c.args.grid c.requires.0 c.requires.1 c.axis-axis.result.count (ap (λ (a : Axis). a.count) c.axis-axis.ensures) in omega (arith, f.1)

pub nonzero_rem-i : goal.nonzero_rem-i
nonzero_rem-i c = let f = columns-below c.args.grid c.requires.0 c.requires.1 c.axis-axis.result.count (ap (λ (a : Axis). a.count) c.axis-axis.ensures) in omega (arith, f.0)

pub overflow_add-i : goal.overflow_add-i
overflow_add-i c = omega (arith, mod-le c.args.x (2 * c.axis-axis.result.count), cell_below c.args.grid c.requires.0 c.args.x c.requires.2)

pub overflow_add-result : goal.overflow_add-result
overflow_add-result c = omega (arith, cell_below c.args.grid c.requires.0 c.args.x c.requires.2)

pub returns-then-i-row : goal.returns-then-i-row
returns-then-i-row c = told-on c.args.grid c.requires.0 c.requires.1 c.args.x c.requires.2 c.axis-axis.result.count (ap (λ (a : Axis). a.count) c.axis-axis.ensures) c.if-i-row.true

pub overflow_add-i-2 : goal.overflow_add-i-2
overflow_add-i-2 c = omega (arith, mod-le c.args.x (2 * c.axis-axis.result.count), cell_below c.args.grid c.requires.0 c.args.x c.requires.2)

pub overflow_add-result-then-i-row-2 : goal.overflow_add-result-then-i-row-2
overflow_add-result-then-i-row-2 c = omega (arith, cell_below c.args.grid c.requires.0 c.args.x c.requires.2)

pub returns-then-i-row-2 : goal.returns-then-i-row-2
returns-then-i-row-2 c = told-third c.args.grid c.requires.0 c.requires.1 c.args.x c.requires.2 c.axis-axis.result.count (ap (λ (a : Axis). a.count) c.axis-axis.ensures) c.if-i-row-2.true

pub overflow_add-i-3 : goal.overflow_add-i-3
overflow_add-i-3 c = omega (arith, mod-le c.args.x (2 * c.axis-axis.result.count), cell_below c.args.grid c.requires.0 c.args.x c.requires.2)

pub overflow_sub-result : goal.overflow_sub-result
overflow_sub-result c = mod-le c.args.x (2 * c.axis-axis.result.count)

pub returns-then-i-row-3 : goal.returns-then-i-row-3
returns-then-i-row-3 c = told-second c.args.grid c.requires.0 c.requires.1 c.args.x c.requires.2 c.axis-axis.result.count (ap (λ (a : Axis). a.count) c.axis-axis.ensures) c.if-i-row-3.true

pub overflow_sub-result-2 : goal.overflow_sub-result-2
overflow_sub-result-2 c = place-some c.args.grid c.requires.0 c.requires.1 c.args.x c.requires.2 c.axis-axis.result.count (ap (λ (a : Axis). a.count) c.axis-axis.ensures) c.if-i-row.false

pub returns : goal.returns
returns c = told-first c.args.grid c.requires.0 c.requires.1 c.args.x c.requires.2 c.axis-axis.result.count (ap (λ (a : Axis). a.count) c.axis-axis.ensures) c.if-i-row.false c.if-i-row-2.false c.if-i-row-3.false
