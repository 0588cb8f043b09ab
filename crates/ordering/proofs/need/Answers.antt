-- `ordering::need` meets its contract. Assumes nothing.
use mathlib.Core.Path.{ap}
use native.Mathlib.Omega.{arith}
use Rattle.refusal.specs.declared.Room.{Room}
use Rattle.ordering.proofs.need.Goals as goal

pub overflow_add-result : goal.overflow_add-result
overflow_add-result c = omega (arith, c.requires, ap (λ (r : Room). r.keys) c.need-base.ensures)

pub overflow_add-result-2 : goal.overflow_add-result-2
overflow_add-result-2 c = omega (arith, c.requires, ap (λ (r : Room). r.keys) c.need-base.ensures)

pub returns : goal.returns
returns c = let e = ap (λ (r : Room). r.keys) c.need-base.ensures in cc
