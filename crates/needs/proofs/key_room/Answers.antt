-- `needs::key_room` meets its contract. Assumes nothing.
use native.Mathlib.Omega.{arith}
use Rattle.needs.proofs.Laws.{some-room}
use Rattle.needs.proofs.key_room.Goals as goal

pub overflow_mul-result : goal.overflow_mul-result
overflow_mul-result c = omega (arith, c.requires)

pub returns : goal.returns
returns c = some-room _ _ c.if-d-eq0.false
