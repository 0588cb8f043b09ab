-- `complex_boundary::face_keys` meets its contract: the numbers are computed (proofs/Room). Assumes nothing.
use native.Mathlib.Omega.{arith}
use Rattle.complex_boundary.proofs.Room.{keys-at, keys-most}
use Rattle.complex_boundary.proofs.face_keys.Goals as goal

pub overflow_cast-result : goal.overflow_cast-result
overflow_cast-result c = omega (arith, keys-at c.args.d c.requires, (keys-most c.args.d c.requires).1)

pub returns : goal.returns
returns c = keys-at c.args.d c.requires
