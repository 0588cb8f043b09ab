-- `complex_boundary::face_rows` meets its contract: the numbers are computed (proofs/Room). Assumes nothing.
use native.Mathlib.Omega.{arith}
use Rattle.complex_boundary.proofs.Room.{rows_at, rows-most}
use Rattle.complex_boundary.proofs.face_rows.Goals as goal

pub overflow_cast-result : goal.overflow_cast-result
overflow_cast-result c = omega (arith, rows_at c.args.d c.requires, (rows-most c.args.d c.requires).1)

pub returns : goal.returns
returns c = rows_at c.args.d c.requires
