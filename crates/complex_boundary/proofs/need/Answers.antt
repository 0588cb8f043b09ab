-- `complex_boundary::need` meets its contract (proofs/Room). Assumes nothing.
use native.Mathlib.Nat.{le_of_eq}
use native.Mathlib.Omega.{arith}
use Rattle.complex_boundary.proofs.Room.{rows-most, keys-most, need-is, product-most}
use Rattle.complex_boundary.proofs.need.Goals as goal

pub overflow_mul-wide : goal.overflow_mul-wide
overflow_mul-wide c = record { fits = omega (arith, product-most c.face_rows.result _ c.args.len c.args.d (le_of_eq c.face_rows.ensures) (omega (arith, (rows-most c.args.d c.requires.0).1)) c.requires.1) }

pub overflow_mul-keys : goal.overflow_mul-keys
overflow_mul-keys c = record { fits = omega (arith, product-most c.face_keys.result _ c.args.len c.args.d (le_of_eq c.face_keys.ensures) (keys-most c.args.d c.requires.0).1 c.requires.1) }

pub returns : goal.returns
returns c = need-is c.args.d c.args.len c.face_keys.result c.face_rows.result c.face_keys.ensures c.face_rows.ensures
