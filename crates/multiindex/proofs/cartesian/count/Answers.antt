-- The power fits. Assumes nothing.
use native.Mathlib.Omega.{arith}
use Rattle.multiindex.proofs.Digits.{power-most}
use Rattle.multiindex.proofs.cartesian.count.Goals as goal

pub pow-requires : goal.pow-requires
pow-requires c = omega (arith, power-most c.args.d c.args.n c.requires.0 c.requires.1)
