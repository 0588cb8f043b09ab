-- `text::power` meets its contract: the power fits. Assumes nothing.
use native.Mathlib.Omega.{arith}
use Rattle.text.proofs.Decimals.{power-fits}
use Rattle.text.proofs.power.Goals as goal

pub pow-requires : goal.pow-requires
pow-requires c = omega (arith, power-fits c.args.k c.requires)
