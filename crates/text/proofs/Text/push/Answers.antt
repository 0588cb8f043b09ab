-- `text::Text::push` meets its contract: the byte stands inside the array, which has 128. Assumes nothing.
use native.Mathlib.Omega.{arith}
use Rattle.text.proofs.Adding.{room_in, adds-push}
use Rattle.text.proofs.Text.push.Goals as goal

pub returns : goal.returns
returns c = adds-push _ _ (omega (arith, c.requires, room_in c.args.self c.well_formed.0.1.1.0.1.0.1))
