-- `text::Text::empty` meets its contract. Assumes nothing.
use mathlib.Core.Path.{refl}
use Rattle.text.specs.Adds.{holding}
use Rattle.text.proofs.Text.empty.Goals as goal

pub returns : goal.returns
unfolding holding
returns c = refl
