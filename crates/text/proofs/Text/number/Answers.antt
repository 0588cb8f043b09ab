-- `text::Text::number` meets its contract. Assumes nothing.
use Rattle.text.proofs.Adding.{adds_same}
use Rattle.text.proofs.Text.number.Goals as goal

pub digits-requires : goal.digits-requires
digits-requires c = (c.requires, c.top.ensures.bound)

pub returns : goal.returns
returns c = adds_same c.top.ensures.begins c.digits.ensures
