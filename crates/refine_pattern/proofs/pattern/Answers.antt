-- `pattern` meets its contract: both ways promise it. Assumes nothing.
use Rattle.refine_pattern.proofs.pattern.Goals as goal

pub tabled-requires : goal.tabled-requires
tabled-requires c = (c.has.ensures.yes c.if-has.true, c.requires)
