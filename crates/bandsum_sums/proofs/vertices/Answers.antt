-- `bandsum_sums::vertices` meets its contract. Assumes nothing.
use mathlib.Core.Path.{ap, ◌∙◌}
use Rattle.bandsum_sums.proofs.Ends.{taken-counted}
use Rattle.refusal.specs.Told.{count_of}
use Rattle.bandsum_sums.proofs.vertices.Goals as goal

pub returns : goal.returns
returns c = c.number.ensures ∙ ap count_of c.nvertices.ensures ∙ taken-counted c.args.grid c.requires
