-- `file_geojson::is_crowded` meets its contract: to an empty word list `cell_words` says 7 or 12. Assumes nothing.
use Rattle.file_geojson.proofs.Ends.{asked}
use mathlib.Core.Path.{sym}
use Rattle.file_geojson.proofs.is_crowded.Goals as goal

pub returns : goal.returns
returns c = asked _ c.args.grid _ _ _ _ _ _ _ _ _ _ _ _ (sym c.eq.ensures) c.requires.0 c.requires.1 c.cell_words-said.ensures
