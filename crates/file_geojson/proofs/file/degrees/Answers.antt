-- `file_geojson::file::degrees` meets its contract: a minus sign where a is below b. Assumes nothing.
use Rattle.file_geojson.proofs.Angles.{degrees-below, degrees-above}
use Rattle.file_writing.proofs.Laws.{wrote-more, wrote-same}
use Rattle.file_geojson.proofs.file.degrees.Goals as goal

pub returns-then-a-b : goal.returns-then-a-b
returns-then-a-b c = wrote-same (degrees-below _ _ _ c.if-a-b.true) (wrote-more c.byte-whole.ensures c.fraction.ensures)

pub returns : goal.returns
returns c = wrote-same (degrees-above _ _ _ c.if-a-b.false) c.fraction-2.ensures
