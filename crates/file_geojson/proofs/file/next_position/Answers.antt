-- `file_geojson::file::next_position` meets its contract. Assumes nothing.
use Rattle.file_writing.proofs.Laws.{wrote-more}
use Rattle.file_geojson.proofs.file.next_position.Goals as goal

pub returns : goal.returns
returns c = wrote-more c.byte-place.ensures c.position.ensures
