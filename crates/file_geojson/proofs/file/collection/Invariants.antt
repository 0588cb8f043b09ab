-- `file_geojson::file::collection` meets its contract. The invariant: the features from 1 on below x are written, each with its comma. Assumes nothing.
use Rattle.file_geojson.proofs.Listing.{Listing}
use Rattle.file_geojson.proofs.file.collection.Given as goal

abbrev pub invariant-loop-x : goal.invariant-loop-x
invariant-loop-x l = Listing l.grid l.low l.high l.x l.initial.at l.initial.to l.at l.to
