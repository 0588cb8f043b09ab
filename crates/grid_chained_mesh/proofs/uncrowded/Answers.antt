-- `grid_chained_mesh::uncrowded` meets its contract: each call asks what the calls before it gave (proofs/Steps). Assumes nothing.
use Rattle.grid_chained_mesh.proofs.Steps.{sorting, meeting, no-crowd, crowd}
use Rattle.grid_chained_mesh.proofs.uncrowded.Goals as goal

pub cells_in_place-m-requires : goal.cells_in_place-m-requires
cells_in_place-m-requires c = sorting c.args.grid _ _ _ _ c.requires.room _ c.need-len.ensures c.requires.apart

pub mates-requires : goal.mates-requires
mates-requires c = meeting c.args.grid _ _ _ _ c.requires.room _ c.need-len.ensures c.cells_in_place-m.result c.cells_in_place-m.new.keys c.cells_in_place-m.new.rows c.cells_in_place-m.new.spare c.cells_in_place-m.new.counts c.cells_in_place-m.auto.keys c.cells_in_place-m.auto.rows c.cells_in_place-m.auto.spare c.cells_in_place-m.auto.counts c.cells_in_place-m.ensures

pub returns : goal.returns
returns c = record { yes = λ t. no-crowd c.args.grid _ _ _ _ c.requires.room _ c.need-len.ensures c.cells_in_place-m.result c.cells_in_place-m.new.keys c.cells_in_place-m.new.rows c.cells_in_place-m.new.spare c.cells_in_place-m.new.counts c.cells_in_place-m.auto.keys c.cells_in_place-m.auto.rows c.cells_in_place-m.auto.spare c.cells_in_place-m.auto.counts c.cells_in_place-m.ensures _ (c.mates.ensures.all t); no = λ f. crowd c.args.grid _ _ _ _ c.requires.room _ c.need-len.ensures c.cells_in_place-m.result c.cells_in_place-m.new.keys c.cells_in_place-m.new.rows c.cells_in_place-m.new.spare c.cells_in_place-m.new.counts c.cells_in_place-m.auto.keys c.cells_in_place-m.auto.rows c.cells_in_place-m.auto.spare c.cells_in_place-m.auto.counts c.cells_in_place-m.ensures (c.mates.ensures.crowd f) }
