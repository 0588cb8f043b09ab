-- `grid_lengths::follows` meets its contract. Assumes nothing.
use mathlib.Core.Path.{sym, ap}
use Rattle.grid_lengths.specs.Noted.{is_length}
use Rattle.grid_lengths.proofs.Notes.{follow-is}
use Rattle.grid_lengths.proofs.follows.Goals as goal

pub returns-in-Length : goal.returns-in-Length
returns-in-Length c = follow-is c.args.grid c.args.note c.args.r _ _ _ _ c.told-known.ensures c.value.ensures c.meet-now.ensures (ap is_length (sym c.in-Length.is))

pub returns-in-Clash : goal.returns-in-Clash
returns-in-Clash c = follow-is c.args.grid c.args.note c.args.r _ _ _ _ c.told-known.ensures c.value.ensures c.meet-now.ensures (ap is_length (sym c.in-Clash.is))

pub returns-in-NoEdge : goal.returns-in-NoEdge
returns-in-NoEdge c = follow-is c.args.grid c.args.note c.args.r _ _ _ _ c.told-known.ensures c.value.ensures c.meet-now.ensures (ap is_length (sym c.in-NoEdge.is))
