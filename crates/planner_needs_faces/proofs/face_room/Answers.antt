-- `planner_needs_faces::face_room` meets its contract: without corners nothing is needed, and else the dimension is one that is taken. Assumes nothing.
use native.Mathlib.Omega.{arith}
use Rattle.needs.proofs.Laws.{some-low}
use Rattle.planner_needs_faces.proofs.Laws.{face-none, face-some}
use Rattle.planner_needs_faces.proofs.face_room.Goals as goal

pub returns-then-m-eq0 : goal.returns-then-m-eq0
returns-then-m-eq0 c = face-none _ _ _ c.corners-m.ensures c.if-m-eq0.true

pub need-requires : goal.need-requires
need-requires c = (some-low _ _ _ c.corners-m.ensures c.if-m-eq0.false, omega (arith, c.corners-m.ensures.most))

pub returns : goal.returns
returns c = face-some _ _ _ _ c.corners-m.ensures c.if-m-eq0.false c.need.ensures
