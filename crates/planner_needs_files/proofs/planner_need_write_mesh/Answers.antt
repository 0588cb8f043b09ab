-- `planner_needs_files::planner_need_write_mesh` meets its contract: the lengths are written down one by one, and the parts of the size are small. Assumes nothing.
use native.Mathlib.Omega.{arith}
use Rattle.planner_needs_files.proofs.Laws.{size_small, written-made}
use Rattle.planner_needs_files.proofs.planner_need_write_mesh.Goals as goal

pub overflow_mul-need : goal.overflow_mul-need
overflow_mul-need c =
    let s = size_small _ _ _ _ _ _ _ c.corners-m.ensures c.within-b.ensures c.within-p.ensures in
    omega (arith, s.0, s.1, s.2)

pub overflow_add-need : goal.overflow_add-need
overflow_add-need c =
    let s = size_small _ _ _ _ _ _ _ c.corners-m.ensures c.within-b.ensures c.within-p.ensures in
    omega (arith, s.0, s.1, s.2)

pub overflow_mul-need-2 : goal.overflow_mul-need-2
overflow_mul-need-2 c =
    let s = size_small _ _ _ _ _ _ _ c.corners-m.ensures c.within-b.ensures c.within-p.ensures in
    omega (arith, s.0, s.1, s.2)

pub overflow_add-need-2 : goal.overflow_add-need-2
overflow_add-need-2 c =
    let s = size_small _ _ _ _ _ _ _ c.corners-m.ensures c.within-b.ensures c.within-p.ensures in
    omega (arith, s.0, s.1, s.2)

pub overflow_mul-need-3 : goal.overflow_mul-need-3
overflow_mul-need-3 c =
    let s = size_small _ _ _ _ _ _ _ c.corners-m.ensures c.within-b.ensures c.within-p.ensures in
    omega (arith, s.0, s.1, s.2)

pub overflow_add-need-3 : goal.overflow_add-need-3
overflow_add-need-3 c =
    let s = size_small _ _ _ _ _ _ _ c.corners-m.ensures c.within-b.ensures c.within-p.ensures in
    omega (arith, s.0, s.1, s.2)

pub returns : goal.returns
returns c = written-made _ _ _ _ _ _ _ _ c.corners-m.ensures c.key_room-k.ensures c.within-b.ensures c.within-p.ensures
