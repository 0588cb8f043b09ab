-- `refine_births::visits::write` meets its contract. The loop's invariant: the rows of the first x visits are written. Assumes nothing.
use mathlib.Core.Path.{◌∙◌}
use Prim.Native.Nat.{◌+◌, ◌*◌}
use native.Mathlib.Omega.{arith}
use native.Mathlib.Nat.{add-sub_cancel_left}
use Rattle.refine_births.proofs.Visiting.{Turn, visit-turn, visit-supporting, visited-long, visited-more}
use Rattle.refine_births.proofs.visits.write.Goals as goal

pub slice_bounds-write-end : goal.slice_bounds-write-end
slice_bounds-write-end c =
    let turn : Turn c.args.size c.args.m c.args.p c.args.words.now c.args.pattern.now c.loop-x.keys c.loop-x.x = visit-turn c.args.size c.args.n c.args.m c.args.p c.args.words.now c.args.pattern.now c.args.keys.now c.loop-x.keys c.loop-x.x c.requires c.loop-x.invariant.0 c.loop-x-test.true in
    omega (arith, (turn).word)

pub slice_bounds-write-end-in-loop-x : goal.slice_bounds-write-end-in-loop-x
slice_bounds-write-end-in-loop-x c =
    let turn : Turn c.args.size c.args.m c.args.p c.args.words.now c.args.pattern.now c.loop-x.keys c.loop-x.x = visit-turn c.args.size c.args.n c.args.m c.args.p c.args.words.now c.args.pattern.now c.args.keys.now c.loop-x.keys c.loop-x.x c.requires c.loop-x.invariant.0 c.loop-x-test.true in
    omega (arith, (turn).weights)

pub slice_bounds-write-end-in-loop-x-2 : goal.slice_bounds-write-end-in-loop-x-2
slice_bounds-write-end-in-loop-x-2 c =
    let turn : Turn c.args.size c.args.m c.args.p c.args.words.now c.args.pattern.now c.loop-x.keys c.loop-x.x = visit-turn c.args.size c.args.n c.args.m c.args.p c.args.words.now c.args.pattern.now c.args.keys.now c.loop-x.keys c.loop-x.x c.requires c.loop-x.invariant.0 c.loop-x-test.true in
    omega (arith, (turn).fits)

pub write-requires : goal.write-requires
write-requires c =
    let turn : Turn c.args.size c.args.m c.args.p c.args.words.now c.args.pattern.now c.loop-x.keys c.loop-x.x = visit-turn c.args.size c.args.n c.args.m c.args.p c.args.words.now c.args.pattern.now c.args.keys.now c.loop-x.keys c.loop-x.x c.requires c.loop-x.invariant.0 c.loop-x-test.true in
    visit-supporting c.args.size c.args.n c.args.m c.args.p c.args.words.now c.args.pattern.now c.loop-x.keys c.args.keys.now c.loop-x.x c.requires (turn)

pub loop-x-preserved : goal.loop-x-preserved
loop-x-preserved c =
    let turn : Turn c.args.size c.args.m c.args.p c.args.words.now c.args.pattern.now c.loop-x.keys c.loop-x.x = visit-turn c.args.size c.args.n c.args.m c.args.p c.args.words.now c.args.pattern.now c.args.keys.now c.loop-x.keys c.loop-x.x c.requires c.loop-x.invariant.0 c.loop-x-test.true in
    let t = turn in
    let ys = c.write.new.row in
    let stride = c.args.size + c.args.size in (
      rw (add-sub_cancel_left (c.loop-x.x * stride) stride) (visited-long c.args.size c.args.n c.args.m c.args.p c.args.words.now c.args.pattern.now c.loop-x.keys c.args.keys.now c.loop-x.x c.requires t ys c.write.ensures ∙ c.loop-x.invariant.0),
      rw (add-sub_cancel_left (c.loop-x.x * stride) stride) (visited-more c.args.size c.args.n c.args.m c.args.p c.args.words.now c.args.pattern.now c.loop-x.keys c.args.keys.now c.loop-x.x c.requires t ys c.write.ensures c.loop-x.invariant.1),
    )
