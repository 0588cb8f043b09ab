-- `refine_births::write_births` meets its contract. The loop's invariant: the rows of the first b births are written. Assumes nothing.
use mathlib.Core.Path.{◌≡◌, refl, ◌∙◌}
use Prim.Native.Nat.{◌*◌}
use lib.ListN.{get_or}
use native.Mathlib.Nat.{add-sub_cancel_left}
use Rattle.refine_births.proofs.Bear.{Turn, bear-turn, borne-vertices-long, borne-weights-long, borne-more, borne-done}
use Rattle.refine_births.proofs.write_births.Goals as goal

pub loop-b-preserved : goal.loop-b-preserved
loop-b-preserved c =
    let turn : Turn c.args.size c.args.keys.now c.args.fresh.now c.loop-b.vertices c.loop-b.weights c.loop-b.b = bear-turn c.args.size c.args.count c.args.keys.now c.args.fresh.now c.args.vertices.now c.args.weights.now c.loop-b.vertices c.loop-b.weights c.loop-b.b c.requires c.loop-b.invariant.0 c.loop-b.invariant.1 c.loop-b-test.true in
    let t = turn in
    let e : get_or c.args.fresh.now c.loop-b.b 0 ≡ get_or c.args.fresh.now c.loop-b.b 0 = refl in
    let vs = c.birth.new.vertices in
    let ws = c.birth.new.weights in
    let z = c.args.size in
    let q = c.birth.ensures in (
      rw (add-sub_cancel_left (c.loop-b.b * z) z) (borne-vertices-long z c.args.n c.args.count c.args.keys.now c.args.fresh.now c.loop-b.vertices c.loop-b.weights c.loop-b.b (get_or c.args.fresh.now c.loop-b.b 0) t e vs ws q ∙ c.loop-b.invariant.0),
      rw (add-sub_cancel_left (c.loop-b.b * z) z) (borne-weights-long z c.args.n c.args.count c.args.keys.now c.args.fresh.now c.loop-b.vertices c.loop-b.weights c.loop-b.b (get_or c.args.fresh.now c.loop-b.b 0) t e vs ws q ∙ c.loop-b.invariant.1),
      rw (add-sub_cancel_left (c.loop-b.b * z) z) (λ bs u. borne-more z c.args.n c.args.count c.args.keys.now c.args.fresh.now c.loop-b.vertices c.loop-b.weights c.loop-b.b (get_or c.args.fresh.now c.loop-b.b 0) t e vs ws q bs u c.loop-b-test.true (c.loop-b.invariant.2 bs u)),
    )

pub returns : goal.returns
returns c = λ bs s. borne-done c.args.size c.args.n c.args.count c.args.keys.now c.args.fresh.now c.loop-b.vertices c.loop-b.weights c.loop-b.b bs s (c.loop-b.invariant.0 ∙ c.requires.vertices_long) (c.loop-b.invariant.1 ∙ c.requires.weights_long) c.loop-b-test.false (c.loop-b.invariant.2 bs s)
