-- `replay_towers::tower::second` meets its contract: the words have as many corners as the single refinement. Assumes nothing.
use mathlib.Core.Path.{sym, subst, ◌∙◌}
use Prim.Native.Nat.{ℕ, ◌+◌, ◌*◌, ◌≤◌}
use native.Mathlib.Omega.{arith}
use lib.ListN.{length}
use Rattle.replay_towers.proofs.Naming.{part-long}
use Rattle.replay_towers.proofs.tower.second.Goals as goal

pub slice_bounds-carried-end : goal.slice_bounds-carried-end
slice_bounds-carried-end c = sym (part-long c.corners-len.result 16384 c.stage-made.new.words c.stage-made.auto.words c.corners-len.ensures.1)

pub carried-requires : goal.carried-requires
carried-requires c = (omega arith, c.stage-made.ensures.0, c.stage-made.ensures.1, part-long c.corners-len.result 16384 c.stage-made.new.words c.stage-made.auto.words c.corners-len.ensures.1 ∙ c.corners-len.ensures.0, subst (λ (k : ℕ). k * (c.args.d + 1) ≤ length c.args.fine_words.now) (sym c.if-made-single.false) c.requires.2)
