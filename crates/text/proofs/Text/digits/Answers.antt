-- `text::Text::digits` meets its contract. The invariant: the digits from 10 to the power k down to 10 to the power j are added. Assumes nothing.
use native.Mathlib.Omega.{arith}
use native.Mathlib.Nat.{add-sub_cancel}
use Rattle.text.proofs.Adding.{room_in}
use Rattle.text.proofs.Decimals.{power_pos, down-none, down-len, down-more, down-last}
use Rattle.text.proofs.Text.digits.Goals as goal

pub loop-j-init : goal.loop-j-init
loop-j-init c = rw (add-sub_cancel c.args.k 1) (down-none _ _ _)

pub nonzero_div-n : goal.nonzero_div-n
nonzero_div-n c = power_pos _ _ c.power.ensures

pub push-t-requires : goal.push-t-requires
push-t-requires c = omega (arith, down-len c.loop-j.invariant)

pub push-requires : goal.push-requires
push-requires c = omega (arith, down-len c.loop-j.invariant)

pub loop-j-preserved : goal.loop-j-preserved
loop-j-preserved c = down-more _ _ _ _ (omega (arith, c.requires.0, room_in c.args.self c.well_formed.0.1.1.0.1.0.1)) (omega arith) c.power.ensures c.loop-j.invariant c.push-t.ensures

pub returns : goal.returns
returns c = down-last _ _ _ (omega (arith, c.requires.0, room_in c.args.self c.well_formed.0.1.1.0.1.0.1)) (omega arith) c.loop-j.invariant c.push.ensures
