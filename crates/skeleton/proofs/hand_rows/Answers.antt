-- `skeleton::hand_rows` meets its contract: the gathered rows are the front of the result list. Assumes nothing.
use native.Mathlib.Omega.{arith}
use Rattle.skeleton.proofs.Steps.{handed-less, handed-rows}
use Rattle.skeleton.proofs.hand_rows.Goals as goal

pub overflow_mul-m : goal.overflow_mul-m
overflow_mul-m c =
    record { fits = omega (arith, c.requires.fits) }

pub returns-then-out-m : goal.returns-then-out-m
returns-then-out-m c =
    λ ws f e. handed-less c.args.stride c.args.m c.args.keys.now c.args.list.now c.requires ws f c.args.out.now c.if-out-m.true

pub gather-requires : goal.gather-requires
gather-requires c = record { by_index = c.requires.inside; m_in_bounds = (c.requires.long, omega (arith, c.if-out-m.false)) }

pub overflow_cast-result : goal.overflow_cast-result
overflow_cast-result c =
    omega (arith, c.requires.few)

pub returns : goal.returns
returns c =
    λ ws f e. handed-rows c.args.stride c.args.m c.args.keys.now c.args.list.now c.requires ws f c.args.out.now _ e (omega (arith, c.if-out-m.false)) c.gather.ensures
