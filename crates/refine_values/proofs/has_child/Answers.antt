-- `has_child` meets its contract: the three tests, one after the other. Assumes nothing.
use Prim.Native.Nat.{◌+◌, ◌*◌}
use borrow.Author.Tests.{lt-ltb, le-ltb, le-leb, lt-leb}
use lib.Dec.{ltb, leb}
use Rattle.refine_values.proofs.Laws.{first-no, second-no, third}
use Rattle.refine_values.proofs.has_child.Goals as goal

pub returns-then-parents-k : goal.returns-then-parents-k
returns-then-parents-k c = first-no (ltb c.args.k c.args.parents) (leb (c.args.k * 9 + 9) c.args.jacobians) (leb (c.args.k * 9 + 9) c.args.wholes) (le-ltb c.args.k c.args.parents c.if-parents-k.true)

pub returns-then-jacobians-end : goal.returns-then-jacobians-end
returns-then-jacobians-end c = second-no (ltb c.args.k c.args.parents) (leb (c.args.k * 9 + 9) c.args.jacobians) (leb (c.args.k * 9 + 9) c.args.wholes) (lt-ltb c.args.k c.args.parents c.if-parents-k.false) (lt-leb (c.args.k * 9 + 9) c.args.jacobians c.if-jacobians-end.true)

pub returns : goal.returns
returns c = third (ltb c.args.k c.args.parents) (leb (c.args.k * 9 + 9) c.args.jacobians) (leb (c.args.k * 9 + 9) c.args.wholes) (lt-ltb c.args.k c.args.parents c.if-parents-k.false) (le-leb (c.args.k * 9 + 9) c.args.jacobians c.if-jacobians-end.false)
