-- `has_birth` meets its contract: the three tests, one after the other. Assumes nothing.
use Prim.Native.Nat.{◌+◌, ◌*◌}
use native.Mathlib.Omega.{arith}
use borrow.Author.Tests.{le-leb, lt-leb}
use lib.Dec.{leb}
use Rattle.refine_values.proofs.Laws.{first-no, second-no, third, row-end}
use Rattle.refine_values.proofs.has_birth.Goals as goal

pub overflow_mul-end : goal.overflow_mul-end
overflow_mul-end c = record { fits = omega (arith, row-end c.args.n c.args.k c.requires.0 c.requires.1) }

pub overflow_add-end : goal.overflow_add-end
overflow_add-end c = record { fits = omega (arith, row-end c.args.n c.args.k c.requires.0 c.requires.1) }

pub returns-then-vertices-end : goal.returns-then-vertices-end
returns-then-vertices-end c = first-no (leb (c.args.k * c.args.n + c.args.n) c.args.vertices) (leb (c.args.k * c.args.n + c.args.n) c.args.weights) (leb (c.args.k * c.args.n + c.args.n) c.args.shares) (lt-leb (c.args.k * c.args.n + c.args.n) c.args.vertices c.if-vertices-end.true)

pub returns-then-weights-end : goal.returns-then-weights-end
returns-then-weights-end c = second-no (leb (c.args.k * c.args.n + c.args.n) c.args.vertices) (leb (c.args.k * c.args.n + c.args.n) c.args.weights) (leb (c.args.k * c.args.n + c.args.n) c.args.shares) (le-leb (c.args.k * c.args.n + c.args.n) c.args.vertices c.if-vertices-end.false) (lt-leb (c.args.k * c.args.n + c.args.n) c.args.weights c.if-weights-end.true)

pub returns : goal.returns
returns c = third (leb (c.args.k * c.args.n + c.args.n) c.args.vertices) (leb (c.args.k * c.args.n + c.args.n) c.args.weights) (leb (c.args.k * c.args.n + c.args.n) c.args.shares) (le-leb (c.args.k * c.args.n + c.args.n) c.args.vertices c.if-vertices-end.false) (le-leb (c.args.k * c.args.n + c.args.n) c.args.weights c.if-weights-end.false)
