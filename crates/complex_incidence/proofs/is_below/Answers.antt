-- `complex_incidence::is_below` meets its contract: the corner's vertex is read where there is a corner. Assumes nothing.
use mathlib.Core.Path.{◌≡◌}
use Prim.Native.Nat.{ℕ}
use native.Mathlib.Omega.{arith}
use borrow.Author.Tests.{ltb-true, ltb-false}
use lib.ListN.{get_or}
use Rattle.complex_incidence.proofs.is_below.Goals as goal

pub returns-then-long-i : goal.returns-then-long-i
returns-then-long-i c = record { yes = λ e. let z : ◌≡◌ {A = ℕ} 0 1 = cc in absurd (omega arith); no = λ e h. absurd (omega (arith, c.if-long-i.true)) }

pub returns : goal.returns
returns c =
    let vertex = get_or c.args.corners.now (get_or c.args.order.now c.args.i 0) 0 in
    record {
      yes = λ t. (omega arith, ltb-true vertex c.args.v t);
      no = λ t h. ltb-false vertex c.args.v t;
    }
