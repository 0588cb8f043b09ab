-- `text::Text::line` meets its contract. Assumes nothing.
use Prim.Native.Nat.{◌≤◌}
use native.Mathlib.Omega.{arith}
use lib.ListN.{length}
use Rattle.text.proofs.Adding.{room_in, adds-line}
use Rattle.text.proofs.Decimals.{decimal-long}
use Rattle.text.proofs.Text.line.Goals as goal

pub number-b-requires : goal.number-b-requires
number-b-requires c = omega (arith, c.word-a.ensures.len)

pub push-requires : goal.push-requires
push-requires c = omega (arith, c.word-a.ensures.len, c.number-b.ensures.len, decimal-long 9 c.args.n)

pub returns : goal.returns
returns c =
    let inside : c.args.self.len ≤ length c.args.self.bytes =
    omega (arith, c.requires, room_in c.args.self c.well_formed.0.1.1.0.1.0.1) in
    adds-line inside c.word-a.ensures c.number-b.ensures c.push.ensures
