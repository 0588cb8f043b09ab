-- The search through the marks below top. Assumes nothing.
use mathlib.Core.Path.{◌≡◌}
use Prim.Native.Nat.{◌≤◌}
use native.Mathlib.Omega.{arith}
use borrow.Author.Rules.{rules}
use lib.Dec.{eqb}
use lib.ListN.{length, take}
use Rattle.std.specs.List.{position}
use borrow.Author.Tests.{tests}
use Rattle.std.proofs.lemmas.Iterator.Search.{position_from_yields_List}
use Rattle.std.proofs.lemmas.Iterator.{YieldsList-from_slice}
use Rattle.lists.proofs.Words.{first_position}
use Rattle.complex.proofs.least_unmarked.Goals as goal

pub returns : goal.returns
returns c =
    let h : c.args.top ≤ length c.args.seen.now = omega arith in
    let e : c.position.result ≡ position (λ m. eqb m 0) (take c.args.top c.args.seen.now) = position_from_yields_List (λ m. eqb m 0) _ _ c.position.result c.position.ensures.ran (YieldsList-from_slice (take c.args.top c.args.seen.now) cc) (λ x b q k. search (rules, tests)) in
    rw (first_position (λ m. eqb m 0) c.args.seen.now c.args.top h, ← e) c.unwrap_or.ensures
