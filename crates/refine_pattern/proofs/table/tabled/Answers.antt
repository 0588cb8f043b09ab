-- After i turns the first i corners are written. Assumes nothing.
use mathlib.Core.Path.{◌≡◌, ap, ◌∙◌}
use mathlib.Core.List.{List}
use Prim.Native.Nat.{ℕ, suc, ◌+◌, ◌*◌, ◌-◌, ◌≤◌, ◌<◌}
use native.Mathlib.Omega.{arith}
use lib.ListN.{length, get_or, drop, length-drop}
use lib.Seq.{length-take-le}
use native.Mathlib.Numerals.{add-one}
use native.Mathlib.Nat.{add-sub_cancel_left}
use Rattle.refine_lattice.specs.Pattern.{pattern_of}
use Rattle.refine_pattern.specs.Table.{unpacked}
use Rattle.refine_pattern.proofs.Entries.{table-length, entry}
use Rattle.refine_pattern.proofs.Rows.{rowed-room, rowed-next, rowed-end}
use Rattle.refine_pattern.proofs.Checks.{corners-count}
use Rattle.refine_pattern.proofs.table.tabled.Goals as goal

pub bounds-table-first : goal.bounds-table-first
bounds-table-first c =
    let total : c.count.result * (c.args.d + 1)
    ≡ length (pattern_of c.args.d c.args.r) = corners-count c.args.d c.args.r c.count.result c.count.ensures in
    let inside : c.loop-i.i < length (pattern_of c.args.d c.args.r) = omega (arith, c.loop-i-test.true, total) in
    let there : c.start-first.result + c.loop-i.i < 483 = omega (arith, inside, c.start-first.ensures.within, table-length) in
    omega (arith, there)

pub slice_bounds-unpack-end : goal.slice_bounds-unpack-end
slice_bounds-unpack-end c =
    let total : c.count.result * (c.args.d + 1)
    ≡ length (pattern_of c.args.d c.args.r) = corners-count c.args.d c.args.r c.count.result c.count.ensures in
    let inside : c.loop-i.i < length (pattern_of c.args.d c.args.r) = omega (arith, c.loop-i-test.true, total) in
    let space : c.loop-i.at + (c.args.d + 1) ≤ length c.loop-i.to = rowed-room _ _ _ c.requires.1 _ _ _ c.loop-i.invariant inside in
    omega (arith, space)

pub loop-i-preserved : goal.loop-i-preserved
loop-i-preserved c =
    let total : c.count.result * (c.args.d + 1)
    ≡ length (pattern_of c.args.d c.args.r) = corners-count c.args.d c.args.r c.count.result c.count.ensures in
    let inside : c.loop-i.i < length (pattern_of c.args.d c.args.r) = omega (arith, c.loop-i-test.true, total) in
    let space : c.loop-i.at + (c.args.d + 1) ≤ length c.loop-i.to = rowed-room _ _ _ c.requires.1 _ _ _ c.loop-i.invariant inside in
    let f = c.unpack in
    let b = c.start-first in
    let table : List ℕ = c.corners-table.result in
    let n : ℕ = c.loop-i.at + (c.args.d + 1) - c.loop-i.at in
    let m : n ≡ c.args.d + 1 = add-sub_cancel_left _ _ in
    rowed-next _ _ _ c.requires.1 _ _ _ c.loop-i.invariant (inside) n c.unpack.new.to m
    (c.unpack.ensures
    ∙ ap (λ (x : ℕ). unpacked x (get_or table (c.start-first.result + c.loop-i.i) 0))
    (length-take-le n (drop c.loop-i.at c.loop-i.to) (rw length-drop (omega (arith, space, m))) ∙ m ∙ add-one c.args.d)
    ∙ ap (λ (t : List ℕ). unpacked (suc c.args.d) (get_or t (c.start-first.result + c.loop-i.i) 0)) c.corners-table.ensures
    ∙ entry c.args.d c.args.r c.start-first.result c.requires.0 c.start-first.ensures c.loop-i.i (inside))

pub returns : goal.returns
returns c =
    let total : c.count.result * (c.args.d + 1)
    ≡ length (pattern_of c.args.d c.args.r) = corners-count c.args.d c.args.r c.count.result c.count.ensures in
    rowed-end _ _ _ c.requires.1 _ _ _ c.loop-i.invariant (omega (arith, c.loop-i-test.false, total))
