-- `file_mesh_write::births_fit` meets its contract. The invariant: the test of all births is the test of those from b on, whose pairs begin at `at`, after the run. Assumes nothing.
use Rattle.file_mesh_write.proofs.Fit.{upto, births-ragged, births-left, births-end, births-lack, births-bad, births-more}
use Rattle.file_mesh.specs.Rules.{no_birth, more, birth_fits, births_fit}
use Rattle.file_mesh.specs.declared.Run.{Run}
use lib.Seq.{length-take-le}
use lib.ListN.{length, take, drop, get_or, length-drop}
use mathlib.Core.Bool.{Bool, true, false}
use mathlib.Core.List.{List}
use Prim.Native.Nat.{ℕ, ◌+◌, ◌*◌, ◌-◌, ◌/◌, ◌≤◌, ◌<◌}
use native.Mathlib.Omega.{arith}
use native.Mathlib.Nat.{div-add-mod'}
use mathlib.Core.Path.{◌≡◌, refl, sym, ap, ◌∙◌}
use Rattle.file_mesh_write.proofs.births_fit.Goals as goal

three-in : (l : List ℕ) (k : ℕ) → k < length l / 3 → k * 3 + 3 ≤ length l
three-in l k h = omega (arith, div-add-mod' (length l) 3)

pub loop-k-init : goal.loop-k-init
loop-k-init c = (omega arith, refl)

pub overflow_add-r : goal.overflow_add-r
overflow_add-r c = omega (arith, three-in c.args.births.now c.loop-k.k c.loop-k-test.true)

pub overflow_add-count : goal.overflow_add-count
overflow_add-count c = omega (arith, three-in c.args.births.now c.loop-k.k c.loop-k-test.true)

pub overflow_add-end : goal.overflow_add-end
overflow_add-end c = omega (arith, c.shared_slice_known-in-loop-k-3-1.given ((c.loop-k.k * 3) + 2), c.well_formed.1.1.0.1)

pub overflow_add-end-in-loop-k : goal.overflow_add-end-in-loop-k
overflow_add-end-in-loop-k c = omega (arith, c.shared_slice_known-in-loop-k-3-1.given ((c.loop-k.k * 3) + 2), c.well_formed.1.1.0.1)

pub returns-then-pairs-end : goal.returns-then-pairs-end
returns-then-pairs-end c =
    sym (c.loop-k.invariant.1 ∙ births-lack c.args.vertices c.loop-k.run c.args.births.now c.args.pairs.now (c.loop-k.k * 3) c.loop-k.at (three-in c.args.births.now c.loop-k.k c.loop-k-test.true) c.if-pairs-end.true c.loop-k.invariant.0)

pub offset_bounds-pairs-at : goal.offset_bounds-pairs-at
offset_bounds-pairs-at c = omega (arith, c.well_formed.1.1.0.1)

pub slice_bounds-birth_fits-end : goal.slice_bounds-birth_fits-end
slice_bounds-birth_fits-end c = omega (arith, c.if-pairs-end.false)

pub birth_fits-requires : goal.birth_fits-requires
birth_fits-requires c =
    let own : List ℕ = take (c.loop-k.at + get_or c.args.births.now ((c.loop-k.k * 3) + 2) 0 + get_or c.args.births.now ((c.loop-k.k * 3) + 2) 0 - c.loop-k.at) (drop c.loop-k.at c.args.pairs.now) in
    let own_is : own ≡ take (get_or c.args.births.now ((c.loop-k.k * 3) + 2) 0 + get_or c.args.births.now ((c.loop-k.k * 3) + 2) 0) (drop c.loop-k.at c.args.pairs.now) = upto c.args.pairs.now c.loop-k.at (c.loop-k.at + get_or c.args.births.now ((c.loop-k.k * 3) + 2) 0 + get_or c.args.births.now ((c.loop-k.k * 3) + 2) 0) (get_or c.args.births.now ((c.loop-k.k * 3) + 2) 0 + get_or c.args.births.now ((c.loop-k.k * 3) + 2) 0) (omega arith) in
    let h : (c.loop-k.k * 3) + 3 ≤ length c.args.births.now = (three-in c.args.births.now c.loop-k.k c.loop-k-test.true) in
    let k : c.loop-k.at + get_or c.args.births.now ((c.loop-k.k * 3) + 2) 0 + get_or c.args.births.now ((c.loop-k.k * 3) + 2) 0 ≤ length c.args.pairs.now = c.if-pairs-end.false in
    let own-long : length own ≡ get_or c.args.births.now ((c.loop-k.k * 3) + 2) 0 + get_or c.args.births.now ((c.loop-k.k * 3) + 2) 0 = ap length own_is ∙ length-take-le (get_or c.args.births.now ((c.loop-k.k * 3) + 2) 0 + get_or c.args.births.now ((c.loop-k.k * 3) + 2) 0) (drop c.loop-k.at c.args.pairs.now) (omega (arith, length-drop c.loop-k.at c.args.pairs.now)) in
    own-long

pub returns-then-not-birth_fits : goal.returns-then-not-birth_fits
returns-then-not-birth_fits c =
    let own : List ℕ = take (c.loop-k.at + get_or c.args.births.now ((c.loop-k.k * 3) + 2) 0 + get_or c.args.births.now ((c.loop-k.k * 3) + 2) 0 - c.loop-k.at) (drop c.loop-k.at c.args.pairs.now) in
    let own_is : own ≡ take (get_or c.args.births.now ((c.loop-k.k * 3) + 2) 0 + get_or c.args.births.now ((c.loop-k.k * 3) + 2) 0) (drop c.loop-k.at c.args.pairs.now) = upto c.args.pairs.now c.loop-k.at (c.loop-k.at + get_or c.args.births.now ((c.loop-k.k * 3) + 2) 0 + get_or c.args.births.now ((c.loop-k.k * 3) + 2) 0) (get_or c.args.births.now ((c.loop-k.k * 3) + 2) 0 + get_or c.args.births.now ((c.loop-k.k * 3) + 2) 0) (omega arith) in
    let h : (c.loop-k.k * 3) + 3 ≤ length c.args.births.now = (three-in c.args.births.now c.loop-k.k c.loop-k-test.true) in
    let k : c.loop-k.at + get_or c.args.births.now ((c.loop-k.k * 3) + 2) 0 + get_or c.args.births.now ((c.loop-k.k * 3) + 2) 0 ≤ length c.args.pairs.now = c.if-pairs-end.false in
    let ok : Bool = c.birth_fits.result in
    let e : ok ≡ birth_fits c.args.vertices c.loop-k.run (get_or c.args.births.now (c.loop-k.k * 3) 0) (get_or c.args.births.now ((c.loop-k.k * 3) + 1) 0) (get_or c.args.births.now ((c.loop-k.k * 3) + 2) 0) own = c.birth_fits.ensures in
    let tested : birth_fits c.args.vertices c.loop-k.run (get_or c.args.births.now (c.loop-k.k * 3) 0) (get_or c.args.births.now ((c.loop-k.k * 3) + 1) 0) (get_or c.args.births.now ((c.loop-k.k * 3) + 2) 0) (take (get_or c.args.births.now ((c.loop-k.k * 3) + 2) 0 + get_or c.args.births.now ((c.loop-k.k * 3) + 2) 0) (drop c.loop-k.at c.args.pairs.now)) ≡ ok = sym (e ∙ ap (birth_fits c.args.vertices c.loop-k.run (get_or c.args.births.now (c.loop-k.k * 3) 0) (get_or c.args.births.now ((c.loop-k.k * 3) + 1) 0) (get_or c.args.births.now ((c.loop-k.k * 3) + 2) 0)) own_is) in
    let bad : ok ≡ false → births_fit c.args.vertices no_birth c.args.births.now c.args.pairs.now ≡ false = λ f. c.loop-k.invariant.1 ∙ births-bad c.args.vertices c.loop-k.run c.args.births.now c.args.pairs.now (c.loop-k.k * 3) c.loop-k.at h k (tested ∙ f) in
    sym (bad (c.if-not-birth_fits.true))

pub run_on-run-requires : goal.run_on-run-requires
run_on-run-requires c = tt

pub loop-k-preserved : goal.loop-k-preserved
loop-k-preserved c =
    let own : List ℕ = take (c.loop-k.at + get_or c.args.births.now ((c.loop-k.k * 3) + 2) 0 + get_or c.args.births.now ((c.loop-k.k * 3) + 2) 0 - c.loop-k.at) (drop c.loop-k.at c.args.pairs.now) in
    let own_is : own ≡ take (get_or c.args.births.now ((c.loop-k.k * 3) + 2) 0 + get_or c.args.births.now ((c.loop-k.k * 3) + 2) 0) (drop c.loop-k.at c.args.pairs.now) = upto c.args.pairs.now c.loop-k.at (c.loop-k.at + get_or c.args.births.now ((c.loop-k.k * 3) + 2) 0 + get_or c.args.births.now ((c.loop-k.k * 3) + 2) 0) (get_or c.args.births.now ((c.loop-k.k * 3) + 2) 0 + get_or c.args.births.now ((c.loop-k.k * 3) + 2) 0) (omega arith) in
    let h : (c.loop-k.k * 3) + 3 ≤ length c.args.births.now = (three-in c.args.births.now c.loop-k.k c.loop-k-test.true) in
    let k : c.loop-k.at + get_or c.args.births.now ((c.loop-k.k * 3) + 2) 0 + get_or c.args.births.now ((c.loop-k.k * 3) + 2) 0 ≤ length c.args.pairs.now = c.if-pairs-end.false in
    let ok : Bool = c.birth_fits.result in
    let e : ok ≡ birth_fits c.args.vertices c.loop-k.run (get_or c.args.births.now (c.loop-k.k * 3) 0) (get_or c.args.births.now ((c.loop-k.k * 3) + 1) 0) (get_or c.args.births.now ((c.loop-k.k * 3) + 2) 0) own = c.birth_fits.ensures in
    let tested : birth_fits c.args.vertices c.loop-k.run (get_or c.args.births.now (c.loop-k.k * 3) 0) (get_or c.args.births.now ((c.loop-k.k * 3) + 1) 0) (get_or c.args.births.now ((c.loop-k.k * 3) + 2) 0) (take (get_or c.args.births.now ((c.loop-k.k * 3) + 2) 0 + get_or c.args.births.now ((c.loop-k.k * 3) + 2) 0) (drop c.loop-k.at c.args.pairs.now)) ≡ ok = sym (e ∙ ap (birth_fits c.args.vertices c.loop-k.run (get_or c.args.births.now (c.loop-k.k * 3) 0) (get_or c.args.births.now ((c.loop-k.k * 3) + 1) 0) (get_or c.args.births.now ((c.loop-k.k * 3) + 2) 0)) own_is) in
    let again : (next : Run) → next ≡ more c.loop-k.run (get_or c.args.births.now (c.loop-k.k * 3) 0) (get_or c.args.births.now ((c.loop-k.k * 3) + 1) 0) → ok ≡ true → births_fit c.args.vertices no_birth c.args.births.now c.args.pairs.now ≡ births_fit c.args.vertices next (drop ((c.loop-k.k * 3) + 3) c.args.births.now) (drop (c.loop-k.at + get_or c.args.births.now ((c.loop-k.k * 3) + 2) 0 + get_or c.args.births.now ((c.loop-k.k * 3) + 2) 0) c.args.pairs.now) = λ next q f. c.loop-k.invariant.1 ∙ births-more c.args.vertices c.loop-k.run c.args.births.now c.args.pairs.now (c.loop-k.k * 3) c.loop-k.at h k (tested ∙ f)
    ∙ ap (λ (x : Run). births_fit c.args.vertices x (drop ((c.loop-k.k * 3) + 3) c.args.births.now) (drop (c.loop-k.at + get_or c.args.births.now ((c.loop-k.k * 3) + 2) 0 + get_or c.args.births.now ((c.loop-k.k * 3) + 2) 0) c.args.pairs.now)) (sym q) in
    (c.if-pairs-end.false, again c.run_on-run.result c.run_on-run.ensures (c.if-not-birth_fits.false) ∙ ap (λ (x : ℕ). births_fit c.args.vertices c.run_on-run.result (drop x c.args.births.now) (drop (c.loop-k.at + get_or c.args.births.now ((c.loop-k.k * 3) + 2) 0 + get_or c.args.births.now ((c.loop-k.k * 3) + 2) 0) c.args.pairs.now)) {x = c.loop-k.k * 3 + 3} {y = (c.loop-k.k + 1) * 3} (omega arith))

pub returns-then-births-ne0 : goal.returns-then-births-ne0
returns-then-births-ne0 c =
    sym (c.loop-k.invariant.1 ∙ births-ragged c.args.vertices c.loop-k.run c.args.births.now c.args.pairs.now (c.loop-k.k * 3) c.loop-k.at (omega (arith, div-add-mod' (length c.args.births.now) 3, c.loop-k-test.false, c.if-births-ne0.true)) (omega (arith, div-add-mod' (length c.args.births.now) 3, c.loop-k-test.false, c.loop-k.auto)))

pub returns-then-at-pairs : goal.returns-then-at-pairs
returns-then-at-pairs c =
    sym (c.loop-k.invariant.1 ∙ births-left c.args.vertices c.loop-k.run c.args.births.now c.args.pairs.now (c.loop-k.k * 3) c.loop-k.at (omega (arith, div-add-mod' (length c.args.births.now) 3, c.loop-k-test.false, c.if-births-ne0.false)) c.if-at-pairs.true)

pub run_ends-requires : goal.run_ends-requires
run_ends-requires c = tt

pub returns : goal.returns
returns c =
    c.run_ends.ensures ∙ sym (c.loop-k.invariant.1 ∙ births-end c.args.vertices c.loop-k.run c.args.births.now c.args.pairs.now (c.loop-k.k * 3) c.loop-k.at (omega (arith, div-add-mod' (length c.args.births.now) 3, c.loop-k-test.false, c.if-births-ne0.false)) c.if-at-pairs.false)
