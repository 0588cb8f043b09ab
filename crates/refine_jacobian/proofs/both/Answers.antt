-- `refine_jacobian::both` meets its contract. The loop's invariant: the first e entries are written in both lists.
use mathlib.Core.Path.{◌≡◌, refl, ap, ◌∙◌}
use mathlib.Core.Bool.{cond}
use mathlib.Core.List.{List}
use Prim.Native.Nat.{ℕ, suc, ◌*◌, ◌-◌, ◌/◌, ◌%◌, ◌<◌}
use native.Mathlib.Nat.{mul-le-mul}
use native.Mathlib.Omega.{arith}
use lib.Dec.{ltb}
use lib.IntN.{ℤ, pos, ◌-ℤ◌}
use lib.Ieee.{Float, binary64, of_bits, sub}
use lib.ListN.{get_or, set, length-set}
use mir.Syntax.{w32}
use mir.Val.{to_z, of_z}
use borrow.Author.Rules.{rules}
use Rattle.refusal.specs.Limits.{square_most}
use Rattle.refine_lattice.specs.Jacobian.{jacobian}
use Rattle.refine_jacobian.specs.Entries.{share_of, nought, float_step}
use Rattle.refine_jacobian.specs.WorkWeights.{weight_of}
use Rattle.refine_jacobian.proofs.Laws.{column-in, row_in, seats-placed, entry-weight, tab-store, tab-full, entry_in, entry_past, step-stored}
use Rattle.refine_jacobian.proofs.both.Goals as goal

pub places-seats-requires : goal.places-seats-requires
places-seats-requires c = omega (arith, c.requires.2.cell_long, c.requires.2.dim)

pub places-slots-requires : goal.places-slots-requires
places-slots-requires c = omega (arith, c.requires.2.parent_long, c.requires.2.dim)

pub overflow_mul-size : goal.overflow_mul-size
overflow_mul-size c = omega (arith, mul-le-mul c.requires.2.dim c.requires.2.dim)

pub loop-e-init : goal.loop-e-init
loop-e-init c = (refl, refl)

pub loop-e-preserved-then-size-e : goal.loop-e-preserved-then-size-e
unfolding of_bits
loop-e-preserved-then-size-e c =
    let W : ℕ → ℕ → ℕ = weight_of c.args.corners.now c.args.names.now c.args.word.now in
    let G : ℕ → ℤ = λ k. jacobian W c.args.parent.now c.args.cell.now (k / c.args.d) (k % c.args.d) in
    let g : ℕ → ℤ = λ k. cond (ltb k (c.args.d * c.args.d)) (G k) (pos 0) in
    let F : ℕ → Float = λ k. float_step c.args.r W c.args.parent.now c.args.cell.now (k / c.args.d) (k % c.args.d) in
    let f : ℕ → Float = λ k. cond (ltb k (c.args.d * c.args.d)) (F k) nought in
    let e = c.loop-e.e in (
      ap (λ (t : List ℤ). set t e (pos 0)) c.loop-e.invariant.0 ∙ tab-store g c.args.whole.now e (pos 0) (entry_past c.args.d e (G e) (pos 0) c.if-size-e.true) (omega (arith, c.requires.0)),
      ap (λ (t : List Float). set t e nought) c.loop-e.invariant.1 ∙ tab-store f c.args.float.now e nought (entry_past c.args.d e (F e) nought c.if-size-e.true) (omega (arith, c.requires.1)),
    )

pub step-s-requires : goal.step-s-requires
step-s-requires c =
    (omega arith, seats-placed c.args.d c.args.corners.now c.args.names.now c.args.word.now c.args.parent.now c.args.cell.now c.places-seats.result c.places-slots.result c.requires.2 c.places-seats.ensures c.places-slots.ensures)

pub loop-e-preserved : goal.loop-e-preserved
loop-e-preserved c =
    let q = c.step-s in
    let W : ℕ → ℕ → ℕ = weight_of c.args.corners.now c.args.names.now c.args.word.now in
    let G : ℕ → ℤ = λ k. jacobian W c.args.parent.now c.args.cell.now (k / c.args.d) (k % c.args.d) in
    let g : ℕ → ℤ = λ k. cond (ltb k (c.args.d * c.args.d)) (G k) (pos 0) in
    let F : ℕ → Float = λ k. float_step c.args.r W c.args.parent.now c.args.cell.now (k / c.args.d) (k % c.args.d) in
    let f : ℕ → Float = λ k. cond (ltb k (c.args.d * c.args.d)) (F k) nought in
    let e = c.loop-e.e in
    let under : e < square_most = c.loop-e-test.true in
    let i : e < c.args.d * c.args.d = omega (arith, c.if-size-e.false) in
    let hc = column-in c.args.d e i in
    let hr = row_in c.args.d e i in
    let x = W (get_or c.args.cell.now (suc (e / c.args.d)) 0) (get_or c.args.parent.now (suc (e % c.args.d)) 0) in
    let y = W (get_or c.args.cell.now 0 0) (get_or c.args.parent.now (suc (e % c.args.d)) 0) in
    let weight = entry-weight c.args.d c.args.corners.now c.args.names.now c.args.word.now c.args.parent.now c.args.cell.now c.places-seats.result c.places-slots.result c.requires.2 c.places-seats.ensures c.places-slots.ensures in
    let to : q.result.to ≡ x = q.ensures.to ∙ weight (suc (e / c.args.d)) (suc (e % c.args.d)) (omega (arith, hc)) (omega (arith, hr)) in
    let from : q.result.from ≡ y = q.ensures.from ∙ weight 0 (suc (e % c.args.d)) (omega arith) (omega (arith, hr)) in
    let v = to_z w32 (of_z w32 (to_z w32 q.result.to -ℤ to_z w32 q.result.from)) in
    let hv : v ≡ G e =
    step-stored q.result.to q.result.from q.ensures.small.0 q.ensures.small.1 ∙ ap (λ (a : ℕ). pos a -ℤ pos q.result.from) to ∙ ap (λ (b : ℕ). pos x -ℤ pos b) from in
    let w = sub binary64 c.share.result c.share-in-loop-e.result in
    let hw : w ≡ F e =
    ap (λ (a : Float). sub binary64 a c.share-in-loop-e.result) (c.share.ensures ∙ ap (share_of c.args.r) to)
    ∙ ap (λ (b : Float). sub binary64 (share_of c.args.r x) b) (c.share-in-loop-e.ensures ∙ ap (share_of c.args.r) from) in (
      ap (λ (t : List ℤ). set t e v) c.loop-e.invariant.0 ∙ tab-store g c.args.whole.now e v (hv ∙ entry_in c.args.d e (G e) (pos 0) i) (omega (arith, under, c.requires.0)),
      ap (λ (t : List Float). set t e w) c.loop-e.invariant.1 ∙ tab-store f c.args.float.now e w (hw ∙ entry_in c.args.d e (F e) nought i) (omega (arith, under, c.requires.1)),
    )

pub returns : goal.returns
returns c =
    let W : ℕ → ℕ → ℕ = weight_of c.args.corners.now c.args.names.now c.args.word.now in
    let G : ℕ → ℤ = λ k. jacobian W c.args.parent.now c.args.cell.now (k / c.args.d) (k % c.args.d) in
    let g : ℕ → ℤ = λ k. cond (ltb k (c.args.d * c.args.d)) (G k) (pos 0) in
    let F : ℕ → Float = λ k. float_step c.args.r W c.args.parent.now c.args.cell.now (k / c.args.d) (k % c.args.d) in
    let f : ℕ → Float = λ k. cond (ltb k (c.args.d * c.args.d)) (F k) nought in record {
      whole = c.loop-e.invariant.0 ∙ tab-full g c.args.whole.now square_most c.loop-e.e (omega arith) c.requires.0;
      float = c.loop-e.invariant.1 ∙ tab-full f c.args.float.now square_most c.loop-e.e (omega arith) c.requires.1;
    }
