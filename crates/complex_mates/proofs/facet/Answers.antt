-- `complex_mates::facet` meets its contract. The loop's invariant: the first j numbers are those of the facet. Assumes nothing.
use Rattle.complex_mates.proofs.Laws.{facet-kept}
use Rattle.lists.proofs.Laws.{store, copied}
use Rattle.complex.specs.Facets.{facet_at}
use Rattle.complex_mates.proofs.Laws.{facet-length}
use mathlib.Core.Path.{refl, ◌∙◌}
use Prim.Native.Nat.{◌<◌}
use native.Mathlib.Omega.{arith}
use borrow.Author.Rules.{rules}
use lib.ListN.{length, length-set}
use Rattle.complex_mates.proofs.facet.Goals as goal

pub loop-j-init : goal.loop-j-init
loop-j-init c = (search rules, refl, refl)

pub offset_bounds-w-kept : goal.offset_bounds-w-kept
offset_bounds-w-kept c = omega (arith, c.kept.ensures.most)

pub bounds-w-kept : goal.bounds-w-kept
bounds-w-kept c = omega (arith, c.kept.ensures.most, c.requires.0)

pub loop-j-preserved : goal.loop-j-preserved
loop-j-preserved c =
    let h : c.loop-j.j < length c.args.to.now = omega arith in
    let f : c.args.skip < length c.args.w.now = omega (arith, c.requires) in
    let e = facet-kept c.args.w.now c.args.skip c.loop-j.j c.kept.result f c.kept.ensures in
    (search rules, rw (c.loop-j.invariant.1, e) (store _ _ _ (omega (arith, facet-length c.args.w.now c.args.skip f)) h), simp length-set c.loop-j.invariant.2)

pub returns : goal.returns
returns c =
    let f : c.args.skip < length c.args.w.now = omega (arith, c.requires) in
    c.loop-j.invariant.1 ∙ copied (facet_at c.args.w.now c.args.skip) c.args.to.now c.loop-j.j (omega (arith, facet-length c.args.w.now c.args.skip f)) (omega arith)
