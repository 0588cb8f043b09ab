-- `complex_dropped::renumber` meets its contract. The corners are marked, and the marks numbered. Assumes nothing.
use mathlib.Core.Path.{◌≡◌, ap, ◌∙◌}
use mathlib.Core.List.{List}
use Prim.Native.Nat.{ℕ}
use native.Mathlib.Omega.{arith}
use borrow.Author.Rules.{rules}
use lib.ListN.{length, replicate}
use Rattle.lists.specs.Words.{marked}
use Rattle.complex_dropped.proofs.Steps.{renumbered}
use Rattle.complex_dropped.proofs.renumber.Goals as goal

pub mark-requires : goal.mark-requires
mark-requires c =
    λ i h. omega (arith, c.requires.low i h, c.fill.auto)

pub returns : goal.returns
returns c =
    let zeros : c.fill.new.self ≡ replicate (length c.args.spare.now) 0 = search rules in
    renumbered c.args.corners.now c.args.rows.now c.args.spare.now c.requires c.mark.new.marks (c.mark.ensures ∙ ap (λ (l : List ℕ). marked l c.args.corners.now) zeros) c.number_marked.result c.number_marked.new.marks c.number_marked.new.places c.number_marked.ensures
