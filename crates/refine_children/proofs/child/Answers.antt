-- `refine_children::child` meets its contract: the parts that it lends are the child's rows.
use mathlib.Core.Path.{◌∙◌}
use mathlib.Core.List.{List}
use Prim.Native.Nat.{ℕ, ◌-◌}
use lib.IntN.{ℤ}
use lib.Ieee.{Float}
use Rattle.refine_jacobian.specs.Entries.{whole_of, float_of}
use Rattle.refine_jacobian.specs.WorkWeights.{weight_of}
use Rattle.refine_children.proofs.Laws.{at-parts, parts-seated}
use Rattle.refine_children.proofs.child.Goals as goal

pub both-requires : goal.both-requires
both-requires c =
    (c.requires.0, c.requires.1, parts-seated c.args.d c.args.size c.args.x c.args.pattern.now c.args.words.now c.args.sorted.now c.args.along.now c.args.cells.now c.requires.2)

pub returns : goal.returns
returns c =
    let d = c.args.d in
    let w : (List ℕ → List ℕ → List ℕ → List ℕ → List ℕ → List ℤ) = λ p n k h v. whole_of d (weight_of p n k) h v in
    let f : (List ℕ → List ℕ → List ℕ → List ℕ → List ℕ → List Float) = λ p n k h v. float_of d c.args.r (weight_of p n k) h v in record { whole = c.both.ensures.whole ∙ at-parts d c.args.size c.args.x c.args.pattern.now c.args.words.now c.args.sorted.now c.args.along.now c.args.cells.now w; float = c.both.ensures.float ∙ at-parts d c.args.size c.args.x c.args.pattern.now c.args.words.now c.args.sorted.now c.args.along.now c.args.cells.now f }
