-- `quotient::Axis::ends` meets its contract. Assumes nothing.
use borrow.Author.Tests.{eq-eqb, ne_eqb}
use mathlib.Core.Path.{◌≡◌, refl, sym, ap, ◌∙◌}
use mathlib.Core.Bool.{Bool, true, false, ◌&&◌}
use Rattle.quotient.specs.Shape.{closed_of}
use Rattle.quotient.proofs.Axis.ends.Goals as goal

and-true : (b : Bool) → b ≡ b && true
and-true true = refl
and-true false = refl

and-false : (b : Bool) → false ≡ b && false
and-false true = refl
and-false false = refl

pub returns-then-c-self : goal.returns-then-c-self
returns-then-c-self c = c.closed.ensures ∙ and-true (closed_of c.args.self.glue) ∙ ap (λ (b : Bool). closed_of c.args.self.glue && b) (sym (eq-eqb _ _ c.if-c-self.true))

pub returns-else-c-self : goal.returns-else-c-self
returns-else-c-self c = and-false (closed_of c.args.self.glue) ∙ ap (λ (b : Bool). closed_of c.args.self.glue && b) (sym (ne_eqb _ _ c.if-c-self.false))
