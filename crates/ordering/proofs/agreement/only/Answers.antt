-- `ordering::agreement::only` meets its contract: `all` asks of each number whether it is t. Assumes nothing.
use Rattle.std.proofs.Common.{◌≡◌, ℕ, List, [], ◌∷◌, eqb, sym, ◌∙◌, rules, tests, refl}
use Rattle.std.specs.List.{list_all}
use Rattle.std.proofs.lemmas.Iterator.{YieldsList-from_slice}
use Rattle.std.proofs.lemmas.Iterator.Search.{all_from_yields_List}
use borrow.Author.Tests.{eq-eqb, ne_eqb}
use native.Mathlib.Decide.{ℕ_discrete}
use Rattle.lists.specs.Words.{same_word, without}
use Rattle.lists.proofs.Words.{same-yes, same-no}
use Rattle.ordering.proofs.agreement.only.Goals as goal

all-only : (t : ℕ) (u : List ℕ) → list_all (λ x. eqb x t) u ≡ same_word [] (without t u)
all-only t [] = refl
all-only t (x ∷ u) =
    elim (ℕ_discrete x t) [
      | yes e ↦ rw (eq-eqb x t e, same-yes t x (sym e)) (all-only t u)
      | no n ↦ rw (ne_eqb x t n, same-no t x (λ e. n (sym e)))
    ]

pub returns : goal.returns
returns c =
    all_from_yields_List (λ x. eqb x c.args.t) _ _ _ c.all.ensures.ran (YieldsList-from_slice c.args.u.now cc) (λ x b q k. search (rules, tests))
    ∙ all-only c.args.t c.args.u.now
