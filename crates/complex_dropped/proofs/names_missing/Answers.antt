-- `complex_dropped::names_missing` meets its contract: `any` asks of each number whether it is at least m. Assumes nothing.
use Rattle.std.proofs.Common.{◌≡◌, ℕ, List, [], ◌∷◌, leb, ◌||◌, refl, ap, ◌∙◌, rules, tests}
use Rattle.std.specs.List.{list_any}
use Rattle.std.proofs.lemmas.Iterator.{YieldsList-from_slice}
use Rattle.std.proofs.lemmas.Iterator.Search.{any_from_yields_List}
use Rattle.complex_dropped.specs.Kept.{names_missing}
use Rattle.complex_dropped.proofs.names_missing.Goals as goal

any-missing : (m : ℕ) (gone : List ℕ) → list_any (leb m) gone ≡ names_missing m gone
unfolding names_missing
any-missing m [] = refl
any-missing m (c ∷ gone) = ap (λ t. leb m c || t) (any-missing m gone)

pub returns : goal.returns
returns c =
    any_from_yields_List (leb c.args.m) _ _ _ c.any.ensures.ran (YieldsList-from_slice c.args.gone.now cc) (λ x b q k. search (rules, tests))
    ∙ any-missing c.args.m c.args.gone.now
