-- Figures of the table and of the calls that hand out corners, computed. Assumes nothing.
use Rattle.refusal.specs.declared.Refusal.TheVariants.{BadDimension, BadRefinement, TooManyCells, TooShort}
use Rattle.refusal.specs.Says.{fine}
use Rattle.std.specs.Prelude.{Err, Ok}
use mathlib.Core.Path.{◌≡◌, refl}
use mathlib.Core.List.{[], ◌∷◌}
use lib.ListN.{drop}
use Rattle.refine_lattice.specs.Pattern.{pattern_of}
use Rattle.refine_lattice.proofs.Pattern.{added}
use Rattle.refine_pattern.specs.Table.{packed}
use Rattle.refine_pattern.specs.Promise.{answer_of, said, handed}
use Rattle.refine_pattern.proofs.Entries.{numbers}

-- the sum of the table, and its last four corners: 0x3001, 0x3010, 0x3100, 0x4000
pub table-sum : added numbers ≡ 1569284
unfolding numbers
table-sum = refl

pub last-corners : drop 479 numbers ≡ packed (1 ∷ 0 ∷ 0 ∷ 3 ∷ []) ∷ packed (0 ∷ 1 ∷ 0 ∷ 3 ∷ []) ∷ packed (0 ∷ 0 ∷ 1 ∷ 3 ∷ []) ∷ packed (0 ∷ 0 ∷ 0 ∷ 4 ∷ []) ∷ []
unfolding numbers
last-corners = refl

-- the refusals come in their order
pub dimension-first : answer_of 4 0 0 ≡ Err BadDimension
dimension-first = refl

pub then-refinement : answer_of 3 0 0 ≡ Err BadRefinement
then-refinement = refl

pub at-most-64 : answer_of 0 65 0 ≡ Err BadRefinement
at-most-64 = refl

pub then-cells : answer_of 3 17 0 ≡ Err TooManyCells
then-cells = refl

pub then-short : answer_of 3 16 65535 ≡ Err TooShort
then-short = refl

pub whole-range : answer_of 3 16 65536 ≡ fine
whole-range = refl

-- a point refined by 5, and an edge halved
pub of-a-point : handed (answer_of 0 5 1) (pattern_of 0 5) ≡ 5 ∷ []
of-a-point = refl

pub of-an-edge : handed (answer_of 1 2 8) (pattern_of 1 2) ≡ 2 ∷ 0 ∷ 1 ∷ 1 ∷ 1 ∷ 1 ∷ 0 ∷ 2 ∷ []
of-an-edge = refl

pub counts-corners : said (answer_of 2 2 36) (pattern_of 2 2) ≡ Ok 12
counts-corners = refl
