-- Values by number: one child, one word refined by and one birth, read from the lists that a refinement hands out. Assumes nothing.
use Rattle.refusal.specs.declared.Refusal.{Refusal}
use Rattle.refusal.specs.declared.Refusal.TheVariants.{BadDimension, TooShort}
use Rattle.std.specs.Prelude.{Bool, cond, ◌&&◌, List, [], ◌++◌, ℕ, suc, ◌+◌, ◌-◌, ◌*◌, eqb, ltb, leb, ℤ, Float, length, get_or, replicate, Err, Ok, Result}
use Rattle.lists.specs.Rows.{row}
use Rattle.refusal.specs.Limits.{most_dimension}
use Rattle.lists.specs.Words.{first_where, none}
use Rattle.refine_jacobian.specs.Entries.{nought}
use Rattle.refine_values.specs.declared.Child.{Child}
use Rattle.refine_values.specs.declared.Birth.{Birth}

-- a list of so many entries has those of number k
abbrev pub reaches : ℕ → ℕ → ℕ → Bool
reaches n k long = leb (k * n + n) long

-- ---- a child

-- the lists have child k
abbrev pub has_child : ℕ → ℕ → ℕ → ℕ → Bool
has_child k parents jacobians wholes = ltb k parents && (reaches 9 k jacobians && reaches 9 k wholes)

-- what they have of it
abbrev pub child_at : ℕ → List ℕ → List Float → List ℤ → Child
child_at k parents jacobians wholes = record { parent = get_or parents k 0; jacobian = row jacobians 9 k; whole = row wholes 9 k }

-- child k, or 12
abbrev pub child_of : ℕ → List ℕ → List Float → List ℤ → Result Child Refusal
child_of k parents jacobians wholes =
    cond (has_child k (length parents) (length jacobians) (length wholes))
    (Ok (child_at k parents jacobians wholes))
    (Err TooShort)

-- ---- a word

-- word k of a list of words of d + 1 numbers: no number, where the list has none
abbrev pub word_in : ℕ → ℕ → List ℕ → List ℕ
word_in d k words = cond (leb d most_dimension && reaches (suc d) k (length words)) (row words (suc d) k) []

-- the word that cell k is refined by: the order's where one is given, else the cell's sorted vertices
abbrev pub word_along : Bool → ℕ → ℕ → List ℕ → List ℕ → List ℕ
word_along given d k cells order = word_in d k (cond given order cells)

-- ---- a birth

-- made as long as four: past its end stands z
abbrev pub four : {A : Type 0} → A → List A → List A
four z l = l ++ replicate (4 - length l) z

-- how many vertices a row of a birth's vertices has
abbrev pub support : List ℕ → ℕ
support row = first_where (λ j. eqb (get_or row j 0) none) (length row)

-- the lists have birth k, n entries each
abbrev pub has_birth : ℕ → ℕ → ℕ → ℕ → ℕ → Bool
has_birth n k vertices weights shares = reaches n k vertices && (reaches n k weights && reaches n k shares)

-- what they have of it
abbrev pub birth_at : ℕ → ℕ → List ℕ → List ℕ → List Float → Birth
birth_at n k vertices weights shares =
    record {
      count = support (row vertices n k);
      vertices = four none (row vertices n k);
      weights = four 0 (row weights n k);
      shares = four nought (row shares n k);
    }

-- birth k in dimension d, or 1, or 12
abbrev pub birth_of : ℕ → ℕ → List ℕ → List ℕ → List Float → Result Birth Refusal
birth_of d k vertices weights shares =
    cond (ltb most_dimension d)
    (Err BadDimension)
    (cond (has_birth (suc d) k (length vertices) (length weights) (length shares))
    (Ok (birth_at (suc d) k vertices weights shares))
    (Err TooShort))
