-- All orders of the axes, as one list. Assumes nothing.
use Rattle.std.specs.Prelude.{List, [], ◌∷◌, ◌++◌, map, reverse, ℕ, zero, suc, get_or}
use Rattle.lists.specs.Words.{without}
use Rattle.lists.specs.Tables.{upto}
use Rattle.lists.specs.Rows.{flat}
use Rattle.refusal.specs.Limits.{most_dimension}

-- the lists `f x` for each `x` of the list, one after the other
abbrev pub gather : {A B : Type 0} → (A → List B) → List A → List B
gather f [] = []
gather f (x ∷ l) = f x ++ gather f l

-- all arrangements of n entries of the list, by the first entry, then by the others
abbrev pub arrange : ℕ → List ℕ → List (List ℕ)
arrange zero l = [] ∷ []
arrange (suc n) l = gather (λ x. map (λ p. x ∷ p) (arrange n (without x l))) l

-- all orders of the axes 0 to d - 1, by the last entry, then by those before it: 10, 01; 210, 120, 201, 021, 102, 012
abbrev pub orders : ℕ → List (List ℕ)
orders d = map reverse (arrange d (upto d))

-- order number k of d axes
abbrev pub order_of : ℕ → ℕ → List ℕ
order_of d k = get_or (orders d) k []

-- the orders of as many axes as there are dimensions, one after the other
abbrev pub order_table : List ℕ
order_table = flat (orders most_dimension)
