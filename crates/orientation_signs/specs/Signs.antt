-- Document 01: a facet drops position i, with induced sign + for even i, - for odd i. Signs are coherent if on each facet of two cells the products of cell sign
-- and induced sign are opposite. The lowest cell of each facet-connected piece is +1. Assumes nothing.
use Rattle.std.specs.Prelude.{List, [], ◌∷◌, ◌≡◌, ℕ, zero, suc, ◌<◌, ◌≤◌, ℤ, length}
use Rattle.complex.specs.Facets.{Mates}
use Rattle.multiindex.specs.Sign.{Sign, plus, opposite, times, induced, sign_number}

-- on each facet of two cells the products of cell sign and induced sign are opposite
pub record Coherent (d : ℕ) (cs : List (List ℕ)) (σ : ℕ → Sign) : Type 0 where
  pub opposed : (c i c' i' : ℕ) → Mates d cs c i c' i' → times (σ c) (induced i) ≡ opposite (times (σ c') (induced i'))

-- one facet-connected piece: from cell c facets of two cells lead to a cell
pub data Joined (d : ℕ) (cs : List (List ℕ)) (c : ℕ) : ℕ → Type 0 where
  here : Joined d cs c c
  across : {c' i c'' i' : ℕ} → Joined d cs c c' → Mates d cs c' i c'' i' → Joined d cs c c''

-- c is the lowest cell of its piece
abbrev pub Lowest : ℕ → List (List ℕ) → ℕ → Type 0
Lowest d cs c = (c' : ℕ) → Joined d cs c c' → c ≤ c'

-- the signs that are handed out
pub record Oriented (d : ℕ) (cs : List (List ℕ)) (σ : ℕ → Sign) : Type 0 where
  pub coherent : Coherent d cs σ
  pub lowest : (c : ℕ) → c < length cs → Lowest d cs c → σ c ≡ plus

-- the signs of the first n cells, as numbers
abbrev pub sign_list : (ℕ → Sign) → ℕ → List ℤ
sign_list σ zero = []
sign_list σ (suc n) = sign_number (σ zero) ∷ sign_list (λ c. σ (suc c)) n
