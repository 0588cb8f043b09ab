-- The defined walk makes at most one look a facet of each cell: a cell is pushed only when it gets its sign. With N looks made, the cells that are on the stack or
-- unsigned pay for all looks to come. Assumes nothing.
use mathlib.Core.Bool.{Bool, true, false, cond}
use mathlib.Core.List.{List, [], ◌∷◌}
use mathlib.Core.Path.{◌≡◌, refl, sym, ap, ◌∙◌, subst}
use Prim.Native.Nat.{ℕ, zero, suc, ◌+◌, ◌*◌, ◌<◌, ◌≤◌}
use native.Mathlib.Nat.{suc-mul, suc-add, add-mul, zero-add}
use native.Mathlib.Decide.{ℕ_discrete}
use native.Mathlib.Omega.{arith}
use borrow.Author.Tests.{eq-eqb, ne_eqb, ltb-true}
use lib.Dec.{ltb}
use lib.ListN.{length}
use Rattle.complex.specs.Facets.{cell_at, facet_at, slots}
use Rattle.multiindex.specs.Sign.{Sign, plus}
use Rattle.orientation_signs.specs.Looks.{dropped_for, cell_beyond, sign_beyond, Mark, unsigned, signed, given, sign_in, Walk, at, conflict, looks_in, same_sign, finds, look, looks_below, emptied, begins_at, begins, walked, looks_of}

-- how many of the first n cells are unsigned
abbrev pub is_unsigned : Mark → ℕ
is_unsigned unsigned = 1
is_unsigned (signed s) = 0

abbrev pub unsigned_in : (ℕ → Mark) → ℕ → ℕ
unsigned_in marks zero = 0
unsigned_in marks (suc n) = unsigned_in marks n + is_unsigned (marks n)

-- a walk over n cells of k facets, where `rest` looks are still due from the cell at hand
abbrev Within : ℕ → ℕ → ℕ → Walk → Type 0
Within n k rest (at marks stack made) = made + rest + (length stack + unsigned_in marks n) * k ≤ n * k
Within n k rest (conflict made) = made ≤ n * k

given-past : (marks : ℕ → Mark) (b : ℕ) (s : Sign) (n : ℕ) → n ≤ b → unsigned_in (given marks b s) n ≡ unsigned_in marks n
given-past marks b s zero l = refl
given-past marks b s (suc n) l =
    let e : given marks b s n ≡ marks n = ap (λ (t : Bool). cond t (signed s) (marks n)) (ne_eqb n b (λ q. omega arith)) in
    let f : is_unsigned (given marks b s n) ≡ is_unsigned (marks n) = ap is_unsigned e in
    let r : unsigned_in (given marks b s) n ≡ unsigned_in marks n = given-past marks b s n (omega arith) in
    omega arith

-- one fewer after an unsigned cell gets its sign
pub given-open : (marks : ℕ → Mark) (b : ℕ) (s : Sign) (n : ℕ) → b < n → marks b ≡ unsigned → suc (unsigned_in (given marks b s) n) ≡ unsigned_in marks n
given-open marks b s zero l u = absurd (omega arith)
given-open marks b s (suc n) l u =
    elim (ℕ_discrete n b) [
      | yes q ↦
          let e : given marks b s n ≡ signed s = ap (λ (t : Bool). cond t (signed s) (marks n)) (eq-eqb n b q) in
          let f : is_unsigned (given marks b s n) ≡ 0 = ap is_unsigned e in
          let g : is_unsigned (marks n) ≡ 1 = ap (λ (x : ℕ). is_unsigned (marks x)) q ∙ ap is_unsigned u in
          let r : unsigned_in (given marks b s) n ≡ unsigned_in marks n = given-past marks b s n (omega arith) in
          omega arith
      | no q ↦
          let e : given marks b s n ≡ marks n = ap (λ (t : Bool). cond t (signed s) (marks n)) (ne_eqb n b q) in
          let f : is_unsigned (given marks b s n) ≡ is_unsigned (marks n) = ap is_unsigned e in
          let r : suc (unsigned_in (given marks b s) n) ≡ unsigned_in marks n = given-open marks b s n (omega arith) u in
          omega arith
    ]

pub all-open : (n : ℕ) → unsigned_in (λ c. unsigned) n ≡ n
all-open zero = refl
all-open (suc n) = omega (arith, all-open n)

module _ (d : ℕ) (cs : List (List ℕ)) where
  -- a look spends one
  finds-within : (b : ℕ) (s : Sign) (marks : ℕ → Mark) (stack : List ℕ) (made rest : ℕ) → b < length cs → made + rest + (length stack + unsigned_in marks (length cs)) * slots d ≤ length cs * slots d →
      (k : Mark) → marks b ≡ k → Within (length cs) (slots d) rest (finds b s k marks stack made)
  finds-within b s marks stack made rest l h unsigned e =
      let o : suc (length stack) + unsigned_in (given marks b s) (length cs) ≡ length stack + unsigned_in marks (length cs) = omega (arith, given-open marks b s (length cs) l e) in
      subst (λ (x : ℕ). made + rest + x * slots d ≤ length cs * slots d) (sym o) h
  finds-within b s marks stack made rest l h (signed t) e = go (same_sign t s)
    where
      go : (q : Bool) → Within (length cs) (slots d) rest (cond q (at marks stack made) (conflict made))
      go true = h
      go false = omega arith

  abbrev beyond_at : ℕ → ℕ → ℕ
  beyond_at c i = cell_beyond d cs c (facet_at (cell_at cs c) i)

  look-within : (c i : ℕ) (w : Walk) (rest : ℕ) → Within (length cs) (slots d) (suc rest) w → Within (length cs) (slots d) rest (look d cs c i w)
  look-within c i (conflict made) rest h = h
  look-within c i (at marks stack made) rest h = go (ltb (beyond_at c i) (length cs)) refl
    where
      go : (t : Bool) → ltb (beyond_at c i) (length cs) ≡ t → Within (length cs) (slots d) rest (cond t (finds (beyond_at c i) (sign_beyond (sign_in (marks c)) i (dropped_for d cs (facet_at (cell_at cs c) i) (beyond_at c i))) (marks (beyond_at c i)) marks stack (suc made)) (at marks stack (suc made)))
      go true e = finds-within (beyond_at c i) (sign_beyond (sign_in (marks c)) i (dropped_for d cs (facet_at (cell_at cs c) i) (beyond_at c i))) marks stack (suc made) rest (ltb-true _ _ e) (omega arith) (marks (beyond_at c i)) refl
      go false e = omega arith

  below-within : (c i : ℕ) (w : Walk) (rest : ℕ) → Within (length cs) (slots d) (i + rest) w → Within (length cs) (slots d) rest (looks_below d cs c i w)
  below-within c zero w rest h = subst (λ (x : ℕ). Within (length cs) (slots d) x w) (zero-add rest) h
  below-within c (suc i) w rest h = below-within c i (look d cs c i w) rest (look-within c i w (i + rest) (subst (λ (x : ℕ). Within (length cs) (slots d) x w) (suc-add i rest) h))

  -- a cell taken off pays for its facets
  emptied-within : (r : ℕ) (w : Walk) → Within (length cs) (slots d) 0 w → Within (length cs) (slots d) 0 (emptied d cs r w)
  emptied-within zero w h = h
  emptied-within (suc r) (conflict made) h = h
  emptied-within (suc r) (at marks [] made) h = h
  emptied-within (suc r) (at marks (c ∷ stack) made) h =
      emptied-within r (looks_below d cs c (slots d) (at marks stack made))
      (below-within c (slots d) (at marks stack made) 0 (omega (arith, add-mul (length stack) (unsigned_in marks (length cs)) (slots d), add-mul (suc (length stack)) (unsigned_in marks (length cs)) (slots d), suc-mul (length stack) (slots d))))

  begins-within : (c : ℕ) (w : Walk) → c < length cs → Within (length cs) (slots d) 0 w → Within (length cs) (slots d) 0 (begins d cs c w)
  begins-within c (conflict made) l h = h
  begins-within c (at marks stack made) l h = go (marks c) refl
    where
      go : (k : Mark) → marks c ≡ k → Within (length cs) (slots d) 0 (begins_at d cs c k marks stack made)
      go unsigned e =
          let o : 1 + unsigned_in (given marks c plus) (length cs) ≡ unsigned_in marks (length cs) = omega (arith, given-open marks c plus (length cs) l e) in
          emptied-within (length cs) (at (given marks c plus) (c ∷ []) made)
          (subst (λ (x : ℕ). made + 0 + x * slots d ≤ length cs * slots d) (sym o) (omega (arith, add-mul (length stack) (unsigned_in marks (length cs)) (slots d))))
      go (signed s) e = h

  walked-within : (c : ℕ) → c ≤ length cs → Within (length cs) (slots d) 0 (walked d cs c)
  walked-within zero l = omega (arith, ap (λ (x : ℕ). (0 + x) * slots d) (all-open (length cs)), ap (λ (x : ℕ). x * slots d) (zero-add (length cs)))
  walked-within (suc c) l = begins-within c (walked d cs c) (omega arith) (walked-within c (omega arith))

  -- at most one look a facet of each cell
  pub looks-most : looks_of d cs ≤ length cs * slots d
  looks-most = go (walked d cs (length cs)) (walked-within (length cs) (omega arith))
    where
      go : (w : Walk) → Within (length cs) (slots d) 0 w → looks_in w ≤ length cs * slots d
      go (at marks stack made) h = omega arith
      go (conflict made) h = h
