-- Shares of vertices: what a word of the double refinement says of the first vertices. Assumes nothing.
use mathlib.Core.Path.{◌≡◌, sym, ap, ◌∙◌}
use mathlib.Core.List.{List, [], ◌∷◌, map}
use Prim.Native.Nat.{ℕ, suc, ◌+◌, ◌*◌, ◌-◌, ◌<◌}
use native.Mathlib.Omega.{arith}
use lib.ListN.{length, get_or, length-map}
use Rattle.lists.proofs.Laws.{map_at}
use Rattle.lists.specs.Tables.{tab, sum}
use Rattle.refine_lattice.specs.Lattice.{dot, weights}
use Rattle.lists.specs.Words.{same}
use Rattle.refine_lattice.specs.Complex.{occurrences, weigh, through}
use Rattle.lists.proofs.Tables.{length-tab, get_or-tab, tab-ext, list-tab}
use Rattle.refine_lattice.proofs.Tab.{step}
use Rattle.lists.proofs.Words.{same_self}
use Rattle.lists.proofs.Sums.{sum-ext, sum-add, sum-scale, sum-zero, sum-swap, sum-pick}
use Rattle.refine_lattice.proofs.Sums.{dot-sum}
use Rattle.refine_lattice.proofs.Codes.{Code, corner}
use Rattle.refine_lattice.proofs.Weights.{Base, Time, length-weights, rows}

pub map_is : (f : ℕ → ℕ) (l : List ℕ) (n : ℕ) → length l ≡ n → map f l ≡ tab n (λ i. f (get_or l i 0))
map_is f l n e = list-tab n (map f l) (λ i. f (get_or l i 0)) 0 (length-map l f ∙ e) (λ i h. map_at f l i 0 0 (omega arith))

-- a sum over all vertices, of which only those of the word count
pub pull : (n : ℕ) (f : ℕ → ℕ) (us k : List ℕ) → ((v : ℕ) → 0 < occurrences k v → v < n) → sum n (λ v. weigh k us v * f v) ≡ dot us (map f k)
pull n f [] k h = sum-ext n (λ v. 0 * f v) (λ v. 0) (λ i l. omega arith) ∙ sum-zero n
pull n f (u ∷ us) [] h = sum-ext n (λ v. 0 * f v) (λ v. 0) (λ i l. omega arith) ∙ sum-zero n
pull n f (u ∷ us) (x ∷ k) h =
    sum-ext n (λ v. (u * same v x + weigh k us v) * f v) (λ v. same v x * (u * f v) + weigh k us v * f v) (λ i l. omega arith)
    ∙ sum-add n (λ v. same v x * (u * f v)) (λ v. weigh k us v * f v)
    ∙ omega (
      arith,
      sum-pick n x (λ v. u * f v) (h x (omega (arith, same_self x))),
      pull n f us k (λ v l. h v (omega arith)),
    )

pub dot-tab : (n : ℕ) (us : List ℕ) (f : ℕ → ℕ) → length us ≡ n → dot us (tab n f) ≡ sum n (λ i. get_or us i 0 * f i)
dot-tab n us f h =
    dot-sum n us (tab n f) h (length-tab n f)
    ∙ sum-ext n (λ i. get_or us i 0 * get_or (tab n f) i 0) (λ i. get_or us i 0 * f i) (λ i l. ap (λ (y : ℕ). get_or us i 0 * y) (get_or-tab n f i 0 l))

dot-tab-left : (n : ℕ) (xs : List ℕ) (f : ℕ → ℕ) → length xs ≡ n → dot (tab n f) xs ≡ sum n (λ i. f i * get_or xs i 0)
dot-tab-left n xs f h =
    dot-sum n (tab n f) xs (length-tab n f) h
    ∙ sum-ext n (λ i. get_or (tab n f) i 0 * get_or xs i 0) (λ i. f i * get_or xs i 0) (λ i l. ap (λ (y : ℕ). y * get_or xs i 0) (get_or-tab n f i 0 l))

-- two sums change places
module _ (n : ℕ) (us xs : List ℕ) (ws : ℕ → List ℕ) (h : length us ≡ n) (k : length xs ≡ n) (m : (l : ℕ) → l < n → length (ws l) ≡ n) where
  abbrev cell : ℕ → ℕ → ℕ
  cell l j = get_or us l 0 * (get_or (ws l) j 0 * get_or xs j 0)

  by_rows : dot us (tab n (λ l. dot (ws l) xs)) ≡ sum n (λ l. sum n (λ j. cell l j))
  by_rows =
      dot-tab n us (λ l. dot (ws l) xs) h
      ∙ sum-ext n (λ l. get_or us l 0 * dot (ws l) xs) (λ l. sum n (λ j. cell l j))
      (λ l i.
      ap (λ (y : ℕ). get_or us l 0 * y) (dot-sum n (ws l) xs (m l i) k)
      ∙ sym (sum-scale n (get_or us l 0) (λ j. get_or (ws l) j 0 * get_or xs j 0)))

  by-columns : dot (tab n (λ j. dot us (tab n (λ l. get_or (ws l) j 0)))) xs ≡ sum n (λ j. sum n (λ l. cell l j))
  by-columns =
      dot-tab-left n xs (λ j. dot us (tab n (λ l. get_or (ws l) j 0))) k
      ∙ sum-ext n (λ j. dot us (tab n (λ l. get_or (ws l) j 0)) * get_or xs j 0) (λ j. sum n (λ l. cell l j))
      (λ j i.
      ap (λ (y : ℕ). y * get_or xs j 0) (dot-tab n us (λ l. get_or (ws l) j 0) h)
      ∙ omega (
        arith,
        sum-scale n (get_or xs j 0) (λ l. get_or us l 0 * get_or (ws l) j 0),
        sum-ext n (λ l. get_or xs j 0 * (get_or us l 0 * get_or (ws l) j 0)) (λ l. cell l j) (λ l g. omega arith),
      ))

  swap : dot us (tab n (λ l. dot (ws l) xs)) ≡ dot (tab n (λ j. dot us (tab n (λ l. get_or (ws l) j 0)))) xs
  swap = by_rows ∙ sum-swap n n cell ∙ sym by-columns

-- A cell's word `k`; a child of the cell by a, its code, its word `m`; a child of that child by b, its code; a corner of it, and its number `x`
module _ (d a b n : ℕ) (base t base' t' : ℕ → ℕ) (c : Code d a base t) (c' : Code d b base' t') (i : ℕ) where
  abbrev B : ℕ → ℕ
  B = Base d a b base t base' t' c c'

  abbrev T : ℕ → ℕ
  T = Time d a b base t base' t' c c'

  abbrev us : List ℕ
  us = weights b (corner d base' t' i)

  blended : (k : List ℕ) → length k ≡ suc d → (v : ℕ)
      → dot us (tab (suc d) (λ l. weigh k (weights a (corner d base t l)) v)) ≡ weigh k (weights (a * b) (corner d B T i)) v
  blended k h v =
      swap (suc d) us (map (same v) k) (λ l. weights a (corner d base t l))
      (length-weights b (corner d base' t' i) ∙ ap suc (length-tab d (λ j. base' j + step (t' j) i)))
      (length-map k (same v) ∙ h)
      (λ l g. length-weights a (corner d base t l) ∙ ap suc (length-tab d (λ j. base j + step (t j) l)))
      ∙ ap (λ (ws : List ℕ). weigh k ws v) (rows d a b base t base' t' c c' i)

  pub through-is : (k m : List ℕ) (outer inner : ℕ → ℕ → ℕ) (x : ℕ)
      → length k ≡ suc d → length m ≡ suc d
      → ((v : ℕ) → 0 < occurrences m v → v < n)
      → ((l : ℕ) → l < suc d → (v : ℕ) → outer (get_or m l 0) v ≡ weigh k (weights a (corner d base t l)) v)
      → ((v : ℕ) → inner x v ≡ weigh m us v)
      → (v : ℕ) → through n outer inner x v ≡ weigh k (weights (a * b) (corner d B T i)) v
  through-is k m outer inner x h l below names name v =
      sum-ext n (λ y. inner x y * outer y v) (λ y. weigh m us y * outer y v) (λ y g. ap (λ (z : ℕ). z * outer y v) (name y))
      ∙ pull n (λ y. outer y v) us m below
      ∙ ap (dot us)
      (map_is (λ y. outer y v) m (suc d) l
      ∙ tab-ext (suc d) (λ j. outer (get_or m j 0) v) (λ j. weigh k (weights a (corner d base t j)) v) (λ j g. names j g v))
      ∙ blended k h v
