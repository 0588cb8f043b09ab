-- Signs of words and signs of cells: where the words agree on facets, the one are coherent exactly where the others are. So children's cells inherit direction.
-- Assumes nothing.
use mathlib.Core.Path.{◌≡◌, refl, sym, ap, ◌∙◌, subst}
use mathlib.Core.Logic.{◌≢◌}
use mathlib.Core.List.{List}
use Prim.Native.Nat.{ℕ, suc, ◌+◌, ◌*◌, ◌-◌, ◌≤◌, ◌<◌}
use native.Mathlib.Decide.{ℕ_discrete}
use native.Mathlib.Omega.{arith}
use lib.ListN.{length, get_or}
use Rattle.lists.specs.Tables.{sum}
use Rattle.refine_lattice.specs.Complex.{Words, occurrences, common, Complex, Refined, WordsAgreeOnFacets}
use Rattle.refine_lattice.specs.Conform.{Meet, Distinct}
use Rattle.multiindex.specs.Sort.{inversions}
use Rattle.refine_lattice.specs.Signs.{Even, Odd, Signs, CoherentByPlace, CoherentByRank, less, rank, Handed, Directed}
use Rattle.refine_lattice.proofs.Tab.{step}
use Rattle.lists.proofs.Words.{same_self, same-no}
use Rattle.lists.proofs.Sums.{sum-ext}
use Rattle.refine_lattice.proofs.Conform.{apart-at, Row, closes, meet-sym, distinct-refined}
use Rattle.refine_lattice.proofs.Inherit.{all_but_one, facets-refined}
use Rattle.refine_lattice.proofs.Inversions.{inversions-sum}
use Rattle.refine_lattice.proofs.Parity.{less-step, inverse, falling, sum-2, skip, lower, beneath, minor}
use Rattle.refine_lattice.proofs.Direct.{common-skip, coherent-refined}

-- a word's inversions, one vertex left out
dropped : (d : ℕ) (k : List ℕ) → length k ≡ suc d → ((v : ℕ) → occurrences k v ≤ 1) → (i : ℕ) → i < suc d
    → (x : ℕ) × (inversions k + (x + x) ≡ inverse d (λ a. get_or k (skip i a) 0) + (i + rank k (get_or k i 0)))
unfolding beneath
dropped d k h p i b =
    let t : ℕ → ℕ = λ a. get_or k a 0 in
    let one : (x y : ℕ) → x < suc d → y < suc d → t x ≡ t y → x ≡ y = λ x y f g. apart-at k p x y (omega arith) (omega arith) in (
      lower d t one i b,
      omega (
        arith,
        minor d t one i b,
        inversions-sum k,
        ap (λ (n : ℕ). sum n (λ a. sum n (λ b. less a b * less (t b) (t a)))) h,
        sum-2 (suc d) (suc d) (λ a b. less a b * less (t b) (t a)) (falling t) (λ a b f g. cc (less-step a b, less-step (t b) (t a))),
        ap (λ (n : ℕ). sum n (λ a. less (t a) (t i))) h,
        sum-ext (suc d) (λ a. less (t a) (t i)) (λ a. step (t a) (t i)) (λ a f. less-step (t a) (t i)),
      ),
    )

-- two words with one facet, on which they agree
module _ (d n : ℕ) (K : Words) (complex : Complex d n K) (distinct : Distinct K) (agree : WordsAgreeOnFacets d K)
    (k l : List ℕ) (in-k : K k) (in-l : K l) (q : k ≢ l) (i j : ℕ) (bi : i < suc d) (bj : j < suc d) where
  row-k : Row d k (get_or k i 0)
  row-k = record { long = complex.long k in-k; plain = complex.plain k in-k; i = i; below = bi; at = refl }

  row-l : Row d l (get_or l j 0)
  row-l = record { long = complex.long l in-l; plain = complex.plain l in-l; i = j; below = bj; at = refl }

  apart : Meet k (get_or k i 0) l (get_or l j 0) → get_or k i 0 ≢ get_or l j 0
  unfolding Distinct
  apart f w = q (distinct k l in-k in-l (closes d k l (get_or k i 0) (get_or l j 0) row-k row-l f w))

  -- the vertex left out of the one is not in the other, and all others are
  out_of : Meet k (get_or k i 0) l (get_or l j 0) → occurrences l (get_or k i 0) ≡ 0
  unfolding Meet
  out_of f =
      let v : ℕ = get_or k i 0 in
      omega (arith, f v, same_self v, complex.plain k in-k v, same-no v (get_or l j 0) (apart f))

  stays-in : Meet k (get_or k i 0) l (get_or l j 0) → (v : ℕ) → 0 < occurrences k v → v ≢ get_or k i 0 → 0 < occurrences l v
  unfolding Meet
  stays-in f v h w = omega (arith, f v, same-no v (get_or k i 0) w)

  agreed : Meet k (get_or k i 0) l (get_or l j 0) → common k l ≡ common l k
  unfolding WordsAgreeOnFacets
  agreed f =
      agree k l in-k in-l
      (omega (
        arith,
        complex.long k in-k,
        all_but_one k l (complex.plain k in-k) (λ v u h w y z. only v h y ∙ sym (only u w z)),
      ))
    where
      only : (v : ℕ) → 0 < occurrences k v → occurrences l v ≡ 0 → v ≡ get_or k i 0
      only v h w = elim (ℕ_discrete v (get_or k i 0)) [ yes y ↦ y | no y ↦ absurd (omega (arith, stays-in f v h y)) ]

module _ (d n : ℕ) (K : Words) (complex : Complex d n K) (distinct : Distinct K) (agree : WordsAgreeOnFacets d K)
    (k l : List ℕ) (in-k : K k) (in-l : K l) (q : k ≢ l) (i j : ℕ) (bi : i < suc d) (bj : j < suc d) (f : Meet k (get_or k i 0) l (get_or l j 0)) where
  f' : Meet l (get_or l j 0) k (get_or k i 0)
  f' = meet-sym k l (get_or k i 0) (get_or l j 0) f

  q' : l ≢ k
  q' w = q (sym w)

  aligned : (a : ℕ) → get_or k (skip i a) 0 ≡ get_or l (skip j a) 0
  aligned a =
      sym (common-skip k l (complex.plain k in-k) i (omega (arith, complex.long k in-k))
      (out_of d n K complex distinct agree k l in-k in-l q i j bi bj f) (stays-in d n K complex distinct agree k l in-k in-l q i j bi bj f) a)
      ∙ ap (λ (w : List ℕ). get_or w a 0) (agreed d n K complex distinct agree k l in-k in-l q i j bi bj f)
      ∙ common-skip l k (complex.plain l in-l) j (omega (arith, complex.long l in-l))
      (out_of d n K complex distinct agree l k in-l in-k q' j i bj bi f') (stays-in d n K complex distinct agree l k in-l in-k q' j i bj bi f') a

  balance : (x : ℕ) × (y : ℕ) × (inversions k + (x + x) + (j + rank l (get_or l j 0)) ≡ inversions l + (y + y) + (i + rank k (get_or k i 0)))
  balance =
      let (x, g) = dropped d k (complex.long k in-k) (complex.plain k in-k) i bi in
      let (y, h) = dropped d l (complex.long l in-l) (complex.plain l in-l) j bj in (
        x,
        y,
        omega (
          arith,
          sum-2 d d (falling (λ a. get_or k (skip i a) 0)) (falling (λ a. get_or l (skip j a) 0))
              (λ a b u w. cc (aligned a, aligned b)),
        ),
      )

  to-words : (s r : ℕ) → Odd (s + rank k (get_or k i 0) + (r + rank l (get_or l j 0))) → Odd (s + inversions k + i + (r + inversions l + j))
  unfolding Odd
  to-words s r (h, e) =
      let (x, y, w) = balance in
      (h + inversions l + y + i - (rank l (get_or l j 0) + x), omega arith)

  to-cells : (s r : ℕ) → Odd (s + i + (r + j)) → Odd (s + inversions k + rank k (get_or k i 0) + (r + inversions l + rank l (get_or l j 0)))
  unfolding Odd
  to-cells s r (h, e) =
      let (x, y, w) = balance in
      (h + inversions l + y + rank k (get_or k i 0) - (j + x), omega arith)

-- a cell's sign times its word's
pub record Turned (S : Signs) (k : List ℕ) (z : ℕ) : Type 0 where
  pub sign : ℕ
  pub signed : S k sign
  pub is : z ≡ sign + inversions k

module _ (d n : ℕ) (K : Words) (S : Signs) (in-S : (k : List ℕ) (s : ℕ) → S k s → K k) (complex : Complex d n K) (distinct : Distinct K)
    (agree : WordsAgreeOnFacets d K) where
  again : (k : List ℕ) (s r : ℕ) (a : Turned S k s) (b : Turned S k r) → Even (a.sign + b.sign) → Even (s + r)
  unfolding Even
  again k s r a b (h, e) = (h + inversions k, omega (arith, a.is, b.is))

  -- signs of cells that are coherent give signs of words that are
  pub words-coherent : CoherentByRank d S → CoherentByPlace d (Turned S)
  words-coherent o = record {
    one = λ k s r a b. again k s r a b (o.one k a.sign b.sign a.signed b.signed);
    across = λ pos k l s r a b q i j bi bj f.
        subst Odd (omega (arith, a.is, b.is))
        (to-words d n K complex distinct agree k l (in-S k a.sign a.signed) (in-S l b.sign b.signed) q i j bi bj f a.sign b.sign
        (o.across pos k l a.sign b.sign a.signed b.signed q i j bi bj f));
  }

  -- and the other way round
  pub cells-oriented : CoherentByPlace d S → CoherentByRank d (Turned S)
  cells-oriented o = record {
    one = λ k s r a b. again k s r a b (o.one k a.sign b.sign a.signed b.signed);
    across = λ pos k l s r a b q i j bi bj f.
        subst Odd (omega (arith, a.is, b.is))
        (to-cells d n K complex distinct agree k l (in-S k a.sign a.signed) (in-S l b.sign b.signed) q i j bi bj f a.sign b.sign
        (o.across pos k l a.sign b.sign a.signed b.signed q i j bi bj f));
  }

-- CHILDREN'S CELLS INHERIT DIRECTION: with coherent signs of the cells, and words that agree on facets
module _ (d R n n' : ℕ) (K M : Words) (share : ℕ → ℕ → ℕ) (S : Signs) (in-S : (k : List ℕ) (s : ℕ) → S k s → K k) (pos : 0 < R)
    (complex : Complex d n K) (complex' : Complex d n' M) (refined : Refined d R K M share) (distinct : Distinct K) (agree : WordsAgreeOnFacets d K) where
  as-turned : (m : List ℕ) (z : ℕ) → Directed d R K M share S m z → Turned (Handed d R K M share (Turned S)) m z
  as-turned m z a = record {
    sign = a.sign + inversions a.k + inversions a.child.order;
    signed = record {
      k = a.k;
      c = a.c;
      in_K = a.in_K;
      in_M = a.in_M;
      child = a.child;
      names = a.names;
      sign = a.sign + inversions a.k;
      signed = record { sign = a.sign; signed = a.signed; is = refl };
      is = refl;
    };
    is = omega (arith, a.is);
  }

  pub oriented-refined : CoherentByRank d S → CoherentByRank d (Directed d R K M share S)
  oriented-refined o =
      let t : CoherentByRank d (Turned (Handed d R K M share (Turned S))) =
      cells-oriented d n' M (Handed d R K M share (Turned S)) (λ m z a. a.in_M) complex'
      (distinct-refined d R n K M share pos complex refined distinct)
      (facets-refined d R n K M share pos complex refined agree)
      (coherent-refined d R n K M share (Turned S) pos complex refined distinct agree (words-coherent d n K S in-S complex distinct agree o)) in
      record {
        one = λ m s r a b. t.one m s r (as-turned m s a) (as-turned m r b);
        across = λ h m l s r a b. t.across h m l s r (as-turned m s a) (as-turned l r b);
      }

  -- and each child has such a sign where each cell has one
  pub every-child : ((k : List ℕ) → K k → (s : ℕ) × S k s) → (m : List ℕ) → M m → (s : ℕ) × Directed d R K M share S m s
  every-child f m h =
      let (k, c, in_K, child, names) = refined.each m h in
      let (s, g) = f k in_K in (
        s + (inversions k + inversions child.order + inversions m),
        record { k = k; c = c; in_K = in_K; in_M = h; child = child; names = names; sign = s; signed = g; is = refl },
      )
