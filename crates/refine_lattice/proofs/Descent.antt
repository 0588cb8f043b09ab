-- K12: with coherent signs of the cells and words that agree on facets, the parent's sign times the determinant of the child's Jacobian, which is 1 or -1,
-- is coherent over the children. Assumes nothing.
use mathlib.Core.Path.{◌≡◌, refl, sym, ap, ◌∙◌}
use mathlib.Core.Logic.{◌⊎◌, inl, inr, ⊎_elim}
use mathlib.Core.List.{List}
use Prim.Native.Nat.{ℕ, zero, suc, ◌+◌, ◌*◌, ◌-◌, ◌<◌}
use native.Mathlib.Omega.{arith}
use lib.ListN.{get_or}
use lib.IntN.{ℤ, pos, negsuc, neg_ℤ, ◌*ℤ◌, pos-ne-negsuc}
use Rattle.refine_lattice.specs.Complex.{Words, Complex, Refined, WordsAgreeOnFacets}
use Rattle.refine_lattice.specs.Conform.{Distinct}
use Rattle.multiindex.specs.Sort.{inversions}
use Rattle.refine_lattice.specs.Signs.{Even, Odd, Signs, CoherentByRank, rank, Directed}
use Rattle.refine_lattice.specs.Jacobian.{flips, jacobian, laplace, Descends}
use Rattle.refine_lattice.proofs.Columns.{flips-add, flips-even}
use Rattle.refine_lattice.proofs.Jacobian.{determinant}
use Rattle.refine_lattice.proofs.Laplace.{is-determinant}
use Rattle.refine_lattice.proofs.Cells.{oriented-refined}

-- signs and numbers
even-or-odd : (n : ℕ) → ((h : ℕ) × (n ≡ h + h)) ⊎ ((h : ℕ) × (n ≡ suc (h + h)))
even-or-odd zero = inl (0, refl)
even-or-odd (suc n) =
    ⊎_elim (λ p. inr (p.0, ap suc p.1)) (λ p. inl (suc p.0, omega (arith, p.1))) (even-or-odd n)

flips-odd : (h : ℕ) → flips (suc (h + h)) (pos 1) ≡ negsuc 0
flips-odd h = ap neg_ℤ (flips-even h (pos 1))

-- the determinant of a child's Jacobian is 1 or -1
pub unimodular : (n : ℕ) → (flips n (pos 1) ≡ pos 1) ⊎ (flips n (pos 1) ≡ negsuc 0)
unimodular n =
    ⊎_elim
    (λ p. inl (ap (λ (x : ℕ). flips x (pos 1)) p.1 ∙ flips-even p.0 (pos 1)))
    (λ p. inr (ap (λ (x : ℕ). flips x (pos 1)) p.1 ∙ flips-odd p.0))
    (even-or-odd n)

pub parity-of : (s t : ℕ) → flips s (pos 1) ≡ flips t (pos 1) → Even (s + t)
unfolding Even
parity-of s t e =
    ⊎_elim
    (λ p. ⊎_elim
    (λ q. (p.0 + q.0, omega (arith, p.1, q.1)))
    (λ q. absurd (pos-ne-negsuc 1 0 (sym (even s p) ∙ e ∙ odd t q)))
    (even-or-odd t))
    (λ p. ⊎_elim
    (λ q. absurd (pos-ne-negsuc 1 0 (sym (even t q) ∙ sym e ∙ odd s p)))
    (λ q. (suc (p.0 + q.0), omega (arith, p.1, q.1)))
    (even-or-odd t))
    (even-or-odd s)
  where
    even : (n : ℕ) → (h : ℕ) × (n ≡ h + h) → flips n (pos 1) ≡ pos 1
    even n p = ap (λ (x : ℕ). flips x (pos 1)) p.1 ∙ flips-even p.0 (pos 1)

    odd : (n : ℕ) → (h : ℕ) × (n ≡ suc (h + h)) → flips n (pos 1) ≡ negsuc 0
    odd n p = ap (λ (x : ℕ). flips x (pos 1)) p.1 ∙ flips-odd p.0

-- the product of signs
pub flips-times : (a b : ℕ) → flips a (pos 1) *ℤ flips b (pos 1) ≡ flips (a + b) (pos 1)
flips-times a b =
    ⊎_elim
    (λ p. ⊎_elim
    (λ q. cc (p, q) ∙ sym (flips-add a b (pos 1) ∙ ap (flips a) q ∙ p))
    (λ q. cc (p, q) ∙ sym (flips-add a b (pos 1) ∙ ap (flips a) q ∙ turned a ∙ ap neg_ℤ p))
    (unimodular b))
    (λ p. ⊎_elim
    (λ q. cc (p, q) ∙ sym (flips-add a b (pos 1) ∙ ap (flips a) q ∙ p))
    (λ q. cc (p, q) ∙ sym (flips-add a b (pos 1) ∙ ap (flips a) q ∙ turned a ∙ ap neg_ℤ p))
    (unimodular b))
    (unimodular a)
  where
    turned : (n : ℕ) → flips n (negsuc 0) ≡ neg_ℤ (flips n (pos 1))
    turned zero = refl
    turned (suc n) = ap neg_ℤ (turned n)

module _ (d R n n' : ℕ) (K M : Words) (share : ℕ → ℕ → ℕ) (S : Signs) (in-S : (k : List ℕ) (s : ℕ) → S k s → K k) (pos-R : 0 < R)
    (complex : Complex d n K) (complex' : Complex d n' M) (refined : Refined d R K M share) (distinct : Distinct K) (agree : WordsAgreeOnFacets d K) where
  module _ (m : List ℕ) (s : ℕ) (a : Descends d R K M share S m s) where
    abbrev N : ℕ
    N = inversions a.k + inversions a.child.order + inversions m

    pub jacobian-sign : laplace d (jacobian share a.parent a.cell) ≡ flips N (pos 1)
    jacobian-sign =
        determinant d R share a.k m (complex.long a.k a.in_K) (complex.plain a.k a.in_K) a.c a.child a.names
        a.parent a.cell a.parent_is a.cell_is (laplace d) (is-determinant d)

    plainly : Directed d R K M share S m (a.sign + N)
    plainly = record {
      k = a.k;
      c = a.c;
      in_K = a.in_K;
      in_M = a.in_M;
      child = a.child;
      names = a.names;
      sign = a.sign;
      signed = a.signed;
      is = refl;
    }

    same_sign_lem : Even (s + (a.sign + N))
    same_sign_lem =
        parity-of s (a.sign + N)
        (a.is ∙ ap (λ (x : ℤ). flips a.sign (pos 1) *ℤ x) jacobian-sign ∙ flips-times a.sign N)

  -- CHILDREN INHERIT DIRECTION
  pub inherits : CoherentByRank d S → CoherentByRank d (Descends d R K M share S)
  unfolding Even Odd
  inherits o =
      let t = oriented-refined d R n n' K M share S in-S pos-R complex complex' refined distinct agree o in
      record {
        one = λ m s r a b.
            let (x, e) = same_sign_lem m s a in
            let (y, f) = same_sign_lem m r b in
            let (z, g) = t.one m (a.sign + N m s a) (b.sign + N m r b) (plainly m s a) (plainly m r b) in
            (x + y - z, omega arith);
        across = λ h m l s r a b q i j bi bj w.
            let (x, e) = same_sign_lem m s a in
            let (y, f) = same_sign_lem l r b in
            let (z, g) = t.across h m l (a.sign + N m s a) (b.sign + N l r b) (plainly m s a) (plainly l r b) q i j bi bj w in
            (x + y + rank m (get_or m i 0) + rank l (get_or l j 0) - suc z, omega arith);
      }
