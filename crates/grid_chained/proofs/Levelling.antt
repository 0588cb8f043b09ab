-- Levelling the ends of steps: the sum of the labels falls with each change, and where nothing changed every class has one label, its least point. Assumes nothing.
use mathlib.Core.Path.{◌≡◌, refl, sym, ap, subst, ◌∙◌}
use mathlib.Core.Bool.{Bool, true, false, cond, ◌||◌, false≢true}
use mathlib.Core.Logic.{◌⊎◌, inl, inr, ⊎_elim}
use mathlib.Core.List.{List, [], ◌∷◌}
use Prim.Native.Nat.{ℕ, zero, suc, ◌+◌, ◌≤◌, ◌<◌}
use native.Mathlib.Nat.{not-suc-le-zero, le_of_suc-le-suc}
use native.Mathlib.Omega.{arith}
use lib.ListN.{length, set, length-set}
use lib.Seq.{get_or-set_same, get_or-set_other}
use Rattle.quotient.specs.declared.Grid.{Grid}
use Rattle.quotient.specs.Reduce.{wrapped_at}
use Rattle.quotient.specs.Points.{points_of, point_of}
use Rattle.quotient.specs.Chain.{stepped_to, Step, Joined, same, on, back}
use Rattle.quotient.proofs.Laws.{lt-or-ge}
use Rattle.quotient.proofs.Chain.{joined-trans, joined-sym}
use Rattle.grid_chained.specs.Classing.{at}
use Rattle.grid_chained.specs.WorkNumber.{Labelled}
use Rattle.grid_chained.specs.WorkLevel.{total, Marked, Levelled, second, first, level, Even, Pass}
use Rattle.grid_chained.proofs.Stepping.{stepped-lt, step-there, step-wrapped, step-leads}

-- a lesser label makes a lesser sum
total-set : (l : List ℕ) (i x : ℕ) → i < length l → x < at l i → total (set l i x) < total l
unfolding total
total-set [] i x h n = absurd (not-suc-le-zero h)
total-set (y ∷ ys) zero x h n = omega arith
total-set (y ∷ ys) (suc i) x h n = let z : total (set ys i x) < total ys = total-set ys i x (le_of_suc-le-suc h) n in omega arith

or-true : (a b : Bool) → a || b ≡ true → (a ≡ true) ⊎ ((a ≡ false) × (b ≡ true))
or-true true b e = inl refl
or-true false b e = inr (refl, e)

or-false : (a b : Bool) → a || b ≡ false → (a ≡ false) × (b ≡ false)
or-false true b e = absurd (false≢true (sym e))
or-false false b e = (refl, e)

pub below_or : (A : Type 0) (b a : ℕ) → A × (b < a + 1) → (A × (b < a)) ⊎ (A × (b ≡ a))
below_or A b a h = ⊎_elim (λ (l : b < a). inl (h.0, l)) (λ (l : a ≤ b). inr (h.0, let u : b < a + 1 = h.1 in omega arith)) (lt-or-ge b a)

pub before-or : (B : Type 0) (b a : ℕ) → (b < a + 1) × B → ((b < a) × B) ⊎ ((b ≡ a) × B)
before-or B b a h = ⊎_elim (λ (l : b < a). inl (l, h.1)) (λ (l : a ≤ b). inr (let u : b < a + 1 = h.0 in omega arith, h.1)) (lt-or-ge b a)

-- one point more has its own number
pub own-more : (l : List ℕ) (v : ℕ) → v < length l → ((p : ℕ) → p < v → at l p ≡ p) → (p : ℕ) → p < v + 1 → at (set l v v) p ≡ p
own-more l v h k p o =
    ⊎_elim
    (λ (w : p < v). get_or-set_other l v p v 0 (λ z. omega arith) ∙ k p w)
    (λ (w : v ≤ p). let z : p ≡ v = omega arith in subst (λ (y : ℕ). at (set l v v) y ≡ y) (sym z) (get_or-set_same l v v 0 h))
    (lt-or-ge p v)

module _ (g : Grid) where
  -- ---- passes one after the other

  pub pass-none : (Seen : ℕ → ℕ → Type 0) (l : List ℕ) → Marked g l → ((v a : ℕ) → Seen v a → Even g l v a) → Pass g Seen l l false
  pass-none Seen l k e = record { marked = k; fell = λ z. absurd (false≢true z); kept = λ z. refl; even = λ z. e }

  pub pass-more : (R S T : ℕ → ℕ → Type 0) (l m n : List ℕ) (x y z : Bool) → Pass g R l m x → Pass g S m n y → z ≡ x || y → ((v a : ℕ) → T v a → R v a ⊎ S v a) → Pass g T l n z
  pass-more R S T l m n x y z p q e split =
      record {
        marked = q.marked;
        fell = λ t. ⊎_elim
            (λ (u : x ≡ true). falls-first u (y) refl)
            (λ (u : (x ≡ false) × (y ≡ true)). let a : total n < total m = q.fell u.1 in let b : m ≡ l = p.kept u.0 in subst (λ (w : List ℕ). total n < total w) b a)
            (or-true x y (sym e ∙ t));
        kept = λ t. let u = or-false x y (sym e ∙ t) in q.kept u.1 ∙ p.kept u.0;
        even = λ t v a s.
            let u = or-false x y (sym e ∙ t) in
            ⊎_elim (λ (r : R v a). p.even u.0 v a r) (λ (r : S v a). subst (λ (w : List ℕ). Even g w v a) (p.kept u.0) (q.even u.1 v a r)) (split v a s);
      }
    where
      falls-first : x ≡ true → (b : Bool) → y ≡ b → total n < total l
      falls-first u true w = let a : total m < total l = p.fell u in let b : total n < total m = q.fell w in omega arith
      falls-first u false w = subst (λ (k : List ℕ). total k < total l) (sym (q.kept w)) (p.fell u)

  -- less is seen
  pub pass-along : (R T : ℕ → ℕ → Type 0) (l m : List ℕ) (x : Bool) → Pass g R l m x → ((v a : ℕ) → T v a → R v a) → Pass g T l m x
  pass-along R T l m x p f = record { marked = p.marked; fell = p.fell; kept = p.kept; even = λ t v a s. p.even t v a (f v a s) }

  -- what a round leaves is less than what it found, with one more while it goes on
  pub round-less : (R : ℕ → ℕ → Type 0) (l m : List ℕ) (x b : Bool) → b ≡ true → Pass g R l m x → total m + cond x 1 0 < total l + cond b 1 0
  round-less R l m true b e p = let a : total m < total l = p.fell refl in rw e (omega arith)
  round-less R l m false b e p = let a : total m ≡ total l = ap total (p.kept refl) in rw e (omega arith)

  -- ---- one step

  -- a point takes the label of a point joined to it, where that is less
  lowered : (l : List ℕ) (p q : ℕ) → Marked g l → p < points_of g → q < points_of g → Joined g p q → at l q < at l p → Marked g (set l p (at l q))
  lowered l p q k hp hq j n =
      record {
        long = length-set l p (at l q) ∙ k.long;
        lower = λ r h. by_place r h (λ x. x ≤ r) (λ e. let u : at l p ≤ p = k.lower p hp in omega arith) (k.lower r h);
        joined = λ r h. by_place r h (λ x. Joined g r x) (λ e. subst (λ (w : ℕ). Joined g w (at l q)) (sym e) (joined-trans j (k.joined q hq))) (k.joined r h);
      }
    where
      inside : p < length l
      inside = subst (λ (w : ℕ). p < w) (sym k.long) hp

      by_place : (r : ℕ) → r < points_of g → (P : ℕ → Type 0) → (r ≡ p → P (at l q)) → P (at l r) → P (at (set l p (at l q)) r)
      by_place r h P here there =
          ⊎_elim
          (λ (u : r < p). subst P (sym (get_or-set_other l p r (at l q) 0 (λ e. omega arith))) there)
          (λ (u : p ≤ r).
          ⊎_elim
          (λ (w : p < r). subst P (sym (get_or-set_other l p r (at l q) 0 (λ e. omega arith))) there)
          (λ (w : r ≤ p). let e : r ≡ p = omega arith in subst (λ (s : ℕ). P (at (set l p (at l q)) s)) (sym e) (subst P (sym (get_or-set_same l p (at l q) 0 inside)) (here e)))
          (lt-or-ge p r))
          (lt-or-ge r p)

  module _ (v a : ℕ) (hv : v < points_of g) (ha : a < g.d) where
    pub level-none : (l : List ℕ) → Marked g l → wrapped_at g v a ≡ false → Pass g (λ x b. (x ≡ v) × (b ≡ a)) l l false
    level-none l k e =
        pass-none (λ x b. (x ≡ v) × (b ≡ a)) l k (λ x b s t. absurd (false≢true (sym e ∙ subst (λ (w : ℕ). wrapped_at g v w ≡ true) s.1 (subst (λ (w : ℕ). wrapped_at g w b ≡ true) s.0 t))))

    pub level-pass : (l l' : List ℕ) (r : Bool) (w : ℕ) → Marked g l → wrapped_at g v a ≡ true → w ≡ point_of g (stepped_to g v a) → Levelled l v w l' r → Pass g (λ x b. (x ≡ v) × (b ≡ a)) l l' r
    level-pass l l' r w k e q (second n) =
        let hw : w < points_of g = subst (λ (x : ℕ). x < points_of g) (sym q) (stepped-lt g v a) in
        let j : Joined g v w = subst (λ (x : ℕ). Joined g v x) (sym q) (on same (step-there g v a hv ha e)) in
        record {
          marked = lowered l w v k hw hv (joined-sym j) n;
          fell = λ z. total-set l w (at l v) (subst (λ (x : ℕ). w < x) (sym k.long) hw) n;
          kept = λ z. absurd (false≢true (sym z));
          even = λ z. absurd (false≢true (sym z));
        }
    level-pass l l' r w k e q (first n) =
        let hw : w < points_of g = subst (λ (x : ℕ). x < points_of g) (sym q) (stepped-lt g v a) in
        let j : Joined g v w = subst (λ (x : ℕ). Joined g v x) (sym q) (on same (step-there g v a hv ha e)) in
        record {
          marked = lowered l v w k hv hw j n;
          fell = λ z. total-set l v (at l w) (subst (λ (x : ℕ). v < x) (sym k.long) hv) n;
          kept = λ z. absurd (false≢true (sym z));
          even = λ z. absurd (false≢true (sym z));
        }
    level-pass l l' r w k e q (level n) =
        pass-none (λ x b. (x ≡ v) × (b ≡ a)) l k (λ x b s t.
        subst (λ (y : ℕ). at l y ≡ at l (point_of g (stepped_to g y b))) (sym s.0) (subst (λ (y : ℕ). at l v ≡ at l (point_of g (stepped_to g v y))) (sym s.1) (n ∙ ap (at l) q)))

  -- ---- the end

  -- each point's own number
  pub own-marked : (l : List ℕ) → length l ≡ points_of g → ((p : ℕ) → p < length l → at l p ≡ p) → Marked g l
  own-marked l e h =
      record {
        long = e;
        lower = λ p u. let z : at l p ≡ p = h p (subst (λ (x : ℕ). p < x) (sym e) u) in omega arith;
        joined = λ p u. subst (λ (x : ℕ). Joined g p x) (sym (h p (subst (λ (x : ℕ). p < x) (sym e) u))) same;
      }

  module _ (l : List ℕ) (k : Marked g l) (even : (v a : ℕ) → (v < points_of g) × (a < g.d) → Even g l v a) where
    step-level : (p q : ℕ) → Step g p q → at l p ≡ at l q
    step-level p q s = even p s.axis (s.first, s.within) (step-wrapped g p q s) ∙ ap (at l) (sym (step-leads g p q s))

    chain-level : {p q : ℕ} → Joined g p q → at l p ≡ at l q
    chain-level same = refl
    chain-level (on {q = q} {r = r} j s) = chain-level j ∙ step-level q r s
    chain-level (back {q = q} {r = r} j s) = chain-level j ∙ sym (step-level r q s)

    pub even-labelled : Labelled g l
    even-labelled =
        record {
          long = k.long;
          least = λ p h.
              record {
                within = (let u : at l p ≤ p = k.lower p h in omega arith);
                chain = k.joined p h;
                first = λ r n j. let e : at l p ≡ at l r = chain-level j in let u : at l r ≤ r = k.lower r n in omega arith;
              };
        }
