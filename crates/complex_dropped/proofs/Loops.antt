-- The loops, one turn at a time. Assumes nothing.
use mathlib.Core.Bool.{Bool, true, false, not}
use mathlib.Core.List.{List, [], ◌∷◌, ◌++◌, map, map-append}
use mathlib.Core.Path.{◌≡◌, refl, sym, ap, ◌∙◌}
use mathlib.Core.Logic.{⊎_elim}
use Prim.Native.Nat.{ℕ, ◌+◌, ◌<◌, ◌≤◌}
use native.Mathlib.Nat.{eq-or-lt_of_le}
use native.Mathlib.Numerals.{add-one}
use native.Mathlib.Omega.{arith}
use lib.Dec.{eqb}
use lib.ListN.{length, get_or, take, drop, set, length-append, length-map, length-set}
use lib.Seq.{length-take-le, get_or-set_same, get_or-set_other}
use borrow.Author.Tests.{eq-eqb, ne_eqb}
use Rattle.lists.proofs.Front.{put, take_more}
use Rattle.complex.specs.Skeleton.{numbers}
use Rattle.complex_dropped.specs.Work.{Numbered}
use Rattle.complex_dropped.proofs.Counting.{numbers-yes, numbers-no, count_most}

-- ---- one more renamed
pub rename-turn : (f : ℕ → ℕ) (xs to₀ to : List ℕ) (i : ℕ) → i < length xs → i < length to₀ → to ≡ map f (take i xs) ++ drop i to₀ → set to i (f (get_or xs i 0)) ≡ map f (take (i + 1) xs) ++ drop (i + 1) to₀
rename-turn f xs to₀ to i h l e =
    ap (λ (t : List ℕ). set t i (f (get_or xs i 0))) e
    ∙ put (map f (take i xs)) to₀ i (f (get_or xs i 0)) (length-map (take i xs) f ∙ length-take-le i xs (omega arith)) l
    ∙ ap (λ (t : List ℕ). t ++ drop (i + 1) to₀) (sym (map-append f (take i xs) (get_or xs i 0 ∷ [])) ∙ ap (map f) (sym (take_more xs i h)))

-- ---- one more number that passes is listed, or one that fails is not
pub list-skip : (p : ℕ → Bool) (k : ℕ) → p k ≡ false → numbers p (k + 1) ≡ numbers p k
list-skip p k e = rw (add-one k) (numbers-no p k e)

pub list-turn : (p : ℕ → Bool) (k j : ℕ) (to₀ to : List ℕ) → p k ≡ true → j ≡ length (numbers p k) → to ≡ numbers p k ++ drop j to₀ → j < length to₀ →
    (j + 1 ≡ length (numbers p (k + 1))) × (set to j k ≡ numbers p (k + 1) ++ drop (j + 1) to₀)
list-turn p k j to₀ to e n t h =
    let m : numbers p (k + 1) ≡ numbers p k ++ (k ∷ []) = rw (add-one k) (numbers-yes p k e) in (
      omega (arith, ap length m, length-append (numbers p k) (k ∷ [])),
      ap (λ (l : List ℕ). set l j k) t ∙ put (numbers p k) to₀ j k (sym n) h ∙ ap (λ (l : List ℕ). l ++ drop (j + 1) to₀) (sym m),
    )

-- ---- the marked places below v are listed, and their marks replaced
pub record Numbers (marks places : List ℕ) (marks' places' : List ℕ) (next v : ℕ) : Type 0 where
  pub most : v ≤ length marks
  pub marks_long : length marks' ≡ length marks
  pub places-long : length places' ≡ length places
  pub many : next ≡ length (numbers (λ v. not (eqb (get_or marks v 0) 0)) v)
  pub listed : places' ≡ numbers (λ v. not (eqb (get_or marks v 0) 0)) v ++ drop next places
  pub each : (u : ℕ) → u < v → not (eqb (get_or marks u 0) 0) ≡ true → get_or marks' u 0 ≡ length (numbers (λ v. not (eqb (get_or marks v 0) 0)) u)
  pub rest : (u : ℕ) → v ≤ u → get_or marks' u 0 ≡ get_or marks u 0

module _ (marks places : List ℕ) where
  abbrev Marked : ℕ → Bool
  Marked v = not (eqb (get_or marks v 0) 0)

  pub numbers-none : Numbers marks places marks places 0 0
  unfolding numbers
  numbers-none = record { most = omega arith; marks_long = refl; places-long = refl; many = refl; listed = refl; each = λ u h. absurd (omega arith); rest = λ u h. refl }

  module _ (marks' places' : List ℕ) (next v : ℕ) (n : Numbers marks places marks' places' next v) (low : v < length marks) where
    pub next-most : next ≤ v
    next-most = omega (arith, n.many, count_most Marked v)

    unmarked : get_or marks' v 0 ≡ 0 → Marked v ≡ false
    unmarked e = ap not (eq-eqb (get_or marks v 0) 0 (sym (n.rest v (omega arith)) ∙ e))

    is-marked : (get_or marks' v 0 ≡ 0 → ⊥) → Marked v ≡ true
    is-marked f = ap not (ne_eqb (get_or marks v 0) 0 (λ e. f (n.rest v (omega arith) ∙ e)))

    pub numbers-skip : get_or marks' v 0 ≡ 0 → Numbers marks places marks' places' next (v + 1)
    numbers-skip e =
        let s : numbers Marked (v + 1) ≡ numbers Marked v = list-skip Marked v (unmarked e) in
        record {
          most = omega arith;
          marks_long = n.marks_long;
          places-long = n.places-long;
          many = n.many ∙ ap length (sym s);
          listed = n.listed ∙ ap (λ (l : List ℕ). l ++ drop next places) (sym s);
          each = λ u h t.
              ⊎_elim (λ (q : u ≡ v). absurd (clash (sym t ∙ ap Marked q ∙ unmarked e))) (λ (l : u < v). n.each u l t) (eq-or-lt_of_le (omega arith));
          rest = λ u h. n.rest u (omega arith);
        }
      where
        clash : true ≡ false → ⊥
        clash e = let z : ◌≡◌ {A = ℕ} 0 1 = cc in omega arith

    pub numbers_more : (get_or marks' v 0 ≡ 0 → ⊥) → length marks ≤ length places → Numbers marks places (set marks' v next) (set places' next v) (next + 1) (v + 1)
    numbers_more f room =
        let t = list-turn Marked v next places places' (is-marked f) n.many n.listed (omega (arith, next-most)) in
        record {
          most = omega arith;
          marks_long = length-set marks' v next ∙ n.marks_long;
          places-long = length-set places' next v ∙ n.places-long;
          many = t.0;
          listed = t.1;
          each = λ u h q.
              ⊎_elim (λ (e : u ≡ v). ap (λ (z : ℕ). get_or (set marks' v next) z 0) e ∙ get_or-set_same marks' v next 0 (omega (arith, n.marks_long)) ∙ n.many ∙ ap (λ (z : ℕ). length (numbers Marked z)) (sym e))
              (λ (l : u < v). get_or-set_other marks' v u next 0 (λ e. omega arith) ∙ n.each u l q) (eq-or-lt_of_le (omega arith));
          rest = λ u h. get_or-set_other marks' v u next 0 (λ e. omega arith) ∙ n.rest u (omega arith);
        }

  pub numbers-done : (marks' places' : List ℕ) (next v : ℕ) → Numbers marks places marks' places' next v → length marks ≤ v → Numbered marks places next marks' places'
  numbers-done marks' places' next v n h =
      let e : v ≡ length marks = omega (arith, n.most) in
      record {
        many = n.many ∙ ap (λ (z : ℕ). length (numbers Marked z)) e;
        listed = n.listed ∙ ap (λ (z : ℕ). numbers Marked z ++ drop next places) e;
        each = λ u l t. n.each u (omega arith) t;
      }
