-- Classes have one numbering: two that number them in the order of their least points agree. Assumes nothing.
use mathlib.Core.Path.{◌≡◌, sym, ap, subst, ◌∙◌}
use mathlib.Core.Logic.{◌⊎◌, inl, inr, ⊎_elim}
use Prim.Native.Nat.{ℕ, zero, suc, ◌≤◌, ◌<◌}
use native.Mathlib.Nat.{not-suc-le-zero}
use native.Mathlib.Omega.{arith}
use Rattle.quotient.specs.declared.Grid.{Grid}
use Rattle.quotient.specs.Points.{points_of}
use Rattle.quotient.specs.Chain.{same}
use Rattle.quotient.proofs.Laws.{lt-or-eq, lt-or-ge}
use Rattle.grid_chained.specs.Classing.{Least, Classing}

-- the first place below n where c is x
record First (c : ℕ → ℕ) (x n : ℕ) : Type 0 where
  pub place : ℕ
  pub within : place < n
  pub there : c place ≡ x
  pub none : (r : ℕ) → r < place → c r ≡ x → ⊥

seek : (c : ℕ → ℕ) (x n : ℕ) → ((r : ℕ) → r < n → c r ≡ x → ⊥) ⊎ First c x n
seek c x zero = inl (λ r l e. not-suc-le-zero l)
seek c x (suc n) =
    ⊎_elim
    (λ (f : (r : ℕ) → r < n → c r ≡ x → ⊥).
    ⊎_elim
    (λ (e : c n ≡ x). inr (record { place = n; within = omega arith; there = e; none = f }))
    (λ (e : c n ≡ x → ⊥). inl (λ r l q. ⊎_elim (λ (m : r < n). f r m q) (λ (m : r ≡ n). e (subst (λ (z : ℕ). c z ≡ x) m q)) (lt-or-eq r n l)))
    (same_or (c n) x))
    (λ (w : First c x n). inr (record { place = w.place; within = (let k : w.place < n = w.within in omega arith); there = w.there; none = w.none }))
    (seek c x n)
  where
    same_or : (a b : ℕ) → (a ≡ b) ⊎ (a ≡ b → ⊥)
    same_or a b =
        ⊎_elim
        (λ (l : a < b). inr (λ e. omega arith))
        (λ (l : b ≤ a). ⊎_elim (λ (m : b < a). inr (λ e. omega arith)) (λ (m : a ≤ b). inl (omega arith)) (lt-or-ge b a))
        (lt-or-ge a b)

module _ (g : Grid) where
  -- the first point of its number is the least of its class
  first-least : (c : ℕ → ℕ) (m : ℕ) → Classing g c m → (p : ℕ) → p < points_of g → ((r : ℕ) → r < p → c r ≡ c p → ⊥) → Least g p p
  first-least c m k p h f =
      record {
        within = h;
        chain = same;
        first = λ r l j. ⊎_elim (λ (u : r < p). absurd (f r u (sym ((k.classes p r h l).1 j)))) (λ (u : p ≤ r). u) (lt-or-ge r p);
      }

  module _ (c c' : ℕ → ℕ) (m m' : ℕ) (k : Classing g c m) (k' : Classing g c' m') (p : ℕ) (h : p < points_of g) (same-before : (q : ℕ) → q < p → c q ≡ c' q) (low : Least g p p) where
    -- a lesser number is used before p, by both
    not-less : c' p < c p → ⊥
    not-less l =
        let b : c p < m = k.below p h in
        let w = k.each (c' p) (omega arith) in
        ⊎_elim
        (λ (f : (r : ℕ) → r < points_of g → c r ≡ c' p → ⊥). f w.0 w.1 w.2)
        (λ (q : First c (c' p) (points_of g)).
        let t : c q.place ≡ c' p = q.there in
        let u : Least g q.place q.place = first-least c m k q.place q.within (λ r n e. q.none r n (e ∙ t)) in
        ⊎_elim
        (λ (n : p < q.place). let z : c p < c q.place = k.rising p q.place low u n in omega arith)
        (λ (n : q.place ≤ p).
        ⊎_elim
        (λ (o : q.place < p).
        let x : c' q.place ≡ c' p = sym (same-before q.place o) ∙ t in
        let y : c q.place ≡ c p = (k.classes q.place p q.within h).1 ((k'.classes q.place p q.within h).0 x) in
        omega arith)
        (λ (o : p ≤ q.place). let e : q.place ≡ p = omega arith in let y : c q.place ≡ c p = ap c e in omega arith)
        (lt-or-ge q.place p))
        (lt-or-ge p q.place))
        (seek c (c' p) (points_of g))

  module _ (c c' : ℕ → ℕ) (m m' : ℕ) (k : Classing g c m) (k' : Classing g c' m') where
    one-step : (p : ℕ) → p < points_of g → ((q : ℕ) → q < p → c q ≡ c' q) → c p ≡ c' p
    one-step p h before =
        ⊎_elim
        (λ (f : (r : ℕ) → r < p → c r ≡ c p → ⊥).
        let low : Least g p p = first-least c m k p h f in
        let x : c' p < c p → ⊥ = not-less c c' m m' k k' p h before low in
        let y : c p < c' p → ⊥ = not-less c' c m' m k' k p h (λ q l. sym (before q l)) low in
        ⊎_elim (λ (l : c p < c' p). absurd (y l)) (λ (l : c' p ≤ c p). ⊎_elim (λ (n : c' p < c p). absurd (x n)) (λ (n : c p ≤ c' p). omega arith) (lt-or-ge (c' p) (c p))) (lt-or-ge (c p) (c' p)))
        (λ (q : First c (c p) p).
        let l : q.place < p = q.within in
        let n : q.place < points_of g = omega arith in
        sym q.there ∙ before q.place l ∙ (k'.classes q.place p n h).1 ((k.classes q.place p n h).0 q.there))
        (seek c (c p) p)

    up_to : (n : ℕ) → n ≤ points_of g → (p : ℕ) → p < n → c p ≡ c' p
    up_to zero u p l = absurd (not-suc-le-zero l)
    up_to (suc n) u p l =
        let v : n ≤ points_of g = omega arith in
        let before : (q : ℕ) → q < n → c q ≡ c' q = up_to n v in
        ⊎_elim (λ (o : p < n). before p o) (λ (o : p ≡ n). subst (λ (x : ℕ). c x ≡ c' x) (sym o) (one-step n u before)) (lt-or-eq p n l)

    no_more : (m : ℕ) (m' : ℕ) (c c' : ℕ → ℕ) → Classing g c m → Classing g c' m' → ((p : ℕ) → p < points_of g → c p ≡ c' p) → m < m' → ⊥
    no_more m m' c c' k k' e l =
        let w = k'.each m l in
        let x : c w.0 < m = k.below w.0 w.1 in
        let y : c w.0 ≡ m = e w.0 w.1 ∙ w.2 in
        omega arith

    -- two numberings of the classes agree in every point and in their count
    pub classing-one : ((p : ℕ) → p < points_of g → c p ≡ c' p) × (m ≡ m')
    classing-one =
        let e : (p : ℕ) → p < points_of g → c p ≡ c' p = up_to (points_of g) (omega arith) in (
          e,
          ⊎_elim
              (λ (l : m < m'). absurd (no_more m m' c c' k k' e l))
              (λ (l : m' ≤ m). ⊎_elim (λ (n : m' < m). absurd (no_more m' m c' c k' k (λ p h. sym (e p h)) n)) (λ (n : m ≤ m'). omega arith) (lt-or-ge m' m))
              (lt-or-ge m m'),
        )
