-- What a determinant does to the differences of points that change their sequence. Assumes nothing.
use mathlib.Core.Path.{◌≡◌, refl, sym, ap, ◌∙◌, subst}
use mathlib.Core.Logic.{◌≢◌}
use Prim.Native.Nat.{ℕ, zero, suc, ◌+◌, ◌*◌, ◌-◌, ◌≤◌, ◌<◌, suc-le-suc}
use native.Mathlib.Nat.{not-suc-le-zero, le_of_suc-le-suc, suc_inj}
use native.Mathlib.Decide.{ℕ_discrete, dec_lt}
use native.Mathlib.Omega.{arith}
use lib.IntN.{ℤ, pos, neg_ℤ, ◌+ℤ◌, ◌-ℤ◌, neg_ℤ-neg_ℤ, neg_ℤ-+ℤ, +ℤ_assoc, +ℤ_comm, +ℤ_idr, -ℤ-+ℤ_cancel}
use Rattle.refine_lattice.specs.Lattice.{Perm}
use Rattle.refine_lattice.specs.Jacobian.{Matrix, put, Determinant, flips}
use Rattle.refine_lattice.proofs.Tab.{step, step-yes, step-no}
use Rattle.refine_lattice.proofs.Perms.{one_place, onto}
use Rattle.refine_lattice.proofs.Span.{gone}
use Rattle.refine_lattice.proofs.Parity.{inverse, skip, skip-not, skip_below, skip-apart, same-inverse, lower, beneath, minor}

pub neg-sub : (a b : ℤ) → neg_ℤ (a -ℤ b) ≡ b -ℤ a
neg-sub a b = neg_ℤ-+ℤ a (neg_ℤ b) ∙ ap (λ (x : ℤ). neg_ℤ a +ℤ x) (neg_ℤ-neg_ℤ b) ∙ +ℤ_comm (neg_ℤ a) b

pub tele : (a b c : ℤ) → (c -ℤ b) +ℤ (b -ℤ a) ≡ c -ℤ a
tele a b c = sym (+ℤ_assoc (c -ℤ b) b (neg_ℤ a)) ∙ ap (λ (x : ℤ). x +ℤ neg_ℤ a) (-ℤ-+ℤ_cancel c b)

pub tele' : (a b c : ℤ) → (b -ℤ a) +ℤ (c -ℤ b) ≡ c -ℤ a
tele' a b c = +ℤ_comm (b -ℤ a) (c -ℤ b) ∙ tele a b c

pub put-at : (c : ℕ) (f : ℕ → ℤ) (A : Matrix) (r : ℕ) → put c f A c r ≡ f r
put-at zero f A r = refl
put-at (suc c) f A r = put-at c f (λ i. A (suc i)) r

pub put-off : (c : ℕ) (f : ℕ → ℤ) (A : Matrix) (j r : ℕ) → j ≢ c → put c f A j r ≡ A j r
put-off zero f A zero r n = absurd (n refl)
put-off zero f A (suc j) r n = refl
put-off (suc c) f A zero r n = refl
put-off (suc c) f A (suc j) r n = put-off c f (λ i. A (suc i)) j r (λ e. n (ap suc e))

pub flips-add : (a b : ℕ) (v : ℤ) → flips (a + b) v ≡ flips a (flips b v)
flips-add zero b v = ap (λ (n : ℕ). flips n v) {x = 0 + b} {y = b} (omega arith)
flips-add (suc a) b v = ap (λ (n : ℕ). flips n v) {x = suc a + b} {y = suc (a + b)} (omega arith) ∙ ap neg_ℤ (flips-add a b v)

pub flips-even : (h : ℕ) (v : ℤ) → flips (h + h) v ≡ v
flips-even zero v = refl
flips-even (suc h) v =
    ap (λ (n : ℕ). flips n v) {x = suc h + suc h} {y = suc (suc (h + h))} (omega arith)
    ∙ neg_ℤ-neg_ℤ (flips (h + h) v)
    ∙ flips-even h v

-- a function of n points that is negated where two points that stand side by side change places
abbrev pub Point : Type 0
Point = ℕ → ℤ

abbrev pub swap : ℕ → (ℕ → Point) → ℕ → Point
swap zero x zero = x 1
swap zero x (suc zero) = x 0
swap zero x (suc (suc j)) = x (suc (suc j))
swap (suc i) x zero = x 0
swap (suc i) x (suc j) = swap i (λ a. x (suc a)) j

abbrev pub cons : Point → (ℕ → Point) → ℕ → Point
cons p y zero = p
cons p y (suc i) = y i

pub swap-first : (i : ℕ) (x : ℕ → Point) → swap i x i ≡ x (suc i)
swap-first zero x = refl
swap-first (suc i) x = swap-first i (λ a. x (suc a))

pub swap-second : (i : ℕ) (x : ℕ → Point) → swap i x (suc i) ≡ x i
swap-second zero x = refl
swap-second (suc i) x = swap-second i (λ a. x (suc a))

pub swap-other : (i : ℕ) (x : ℕ → Point) (j : ℕ) → j ≢ i → j ≢ suc i → swap i x j ≡ x j
swap-other zero x zero n m = absurd (n refl)
swap-other zero x (suc zero) n m = absurd (m refl)
swap-other zero x (suc (suc j)) n m = refl
swap-other (suc i) x zero n m = refl
swap-other (suc i) x (suc j) n m = swap-other i (λ a. x (suc a)) j (λ e. n (ap suc e)) (λ e. m (ap suc e))

swap-skip : (q : ℕ) (x : ℕ → Point) (a : ℕ) → swap q x (skip q a) ≡ x (skip (suc q) a)
swap-skip zero x zero = refl
swap-skip zero x (suc a) = refl
swap-skip (suc q) x zero = refl
swap-skip (suc q) x (suc a) = swap-skip q (λ i. x (suc i)) a

pub record Alternating (n : ℕ) (F : (ℕ → Point) → ℤ) : Type 0 where
  pub ext : (x y : ℕ → Point) → ((i : ℕ) → i < n → x i ≡ y i) → F x ≡ F y
  pub trade : (x : ℕ → Point) (i : ℕ) → suc i < n → F (swap i x) ≡ neg_ℤ (F x)

split : (x : ℕ → Point) (i : ℕ) → x i ≡ cons (x 0) (λ a. x (suc a)) i
split x zero = refl
split x (suc i) = refl

move : (n : ℕ) (F : (ℕ → Point) → ℤ) → Alternating n F → (q : ℕ) → q < n → (x : ℕ → Point) → F x ≡ flips q (F (cons (x q) (λ a. x (skip q a))))
move n F f zero h x = f.ext x (cons (x 0) (λ a. x (suc a))) (λ i b. split x i)
move n F f (suc q) h x =
    sym (neg_ℤ-neg_ℤ (F x))
    ∙ ap neg_ℤ
    (sym (f.trade x q h)
    ∙ move n F f q (omega arith) (swap q x)
    ∙ ap (flips q)
    (f.ext (cons (swap q x q) (λ a. swap q x (skip q a))) (cons (x (suc q)) (λ a. x (skip (suc q) a)))
    (λ i b. both i)))
  where
    both : (i : ℕ) → cons (swap q x q) (λ a. swap q x (skip q a)) i ≡ cons (x (suc q)) (λ a. x (skip (suc q) a)) i
    both zero = swap-first q x
    both (suc i) = swap-skip q x i

tail_of : (e : ℕ) (F : (ℕ → Point) → ℤ) → Alternating (suc e) F → (p : Point) → Alternating e (λ y. F (cons p y))
tail_of e F f p = record {
  ext = λ x y h. f.ext (cons p x) (cons p y) (λ i b. both x y h i b);
  trade = λ x i h.
      f.ext (cons p (swap i x)) (swap (suc i) (cons p x)) (λ j b. same-there x i j) ∙ f.trade (cons p x) (suc i) (suc-le-suc h);
}
  where
    both : (x y : ℕ → Point) → ((i : ℕ) → i < e → x i ≡ y i) → (i : ℕ) → i < suc e → cons p x i ≡ cons p y i
    both x y h zero b = refl
    both x y h (suc i) b = h i (le_of_suc-le-suc b)

    same-there : (x : ℕ → Point) (i j : ℕ) → cons p (swap i x) j ≡ swap (suc i) (cons p x) j
    same-there x i zero = refl
    same-there x i (suc j) = refl

-- a map of the numbers below e + 1, without the place of 0
module _ (e : ℕ) (g : ℕ → ℕ) (p : Perm (suc e) g) (q : ℕ) (b : q < suc e) (z : g q ≡ 0) where
  abbrev under-g : ℕ → ℕ
  under-g a = g (skip q a) - 1

  up-g : (a : ℕ) → a < e → suc (under-g a) ≡ g (skip q a)
  up-g a h =
      let n : g (skip q a) ≢ 0 = λ w. skip-not q a (one_place p (skip q a) q (skip_below q a e h) b (w ∙ sym z)) in
      omega arith

  apart-g : (i j : ℕ) → i < e → j < e → i ≢ j → g (skip q i) ≢ g (skip q j)
  apart-g i j h k n w = skip-apart q i j n (one_place p (skip q i) (skip q j) (skip_below q i e h) (skip_below q j e k) w)

  perm-g : Perm e under-g
  perm-g = record {
    below = λ a h. omega (arith, up-g a h, p.below (skip q a) (skip_below q a e h));
    apart = λ i j h k. omega (arith, up-g i (omega arith), up-g j k, apart-g i j (omega arith) k (omega arith));
  }

  parity-g : inverse (suc e) g + (lower e g (one_place p) q b + lower e g (one_place p) q b) ≡ q + inverse e under-g
  unfolding beneath
  parity-g =
      omega (
        arith,
        minor e g (one_place p) q b,
        gone (suc e) g p (g q) (omega arith),
        same-inverse e (λ a. g (skip q a)) under-g apart-g (λ i j h k w. omega (arith, up-g i h, up-g j k)),
      )

  signs-g : (v : ℤ) → flips q (flips (inverse e under-g) v) ≡ flips (inverse (suc e) g) v
  signs-g v =
      let l : ℕ = lower e g (one_place p) q b in
      sym (flips-add q (inverse e under-g) v)
      ∙ ap (λ (n : ℕ). flips n v) (sym parity-g)
      ∙ flips-add (inverse (suc e) g) (l + l) v
      ∙ ap (flips (inverse (suc e) g)) (flips-even l v)

-- points in another sequence
pub permuted : (n : ℕ) (F : (ℕ → Point) → ℤ) → Alternating n F → (g : ℕ → ℕ) → Perm n g → (x : ℕ → Point)
    → F (λ i. x (g i)) ≡ flips (inverse n g) (F x)
permuted zero F f g p x = f.ext (λ i. x (g i)) x (λ i b. absurd (not-suc-le-zero b))
permuted (suc e) F f g p x =
    let (q, b, z) = onto (suc e) g p 0 (omega arith) in
    let g' : ℕ → ℕ = under-g e g p q b z in
    move (suc e) F f q b (λ i. x (g i))
    ∙ ap (flips q)
    (f.ext (cons (x (g q)) (λ a. x (g (skip q a)))) (cons (x 0) (λ a. x (suc (g' a))))
    (λ i h. both q b z i h)
    ∙ permuted e (λ y. F (cons (x 0) y)) (tail_of e F f (x 0)) g' (perm-g e g p q b z) (λ a. x (suc a))
    ∙ ap (flips (inverse e g')) (f.ext (cons (x 0) (λ a. x (suc a))) x (λ i h. sym (split x i))))
    ∙ signs-g e g p q b z (F x)
  where
    both : (q : ℕ) (b : q < suc e) (z : g q ≡ 0) (i : ℕ) → i < suc e
        → cons (x (g q)) (λ a. x (g (skip q a))) i ≡ cons (x 0) (λ a. x (suc (under-g e g p q b z a))) i
    both q b z zero h = ap x z
    both q b z (suc i) h = ap x (sym (up-g e g p q b z i (le_of_suc-le-suc h)))

-- the determinant of the differences from point to point, and of those from the first
module _ (d : ℕ) (det : Matrix → ℤ) (D : Determinant d det) where
  abbrev pub chained : (ℕ → Point) → Matrix
  chained x c r = x (suc c) r -ℤ x c r

  abbrev pub fanned : (ℕ → Point) → Matrix
  fanned x c r = x (suc c) r -ℤ x 0 r

  -- column i added to the one before it
  before : (A : Matrix) (i : ℕ) → i < d → (B : Matrix) × (det B ≡ det A) × ((j r : ℕ) → suc j ≡ i → B j r ≡ A j r +ℤ A i r)
      × ((j r : ℕ) → suc j ≢ i → B j r ≡ A j r)
  before A zero h = (A, refl, (λ j r e. absurd (omega arith)), (λ j r n. refl))
  before A (suc i) h = (
    put i (λ r. A i r +ℤ A (suc i) r) A,
    D.left A i h,
    (λ j r e.
        ap (λ (y : ℕ). put i (λ r. A i r +ℤ A (suc i) r) A y r) (suc_inj e)
        ∙ put-at i (λ r. A i r +ℤ A (suc i) r) A r
        ∙ ap (λ (y : ℕ). A y r +ℤ A (suc i) r) (sym (suc_inj e))),
    (λ j r n. put-off i (λ r. A i r +ℤ A (suc i) r) A j r (λ e. n (ap suc e))),
  )

  -- and to the one behind it
  behind : (A : Matrix) (i : ℕ) → i < d → (B : Matrix) × (det B ≡ det A) × ((j r : ℕ) → j < d → j ≡ suc i → B j r ≡ A j r +ℤ A i r)
      × ((j r : ℕ) → j ≢ suc i → B j r ≡ A j r)
  behind A i h =
      elim (dec_lt (suc i) d) [
        | yes l ↦ (
          put (suc i) (λ r. A (suc i) r +ℤ A i r) A,
          D.right A i l,
          (λ j r b e.
              ap (λ (y : ℕ). put (suc i) (λ r. A (suc i) r +ℤ A i r) A y r) e
              ∙ put-at (suc i) (λ r. A (suc i) r +ℤ A i r) A r
              ∙ ap (λ (y : ℕ). A y r +ℤ A i r) (sym e)),
          (λ j r n. put-off (suc i) (λ r. A (suc i) r +ℤ A i r) A j r n),
        )
        | no l ↦ (A, refl, (λ j r b e. absurd (omega arith)), (λ j r n. refl))
      ]

  module _ (x : ℕ → Point) (i : ℕ) (h : i < d) where
    abbrev A : Matrix
    A = chained x

    abbrev y : ℕ → Point
    y = swap i x

    turned : det (chained y) ≡ neg_ℤ (det (chained x))
    turned =
        let (B, e, on, off) = before A i h in
        let (C, f, on', off') = behind B i h in
        D.reads (chained y) (put i (λ r. neg_ℤ (C i r)) C)
        (λ c r bc br.
        elim (ℕ_discrete c i) [
          | yes q ↦
              subst (λ (a : ℕ). chained y a r ≡ put i (λ r. neg_ℤ (C i r)) C a r) (sym q)
              (cc (ap (λ (p : Point). p r) (swap-second i x), ap (λ (p : Point). p r) (swap-first i x))
              ∙ sym (neg-sub (x (suc i) r) (x i r))
              ∙ ap neg_ℤ (sym (off' i r (omega arith) ∙ off i r (omega arith)))
              ∙ sym (put-at i (λ r. neg_ℤ (C i r)) C r))
          | no q ↦
              elim (ℕ_discrete c (suc i)) [
                | yes w ↦
                    subst (λ (a : ℕ). chained y a r ≡ C a r) (sym w)
                    (cc (ap (λ (p : Point). p r) (swap-other i x (suc (suc i)) (omega arith) (omega arith)), ap (λ (p : Point). p r) (swap-second i x))
                    ∙ sym (tele (x i r) (x (suc i) r) (x (suc (suc i)) r))
                    ∙ sym (on' (suc i) r (omega arith) refl ∙ cc (off (suc i) r (omega arith), off i r (omega arith))))
                    ∙ sym (put-off i (λ r. neg_ℤ (C i r)) C c r q)
                | no w ↦
                    elim (ℕ_discrete (suc c) i) [
                      | yes u ↦
                          cc (ap (λ (p : Point). p r) (ap (swap i x) u ∙ swap-first i x), ap (λ (p : Point). p r) (swap-other i x c q w))
                          ∙ sym (tele' (x c r) (x i r) (x (suc i) r))
                          ∙ ap (λ (a : ℕ). (x a r -ℤ x c r) +ℤ (x (suc i) r -ℤ x i r)) (sym u)
                          ∙ sym (off' c r w ∙ on c r u)
                          ∙ sym (put-off i (λ r. neg_ℤ (C i r)) C c r q)
                      | no u ↦
                          cc (
                            ap (λ (p : Point). p r) (swap-other i x (suc c) u (λ s. q (suc_inj s))),
                            ap (λ (p : Point). p r) (swap-other i x c q w),
                          )
                          ∙ sym (off' c r w ∙ off c r u)
                          ∙ sym (put-off i (λ r. neg_ℤ (C i r)) C c r q)
                    ]
              ]
        ])
        ∙ D.turn C i h
        ∙ ap neg_ℤ (f ∙ e)

  pub chained-alternates : Alternating (suc d) (λ x. det (chained x))
  chained-alternates = record {
    ext = λ x y h. D.reads (chained x) (chained y) (λ c r bc br. cc (ap (λ (p : Point). p r) (h (suc c) (suc-le-suc bc)), ap (λ (p : Point). p r) (h c (omega arith))));
    trade = λ x i h. turned x i (le_of_suc-le-suc h);
  }

  -- from the first point, as far as column n
  abbrev from : ℕ → ℕ → ℕ
  from n c = c * step n (suc c)

  from-yes : (n c : ℕ) → c < n → from n c ≡ 0
  from-yes n c h = ap (λ (y : ℕ). c * y) (step-no n (suc c) h) ∙ omega arith

  from-no : (n c : ℕ) → n ≤ c → from n c ≡ c
  from-no n c h = ap (λ (y : ℕ). c * y) (step-yes n (suc c) (suc-le-suc h)) ∙ omega arith

  module _ (x : ℕ → Point) where
    abbrev mixed : ℕ → Matrix
    mixed n c r = x (suc c) r -ℤ x (from n c) r

    same_from : (n : ℕ) → (c : ℕ) → c ≢ n → from (suc n) c ≡ from n c
    same_from n c q =
        elim (dec_lt c n) [
          | yes l ↦ from-yes (suc n) c (omega arith) ∙ sym (from-yes n c l)
          | no l ↦ from-no (suc n) c (omega arith) ∙ sym (from-no n c (omega arith))
        ]

    one_more : (n : ℕ) → n < d → det (mixed (suc n)) ≡ det (mixed n)
    one_more zero h =
        D.reads (mixed 1) (mixed 0) (λ c r bc br. ap (λ (a : ℕ). x (suc c) r -ℤ x a r)
        (elim (ℕ_discrete c 0) [ yes q ↦ from-yes 1 c (omega arith) ∙ sym (from-no 0 c (omega arith) ∙ q) | no q ↦ same_from 0 c q ]))
    one_more (suc n) h =
        D.reads (mixed (suc (suc n))) (put (suc n) (λ r. mixed (suc n) (suc n) r +ℤ mixed (suc n) n r) (mixed (suc n)))
        (λ c r bc br.
        elim (ℕ_discrete c (suc n)) [
          | yes q ↦
              subst (λ (a : ℕ). mixed (suc (suc n)) a r ≡ put (suc n) (λ r. mixed (suc n) (suc n) r +ℤ mixed (suc n) n r) (mixed (suc n)) a r) (sym q)
              (ap (λ (a : ℕ). x (suc (suc n)) r -ℤ x a r) (from-yes (suc (suc n)) (suc n) (omega arith))
              ∙ sym (tele (x 0 r) (x (suc n) r) (x (suc (suc n)) r))
              ∙ sym (ap (λ (a : ℕ). (x (suc (suc n)) r -ℤ x a r) +ℤ mixed (suc n) n r) (from-no (suc n) (suc n) (omega arith))
              ∙ ap (λ (a : ℕ). (x (suc (suc n)) r -ℤ x (suc n) r) +ℤ (x (suc n) r -ℤ x a r)) (from-yes (suc n) n (omega arith)))
              ∙ sym (put-at (suc n) (λ r. mixed (suc n) (suc n) r +ℤ mixed (suc n) n r) (mixed (suc n)) r))
          | no q ↦
              ap (λ (a : ℕ). x (suc c) r -ℤ x a r) (same_from (suc n) c q)
              ∙ sym (put-off (suc n) (λ r. mixed (suc n) (suc n) r +ℤ mixed (suc n) n r) (mixed (suc n)) c r q)
        ])
        ∙ D.right (mixed (suc n)) n h

    down_to : (n : ℕ) → n ≤ d → det (mixed n) ≡ det (mixed 0)
    down_to zero h = refl
    down_to (suc n) h = one_more n h ∙ down_to n (omega arith)

    pub fanned-chained : det (fanned x) ≡ det (chained x)
    fanned-chained =
        D.reads (fanned x) (mixed d) (λ c r bc br. ap (λ (a : ℕ). x (suc c) r -ℤ x a r) (sym (from-yes d c bc)))
        ∙ down_to d (omega arith)
        ∙ D.reads (mixed 0) (chained x) (λ c r bc br. ap (λ (a : ℕ). x (suc c) r -ℤ x a r) (from-no 0 c (omega arith)))

  -- columns that change places
  abbrev origin : Point
  origin r = pos 0

  as-points : (x : ℕ → Point) → det x ≡ det (chained (cons origin x))
  as-points x =
      D.reads x (fanned (cons origin x)) (λ c r bc br. sym (+ℤ_idr (x c r))) ∙ fanned-chained (cons origin x)

  pub columns-alternate : Alternating d det
  columns-alternate = record {
    ext = λ x y h. D.reads x y (λ c r bc br. ap (λ (p : Point). p r) (h c bc));
    trade = λ x i h.
        as-points (swap i x)
        ∙ chained-alternates.ext (cons origin (swap i x)) (swap (suc i) (cons origin x)) (λ j b. there x i j)
        ∙ chained-alternates.trade (cons origin x) (suc i) (suc-le-suc h)
        ∙ ap neg_ℤ (sym (as-points x));
  }
    where
      there : (x : ℕ → Point) (i j : ℕ) → cons origin (swap i x) j ≡ swap (suc i) (cons origin x) j
      there x i zero = refl
      there x i (suc j) = refl
