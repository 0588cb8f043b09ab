-- The determinant by its first row is a determinant. Assumes nothing.
use mathlib.Core.Path.{◌≡◌, refl, sym, ap, ◌∙◌, subst}
use mathlib.Core.Logic.{◌≢◌}
use Prim.Native.Nat.{ℕ, zero, suc, ◌+◌, ◌*◌, ◌-◌, ◌<◌, suc-le-suc}
use native.Mathlib.Nat.{not-suc-le-zero, le_of_suc-le-suc}
use native.Mathlib.Decide.{ℕ_discrete}
use native.Mathlib.Omega.{arith}
use lib.IntN.{ℤ, pos, negsuc, neg_ℤ, ◌+ℤ◌, ◌-ℤ◌, ◌*ℤ◌, neg_ℤ-+ℤ, +ℤ_assoc, +ℤ_comm, +ℤ_idl, +ℤ_idr, +ℤ_invr, +ℤ_invl, +ℤ-neg_ℤ_cancel, zero-*ℤ, *ℤ-zero, suc_ℤ-*ℤ, pred_ℤ-*ℤ, +ℤ_one, -ℤ_one, *ℤ_comm, ℤ_ind}
use Rattle.lists.specs.Words.{same}
use Rattle.refine_lattice.specs.Jacobian.{Matrix, put, Determinant, flips, beside, total, laplace}
use Rattle.lists.proofs.Words.{same-no}
use Rattle.refine_lattice.proofs.Parity.{skip-not, skip_below, skip-apart}
use Rattle.refine_lattice.proofs.Columns.{put-at, put-off}

-- sums
four : (a b c e : ℤ) → (a +ℤ b) +ℤ (c +ℤ e) ≡ (a +ℤ c) +ℤ (b +ℤ e)
four a b c e =
    +ℤ_assoc a b (c +ℤ e)
    ∙ ap (λ (x : ℤ). a +ℤ x) (sym (+ℤ_assoc b c e) ∙ ap (λ (x : ℤ). x +ℤ e) (+ℤ_comm b c) ∙ +ℤ_assoc c b e)
    ∙ sym (+ℤ_assoc a c (b +ℤ e))

-- products of sums
times-sum : (a b c : ℤ) → (a +ℤ b) *ℤ c ≡ a *ℤ c +ℤ b *ℤ c
times-sum a b c =
    ℤ_ind (λ (x : ℤ). (a +ℤ x) *ℤ c ≡ a *ℤ c +ℤ x *ℤ c)
    (ap (λ (x : ℤ). x *ℤ c) (+ℤ_idr a) ∙ sym (ap (λ (x : ℤ). a *ℤ c +ℤ x) (zero-*ℤ c) ∙ +ℤ_idr (a *ℤ c)))
    (λ n h. up (pos n) h)
    (λ n h. down (neg_ℤ (pos n)) h)
    b
  where
    up : (x : ℤ) → (a +ℤ x) *ℤ c ≡ a *ℤ c +ℤ x *ℤ c → (a +ℤ (x +ℤ pos 1)) *ℤ c ≡ a *ℤ c +ℤ (x +ℤ pos 1) *ℤ c
    up x h =
        ap (λ (y : ℤ). y *ℤ c) (sym (+ℤ_assoc a x (pos 1)) ∙ +ℤ_one (a +ℤ x))
        ∙ suc_ℤ-*ℤ (a +ℤ x) c
        ∙ ap (λ (y : ℤ). y +ℤ c) h
        ∙ +ℤ_assoc (a *ℤ c) (x *ℤ c) c
        ∙ ap (λ (y : ℤ). a *ℤ c +ℤ y) (sym (suc_ℤ-*ℤ x c) ∙ ap (λ (y : ℤ). y *ℤ c) (sym (+ℤ_one x)))

    down : (x : ℤ) → (a +ℤ x) *ℤ c ≡ a *ℤ c +ℤ x *ℤ c → (a +ℤ (x +ℤ negsuc 0)) *ℤ c ≡ a *ℤ c +ℤ (x +ℤ negsuc 0) *ℤ c
    down x h =
        ap (λ (y : ℤ). y *ℤ c) (sym (+ℤ_assoc a x (negsuc 0)) ∙ -ℤ_one (a +ℤ x))
        ∙ pred_ℤ-*ℤ (a +ℤ x) c
        ∙ ap (λ (y : ℤ). y -ℤ c) h
        ∙ +ℤ_assoc (a *ℤ c) (x *ℤ c) (neg_ℤ c)
        ∙ ap (λ (y : ℤ). a *ℤ c +ℤ y) (sym (pred_ℤ-*ℤ x c) ∙ ap (λ (y : ℤ). y *ℤ c) (sym (-ℤ_one x)))

sum-times : (c a b : ℤ) → c *ℤ (a +ℤ b) ≡ c *ℤ a +ℤ c *ℤ b
sum-times c a b =
    *ℤ_comm c (a +ℤ b) ∙ times-sum a b c ∙ ap (λ (x : ℤ). x +ℤ b *ℤ c) (*ℤ_comm a c) ∙ ap (λ (x : ℤ). c *ℤ a +ℤ x) (*ℤ_comm b c)

flips-sum : (n : ℕ) (a b : ℤ) → flips n (a +ℤ b) ≡ flips n a +ℤ flips n b
flips-sum zero a b = refl
flips-sum (suc n) a b = ap neg_ℤ (flips-sum n a b) ∙ neg_ℤ-+ℤ (flips n a) (flips n b)

flips-zero : (n : ℕ) → flips n (pos 0) ≡ pos 0
flips-zero zero = refl
flips-zero (suc n) = ap neg_ℤ (flips-zero n)

total_ext : (n : ℕ) (f g : ℕ → ℤ) → ((c : ℕ) → c < n → f c ≡ g c) → total n f ≡ total n g
total_ext zero f g h = refl
total_ext (suc n) f g h = cc (total_ext n f g (λ c b. h c (omega arith)), h n (omega arith))

total-sum : (n : ℕ) (f g : ℕ → ℤ) → total n (λ c. f c +ℤ g c) ≡ total n f +ℤ total n g
total-sum zero f g = refl
total-sum (suc n) f g = ap (λ (x : ℤ). x +ℤ (f n +ℤ g n)) (total-sum n f g) ∙ four (total n f) (total n g) (f n) (g n)

total-zero : (n : ℕ) (f : ℕ → ℤ) → ((c : ℕ) → c < n → f c ≡ pos 0) → total n f ≡ pos 0
total-zero zero f h = refl
total-zero (suc n) f h =
    ap (λ (x : ℤ). x +ℤ f n) (total-zero n f (λ c b. h c (omega arith))) ∙ +ℤ_idl (f n) ∙ h n (omega arith)

-- two terms that cancel
total-pair : (n q : ℕ) (f : ℕ → ℤ) → suc q < n → ((c : ℕ) → c < n → c ≢ q → c ≢ suc q → f c ≡ pos 0) → f q +ℤ f (suc q) ≡ pos 0
    → total n f ≡ pos 0
total-pair zero q f b h e = absurd (not-suc-le-zero b)
total-pair (suc n) q f b h e =
    elim (ℕ_discrete (suc q) n) [
      | yes w ↦
          subst (λ (m : ℕ). total (suc m) f ≡ pos 0) w
          (ap (λ (x : ℤ). (x +ℤ f q) +ℤ f (suc q)) (total-zero q f (λ c l. h c (omega arith) (omega arith) (omega arith)))
          ∙ ap (λ (x : ℤ). x +ℤ f (suc q)) (+ℤ_idl (f q))
          ∙ e)
      | no w ↦
          ap (λ (x : ℤ). x +ℤ f n) (total-pair n q f (omega arith) (λ c l. h c (omega arith)) e)
          ∙ +ℤ_idl (f n)
          ∙ h n (omega arith) (omega arith) (omega arith)
    ]

-- the first term alone
total_first : (n : ℕ) (f : ℕ → ℤ) → ((c : ℕ) → c < suc n → c ≢ 0 → f c ≡ pos 0) → total (suc n) f ≡ f 0
total_first zero f h = +ℤ_idl (f 0)
total_first (suc n) f h =
    ap (λ (x : ℤ). x +ℤ f (suc n)) (total_first n f (λ c b. h c (omega arith)))
    ∙ ap (λ (x : ℤ). f 0 +ℤ x) (h (suc n) (omega arith) (omega arith))
    ∙ +ℤ_idr (f 0)

-- where a number other than c stands among those other than c
found : (n c q : ℕ) → c ≢ q → q < suc n → c < suc n → (a : ℕ) × (a < n) × (beside c a ≡ q)
found n zero zero e h k = absurd (e refl)
found n zero (suc q) e h k = (q, le_of_suc-le-suc h, refl)
found zero (suc c) zero e h k = absurd (not-suc-le-zero (le_of_suc-le-suc k))
found (suc n) (suc c) zero e h k = (0, omega arith, refl)
found zero (suc c) (suc q) e h k = absurd (not-suc-le-zero (le_of_suc-le-suc k))
found (suc n) (suc c) (suc q) e h k =
    let (a, b, w) = found n c q (λ y. e (ap suc y)) (le_of_suc-le-suc h) (le_of_suc-le-suc k) in
    (suc a, suc-le-suc b, ap suc w)

-- what the determinant reads
pub reads : (n : ℕ) (A B : Matrix) → ((c r : ℕ) → c < n → r < n → A c r ≡ B c r) → laplace n A ≡ laplace n B
reads zero A B h = refl
reads (suc n) A B h =
    total_ext (suc n) (λ c. flips c (A c 0 *ℤ laplace n (λ j r. A (beside c j) (suc r)))) (λ c. flips c (B c 0 *ℤ laplace n (λ j r. B (beside c j) (suc r))))
    (λ c b.
    ap (flips c)
    (cc (
      h c 0 b (omega arith),
      reads n (λ j r. A (beside c j) (suc r)) (λ j r. B (beside c j) (suc r)) (λ j r bj br. h (beside c j) (suc r) (skip_below c j n bj) (suc-le-suc br)),
    )))

-- a column that is a sum
record Adds (n q : ℕ) (A B C : Matrix) : Type 0 where
  on : (r : ℕ) → r < n → C q r ≡ A q r +ℤ B q r
  off-A : (j r : ℕ) → j < n → r < n → j ≢ q → C j r ≡ A j r
  off-B : (j r : ℕ) → j < n → r < n → j ≢ q → C j r ≡ B j r

-- the matrix without row 0 and column c, and its term
abbrev less_one : ℕ → Matrix → Matrix
less_one c A j r = A (beside c j) (suc r)

abbrev term : ℕ → Matrix → ℕ → ℤ
term n A c = flips c (A c 0 *ℤ laplace n (less_one c A))

added : (n q : ℕ) (A B C : Matrix) → q < suc n → Adds (suc n) q A B C
    → ((q' : ℕ) (A' B' C' : Matrix) → q' < n → Adds n q' A' B' C' → laplace n C' ≡ laplace n A' +ℤ laplace n B')
    → (c : ℕ) → c < suc n → term n C c ≡ term n A c +ℤ term n B c
added n q A B C h s ih c b =
    elim (ℕ_discrete c q) [
      | yes e ↦
          let a : laplace n (less_one c C) ≡ laplace n (less_one c A) =
          reads n (less_one c C) (less_one c A)
          (λ j r bj br. s.off-A (beside c j) (suc r) (skip_below c j n bj) (suc-le-suc br) (λ w. skip-not c j (w ∙ sym e))) in
          let a' : laplace n (less_one c C) ≡ laplace n (less_one c B) =
          reads n (less_one c C) (less_one c B)
          (λ j r bj br. s.off-B (beside c j) (suc r) (skip_below c j n bj) (suc-le-suc br) (λ w. skip-not c j (w ∙ sym e))) in
          let z : C c 0 ≡ A c 0 +ℤ B c 0 = subst (λ (x : ℕ). C x 0 ≡ A x 0 +ℤ B x 0) (sym e) (s.on 0 (omega arith)) in
          ap (λ (x : ℤ). flips c (x *ℤ laplace n (less_one c C))) z
          ∙ ap (flips c) (times-sum (A c 0) (B c 0) (laplace n (less_one c C)))
          ∙ flips-sum c (A c 0 *ℤ laplace n (less_one c C)) (B c 0 *ℤ laplace n (less_one c C))
          ∙ cc (ap (λ (x : ℤ). flips c (A c 0 *ℤ x)) a, ap (λ (x : ℤ). flips c (B c 0 *ℤ x)) a')
      | no e ↦
          let (q', b', w) = found n c q e h b in
          let m : laplace n (less_one c C) ≡ laplace n (less_one c A) +ℤ laplace n (less_one c B) =
          ih q' (less_one c A) (less_one c B) (less_one c C) b'
          (record {
            on = λ r br. subst (λ (x : ℕ). C x (suc r) ≡ A x (suc r) +ℤ B x (suc r)) (sym w) (s.on (suc r) (suc-le-suc br));
            off-A = λ j r bj br n'. s.off-A (beside c j) (suc r) (skip_below c j n bj) (suc-le-suc br) (λ y. skip-apart c j q' n' (y ∙ sym w));
            off-B = λ j r bj br n'. s.off-B (beside c j) (suc r) (skip_below c j n bj) (suc-le-suc br) (λ y. skip-apart c j q' n' (y ∙ sym w));
          }) in
          ap (λ (x : ℤ). flips c (C c 0 *ℤ x)) m
          ∙ ap (flips c) (sum-times (C c 0) (laplace n (less_one c A)) (laplace n (less_one c B)))
          ∙ flips-sum c (C c 0 *ℤ laplace n (less_one c A)) (C c 0 *ℤ laplace n (less_one c B))
          ∙ cc (
            ap (λ (x : ℤ). flips c (x *ℤ laplace n (less_one c A))) (s.off-A c 0 b (omega arith) e),
            ap (λ (x : ℤ). flips c (x *ℤ laplace n (less_one c B))) (s.off-B c 0 b (omega arith) e),
          )
    ]

additive : (n q : ℕ) (A B C : Matrix) → q < n → Adds n q A B C → laplace n C ≡ laplace n A +ℤ laplace n B
additive zero q A B C h s = absurd (not-suc-le-zero h)
additive (suc n) q A B C h s =
    total_ext (suc n) (term n C) (λ c. term n A c +ℤ term n B c)
    (added n q A B C h s (λ q' A' B' C' h' s'. additive n q' A' B' C' h' s'))
    ∙ total-sum (suc n) (term n A) (term n B)

-- two columns side by side that are equal
Twins : ℕ → ℕ → Matrix → Type 0
Twins n q A = (r : ℕ) → r < n → A q r ≡ A (suc q) r

-- without another column they still stand side by side
near : (n c q : ℕ) → c ≢ q → c ≢ suc q → suc q < suc n → c < suc n → (a : ℕ) × (suc a < n) × (beside c a ≡ q) × (beside c (suc a) ≡ suc q)
near n zero zero e f h k = absurd (e refl)
near n zero (suc q) e f h k = (q, le_of_suc-le-suc h, refl, refl)
near n (suc zero) zero e f h k = absurd (f refl)
near zero (suc (suc c)) zero e f h k = absurd (omega arith)
near (suc zero) (suc (suc c)) zero e f h k = absurd (omega arith)
near (suc (suc n)) (suc (suc c)) zero e f h k = (0, omega arith, refl, refl)
near zero (suc c) (suc q) e f h k = absurd (omega arith)
near (suc n) (suc c) (suc q) e f h k =
    let (a, b, w, y) = near n c q (λ z. e (ap suc z)) (λ z. f (ap suc z)) (le_of_suc-le-suc h) (le_of_suc-le-suc k) in
    (suc a, suc-le-suc b, ap suc w, ap suc y)

-- and without the one or the other the columns are the same
either : (A : Matrix) (q j r : ℕ) → A q r ≡ A (suc q) r → A (beside q j) r ≡ A (beside (suc q) j) r
either A zero zero r e = sym e
either A zero (suc j) r e = refl
either A (suc q) zero r e = refl
either A (suc q) (suc j) r e = either (λ c. A (suc c)) q j r e

twins : (n q : ℕ) (A : Matrix) → suc q < n → Twins n q A → laplace n A ≡ pos 0
unfolding Twins
twins zero q A h s = absurd (not-suc-le-zero h)
twins (suc n) q A h s =
    total-pair (suc n) q (term n A) h
    (λ c b e f.
    let (a, g, w, y) = near n c q e f h b in
    ap (λ (x : ℤ). flips c (A c 0 *ℤ x))
    (twins n a (less_one c A) g
    (λ r br. ap (λ (z : ℕ). A z (suc r)) w ∙ s (suc r) (suc-le-suc br) ∙ ap (λ (z : ℕ). A z (suc r)) (sym y)))
    ∙ ap (flips c) (*ℤ-zero (A c 0))
    ∙ flips-zero c)
    (ap (λ (x : ℤ). term n A q +ℤ neg_ℤ (flips q x))
    (cc (
      sym (s 0 (omega arith)),
      sym (reads n (less_one q A) (less_one (suc q) A) (λ j r bj br. either A q j (suc r) (s (suc r) (suc-le-suc br)))),
    ))
    ∙ +ℤ_invr (term n A q))

-- a column of zeros, and a column negated
self-zero : (a : ℤ) → a ≡ a +ℤ a → a ≡ pos 0
self-zero a e = sym (+ℤ-neg_ℤ_cancel a a) ∙ ap (λ (x : ℤ). x -ℤ a) (sym e) ∙ +ℤ_invr a

blank : (n q : ℕ) (A : Matrix) → q < n → ((r : ℕ) → r < n → A q r ≡ pos 0) → laplace n A ≡ pos 0
blank n q A h z =
    self-zero (laplace n A)
    (additive n q A A A h
    (record {
      on = λ r b. z r b ∙ sym (cc (z r b));
      off-A = λ j r bj br e. refl;
      off-B = λ j r bj br e. refl;
    }))

negated : (n q : ℕ) (A B : Matrix) → q < n → ((r : ℕ) → r < n → B q r ≡ neg_ℤ (A q r)) → ((j r : ℕ) → j ≢ q → B j r ≡ A j r)
    → laplace n B ≡ neg_ℤ (laplace n A)
negated n q A B h on off =
    let Z : Matrix = put q (λ r. pos 0) A in
    let e : laplace n Z ≡ laplace n B +ℤ laplace n A =
    additive n q B A Z h
    (record {
      on = λ r b. put-at q (λ r. pos 0) A r ∙ sym (ap (λ (x : ℤ). x +ℤ A q r) (on r b) ∙ +ℤ_invl (A q r));
      off-A = λ j r bj br w. put-off q (λ r. pos 0) A j r w ∙ sym (off j r w);
      off-B = λ j r bj br w. put-off q (λ r. pos 0) A j r w;
    }) in
    sym (+ℤ-neg_ℤ_cancel (laplace n B) (laplace n A))
    ∙ ap (λ (x : ℤ). x -ℤ laplace n A) (sym e ∙ blank n q Z h (λ r b. put-at q (λ r. pos 0) A r))
    ∙ +ℤ_idl (neg_ℤ (laplace n A))

-- a column added to the one beside it
sheared : (n q u : ℕ) (A : Matrix) → q < n
    → laplace n (put q (A u) A) ≡ pos 0
    → laplace n (put q (λ r. A q r +ℤ A u r) A) ≡ laplace n A
sheared n q u A h z =
    additive n q A (put q (A u) A) (put q (λ r. A q r +ℤ A u r) A) h
    (record {
      on = λ r b. put-at q (λ r. A q r +ℤ A u r) A r ∙ ap (λ (x : ℤ). A q r +ℤ x) (sym (put-at q (A u) A r));
      off-A = λ j r bj br w. put-off q (λ r. A q r +ℤ A u r) A j r w;
      off-B = λ j r bj br w. put-off q (λ r. A q r +ℤ A u r) A j r w ∙ sym (put-off q (A u) A j r w);
    })
    ∙ ap (λ (x : ℤ). laplace n A +ℤ x) z
    ∙ +ℤ_idr (laplace n A)

one : (n : ℕ) → laplace n (λ c r. pos (same c r)) ≡ pos 1
one zero = refl
one (suc n) =
    total_first n (term n (λ c r. pos (same c r)))
    (λ c b e.
    ap (λ (x : ℕ). flips c (pos x *ℤ laplace n (less_one c (λ c r. pos (same c r))))) (same-no c 0 e)
    ∙ ap (flips c) (zero-*ℤ (laplace n (less_one c (λ c r. pos (same c r)))))
    ∙ flips-zero c)
    ∙ ap (λ (x : ℤ). pos 1 *ℤ x) (one n)

-- the determinant by its first row is one
pub is-determinant : (d : ℕ) → Determinant d (laplace d)
unfolding Twins
is-determinant d = record {
  reads = reads d;
  left = λ A c h.
      sheared d c (suc c) A (omega arith)
      (twins d c (put c (A (suc c)) A) h
      (λ r b. put-at c (A (suc c)) A r ∙ sym (put-off c (A (suc c)) A (suc c) r (omega arith))));
  right = λ A c h.
      sheared d (suc c) c A h
      (twins d c (put (suc c) (A c) A) h
      (λ r b. put-off (suc c) (A c) A c r (omega arith) ∙ sym (put-at (suc c) (A c) A r)));
  turn = λ A c h.
      negated d c A (put c (λ r. neg_ℤ (A c r)) A) h (λ r b. put-at c (λ r. neg_ℤ (A c r)) A r) (λ j r n. put-off c (λ r. neg_ℤ (A c r)) A j r n);
  unit = one d;
}
