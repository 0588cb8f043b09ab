-- Laws on sets of axes as masks: a set's mask has exactly its members, a byte is the mask of its members, and digitwise difference counts members by parity. Assumes nothing.
use mathlib.Core.Path.{◌≡◌, refl, sym, ap, ◌∙◌}
use mathlib.Core.Bool.{Bool, true, false, cond, not, ◌&&◌, ◌||◌, false≢true}
use mathlib.Core.Logic.{◌⊎◌, inl, inr, ⊎_elim}
use Prim.Native.Nat.{ℕ, zero, suc, ◌+◌, ◌-◌, ◌*◌, ◌/◌, ◌%◌, ◌^◌, ◌≤◌, ◌<◌}
use native.Mathlib.Nat.{mod-lt, mod-one, mod-eq_of_lt, div-eq_of_lt, pow-suc, mul_comm, mul-one, mul-zero, zero-mul, add-zero, add_comm, lt_of_lt_of_le}
use native.Mathlib.Omega.{arith}
use lib.Arith.{mod-mul}
use lib.Bits.{bit_xor, xor_shr, xor_mod}
use lib.Dec.{T, eqb, leb, eqb→eq}
use lib.Pow.{pow_pos, pow_mono}
use borrow.Author.Tests.{eq-eqb, eqb-true, lt-leb}
use Rattle.quotient.specs.Fold.{product, member, some, count, set_below, odd_count}
use Rattle.quotient.specs.Shape.{bad_member, bad_set}
use Rattle.quotient.specs.Points.{from_digits}
use Rattle.quotient.proofs.Laws.{lt-or-ge, some-true, no_member}
use Rattle.quotient.proofs.Radix.{digit_of, number_lt, number-one, number_digits}
use Rattle.quotient.proofs.Sets.{all, all-at}

-- ---- parity

-- exactly one of the two
abbrev pub differs : Bool → Bool → Bool
differs true b = not b
differs false b = b

two_digits : (x : ℕ) → x < 2 → (x ≡ 0) ⊎ (x ≡ 1)
two_digits zero h = inl refl
two_digits (suc zero) h = inr refl
two_digits (suc (suc x)) h = absurd (let w : ⊥ = omega arith in w)

next-odd : (n : ℕ) → eqb ((n + 1) % 2) 1 ≡ not (eqb (n % 2) 1)
next-odd n =
    ⊎_elim
    (λ (e : n % 2 ≡ 0). let q : (n + 1) % 2 ≡ 1 = omega arith in rw (e, q))
    (λ (e : n % 2 ≡ 1). let q : (n + 1) % 2 ≡ 0 = omega arith in rw (e, q))
    (two_digits (n % 2) (mod-lt n (omega arith)))

differs-not : (b : Bool) → not b ≡ differs b true
differs-not true = refl
differs-not false = refl

differs-same : (b : Bool) → b ≡ differs b false
differs-same true = refl
differs-same false = refl

odd-next : (n : ℕ) (b : Bool) → eqb ((n + cond b 1 0) % 2) 1 ≡ differs (eqb (n % 2) 1) b
odd-next n true = next-odd n ∙ differs-not (eqb (n % 2) 1)
odd-next n false = rw (add-zero n) (differs-same (eqb (n % 2) 1))

-- one number more changes the parity exactly if it passes
pub odd-more : (p : ℕ → Bool) (n : ℕ) → odd_count p (suc n) ≡ differs (odd_count p n) (p n)
unfolding count
odd-more p n = odd-next (count p n) (p n)

pub count_none : (p : ℕ → Bool) (n : ℕ) → ((k : ℕ) → k < n → p k ≡ false) → count p n ≡ 0
unfolding count
count_none p zero h = refl
count_none p (suc n) h = rw (count_none p n (λ k l. h k (omega arith)), h n (omega arith))

pub odd-none : (p : ℕ → Bool) (n : ℕ) → ((k : ℕ) → k < n → p k ≡ false) → odd_count p n ≡ false
odd-none p n h = rw (count_none p n h)

-- no number from d on passes: the parity is decided below d
odd-cut : (p : ℕ → Bool) (d n : ℕ) → ((k : ℕ) → d ≤ k → k < n + d → p k ≡ false) → odd_count p (n + d) ≡ odd_count p d
odd-cut p d zero h = rw (let z : zero + d ≡ d = omega arith in z)
odd-cut p d (suc n) h =
    let e : suc n + d ≡ suc (n + d) = omega arith in
    ap (odd_count p) e ∙ odd-more p (n + d) ∙ rw (h (n + d) (omega arith) (omega arith)) (sym (differs-same (odd_count p (n + d)))) ∙ odd-cut p d n (λ k l m. h k l (omega arith))

-- exactly two pass
pub odd-two : (p : ℕ → Bool) (a b n : ℕ) → a < b → b < n → p a ≡ true → p b ≡ true → ((k : ℕ) → k < n → (k ≡ a → ⊥) → (k ≡ b → ⊥) → p k ≡ false) → odd_count p n ≡ false
odd-two p a b n l h s t others =
    let first : odd_count p a ≡ false = odd-none p a (λ k m. others k (omega arith) (λ e. let w : ⊥ = omega arith in w) (λ e. let w : ⊥ = omega arith in w)) in
    let one : odd_count p (suc a) ≡ true = odd-more p a ∙ rw (first, s) in
    let x : (b - suc a) + suc a ≡ b = omega arith in
    let still : odd_count p b ≡ true =
    rw x at (odd-cut p (suc a) (b - suc a) (λ k m u. others k (omega arith) (λ e. let w : ⊥ = omega arith in w) (λ e. let w : ⊥ = omega arith in w))) ∙ one in
    let two : odd_count p (suc b) ≡ false = odd-more p b ∙ rw (still, t) in
    let y : (n - suc b) + suc b ≡ n = omega arith in
    rw y at (odd-cut p (suc b) (n - suc b) (λ k m u. others k (omega arith) (λ e. let w : ⊥ = omega arith in w) (λ e. let w : ⊥ = omega arith in w))) ∙ two

-- ---- digitwise difference

digit-differs : (a b : ℕ) → a < 2 → b < 2 → eqb (bit_xor a b) 1 ≡ differs (eqb a 1) (eqb b 1)
digit-differs zero zero x y = refl
digit-differs zero (suc zero) x y = refl
digit-differs (suc zero) zero x y = refl
digit-differs (suc zero) (suc zero) x y = refl
digit-differs zero (suc (suc b)) x y = absurd (let w : ⊥ = omega arith in w)
digit-differs (suc zero) (suc (suc b)) x y = absurd (let w : ⊥ = omega arith in w)
digit-differs (suc (suc a)) b x y = absurd (let w : ⊥ = omega arith in w)

pub member-differs : (a b k : ℕ) → member (bit_xor a b) k ≡ differs (member a k) (member b k)
member-differs a b k =
    let x : ℕ = a / 2 ^ k in
    let y : ℕ = b / 2 ^ k in
    let e : bit_xor a b / 2 ^ k % 2 ≡ bit_xor (x % 2) (y % 2) = ap (λ (z : ℕ). z % 2) (xor_shr a b k) ∙ xor_mod x y 1 in
    ap (λ (z : ℕ). eqb z 1) e ∙ digit-differs (x % 2) (y % 2) (mod-lt x (omega arith)) (mod-lt y (omega arith))

pub no-members : (k : ℕ) → member 0 k ≡ false
no-members k = rw (div-eq_of_lt (pow_pos k))

pub member-only : (b : Bool) (m k : ℕ) → member (cond b m 0) k ≡ b && member m k
member-only true m k = refl
member-only false m k = no-members k

-- ---- the mask of a set

pub set_same : (p q : ℕ → Bool) (n : ℕ) → ((k : ℕ) → k < n → p k ≡ q k) → set_below p n ≡ set_below q n
unfolding set_below
set_same p q zero h = refl
set_same p q (suc n) h = rw (set_same p q n (λ k l. h k (omega arith)), h n (omega arith))

-- what none of the numbers from d on passes is decided below d
pub set-cut : (p : ℕ → Bool) (d n : ℕ) → ((k : ℕ) → d ≤ k → k < n + d → p k ≡ false) → set_below p (n + d) ≡ set_below p d
unfolding set_below
set-cut p d zero h = rw (let z : zero + d ≡ d = omega arith in z)
set-cut p d (suc n) h =
    let e : suc n + d ≡ suc (n + d) = omega arith in
    rw (e, h (n + d) (omega arith) (omega arith), add-zero (set_below p (n + d))) (set-cut p d n (λ k l m. h k l (omega arith)))

pub set-none : (p : ℕ → Bool) (n : ℕ) → ((k : ℕ) → k < n → p k ≡ false) → set_below p n ≡ 0
unfolding set_below
set-none p zero h = refl
set-none p (suc n) h = rw (set-none p n (λ k l. h k (omega arith)), h n (omega arith))

-- its digits, each 0 or 1
abbrev two : ℕ → ℕ
two k = 2

abbrev bit : (ℕ → Bool) → ℕ → ℕ
bit p k = cond (p k) 1 0

bit-lt : (b : Bool) → cond b 1 0 < 2
bit-lt true = omega arith
bit-lt false = omega arith

powers : (n : ℕ) → product two n ≡ 2 ^ n
unfolding product
powers zero = refl
powers (suc n) = rw (powers n) (sym (pow-suc 2 n))

bit-place : (b : Bool) (s : ℕ) → cond b s 0 ≡ s * cond b 1 0
bit-place true s = sym (mul-one s)
bit-place false s = sym (mul-zero s)

set-number : (p : ℕ → Bool) (n : ℕ) → set_below p n ≡ from_digits two (bit p) n
unfolding set_below from_digits
set-number p zero = refl
set-number p (suc n) = rw (set-number p n, powers n, bit-place (p n) (2 ^ n))

pub set-lt : (p : ℕ → Bool) (n : ℕ) → set_below p n < 2 ^ n
set-lt p n = rw (set-number p n, ← (powers n)) (number_lt two (bit p) n (λ i l. bit-lt (p i)))

bit_test : (b : Bool) → eqb (cond b 1 0) 1 ≡ b
bit_test true = refl
bit_test false = refl

-- a number below n is a member exactly if it passes
pub member-set : (p : ℕ → Bool) (n k : ℕ) → k < n → member (set_below p n) k ≡ p k
member-set p n k l =
    let x : ℕ = set_below p n in
    let h : x < product two n = rw (powers n) (set-lt p n) in
    let e : from_digits two (digit_of two x) n ≡ from_digits two (bit p) n = number_digits two x n h ∙ set-number p n in
    let q : x / product two k % 2 ≡ bit p k = number-one two (digit_of two x) (bit p) n (λ i m. mod-lt (x / product two i) (omega arith)) (λ i m. bit-lt (p i)) e k l in
    rw (← (powers k), q) (bit_test (p k))

-- and none from n on is
pub member-past : (p : ℕ → Bool) (n k : ℕ) → n ≤ k → member (set_below p n) k ≡ false
member-past p n k h = rw (div-eq_of_lt (lt_of_lt_of_le (set-lt p n) (pow_mono h)))

digit-cond : (x s : ℕ) → x < 2 → cond (eqb x 1) s 0 ≡ x * s
digit-cond zero s h = sym (zero-mul s)
digit-cond (suc zero) s h = omega arith
digit-cond (suc (suc x)) s h = absurd (let w : ⊥ = omega arith in w)

-- the members of a number below n are its digits
set-members : (m n : ℕ) → set_below (member m) n ≡ m % 2 ^ n
unfolding set_below
set-members m zero = sym (mod-one m)
set-members m (suc n) =
    rw (set-members m n, digit-cond (m / 2 ^ n % 2) (2 ^ n) (mod-lt (m / 2 ^ n) (omega arith)), pow-suc 2 n, mul_comm (2 ^ n) 2)
    (add_comm (m % 2 ^ n) (m / 2 ^ n % 2 * 2 ^ n) ∙ sym (mod-mul m (omega arith) (pow_pos n)))

-- a byte is the mask of its members
pub byte-members : (m : ℕ) → m < 2 ^ 8 → set_below (member m) 8 ≡ m
byte-members m h = set-members m 8 ∙ mod-eq_of_lt h

-- ---- a set with a bad axis

some-false : (p : ℕ → Bool) (n : ℕ) → ((k : ℕ) → k < n → p k ≡ false) → some p n ≡ false
unfolding some
some-false p zero h = refl
some-false p (suc n) h = rw (some-false p n (λ k l. h k (omega arith)), h n (omega arith))

-- some member of m is d or more
abbrev reaches : ℕ → ℕ → Bool
reaches m d = some (λ j. member m j && leb d j) 8

-- one test over the 256 masks and the dimensions below 8: what is left of m above digit d tells it
high-right : ℕ → ℕ → Bool
high-right m d = eqb (cond (reaches m d) 1 0) (cond (eqb (m / 2 ^ d) 0) 0 1)

high-computed : T (all (λ m. all (high-right m) 8) 256)
unfolding all high-right some
high-computed = tt

same_bit : (a b : Bool) → ◌≡◌ {A = ℕ} (cond a 1 0) (cond b 0 1) → a ≡ not b
same_bit true true e = absurd (let w : ⊥ = omega arith in w)
same_bit true false e = refl
same_bit false true e = refl
same_bit false false e = absurd (let w : ⊥ = omega arith in w)

reaches-high : (m d : ℕ) → m < 2 ^ 8 → d < 8 → reaches m d ≡ not (eqb (m / 2 ^ d) 0)
unfolding high-right
reaches-high m d hm hd =
    same_bit (reaches m d) (eqb (m / 2 ^ d) 0)
    (eqb→eq (cond (reaches m d) 1 0) (cond (eqb (m / 2 ^ d) 0) 0 1) (all-at (high-right m) 8 (all-at (λ m. all (high-right m) 8) 256 high-computed m hm) d hd))

some_same : (p q : ℕ → Bool) (n : ℕ) → ((k : ℕ) → k < n → p k ≡ q k) → some p n ≡ some q n
unfolding some
some_same p q zero h = refl
some_same p q (suc n) h = rw (some_same p q n (λ k l. h k (omega arith)), h n (omega arith))

-- the set has axis i itself
pub bad-own : (d i m : ℕ) → m < 2 ^ 8 → member m i ≡ true → bad_set d i m ≡ true
unfolding bad_set
bad-own d i m hm t = some-true (bad_member d i m) 8 i (below i t) (rw (t, eq-eqb i i refl))
  where
    below : (i : ℕ) → member m i ≡ true → i < 8
    below i t = ⊎_elim (λ (l : i < 8). l) (λ (l : 8 ≤ i). absurd (false≢true (sym (no_member m i hm l) ∙ t))) (lt-or-ge i 8)

-- it has not, so what is left above digit d decides
bad-other : (d i m j : ℕ) → member m i ≡ false → bad_member d i m j ≡ member m j && leb d j
bad-other d i m j f = by-axis (eqb j i) refl
  where
    off : (b : Bool) → false ≡ false && b
    off b = refl

    by-axis : (b : Bool) → eqb j i ≡ b → member m j && (b || leb d j) ≡ member m j && leb d j
    by-axis true e = let q : j ≡ i = eqb-true j i e in rw (q, f)
    by-axis false e = refl

pub bad-high : (d i m : ℕ) → m < 2 ^ 8 → member m i ≡ false → d < 8 → bad_set d i m ≡ not (eqb (m / 2 ^ d) 0)
unfolding bad_set
bad-high d i m hm f hd = some_same (bad_member d i m) (λ j. member m j && leb d j) 8 (λ j l. bad-other d i m j f) ∙ reaches-high m d hm hd

pub bad-none : (d i m : ℕ) → member m i ≡ false → 8 ≤ d → bad_set d i m ≡ false
unfolding bad_set
bad-none d i m f h = some-false (bad_member d i m) 8 (λ j l. bad-other d i m j f ∙ off (member m j) (leb d j) (lt-leb d j (omega arith)))
  where
    off : (a b : Bool) → b ≡ false → a && b ≡ false
    off true b e = e
    off false b e = refl
