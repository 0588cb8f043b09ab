-- A point across the seam: which axes come out reversed decides which coordinates are turned, so the sets decide the vertex. Assumes nothing.
use Rattle.refusal.specs.Says.{fine}
use mathlib.Core.Path.{◌≡◌, refl, sym, ap, ap₂, subst, ◌∙◌}
use mathlib.Core.Bool.{Bool, true, false, cond, ◌&&◌, ◌||◌}
use mathlib.Core.Logic.{◌⊎◌, inl, inr}
use Prim.Native.Nat.{ℕ, zero, suc, ◌+◌, ◌-◌, ◌*◌, ◌/◌, ◌%◌, ◌^◌, ◌≤◌, ◌<◌}
use mathlib.Core.List.{List}
use native.Mathlib.Nat.{le_trans, div-add-mod', not-suc-le-zero, lt_of_lt_of_le, lt_of_le_of_lt, div-le_self}
use native.Mathlib.Numerals.{add-one}
use native.Mathlib.Omega.{arith}
use lib.Bits.{bit_xor, xor_lt}
use lib.Dec.{T, eqb, leb, eqb→eq}
use lib.ListN.{length, get_or, set, length-set}
use lib.Pow.{pow_mono}
use lib.Seq.{get_or-set_same, get_or-set_other}
use borrow.Author.Tests.{le-leb}
use Rattle.quotient.specs.declared.Axis.{Axis}
use Rattle.quotient.specs.declared.Grid.{Grid}
use Rattle.quotient.specs.declared.Spread.{Spread}
use Rattle.refusal.specs.Limits.{most_dimension}
use Rattle.quotient.specs.Fold.{product, member, some, count, set_below, odd_count}
use Rattle.quotient.specs.Shape.{axis_of, mask_of, cells_on, mask_at, glued_on, bad_member, bad_set, reflects_badly, check_of}
use Rattle.quotient.specs.Reduce.{rest_at, coord_at, wrapped_at, flips_at, reflected_by, folded_at, number_to, no_vertex, vertex_of, reversed_at, wrapped_set, reversed_set, crossing_of}
use Rattle.quotient.specs.Points.{from_digits, points_of}
use Rattle.quotient.specs.Work.{ends_at, turned_by, folded_by, number_by, Apart}
use Rattle.lists.proofs.Words.{first-full}
use Rattle.quotient.proofs.Laws.{some-true, lt-or-eq}
use Rattle.quotient.proofs.Points.{coord-le, turn-le, rest_more}
use Rattle.quotient.proofs.Taken.{taken-high, taken-reflections, within-place, inside, outside}
use Rattle.quotient.proofs.Radix.{number_same}
use Rattle.quotient.proofs.Onto.{number_is, vertex-is}
use Rattle.quotient.proofs.Sets.{all, all-at}
use Rattle.quotient.proofs.Masks.{differs, odd-more, odd-none, odd-two, member-differs, member-only, no-members, set_same, set-cut, set-none, set-lt, member-set, byte-members}

-- every axis of a grid has a digit in a mask
pub few-axes : most_dimension ≤ 8
few-axes = omega arith

-- ---- parity decides which coordinates are turned

turn-again : (o f : Bool) (n c : ℕ) → c ≤ n → cond f (n - cond o (n - c) c) (cond o (n - c) c) ≡ cond (differs o f) (n - c) c
turn-again true true n c h = omega arith
turn-again true false n c h = refl
turn-again false true n c h = refl
turn-again false false n c h = refl

pub reflected-parity : (g : Grid) (v k a : ℕ) → reflected_by g v k a ≡ cond (odd_count (λ b. flips_at g v b k) a) (cells_on g k - coord_at g v k) (coord_at g v k)
unfolding reflected_by count
reflected-parity g v k zero = refl
reflected-parity g v k (suc a) =
    rw (reflected-parity g v k a, odd-more (λ b. flips_at g v b k) a)
    (turn-again (odd_count (λ b. flips_at g v b k) a) (flips_at g v a k) (cells_on g k) (coord_at g v k) (coord-le g v k))

-- a coordinate is turned exactly on the axes that come out reversed
pub reversed-turns : (g : Grid) (v k : ℕ) → reflected_by g v k g.d ≡ cond (reversed_at g v k) (cells_on g k - coord_at g v k) (coord_at g v k)
reversed-turns g v k = reflected-parity g v k g.d

-- ---- the members of the two sets

pub wrapped-member : (g : Grid) (v k : ℕ) → k < g.d → member (wrapped_set g v) k ≡ wrapped_at g v k
unfolding wrapped_set
wrapped-member g v k l = member-set (wrapped_at g v) g.d k l

pub reversed-member : (g : Grid) (v k : ℕ) → k < g.d → member (reversed_set g v) k ≡ reversed_at g v k
unfolding reversed_set
reversed-member g v k l = member-set (reversed_at g v) g.d k l

-- ---- the sets decide the vertex

pub folded-by : (g : Grid) (v k : ℕ) → k < g.d → folded_at g v k ≡ folded_by g (reversed_set g v) k (coord_at g v k)
folded-by g v k l = rw (reversed-turns g v k, reversed-member g v k l)

pub vertex-by : (g : Grid) (v : ℕ) → v < points_of g → vertex_of g v ≡ from_digits (glued_on g) (λ k. folded_by g (reversed_set g v) k (coord_at g v k)) g.d
vertex-by g v h = vertex-is g v h ∙ number_same (glued_on g) (folded_at g v) (λ k. folded_by g (reversed_set g v) k (coord_at g v k)) g.d (folded-by g v)

-- ---- the sets of the wrapped axes, joined by digitwise difference

pub joined_to : Grid → ℕ → ℕ → ℕ
joined_to g v zero = 0
joined_to g v (suc a) = bit_xor (joined_to g v a) (cond (wrapped_at g v a) (mask_at g a) 0)

-- have k exactly if an odd number of them has it
joined-member : (g : Grid) (v a k : ℕ) → member (joined_to g v a) k ≡ odd_count (λ b. flips_at g v b k) a
unfolding joined_to count
joined-member g v zero k = no-members k
joined-member g v (suc a) k =
    member-differs (joined_to g v a) (cond (wrapped_at g v a) (mask_at g a) 0) k
    ∙ ap₂ differs (joined-member g v a k) (member-only (wrapped_at g v a) (mask_at g a) k)
    ∙ sym (odd-more (λ b. flips_at g v b k) a)

module _ (g : Grid) (taken : check_of g ≡ fine) where
  -- no axis reflects one outside the grid
  and-off : (a b : Bool) → a && b ≡ false → b ≡ true → a ≡ false
  and-off true b e t = sym t ∙ e
  and-off false b e t = refl

  or_right : (a b : Bool) → b ≡ true → a || b ≡ true
  or_right true b t = refl
  or_right false b t = t

  good-set : (a : ℕ) → a < g.d → bad_set g.d a (mask_at g a) ≡ false
  good-set a l = first-full (reflects_badly g) g.d (taken-reflections g taken) a l

  false-some : (p : ℕ → Bool) (n k : ℕ) → some p n ≡ false → k < n → p k ≡ false
  false-some p n k e l = by-test (p k) refl
    where
      by-test : (b : Bool) → p k ≡ b → b ≡ false
      by-test true t = sym (some-true p n k l t) ∙ e
      by-test false t = refl

  inside-only : (a k : ℕ) → a < g.d → g.d ≤ k → k < 8 → member (mask_at g a) k ≡ false
  unfolding bad_set
  inside-only a k l h u =
      and-off (member (mask_at g a) k) (eqb k a || leb g.d k) (false-some (bad_member g.d a (mask_at g a)) 8 k (good-set a l) u)
      (or_right (eqb k a) (leb g.d k) (le-leb g.d k h))

  and_none : (a b : Bool) → b ≡ false → a && b ≡ false
  and_none true b e = e
  and_none false b e = refl

  outside-unturned : (v k : ℕ) → g.d ≤ k → k < 8 → reversed_at g v k ≡ false
  outside-unturned v k h u = odd-none (λ a. flips_at g v a k) g.d (λ a l. and_none (wrapped_at g v a) (member (mask_at g a) k) (inside-only a k l h u))

  -- the joined sets are the reversed set
  pub joined-reversed : (v m : ℕ) → m < 2 ^ 8 → m ≡ joined_to g v g.d → m ≡ reversed_set g v
  unfolding reversed_set
  joined-reversed v m h e =
      let u : g.d ≤ 8 = le_trans (taken-high g taken) few-axes in
      let x : set_below (member m) 8 ≡ set_below (reversed_at g v) 8 = set_same (member m) (reversed_at g v) 8 (λ k l. rw e (joined-member g v g.d k)) in
      let q : (8 - g.d) + g.d ≡ 8 = omega arith in
      let y : set_below (reversed_at g v) 8 ≡ set_below (reversed_at g v) g.d =
      rw q at (set-cut (reversed_at g v) g.d (8 - g.d) (λ k l n. outside-unturned v k l (omega arith))) in
      sym (byte-members m h) ∙ x ∙ y

-- ---- where two cancel, where nothing is reflected, and where nothing is wrapped

-- two wrapped axes that reflect axis k, and no other one that does: it does not come out reversed
pub two-cancel : (g : Grid) (v a b k : ℕ) → a < b → b < g.d → flips_at g v a k ≡ true → flips_at g v b k ≡ true
    → ((c : ℕ) → c < g.d → (c ≡ a → ⊥) → (c ≡ b → ⊥) → flips_at g v c k ≡ false) → reversed_at g v k ≡ false
two-cancel g v a b k l h s t others = odd-two (λ c. flips_at g v c k) a b g.d l h s t others

-- a grid that reflects nothing has no reversed axis
pub plain-unreversed : (g : Grid) (v : ℕ) → ((a : ℕ) → a < g.d → mask_at g a ≡ 0) → reversed_set g v ≡ 0
unfolding reversed_set
plain-unreversed g v h =
    set-none (reversed_at g v) g.d (λ k l. odd-none (λ a. flips_at g v a k) g.d (λ a m. none (wrapped_at g v a) (mask_at g a) k (h a m)))
  where
    none : (b : Bool) (m k : ℕ) → m ≡ 0 → b && member m k ≡ false
    none true m k e = rw e (no-members k)
    none false m k e = refl

-- a point that no axis wraps has two empty sets
pub inside-plain : (g : Grid) (v : ℕ) → ((a : ℕ) → a < g.d → wrapped_at g v a ≡ false) → (wrapped_set g v ≡ 0) × (reversed_set g v ≡ 0)
unfolding wrapped_set reversed_set
inside-plain g v h =
    (set-none (wrapped_at g v) g.d h, set-none (reversed_at g v) g.d (λ k l. odd-none (λ a. flips_at g v a k) g.d (λ a m. rw (h a m))))

-- ---- the steps of the code

-- coordinate c turned, as the code has it
pub turned-is : (g : Grid) (m k c t : ℕ) (b : Bool) (x : Axis) → x ≡ axis_of g k → b ≡ member m k → t ≡ cond b (x.count - c) c → t ≡ turned_by g m k c
turned-is g m k c t b x hx hb ht = rw (ht, hb, hx)

pub turned_le : (g : Grid) (m k c : ℕ) → c ≤ cells_on g k → turned_by g m k c ≤ cells_on g k
turned_le g m k c l = turn-le (member m k) (cells_on g k) c (turned_by g m k c) l refl

pub folded-place : (g : Grid) → check_of g ≡ fine → (m k c : ℕ) → k < g.d → c ≤ cells_on g k → folded_by g m k c < glued_on g k
folded-place g taken m k c l h = within-place g taken k (turned_by g m k c) l (turned_le g m k c h)

-- one digit more in the number
pub number_more : (f c : ℕ → ℕ) (k s x y r : ℕ) → s ≡ product f k → x ≡ from_digits f c k → y ≡ c k → r ≡ x + s * y → r ≡ from_digits f c (k + 1)
unfolding from_digits
number_more f c k s x y r hs hx hy hr = rw (add-one k, hr, hx, hs, hy)

-- ---- a point taken apart, axis by axis

-- what is known once the axes below k are taken off
pub record Spreading (g : Grid) (v : ℕ) (cs : List ℕ) (rest wrapped reversed k : ℕ) : Type 0 where
  pub within : k ≤ g.d
  pub high : g.d ≤ most_dimension
  pub places : length cs ≡ most_dimension
  pub coordinates : (j : ℕ) → j < k → get_or cs j 0 ≡ coord_at g v j
  pub left : rest ≡ rest_at g v k
  pub narrow : rest < 2 ^ 32
  pub ends : wrapped ≡ set_below (wrapped_at g v) k
  pub turns : reversed ≡ joined_to g v k
  pub byte : reversed < 2 ^ 8

-- what is left after a division, and the quotient times the divisor
pub divided : (x p q : ℕ) → q ≡ x / p → (q * p ≤ x) × (x - q * p ≡ x % p)
divided x p q h = let e : q * p + x % p ≡ x = rw h (div-add-mod' x p) in (omega arith, omega arith)

-- the digit of axis k, as the code has it
one-digit : ℕ → Bool
one-digit k = eqb (1 * 2 ^ k % 2 ^ 8) (2 ^ k)

digits-computed : T (all one-digit 8)
unfolding all one-digit
digits-computed = tt

pub digit-is : (k : ℕ) → k < 8 → 1 * 2 ^ k % 2 ^ 8 ≡ 2 ^ k
unfolding one-digit
digit-is k h = eqb→eq (1 * 2 ^ k % 2 ^ 8) (2 ^ k) (all-at one-digit 8 digits-computed k h)

pub spreading-none : (g : Grid) (v : ℕ) (cs : List ℕ) → check_of g ≡ fine → length cs ≡ most_dimension → v < 2 ^ 32 → Spreading g v cs v 0 0 0
unfolding rest_at set_below joined_to
spreading-none g v cs taken e n = record {
  within = omega arith;
  high = taken-high g taken;
  places = e;
  coordinates = λ j l. absurd (not-suc-le-zero l);
  left = refl;
  narrow = n;
  ends = refl;
  turns = refl;
  byte = omega arith;
}

module _ (g : Grid) (v : ℕ) (cs : List ℕ) (rest wrapped reversed k q : ℕ) (s : Spreading g v cs rest wrapped reversed k) (l : k < g.d) (x : Axis) (hx : x ≡ axis_of g k) (hq : q ≡ rest / (x.count + 1)) where
  -- its coordinate
  pub spread-coordinate : rest - q * (x.count + 1) ≡ coord_at g v k
  spread-coordinate =
      let e : x.count ≡ cells_on g k = ap (λ (a : Axis). a.count) hx in
      (divided rest (x.count + 1) q hq).1 ∙ ap (λ (n : ℕ). rest % (n + 1)) e ∙ ap (λ (n : ℕ). n % (cells_on g k + 1)) s.left

  module _ (c : ℕ) (b : Bool) (hc : c ≡ coord_at g v k) (hb : b ≡ ends_at x c) where
    spread-ends : b ≡ wrapped_at g v k
    spread-ends = hb ∙ rw (hx, hc)

    -- the wrapped set with axis k
    pub spread-wrapped : (w : ℕ) → w ≡ cond b (1 * 2 ^ k % 2 ^ 8) 0 → wrapped + w ≡ set_below (wrapped_at g v) (k + 1)
    unfolding set_below
    spread-wrapped w hw =
        let h : k < 8 = lt_of_lt_of_le l (le_trans s.high few-axes) in
        rw (add-one k, hw, digit-is k h, spread-ends, s.ends)

    pub spread-byte : (w : ℕ) → w ≡ cond b (1 * 2 ^ k % 2 ^ 8) 0 → wrapped + w < 2 ^ 8
    spread-byte w hw =
        let h : k + 1 ≤ 8 = let u : g.d ≤ 8 = le_trans s.high few-axes in omega arith in
        rw (spread-wrapped w hw) (lt_of_lt_of_le (set-lt (wrapped_at g v) (k + 1)) (pow_mono h))

    pub spreading-more : (w m r : ℕ) → w ≡ cond b (1 * 2 ^ k % 2 ^ 8) 0 → m ≡ mask_of x.glue → r ≡ cond b m 0 → r < 2 ^ 8
        → Spreading g v (set cs k c) q (wrapped + w) (bit_xor reversed r) (k + 1)
    unfolding joined_to
    spreading-more w m r hw hm hr small = record {
      within = omega arith;
      high = s.high;
      places = length-set cs k c ∙ s.places;
      coordinates = λ j h. at j (lt-or-eq j k (omega arith));
      left = rest_more g v k rest (x.count + 1) q s.left (ap (λ (a : Axis). a.count + 1) hx) hq;
      narrow = rw hq (lt_of_le_of_lt (div-le_self rest (x.count + 1)) s.narrow);
      ends = spread-wrapped w hw;
      turns = rw (add-one k, hr, hm, hx, spread-ends, s.turns);
      byte = xor_lt 8 reversed r s.byte small;
    }
      where
        at : (j : ℕ) → (j < k) ⊎ (j ≡ k) → get_or (set cs k c) j 0 ≡ coord_at g v j
        at j (inl h) = get_or-set_other cs k j c 0 (λ (e : j ≡ k). let w : ⊥ = omega arith in w) ∙ s.coordinates j h
        at j (inr e) = rw e (get_or-set_same cs k c 0 (subst (λ (n : ℕ). k < n) (sym s.places) (lt_of_lt_of_le l s.high)) ∙ hc)

pub spreading-done : (g : Grid) (v : ℕ) (p : Spread) → check_of g ≡ fine → Spreading g v p.coordinates p.rest p.wrapped p.reversed g.d → Apart g v p
unfolding wrapped_set
spreading-done g v p taken s = record {
  coordinates = s.coordinates;
  rest = s.left;
  wrapped = s.ends;
  reversed = joined-reversed g taken v p.reversed s.byte s.turns;
}

-- ---- and put together again

module _ (g : Grid) (v : ℕ) (p : Spread) (a : Apart g v p) where
  pub parts_within : (k : ℕ) → k < g.d → get_or p.coordinates k 0 ≤ cells_on g k
  parts_within k l = rw (a.coordinates k l) (coord-le g v k)

  parts-number : number_by g p.reversed p.coordinates ≡ number_to g v g.d
  unfolding number_by
  parts-number =
      number_same (glued_on g) (λ k. folded_by g p.reversed k (get_or p.coordinates k 0)) (folded_at g v) g.d
      (λ k l. ap₂ (λ (m c : ℕ). folded_by g m k c) a.reversed (a.coordinates k l) ∙ sym (folded-by g v k l))
      ∙ sym (number_is g v g.d)

  pub crossing-inside : (n : ℕ) → p.rest ≡ 0 → n ≡ number_by g p.reversed p.coordinates
      → record { vertex = record { 0 = n }; wrapped = p.wrapped; reversed = p.reversed } ≡ crossing_of g v
  crossing-inside n h e = rw (inside g v g.d (sym a.rest ∙ h), e, parts-number, a.wrapped, a.reversed)

  pub crossing-outside : (p.rest ≡ 0 → ⊥) → record { vertex = record { 0 = no_vertex }; wrapped = 0; reversed = 0 } ≡ crossing_of g v
  crossing-outside h = rw (outside g v g.d (λ e. h (a.rest ∙ e)))
