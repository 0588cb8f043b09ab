-- One turn more: a number renamed, a row that is no match, a row that is named. Assumes nothing.
use mathlib.Core.List.{List}
use mathlib.Core.Path.{◌≡◌, sym, ap, subst, ◌∙◌}
use Prim.Native.Nat.{ℕ, ◌+◌, ◌*◌, ◌-◌, ◌≤◌, ◌<◌}
use native.Mathlib.Omega.{arith}
use native.Mathlib.Nat.{suc-mul, mul-le-mul_right, add-mul}
use lib.ListN.{length, get_or, take, drop, set}
use native.Mathlib.Decide.{dec_lt}
use lib.Seq.{get_or-set_same, get_or-set_other, length-take-le}
use borrow.Author.Count.{below_more}
use Rattle.lists.specs.Rows.{row}
use Rattle.replay_towers.specs.WorkRows.{First, Only, Matched}

-- number k has its name
abbrev pub NamedAt : List ℕ → List ℕ → List ℕ → ℕ → Type 0
NamedAt names words renamed k = (get_or words k 0 < length names) × (get_or renamed k 0 ≡ get_or names (get_or words k 0) 0)

pub named_more : (names words renamed : List ℕ) (i v : ℕ) → v ≡ get_or words i 0 → v < length names → i < length renamed → ((k : ℕ) → k < i → NamedAt names words renamed k)
    → (k : ℕ) → k < i + 1 → NamedAt names words (set renamed i (get_or names v 0)) k
named_more names words renamed i v e b l h =
    below_more (NamedAt names words (set renamed i (get_or names v 0))) i
    (λ k q. ((h k q).0, get_or-set_other renamed i k (get_or names v 0) 0 (λ w. absurd (omega arith)) ∙ (h k q).1))
    (subst (λ (u : ℕ). u < length names) e b, get_or-set_same renamed i (get_or names v 0) 0 l ∙ ap (λ (u : ℕ). get_or names u 0) e)

-- the part from at to at + width is row i
pub part-row : (xs : List ℕ) (width i at : ℕ) → at ≡ i * width → take (at + width - at) (drop at xs) ≡ row xs width i
part-row xs width i at e =
    let w : at + width - at ≡ width = omega arith in
    ap (λ (u : ℕ). take u (drop at xs)) w ∙ ap (λ (u : ℕ). take width (drop u xs)) e

-- a row ends inside the list
pub row_ends : (i count width at len : ℕ) → at ≡ i * width → i < count → count * width ≤ len → at + width ≤ len
row_ends i count width at len e l b = omega (arith, suc-mul i width, mul-le-mul_right width l)

-- the next row begins where this one ends
pub row_next : (i width at : ℕ) → at ≡ i * width → at + width ≡ (i + 1) * width
row_next i width at e = omega (arith, add-mul i 1 width)

-- a row more that is not equal
pub none_more : (P : ℕ → Type 0) (from i : ℕ) → ((k : ℕ) → from ≤ k → k < i → P k → ⊥) → (P i → ⊥) → (k : ℕ) → from ≤ k → k < i + 1 → P k → ⊥
none_more P from i h here k l q = below_more (λ (m : ℕ). from ≤ m → P m → ⊥) i (λ m b a. h m a b) (λ a. here) k q l

-- no other is equal: none before the first, and none after it
pub only_one : (width : ℕ) (r among : List ℕ) (count y z : ℕ) → First width r among count 0 y → y < count → First width r among count (y + 1) z → (z < count → ⊥) → Only width r among count y
only_one width r among count y z f l g n =
    record {
      at_most = f.at_most;
      equal = f.equal;
      no_other = λ b k q e.
          elim (dec_lt k y) [
            | yes h ↦ absurd (f.before k (omega arith) h e)
            | no h ↦ elim (dec_lt y k) [
              | yes u ↦ absurd (g.before k (omega arith) (elim (dec_lt z count) [ yes w ↦ absurd (n w) | no w ↦ omega arith ]) e)
              | no u ↦ omega arith
            ]
          ];
    }

-- no row's number
pub only_none : (width : ℕ) (r among : List ℕ) (count : ℕ) → Only width r among count count
only_none width r among count = record { at_most = omega arith; equal = λ h. absurd (omega arith); no_other = λ h. absurd (omega arith) }

-- row k has its name, and that name is taken
pub record NamedRow (width count : ℕ) (rows among names taken : List ℕ) (k : ℕ) : Type 0 where
  pub below : get_or names k 0 < count
  pub equal : row among width (get_or names k 0) ≡ row rows width k
  pub no_other : (j : ℕ) → j < count → row among width j ≡ row rows width k → j ≡ get_or names k 0
  pub taken-too : get_or taken (get_or names k 0) 0 ≡ 0 → ⊥

-- the first x rows have their names
pub record Upto (width count : ℕ) (rows among names taken : List ℕ) (x : ℕ) : Type 0 where
  pub named : (k : ℕ) → k < x → NamedRow width count rows among names taken k
  pub apart : (i j : ℕ) → i < j → j < x → get_or names i 0 ≡ get_or names j 0 → ⊥

pub upto-none : (width count : ℕ) (rows among names taken : List ℕ) → Upto width count rows among names taken 0
upto-none width count rows among names taken = record { named = λ k h. absurd (omega arith); apart = λ i j l h. absurd (omega arith) }

pub upto_done : (width count : ℕ) (rows among names taken : List ℕ) (x : ℕ) → Upto width count rows among names taken x → (x < count → ⊥) → Matched width count rows among names
upto_done width count rows among names taken x u n =
    let m : count ≤ x = elim (dec_lt x count) [ yes h ↦ absurd (n h) | no h ↦ omega arith ] in
    record {
      below = λ k l. (u.named k (omega arith)).below;
      equal = λ k l. (u.named k (omega arith)).equal;
      no_other = λ k l. (u.named k (omega arith)).no_other;
      apart = λ i j l h. u.apart i j l (omega arith);
    }

-- a name that is given earlier is kept, and stays taken
keep : (width count : ℕ) (rows among names taken : List ℕ) (x y k : ℕ) → k < x → (get_or taken y 0 ≡ 0) → NamedRow width count rows among names taken k
    → NamedRow width count rows among (set names x y) (set taken y 1) k
keep width count rows among names taken x y k l z r =
    let e : get_or (set names x y) k 0 ≡ get_or names k 0 = get_or-set_other names x k y 0 (λ w. absurd (omega arith)) in
    let d : get_or names k 0 ≡ y → ⊥ = λ w. r.taken-too (ap (λ (u : ℕ). get_or taken u 0) w ∙ z) in
    record {
      below = subst (λ (u : ℕ). u < count) (sym e) r.below;
      equal = ap (λ (u : ℕ). row among width u) e ∙ r.equal;
      no_other = λ j b q. r.no_other j b q ∙ sym e;
      taken-too = λ w. r.taken-too (sym (get_or-set_other taken y (get_or names k 0) 1 0 d) ∙ ap (λ (u : ℕ). get_or (set taken y 1) u 0) (sym e) ∙ w);
    }

-- the new name
give : (width count : ℕ) (rows among names taken : List ℕ) (x y : ℕ) → x < length names → y < length taken → y < count → Only width (row rows width x) among count y
    → NamedRow width count rows among (set names x y) (set taken y 1) x
give width count rows among names taken x y a b l o =
    let e : get_or (set names x y) x 0 ≡ y = get_or-set_same names x y 0 a in
    record {
      below = subst (λ (u : ℕ). u < count) (sym e) l;
      equal = ap (λ (u : ℕ). row among width u) e ∙ o.equal l;
      no_other = λ j q h. o.no_other l j q h ∙ sym e;
      taken-too = λ w. let one : ◌≡◌ {A = ℕ} 1 0 = sym (get_or-set_same taken y 1 0 b) ∙ ap (λ (u : ℕ). get_or (set taken y 1) u 0) (sym e) ∙ w in absurd (omega arith);
    }

pub upto-more : (width count : ℕ) (rows among names taken : List ℕ) (x y : ℕ) → Upto width count rows among names taken x → x < length names → y < length taken → y < count
    → Only width (row rows width x) among count y → get_or taken y 0 ≡ 0 → Upto width count rows among (set names x y) (set taken y 1) (x + 1)
upto-more width count rows among names taken x y u a b l o z =
    let same : (k : ℕ) → k < x → get_or (set names x y) k 0 ≡ get_or names k 0 = λ k h. get_or-set_other names x k y 0 (λ w. absurd (omega arith)) in
    record {
      named = below_more (NamedRow width count rows among (set names x y) (set taken y 1)) x (λ k h. keep width count rows among names taken x y k h z (u.named k h))
          (give width count rows among names taken x y a b l o);
      apart = λ i j h q e.
          elim (dec_lt j x) [
            | yes w ↦ u.apart i j h w (sym (same i (omega arith)) ∙ e ∙ same j w)
            | no w ↦
                let j-is : j ≡ x = omega arith in
                (u.named i (omega arith)).taken-too (ap (λ (v : ℕ). get_or taken v 0) (sym (same i (omega arith)) ∙ e ∙ ap (λ (v : ℕ). get_or (set names x y) v 0) j-is ∙ get_or-set_same names x y 0 a) ∙ z)
          ];
    }

-- a part from the front is as long as it says
pub part-long : (r n : ℕ) (xs : List ℕ) → length xs ≡ n → r ≤ n → length (take r xs) ≡ r
part-long r n xs e h = length-take-le r xs (subst (λ (k : ℕ). r ≤ k) (sym e) h)
