-- The walk's table of links says what the mates of cells say: a link across slots s and s' is a facet without positions d - s and d - s', and the signs are opposed there
-- exactly if they are as the link's flip has them. Assumes nothing.
use mathlib.Core.List.{List}
use mathlib.Core.Path.{◌≡◌, refl, sym, ap, ◌∙◌, subst}
use mathlib.Core.Logic.{◌⊎◌, inl, inr, ⊎_elim}
use Prim.Native.Nat.{ℕ, zero, suc, ◌+◌, ◌-◌, ◌*◌, ◌/◌, ◌%◌, ◌<◌, ◌≤◌}
use native.Mathlib.Nat.{suc-mod, zero-add, suc-add, mul-suc}
use native.Mathlib.Numerals.{add-one}
use native.Mathlib.Omega.{arith}
use lib.ListN.{length, get_or}
use Rattle.complex.specs.Facets.{Mates, slots}
use Rattle.lists.specs.Words.{none}
use Rattle.complex_mates.specs.Table.{MateTable, Across, Crossing}
use Rattle.complex_facets.specs.WorkAcross.{Linked}
use Rattle.lists.proofs.Rows.{row_in, row-div, row-mod, row-cell-below, row-slot-below, slots-some}
use Rattle.complex_mates.proofs.Meeting.{slots-most}
use Rattle.complex_mates.proofs.Places.{slots-pos}
use Rattle.complex_mates.proofs.Mated.{moved, rows_few, mate-below, facet-row, mates-row}
use Rattle.orientation_walk.specs.WorkSigns as walk
use Rattle.orientation_walk.specs.WorkSigns.{turned, Link}
use Rattle.orientation_walk.specs.WorkSigns.Way.{here, on}
use Rattle.multiindex.specs.Sign.{Sign, plus, minus, opposite, times, induced}
use Rattle.orientation_signs.specs.Signs.{Coherent, Joined, Oriented}
use Rattle.orientation_signs.specs.Signs.Joined.{here as start, across}
use Rattle.orientation_signs.specs.WorkFound.{sign_of, Searching, Finding}
use Rattle.orientation_signs.proofs.Unique.{double, cancel, forced}

-- ---- signs and the walk's numbers
abbrev pub code : Sign → ℕ
code plus = 1
code minus = 2

code-sign : (a : Sign) → sign_of (code a) ≡ a
code-sign plus = refl
code-sign minus = refl

pub sign-code : (n : ℕ) → walk.Sign n → code (sign_of n) ≡ n
sign-code zero s = absurd (omega (arith, s.some))
sign-code (suc zero) s = refl
sign-code (suc (suc zero)) s = refl
sign-code (suc (suc (suc n))) s = absurd (omega (arith, s.small))

code_is : (a : Sign) → walk.Sign (code a)
code_is plus = record { some = omega arith; small = omega arith }
code_is minus = record { some = omega arith; small = omega arith }

-- even or odd
parity : (p : ℕ) → ((p % 2 ≡ 0) × (induced p ≡ plus)) ⊎ ((p % 2 ≡ 1) × (induced p ≡ minus))
parity zero = inl (refl, refl)
parity (suc p) =
    ⊎_elim (λ w. inr (suc-mod p 2 ∙ ap (λ (x : ℕ). suc x % 2) w.0, ap opposite w.1)) (λ w. inl (suc-mod p 2 ∙ ap (λ (x : ℕ). suc x % 2) w.0, ap opposite w.1)) (parity p)

times-plus : (a : Sign) → times a plus ≡ a
times-plus plus = refl
times-plus minus = refl

times-minus : (a : Sign) → times a minus ≡ opposite a
times-minus plus = refl
times-minus minus = refl

code-opposite : (a : Sign) → 3 - code a ≡ code (opposite a)
code-opposite plus = refl
code-opposite minus = refl

-- a flip of the walk turns as the induced sign does
pub turned-code : (p : ℕ) (a : Sign) → turned (p % 2) (code a) ≡ code (times a (induced p))
unfolding turned
turned-code p a = ⊎_elim (λ w. rw (w.0, w.1, times-plus a)) (λ w. rw (w.0, w.1, times-minus a) (code-opposite a)) (parity p)

-- ---- induced signs
times-assoc : (a b c : Sign) → times (times a b) c ≡ times a (times b c)
times-assoc plus b c = refl
times-assoc minus plus c = refl
times-assoc minus minus c = sym (double c)

times-opposite : (a b : Sign) → times (opposite a) b ≡ opposite (times a b)
times-opposite plus b = refl
times-opposite minus b = sym (double b)

induced-sum : (a b : ℕ) → induced (a + b) ≡ times (induced a) (induced b)
induced-sum zero b = ap induced (zero-add b)
induced-sum (suc a) b = ap induced (suc-add a b) ∙ ap opposite (induced-sum a b) ∙ sym (times-opposite (induced a) (induced b))

-- both positions counted from the other end: the product of the induced signs is the same
ends : (a s t : Sign) → times (times a s) (times a t) ≡ times s t
ends plus s t = refl
ends minus plus plus = refl
ends minus plus minus = refl
ends minus minus plus = refl
ends minus minus minus = refl

from_end : (d s : ℕ) → s ≤ d → induced (d - s) ≡ times (induced d) (induced s)
from_end d s h =
    let e : (d - s) + s ≡ d = omega arith in
    sym (cancel (induced (d - s)) (induced s)) ∙ ap (λ (x : Sign). times x (induced s)) (sym (induced-sum (d - s) s) ∙ ap induced e)

-- the sign across a facet without positions d - s and d - s'
pub across-sign : (d s s' : ℕ) (a : Sign) → s ≤ d → s' ≤ d → times (opposite (times a (induced (d - s)))) (induced (d - s')) ≡ times a (induced (s + s' + 1))
across-sign d s s' a h h' =
    let p = induced (d - s) in
    let q = induced (d - s') in
    let e : times p q ≡ induced (s + s') = rw (from_end d s h, from_end d s' h') (ends (induced d) (induced s) (induced s') ∙ sym (induced-sum s s')) in
    let f : induced (s + s' + 1) ≡ opposite (induced (s + s')) = ap induced (add-one (s + s')) in
    times-opposite (times a p) q ∙ ap opposite (times-assoc a p q ∙ ap (times a) e) ∙ opposite-in a (induced (s + s')) ∙ ap (times a) (sym f)
  where
    opposite-in : (a b : Sign) → opposite (times a b) ≡ times a (opposite b)
    opposite-in plus b = refl
    opposite-in minus b = refl

-- opposed, where the sign across is that one
opposed-by : (d s s' : ℕ) (a b : Sign) → s ≤ d → s' ≤ d → b ≡ times a (induced (s + s' + 1)) → times a (induced (d - s)) ≡ opposite (times b (induced (d - s')))
opposed-by d s s' a b h h' e =
    let f : b ≡ times (opposite (times a (induced (d - s)))) (induced (d - s')) = e ∙ sym (across-sign d s s' a h h') in
    sym (double (times a (induced (d - s)))) ∙ ap opposite (sym (cancel (opposite (times a (induced (d - s)))) (induced (d - s'))) ∙ ap (λ (x : Sign). times x (induced (d - s'))) (sym f))

by-opposed : (d s s' : ℕ) (a b : Sign) → s ≤ d → s' ≤ d → times a (induced (d - s)) ≡ opposite (times b (induced (d - s'))) → b ≡ times a (induced (s + s' + 1))
by-opposed d s s' a b h h' e = forced a b (induced (d - s)) (induced (d - s')) e ∙ across-sign d s s' a h h'

turned_round : {d : ℕ} {cs : List (List ℕ)} {c i c' i' : ℕ} → Mates d cs c i c' i' → Mates d cs c' i' c i
turned_round u = record { this = u.that; that = u.this; apart = λ e. u.apart (sym e); one = sym u.one }

module _ (d m : ℕ) (cs : List (List ℕ)) (many : length cs ≡ m) (mates : List ℕ) (t : MateTable d cs mates) (few : m * suc d < none) where
  in-cs : (x : ℕ) → x < m * slots d → x < length cs * slots d
  in-cs x h = rw many h

  module _ (o fl : List ℕ) (a : (x : ℕ) → x < m * slots d → Across (slots d) mates o fl x) where
    -- a link is a pair of mates
    link-mates : {c j f : ℕ} → (l : Link m (slots d) o fl c j f) → (s' : ℕ) × (s' ≤ d) × (l.slot ≤ d) × Mates d cs c (d - l.slot) j (d - s') × (f ≡ (l.slot + s' + 1) % 2)
    link-mates {c} {j} {f} l =
        let s = l.slot in
        let x = c * slots d + s in
        let h : x < m * slots d = row_in c s m (slots d) l.from l.below in
        let e : x / slots d ≡ c = row-div c s (slots d) l.below in
        let g : x % slots d ≡ s = row-mod c s (slots d) l.below in
        let w = a x h in
        let some : get_or mates x 0 ≡ none → ⊥ = λ z. omega (arith, w.edge z, l.to, l.cell, few, mul-suc m d) in
        let u = t.meet x (in-cs x h) some in
        let y = get_or mates x 0 in
        let p : y / slots d ≡ j = sym (w.to some) ∙ l.to in
        let q : y % slots d < slots d = row-slot-below y m (slots d) (mate-below d m cs many mates t few x h some) in
        let o = slots-most d in
        let b = l.below in (
          y % slots d,
          omega arith,
          omega arith,
          moved d cs c (d - s) j (d - y % slots d) e (ap (λ (z : ℕ). d - z) g) p refl u,
          sym l.by ∙ w.by some ∙ ap (λ (z : ℕ). (z + y % slots d + 1) % 2) g,
        )

    -- and back
    mates-link : {c i c' i' : ℕ} → Mates d cs c i c' i' → Link m (slots d) o fl c c' ((d - i + (d - i') + 1) % 2)
    mates-link {c} {i} {c'} {i'} u =
        let x = facet-row d m cs many mates t few u.this in
        let y = facet-row d m cs many mates t few u.that in
        let q = mates-row d m cs many mates t few u in
        let w = a (c * slots d + (d - i)) x.0 in
        let some : get_or mates (c * slots d + (d - i)) 0 ≡ none → ⊥ = λ z. omega (arith, q, y.0, rows_few d m cs many mates t few) in
        let z : slots d ≡ suc d = slots-pos d u.this.some in
        record {
          slot = d - i;
          below = omega arith;
          from = omega (arith, u.this.cell);
          cell = omega (arith, u.that.cell);
          to = w.to some ∙ ap (λ (z : ℕ). z / slots d) q ∙ y.1;
          by =
              w.by some ∙ ap (λ (z : ℕ). (z + get_or mates (c * slots d + (d - i)) 0 % slots d + 1) % 2) x.2
              ∙ ap (λ (z : ℕ). (d - i + z % slots d + 1) % 2) q ∙ ap (λ (z : ℕ). (d - i + z + 1) % 2) y.2;
        }

    linked-back : (c j f : ℕ) → Link m (slots d) o fl c j f → Link m (slots d) o fl j c f
    linked-back c j f l =
        let v = link-mates l in
        let r = mates-link (turned_round v.3) in
        let e : d - (d - v.0) + (d - (d - l.slot)) + 1 ≡ l.slot + v.0 + 1 = omega (arith, v.1, v.2) in
        subst (λ (z : ℕ). Link m (slots d) o fl j c z) (ap (λ (z : ℕ). z % 2) e ∙ sym v.4) r

    pub links : m * slots d ≤ length o → m * slots d ≤ length fl → walk.Table m (slots d) o fl
    links lo lf =
        record {
          few = omega (arith, mul-suc m d);
          others = lo;
          flips = lf;
          cells =
              λ p h s.
              let w = a p h in
              let some : get_or mates p 0 ≡ none → ⊥ = λ z. s (w.edge z) in
              rw (w.to some) (row-cell-below (get_or mates p 0) m (slots d) (mate-below d m cs many mates t few p h some));
          back = linked-back;
        }

    -- coherent signs of cells are coherent to the walk
    pub coherent-down : (σ : ℕ → Sign) → Coherent d cs σ → walk.CoherentMarks m (slots d) o fl (λ c. code (σ c))
    coherent-down σ p =
        record {
          signs = λ c h. code_is (σ c);
          agree =
              λ c j f l.
              let v = link-mates l in
              ap code (by-opposed d l.slot v.0 (σ c) (σ j) v.2 v.1 (p.opposed c (d - l.slot) j (d - v.0) v.3))
              ∙ sym (turned-code (l.slot + v.0 + 1) (σ c)) ∙ ap (λ (z : ℕ). turned z (code (σ c))) (sym v.4);
        }

    code-inj : (x y : Sign) → code x ≡ code y → x ≡ y
    code-inj x y e = sym (code-sign x) ∙ ap sign_of e ∙ code-sign y

    -- and the walk's are coherent
    pub coherent-up : (τ : ℕ → ℕ) → walk.CoherentMarks m (slots d) o fl τ → Coherent d cs (λ c. sign_of (τ c))
    coherent-up τ p =
        record {
          opposed =
              λ c i c' i' u.
              let hc : c < m = omega (arith, u.this.cell) in
              let hc' : c' < m = omega (arith, u.that.cell) in
              let r : τ c' ≡ turned ((d - i + (d - i') + 1) % 2) (τ c) = p.agree c c' ((d - i + (d - i') + 1) % 2) (mates-link u) in
              let e : code (sign_of (τ c')) ≡ code (times (sign_of (τ c)) (induced (d - i + (d - i') + 1))) =
              sign-code (τ c') (p.signs c' hc') ∙ r ∙ ap (turned ((d - i + (d - i') + 1) % 2)) (sym (sign-code (τ c) (p.signs c hc))) ∙ turned-code (d - i + (d - i') + 1) (sign_of (τ c)) in
              let f = opposed-by d (d - i) (d - i') (sign_of (τ c)) (sign_of (τ c')) (omega arith) (omega arith) (code-inj _ _ e) in
              let g : d - (d - i) ≡ i = omega (arith, u.this.place) in
              let g' : d - (d - i') ≡ i' = omega (arith, u.that.place) in
              ap (λ (z : ℕ). times (sign_of (τ c)) (induced z)) (sym g) ∙ f ∙ ap (λ (z : ℕ). opposite (times (sign_of (τ c')) (induced z))) g';
        }

    way-joined : {c j s : ℕ} → walk.Way m (slots d) o fl c j s → Joined d cs c j
    way-joined (here e) = start
    way-joined (on w l e) = across (way-joined w) (link-mates l).3

    pub oriented-up : (τ : ℕ → ℕ) → walk.OrientedMarks m (slots d) o fl τ → Oriented d cs (λ c. sign_of (τ c))
    oriented-up τ p =
        record {
          coherent = coherent-up τ p.coherent;
          lowest = λ c h low. ap sign_of (p.lowest c (omega arith) (λ j s w. low j (way-joined w)));
        }

-- ---- the call `coherent`, step by step; k is the number of slots as the code has it
pub across-in : (d m : ℕ) (cs : List (List ℕ)) → length cs ≡ m → (o fl : List ℕ) (l : Linked d cs o fl) → (x : ℕ) → x < m * slots d → Across (slots d) l.mates o fl x
across-in d m cs many o fl l x h = l.across x (subst (λ (z : ℕ). x < z * slots d) (sym many) h)

module _ (d m : ℕ) (other flip marks stack : List ℕ) (w : Searching d m other flip marks stack) (k : ℕ) (e : k ≡ slots d) where
  pub searching-few : m * k < none
  searching-few = rw e (rows_few d m w.cs w.many w.linked.mates w.linked.table w.few)

  pub searching-links : walk.Table m k other flip
  searching-links =
      subst (λ (z : ℕ). walk.Table m z other flip) (sym e)
      (links d m w.cs w.many w.linked.mates w.linked.table w.few other flip (across-in d m w.cs w.many other flip w.linked) w.other_long w.flip_long)

-- ---- the same over a table of mates
module _ (d m : ℕ) (rows keys spare counts : List ℕ) (w : Finding d m rows keys spare counts) (k : ℕ) (e : k ≡ slots d) where
  pub finding-few : m * k < none
  finding-few = rw e (rows_few d m w.cs w.many rows w.mates w.few)

  pub finding-crossing : Crossing k (m * k) rows keys spare
  finding-crossing =
      subst (λ (z : ℕ). Crossing z (m * z) rows keys spare) (sym e)
      (record {
        mates_long = w.rows_long;
        other_long = w.keys_long;
        flip_long = w.spare_long;
        few = rows_few d m w.cs w.many rows w.mates w.few;
        below = mate-below d m w.cs w.many rows w.mates w.few;
        some = λ x h. slots-some x m (slots d) h;
      })

  pub finding-links : (o fl : List ℕ) → length o ≡ length keys → length fl ≡ length spare → ((x : ℕ) → x < m * k → Across k rows o fl x) → walk.Table m k o fl
  finding-links o fl lo lf =
      subst (λ (z : ℕ). ((x : ℕ) → x < m * z → Across z rows o fl x) → walk.Table m z o fl) (sym e)
      (λ a. links d m w.cs w.many rows w.mates w.few o fl a (omega (arith, w.keys_long)) (omega (arith, w.spare_long)))
