-- Children inherit direction: with coherent signs on the cells' words, which agree on facets, the parents' signs times those of the orders in which the
-- children's axes are stepped are coherent. Assumes nothing.
use mathlib.Core.Path.{◌≡◌, refl, sym, ap, ◌∙◌, subst}
use mathlib.Core.Logic.{◌≢◌}
use mathlib.Core.List.{List, [], ◌∷◌}
use Prim.Native.Nat.{ℕ, zero, suc, ◌+◌, ◌*◌, ◌-◌, ◌≤◌, ◌<◌, suc-le-suc}
use native.Mathlib.Nat.{not-suc-le-zero, le_of_suc-le-suc}
use native.Mathlib.Decide.{ℕ_discrete, dec_lt}
use native.Mathlib.Omega.{arith}
use lib.ListN.{length, get_or}
use Rattle.lists.specs.Tables.{sum}
use Rattle.refine_lattice.specs.Lattice.{Perm}
use Rattle.refine_lattice.specs.Complex.{Words, occurrences, common, Complex, Refined, WordsAgreeOnFacets}
use Rattle.refine_lattice.specs.Conform.{Meet, Distinct}
use Rattle.multiindex.specs.Sort.{inversions}
use Rattle.refine_lattice.specs.Signs.{Even, Odd, Signs, CoherentByPlace, less, Handed}
use Rattle.refine_lattice.proofs.Tab.{step, step-yes, step-no, step-one}
use Rattle.refine_lattice.proofs.Perms.{Undoes, one_place}
use Rattle.lists.proofs.Words.{same_self, same-yes}
use Rattle.refine_lattice.proofs.Codes.{Code}
use Rattle.refine_lattice.proofs.After.{keep-yes, keep-no, later}
use Rattle.refine_lattice.proofs.Enumerate.{times-at, place-of}
use Rattle.refine_lattice.proofs.Span.{low, high, load, low-in, load_is, Flat, tip, falls-here, rises-here}
use Rattle.refine_lattice.proofs.Seats.{one_word, Sits, sits, sits-order, spot_of}
use Rattle.refine_lattice.proofs.Conform.{counts, inside, Row, across, meet-sym, Seat, Blank, flat-of, facing, twin, blank-across, differ, shared, cells_meet, plain-refined, long-refined}
use Rattle.refine_lattice.proofs.Inherit.{all_but_one, seen, level}
use Rattle.refine_lattice.proofs.Inversions.{inversions-sum}
use Rattle.refine_lattice.proofs.Parity.{less-step, inverse, falling, sum-2, undone, skip, skip-not, skip_below, skip-low, compare}
use Rattle.refine_lattice.proofs.Turn.{step-zero, turn}

-- the inversions of a child's order are those of its times
pub inversions-are : (d : ℕ) (p : List ℕ) (t : ℕ → ℕ) → length p ≡ d → Perm d (λ i. get_or p i 0) → Undoes d (λ i. get_or p i 0) t
    → inversions p ≡ inverse d t
inversions-are d p t e g u =
    inversions-sum p
    ∙ ap (λ (n : ℕ). sum n (λ a. sum n (λ b. less a b * less (get_or p b 0) (get_or p a 0)))) e
    ∙ sum-2 d d (λ a b. less a b * less (get_or p b 0) (get_or p a 0)) (falling (λ i. get_or p i 0))
    (λ a b h k. cc (less-step a b, less-step (get_or p b 0) (get_or p a 0)))
    ∙ undone d t (λ i. get_or p i 0) g u.left

-- the axis that a facet in a facet of the cell leaves out
pub record Cut (e : ℕ) (t : ℕ → ℕ) (i p : ℕ) : Type 0 where
  pub q : ℕ
  pub below : q < suc e
  pub z : ℕ
  pub even : p + i ≡ q + t q + (z + z)
  pub away : (l : ℕ) → l < suc e → l ≢ q → t l ≢ i
  pub skips : (a : ℕ) → a < e → skip p a ≡ skip q a

pub cut : (e R : ℕ) (base t : ℕ → ℕ) (c : Code (suc e) R base t) → 0 < R → (i p : ℕ) → i < suc (suc e) → p < suc (suc e)
    → Flat (suc e) R base t c p i → Cut e t i p
unfolding Flat
cut e R base t c r i p bi bp f =
    let d : ℕ = suc e in
    let up : 0 < load d R base t c p i = tip d R base t c r p i bp f in
    elim (dec_lt i d) [
      | yes h ↦
          let (b, w) = falls-here d R base t c p i up (f (suc i) (suc-le-suc h) (omega arith)) in
          record {
            q = p;
            below = b;
            z = 0;
            even = omega arith;
            away = λ l k n y. n (one_place c.perm l p k b (y ∙ sym w));
            skips = λ a k. refl;
          }
      | no h ↦
          let u : i ≡ suc e = omega arith in
          let (j, b, w, v) =
          rises-here d R base t c p e bp (f e (omega arith) (omega arith)) (subst (λ (y : ℕ). 0 < load d R base t c p y) u up) in
          let last : p ≡ suc e =
          elim (dec_lt p d) [
            | yes k ↦
                let lo : load d R base t c p 0 ≡ 0 = f 0 (omega arith) (omega arith) in
                let hi : high d R base t c p 0 ≡ low d R base t c j 0 = ap (λ (y : ℕ). high d R base t c y 0) w in
                let g : base j ≡ base p =
                omega (arith, load_is d R base t c p 0, low-in d R base t c j 0 b, low-in d R base t c p 0 k) in
                absurd (omega (arith, c.ties j p (omega arith) k g, c.perm.below p k))
            | no k ↦ omega arith
          ] in
          let last-j : j ≡ e = omega arith in
          record {
            q = j;
            below = b;
            z = 1;
            even = omega arith;
            away = λ l k n y. omega (arith, c.perm.below l k);
            skips = λ a k. skip-low p a (omega arith) ∙ sym (skip-low j a (omega arith));
          }
    ]

-- the vertices that a word shares with one that lacks only its vertex at place p
none-lost : (k l : List ℕ) → ((v : ℕ) → 0 < occurrences k v → 0 < occurrences l v) → common k l ≡ k
none-lost [] l h = refl
none-lost (x ∷ k) l h =
    keep-yes (occurrences l x) x (common k l) (h x (omega (arith, same_self x)))
    ∙ ap {B = List ℕ} (λ r. x ∷ r) (none-lost k l (λ v a. h v (omega arith)))

pub common-skip : (k l : List ℕ) → ((v : ℕ) → occurrences k v ≤ 1) → (p : ℕ) → p < length k → occurrences l (get_or k p 0) ≡ 0
    → ((v : ℕ) → 0 < occurrences k v → v ≢ get_or k p 0 → 0 < occurrences l v) → (a : ℕ) → get_or (common k l) a 0 ≡ get_or k (skip p a) 0
common-skip [] l u p b z h a = absurd (not-suc-le-zero b)
common-skip (x ∷ k) l u zero b z h a =
    ap (λ (r : List ℕ). get_or r a 0)
    (keep-no (occurrences l x) x (common k l) z
    ∙ none-lost k l (λ v g. h v (omega arith) (λ e. omega (arith, u v, same-yes v x e))))
common-skip (x ∷ k) l u (suc p) b z h zero =
    ap (λ (r : List ℕ). get_or r 0 0)
    (keep-yes (occurrences l x) x (common k l)
    (h x (omega (arith, same_self x))
    (λ e. omega (arith, u x, same_self x, times-at k p (le_of_suc-le-suc b), ap (occurrences k) e))))
common-skip (x ∷ k) l u (suc p) b z h (suc a) =
    ap (λ (r : List ℕ). get_or r (suc a) 0)
    (keep-yes (occurrences l x) x (common k l)
    (h x (omega (arith, same_self x))
    (λ e. omega (arith, u x, same_self x, times-at k p (le_of_suc-le-suc b), ap (occurrences k) e))))
    ∙ common-skip k l (λ v. omega (arith, u v)) p (le_of_suc-le-suc b) z (λ v g. h v (omega arith)) a

module _ (e R n : ℕ) (K M : Words) (share : ℕ → ℕ → ℕ) (pos : 0 < R) (complex : Complex (suc e) n K) (refined : Refined (suc e) R K M share) where
  abbrev d : ℕ
  d = suc e

  abbrev Home : List ℕ → Type 0
  Home = Seat d R n K M share pos complex refined

  -- a facet that words of two cells have
  module _ (m m' : List ℕ) (s : Home m) (s' : Home m') (agree : common s.k s'.k ≡ common s'.k s.k) (i i' : ℕ)
      (goes : (x : ℕ) → x < suc d → x ≢ i → (y : ℕ) × (y < suc d) × (y ≢ i') × (get_or m x 0 ≡ get_or m' y 0)) where
    -- one vertex, at place l of the one cell's word and l' of the other's, has the same coordinate in both
    coordinate : (x y l l' : ℕ) → x < suc d → y < suc d → l < d → l' < d → get_or m x 0 ≡ get_or m' y 0 → get_or s.k l 0 ≡ get_or s'.k l' 0
        → s.sat.base l + step (s.sat.time l) x ≡ s'.sat.base l' + step (s'.sat.time l') y
    coordinate x y l l' bx by bl bl' f g =
        let u : ℕ = get_or s.k l 0 in
        let w : l < length s.k = omega (arith, complex.long s.k s.in_K) in
        let w' : l' < length s'.k = omega (arith, complex.long s'.k s'.in_K) in
        sym (low-in d R s.sat.base s.sat.time s.sat.code l x bl)
        ∙ sym (seen d R n K M share pos complex refined m s x l bx (omega arith))
        ∙ level d R n K M share pos complex refined m m' s s' agree x y bx by f u (times-at s.k l w)
        (subst (λ (z : ℕ). 0 < occurrences s'.k z) (sym g) (times-at s'.k l' w'))
        ∙ ap (λ (z : ℕ). later n s'.k (share z) u) f
        ∙ ap (λ (z : ℕ). later n s'.k (share (get_or m' y 0)) z) g
        ∙ seen d R n K M share pos complex refined m' s' y l' by (omega arith)
        ∙ low-in d R s'.sat.base s'.sat.time s'.sat.code l' y bl'

    base-le : (l l' : ℕ) → l < d → l' < d → get_or s.k l 0 ≡ get_or s'.k l' 0 → s.sat.time l ≢ i → s'.sat.base l' ≤ s.sat.base l
    base-le l l' bl bl' g n =
        let x : ℕ = s.sat.time l in
        let bx : x < suc d = omega (arith, s.sat.code.perm.below l bl) in
        let (y, by, w, f) = goes x bx n in
        omega (arith, coordinate x y l l' bx by bl bl' f g, step-no x x (omega arith))

    order : (la lb la' lb' : ℕ) → la < d → lb < d → la' < d → lb' < d
        → get_or s.k la 0 ≡ get_or s'.k la' 0 → get_or s.k lb 0 ≡ get_or s'.k lb' 0
        → s.sat.base la ≡ s'.sat.base la' → s.sat.base lb ≡ s'.sat.base lb'
        → s.sat.time la ≢ i → s.sat.time lb < s.sat.time la → s'.sat.time lb' < s'.sat.time la'
    order la lb la' lb' ba bb ba' bb' ga gb ea eb n h =
        let x : ℕ = s.sat.time la in
        let bx : x < suc d = omega (arith, s.sat.code.perm.below la ba) in
        let (y, by, w, f) = goes x bx n in
        omega (
          arith,
          step-zero (s'.sat.time la') y (omega (arith, coordinate x y la la' bx by ba ba' f ga, step-no x x (omega arith))),
          step-one (s'.sat.time lb') y (omega (arith, coordinate x y lb lb' bx by bb bb' f gb, step-yes (s.sat.time lb) x h)),
        )

  -- the signs of the orders on it, by the places that it leaves out
  module _ (m m' : List ℕ) (s : Home m) (s' : Home m') (agree : common s.k s'.k ≡ common s'.k s.k) (z z' : ℕ)
      (r : Row d m z) (r' : Row d m' z') (meet : Meet m z m' z') (p p' : ℕ)
      (c : Cut e s.sat.time r.i p) (c' : Cut e s'.sat.time r'.i p')
      (aligned : (a : ℕ) → get_or s.k (skip p a) 0 ≡ get_or s'.k (skip p' a) 0) where
    goes : (x : ℕ) → x < suc d → x ≢ r.i → (y : ℕ) × (y < suc d) × (y ≢ r'.i) × (get_or m x 0 ≡ get_or m' y 0)
    goes = across d m m' z z' r r' meet

    comes : (x : ℕ) → x < suc d → x ≢ r'.i → (y : ℕ) × (y < suc d) × (y ≢ r.i) × (get_or m' x 0 ≡ get_or m y 0)
    comes = across d m' m z' z r' r (meet-sym m m' z z' meet)

    one-vertex : (a : ℕ) → a < e → get_or s.k (skip c.q a) 0 ≡ get_or s'.k (skip c'.q a) 0
    one-vertex a h =
        ap (λ (y : ℕ). get_or s.k y 0) (sym (c.skips a h)) ∙ aligned a ∙ ap (λ (y : ℕ). get_or s'.k y 0) (c'.skips a h)

    away-at : (a : ℕ) → a < e → s.sat.time (skip c.q a) ≢ r.i
    away-at a h = c.away (skip c.q a) (skip_below c.q a e h) (skip-not c.q a)

    away-at' : (a : ℕ) → a < e → s'.sat.time (skip c'.q a) ≢ r'.i
    away-at' a h = c'.away (skip c'.q a) (skip_below c'.q a e h) (skip-not c'.q a)

    one-base : (a : ℕ) → a < e → s.sat.base (skip c.q a) ≡ s'.sat.base (skip c'.q a)
    one-base a h =
        let l : ℕ = skip c.q a in
        let l' : ℕ = skip c'.q a in
        let b : l < d = skip_below c.q a e h in
        let b' : l' < d = skip_below c'.q a e h in
        omega (
          arith,
          base-le m m' s s' agree r.i r'.i goes l l' b b' (one-vertex a h) (away-at a h),
          base-le m' m s' s (sym agree) r'.i r.i comes l' l b' b (sym (one-vertex a h)) (away-at' a h),
        )

    compared : (x : ℕ) × (y : ℕ)
        × (inverse d s.sat.time + (x + x) + (c'.q + s'.sat.time c'.q) ≡ inverse d s'.sat.time + (y + y) + (c.q + s.sat.time c.q))
    compared =
        compare e s.sat.time s'.sat.time s.sat.code.perm s'.sat.code.perm c.q c'.q c.below c'.below
        (λ a b h k w.
        order m m' s s' agree r.i r'.i goes (skip c.q a) (skip c.q b) (skip c'.q a) (skip c'.q b)
        (skip_below c.q a e h) (skip_below c.q b e k) (skip_below c'.q a e h) (skip_below c'.q b e k)
        (one-vertex a h) (one-vertex b k) (one-base a h) (one-base b k) (away-at a h) w)

    -- where the cells' signs are opposite on their facet, the words' signs are on theirs
    handed : (g g' : ℕ) → Odd (g + p + (g' + p')) → Odd (g + inverse d s.sat.time + r.i + (g' + inverse d s'.sat.time + r'.i))
    unfolding Odd
    handed g g' (h, w) =
        let (x, y, f) = compared in
        (h + inverse d s'.sat.time + y + r.i + c'.z - (p' + x + c.z), omega (arith, c.even, c'.even))

-- a word with its sign, in its cell
record Pack (d R : ℕ) (K M : Words) (share : ℕ → ℕ → ℕ) (S : Signs) (k m : List ℕ) (z : ℕ) : Type 0 where
  in_K : K k
  in_M : M m
  sat : Sits d R share k m
  sign : ℕ
  signed : S k sign
  is : z ≡ sign + inverse d sat.time

pack : {d R : ℕ} {K M : Words} {share : ℕ → ℕ → ℕ} {S : Signs} {m : List ℕ} {z : ℕ} (h : Handed d R K M share S m z) → Pack d R K M share S h.k m z
pack {d} h =
    let s = sits h.child h.names in
    record {
      in_K = h.in_K;
      in_M = h.in_M;
      sat = s;
      sign = h.sign;
      signed = h.signed;
      is =
          h.is
          ∙ ap (λ (y : ℕ). h.sign + y)
          (inversions-are d h.child.order s.time h.child.axes.long h.child.axes.perm (sits-order h.child h.names));
    }

odd-sum : (g g' x y : ℕ) → Even (g + g') → Odd (x + y) → Odd (g + x + (g' + y))
unfolding Even Odd
odd-sum g g' x y (h, e) (l, f) = (h + l, omega arith)

-- one word in one cell has one code
one_time : (d R : ℕ) (share : ℕ → ℕ → ℕ) (k m : List ℕ) → length k ≡ suc d → ((v : ℕ) → occurrences k v ≤ 1) → (s s' : Sits d R share k m)
    → inverse d s.time ≡ inverse d s'.time
one_time d R share k m h p s s' =
    sum-2 d d (falling s.time) (falling s'.time) (λ i j a b. cc (same-time i a, same-time j b))
  where
    spot : (x l : ℕ) → x < suc d → l < d → s.base l + step (s.time l) x ≡ s'.base l + step (s'.time l) x
    spot x l a b = spot_of d R share k h p m m s s' x x a a refl l b

    same-time : (l : ℕ) → l < d → s.time l ≡ s'.time l
    same-time l b =
        let t : ℕ = s.time l in
        let t' : ℕ = s'.time l in
        omega (
          arith,
          step-zero t' t (omega (arith, spot t l (omega (arith, s.code.perm.below l b)) b, spot 0 l (omega arith) b, step-no t t (omega arith))),
          step-zero t t' (omega (arith, spot t' l (omega (arith, s'.code.perm.below l b)) b, spot 0 l (omega arith) b, step-no t' t' (omega arith))),
        )

module _ (d R n : ℕ) (K M : Words) (share : ℕ → ℕ → ℕ) (S : Signs) (pos : 0 < R) (complex : Complex d n K) (refined : Refined d R K M share)
    (distinct : Distinct K) (coherent : CoherentByPlace d S) where
  abbrev seat-of : (k m : List ℕ) (z : ℕ) → Pack d R K M share S k m z → Seat d R n K M share pos complex refined m
  seat-of k m z a = record { k = k; in_K = a.in_K; in_M = a.in_M; sat = a.sat }

  one_parent : (k k' m : List ℕ) (z z' : ℕ) → Pack d R K M share S k m z → Pack d R K M share S k' m z' → k ≡ k'
  unfolding Distinct
  one_parent k k' m z z' a b =
      distinct k k' a.in_K b.in_K (λ v.
      counts
      (inside d R n K M share pos complex refined m m (seat-of k m z a) (seat-of k' m z' b) (λ u h. h) v)
      (inside d R n K M share pos complex refined m m (seat-of k' m z' b) (seat-of k m z a) (λ u h. h) v)
      (complex.plain k a.in_K v) (complex.plain k' b.in_K v))

  one-sign : (k m : List ℕ) (z z' : ℕ) → Pack d R K M share S k m z → Pack d R K M share S k m z' → Even (z + z')
  unfolding Even
  one-sign k m z z' a b =
      let (h, f) = coherent.one k a.sign b.sign a.signed b.signed in (
        h + inverse d a.sat.time,
        omega (arith, a.is, b.is, one_time d R share k m (complex.long k a.in_K) (complex.plain k a.in_K) a.sat b.sat),
      )

  pub one-handed : (m : List ℕ) (z z' : ℕ) → Handed d R K M share S m z → Handed d R K M share S m z' → Even (z + z')
  one-handed m z z' h h' =
      one-sign h.k m z z' (pack h)
      (subst (λ (k : List ℕ). Pack d R K M share S k m z') (sym (one_parent h.k h'.k m z z' (pack h) (pack h'))) (pack h'))

  abbrev row_at : (m : List ℕ) → M m → (i : ℕ) → i < suc d → Row d m (get_or m i 0)
  row_at m h i b = record {
    long = long-refined d R n K M share pos complex refined m h;
    plain = plain-refined d R n K M share pos complex refined m h;
    i = i;
    below = b;
    at = refl;
  }

module _ (e R n : ℕ) (K M : Words) (share : ℕ → ℕ → ℕ) (S : Signs) (pos : 0 < R) (complex : Complex (suc e) n K) (refined : Refined (suc e) R K M share)
    (distinct : Distinct K) (coherent : CoherentByPlace (suc e) S) (agree : WordsAgreeOnFacets (suc e) K) where
  abbrev Packed : List ℕ → List ℕ → ℕ → Type 0
  Packed = Pack (suc e) R K M share S

  abbrev Set : (k m : List ℕ) (z : ℕ) → Packed k m z → Seat (suc e) R n K M share pos complex refined m
  Set = seat-of (suc e) R n K M share S pos complex refined distinct coherent

  abbrev Line : (m : List ℕ) → M m → (i : ℕ) → i < suc (suc e) → Row (suc e) m (get_or m i 0)
  Line = row_at (suc e) R n K M share S pos complex refined distinct coherent

  -- two words of one cell
  in_one : (k m m' : List ℕ) (z z' : ℕ) (a : Packed k m z) (b : Packed k m' z') → m ≢ m' → (i j : ℕ) → i < suc (suc e) → j < suc (suc e)
      → Meet m (get_or m i 0) m' (get_or m' j 0) → Odd (z + i + (z' + j))
  in_one k m m' z z' a b q i j bi bj f =
      let s = a.sat in
      let s' = b.sat in
      let r = Line m a.in_M i bi in
      let r' = Line m' b.in_M j bj in
      let t : Odd (inverse (suc e) s.time + i + (inverse (suc e) s'.time + j)) =
      turn e s.base s.time s'.base s'.time s.code.perm s'.code.perm i j bi bj
      (facing (suc e) R n K M share pos complex refined k a.in_K m m' s s' (get_or m i 0) (get_or m' j 0) r r' f)
      (λ w. q (twin (suc e) R n K M share pos complex refined k a.in_K m m' a.in_M b.in_M s s' (get_or m i 0) (get_or m' j 0) r r' f w)) in
      subst Odd (omega (arith, a.is, b.is))
      (odd-sum a.sign b.sign (inverse (suc e) s.time + i) (inverse (suc e) s'.time + j)
      (coherent.one k a.sign b.sign a.signed b.signed) t)

  -- words of two cells
  module _ (k k' m m' : List ℕ) (z z' : ℕ) (a : Packed k m z) (b : Packed k' m' z') (q : k ≢ k') (i j : ℕ) (bi : i < suc (suc e)) (bj : j < suc (suc e))
      (f : Meet m (get_or m i 0) m' (get_or m' j 0)) where
    abbrev s : Seat (suc e) R n K M share pos complex refined m
    s = Set k m z a

    abbrev s' : Seat (suc e) R n K M share pos complex refined m'
    s' = Set k' m' z' b

    abbrev r : Row (suc e) m (get_or m i 0)
    r = Line m a.in_M i bi

    abbrev r' : Row (suc e) m' (get_or m' j 0)
    r' = Line m' b.in_M j bj

    f' : Meet m' (get_or m' j 0) m (get_or m i 0)
    f' = meet-sym m m' (get_or m i 0) (get_or m' j 0) f

    -- the vertices that the cells do not share, and their places
    module _ (p p' : ℕ) (bp : p < suc (suc e)) (bp' : p' < suc (suc e)) (out : occurrences k' (get_or k p 0) ≡ 0) (out' : occurrences k (get_or k' p' 0) ≡ 0) where
      there : 0 < occurrences k (get_or k p 0)
      there = times-at k p (omega (arith, complex.long k a.in_K))

      there' : 0 < occurrences k' (get_or k' p' 0)
      there' = times-at k' p' (omega (arith, complex.long k' b.in_K))

      blank : Blank (suc e) R n K M share pos complex refined m i (get_or k p 0)
      blank = blank-across (suc e) R n K M share pos complex refined m m' s s' (get_or m i 0) (get_or m' j 0) r r' f (get_or k p 0) out

      blank' : Blank (suc e) R n K M share pos complex refined m' j (get_or k' p' 0)
      blank' = blank-across (suc e) R n K M share pos complex refined m' m s' s (get_or m' j 0) (get_or m i 0) r' r f' (get_or k' p' 0) out'

      others : (v : ℕ) → 0 < occurrences k v → v ≢ get_or k p 0 → 0 < occurrences k' v
      others v = shared (suc e) R n K M share pos complex refined m m' s s' (get_or m i 0) (get_or m' j 0) r r' f (get_or k p 0) there blank v

      others' : (v : ℕ) → 0 < occurrences k' v → v ≢ get_or k' p' 0 → 0 < occurrences k v
      others' v = shared (suc e) R n K M share pos complex refined m' m s' s (get_or m' j 0) (get_or m i 0) r' r f' (get_or k' p' 0) there' blank' v

      only : (v : ℕ) → 0 < occurrences k v → occurrences k' v ≡ 0 → v ≡ get_or k p 0
      only v h w = elim (ℕ_discrete v (get_or k p 0)) [ yes y ↦ y | no y ↦ absurd (omega (arith, others v h y)) ]

      agreed : common k k' ≡ common k' k
      unfolding WordsAgreeOnFacets
      agreed =
          agree k k' a.in_K b.in_K
          (omega (
            arith,
            complex.long k a.in_K,
            all_but_one k k' (complex.plain k a.in_K) (λ v u h l w y. only v h w ∙ sym (only u l y)),
          ))

      aligned : (x : ℕ) → get_or k (skip p x) 0 ≡ get_or k' (skip p' x) 0
      aligned x =
          sym (common-skip k k' (complex.plain k a.in_K) p (omega (arith, complex.long k a.in_K)) out others x)
          ∙ ap (λ (w : List ℕ). get_or w x 0) agreed
          ∙ common-skip k' k (complex.plain k' b.in_K) p' (omega (arith, complex.long k' b.in_K)) out' others' x

      cells-odd : Odd (a.sign + p + (b.sign + p'))
      cells-odd =
          coherent.across (omega arith) k k' a.sign b.sign a.signed b.signed q p p' bp bp'
          (cells_meet (suc e) R n K M share pos complex refined m m' s s' (get_or m i 0) (get_or m' j 0) r r' f (get_or k p 0) (get_or k' p' 0) there out there' out')

      opposite : Odd (z + i + (z' + j))
      opposite =
          subst Odd (omega (arith, a.is, b.is))
          (handed e R n K M share pos complex refined m m' s s' agreed (get_or m i 0) (get_or m' j 0) r r' f p p'
          (cut e R a.sat.base a.sat.time a.sat.code pos i p bi bp
          (flat-of (suc e) R n K M share pos complex refined k a.in_K m a.sat i p bp blank))
          (cut e R b.sat.base b.sat.time b.sat.code pos j p' bj bp'
          (flat-of (suc e) R n K M share pos complex refined k' b.in_K m' b.sat j p' bp' blank'))
          aligned a.sign b.sign cells-odd)

    in_two : Odd (z + i + (z' + j))
    in_two =
        let (v, h, o) = differ (suc e) R n K M share pos complex refined distinct k k' a.in_K b.in_K q in
        let (v', h', o') = differ (suc e) R n K M share pos complex refined distinct k' k b.in_K a.in_K (λ w. q (sym w)) in
        let (p, bp, w) = place-of k v h in
        let (p', bp', w') = place-of k' v' h' in
        opposite p p' (omega (arith, complex.long k a.in_K)) (omega (arith, complex.long k' b.in_K))
        (ap (occurrences k') w ∙ o) (ap (occurrences k) w' ∙ o')

  across-handed : (m m' : List ℕ) (z z' : ℕ) → Handed (suc e) R K M share S m z → Handed (suc e) R K M share S m' z' → m ≢ m'
      → (i j : ℕ) → i < suc (suc e) → j < suc (suc e) → Meet m (get_or m i 0) m' (get_or m' j 0) → Odd (z + i + (z' + j))
  across-handed m m' z z' h h' q i j bi bj f =
      elim (one_word h.k h'.k) [
        | yes w ↦ in_one h.k m m' z z' (pack h) (subst (λ (k : List ℕ). Packed k m' z') (sym w) (pack h')) q i j bi bj f
        | no w ↦ in_two h.k h'.k m m' z z' (pack h) (pack h') w i j bi bj f
      ]

-- CHILDREN INHERIT DIRECTION
pub coherent-refined : (d R n : ℕ) (K M : Words) (share : ℕ → ℕ → ℕ) (S : Signs) → 0 < R → Complex d n K → Refined d R K M share
    → Distinct K → WordsAgreeOnFacets d K → CoherentByPlace d S → CoherentByPlace d (Handed d R K M share S)
coherent-refined zero R n K M share S pos complex refined distinct agree coherent = record {
  one = one-handed zero R n K M share S pos complex refined distinct coherent;
  across = λ h. absurd (not-suc-le-zero h);
}
coherent-refined (suc e) R n K M share S pos complex refined distinct agree coherent = record {
  one = one-handed (suc e) R n K M share S pos complex refined distinct coherent;
  across = λ h m m' z z' a b. across-handed e R n K M share S pos complex refined distinct coherent agree m m' z z' a b;
}
