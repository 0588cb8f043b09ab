-- A complex refined by a and then, along its children's own words, by b is the complex refined by a * b. Assumes nothing.
use mathlib.Core.Path.{◌≡◌, refl, sym, ap, ◌∙◌, fun_ext}
use mathlib.Core.List.{List, []}
use Prim.Native.Nat.{ℕ, suc, ◌+◌, ◌*◌, ◌-◌, ◌<◌}
use native.Mathlib.Decide.{dec_lt}
use native.Mathlib.Omega.{arith}
use lib.ListN.{length, get_or}
use Rattle.lists.specs.Tables.{sum}
use Rattle.refine_lattice.specs.Lattice.{Falls, dot, weights}
use Rattle.lists.specs.Words.{same}
use Rattle.refine_lattice.specs.Complex.{Words, occurrences, weigh, through, Names, Complex, Apart, Refined, Within, Alike, Agree}
use Rattle.lists.proofs.Tables.{length-tab, get_or-tab}
use Rattle.refine_lattice.proofs.Tab.{step}
use Rattle.lists.proofs.Sums.{sum-ext}
use Rattle.refine_lattice.proofs.Codes.{Code, corner, corners, falls-corner, of-child, to-child}
use Rattle.refine_lattice.proofs.Compose.{B, T, composed, Split, split-code}
use Rattle.refine_lattice.proofs.Shares.{map_is, through-is}
use Rattle.refine_lattice.proofs.Levels.{lead, lead-le, level, shift, shift_zero, level-weights}
use Rattle.refine_lattice.proofs.After.{weigh-absent, total-weight, split-share}
use Rattle.refine_lattice.proofs.Match.{value, Sequence, matched}

-- the numbers of a child's points, by its code
record Named (d R : ℕ) (share : ℕ → ℕ → ℕ) (k m : List ℕ) (base t : ℕ → ℕ) : Type 0 where
  long : length m ≡ suc d
  names : (l : ℕ) → l < suc d → (v : ℕ) → share (get_or m l 0) v ≡ weigh k (weights R (corner d base t l)) v

named : {d R : ℕ} {share : ℕ → ℕ → ℕ} {k m : List ℕ} {c : List (List ℕ)} {base t : ℕ → ℕ}
    → c ≡ corners d base t → Names R share k c m → Named d R share k m base t
named {d} {R} {share} {k} {m} {c} {base} {t} e n = record {
  long = n.long ∙ size;
  names = λ l h v.
      n.shares l (omega (arith, size)) v
      ∙ ap (λ (s : List ℕ). weigh k (weights R s) v)
      (ap (λ (w : List (List ℕ)). get_or w l []) e ∙ get_or-tab (suc d) (corner d base t) l [] h);
}
  where
    size : length c ≡ suc d
    size = ap length e ∙ length-tab (suc d) (corner d base t)

module _ (d a b n n' : ℕ) (K M W C : Words) (outer inner share : ℕ → ℕ → ℕ)
    (complex : Complex d n K) (agree : (k k' : List ℕ) → K k → K k' → Agree k k')
    (below : (m : List ℕ) → M m → (v : ℕ) → 0 < occurrences m v → v < n')
    (first : Refined d a K M outer) (second : Refined d b M W inner) (single : Refined d (a * b) K C share) where
  -- a child of a child of a cell, by their codes
  record Tower (w : List ℕ) : Type 0 where
    k : List ℕ
    m : List ℕ
    in_K : K k
    in_M : M m
    base : ℕ → ℕ
    time : ℕ → ℕ
    base' : ℕ → ℕ
    time' : ℕ → ℕ
    code : Code d a base time
    code' : Code d b base' time'
    names : Named d a outer k m base time
    names' : Named d b inner m w base' time'

  tower : (w : List ℕ) → W w → Tower w
  tower w h =
      let (m, c', in_M, child', n₂) = second.each w h in
      let (k, c, in_K, child, n₁) = first.each m in_M in
      let (base, time, code, e) = of-child child in
      let (base', time', code', e') = of-child child' in
      record {
        k = k;
        m = m;
        in_K = in_K;
        in_M = in_M;
        base = base;
        time = time;
        base' = base';
        time' = time';
        code = code;
        code' = code';
        names = named e n₁;
        names' = named e' n₂;
      }

  module _ (w : List ℕ) (r : Tower w) where
    abbrev base-ab : ℕ → ℕ
    base-ab = B d a b r.base r.time r.base' r.time' r.code r.code'

    abbrev time-ab : ℕ → ℕ
    time-ab = T d a b r.base r.time r.base' r.time' r.code r.code'

    code-ab : Code d (a * b) base-ab time-ab
    code-ab = composed d a b r.base r.time r.base' r.time' r.code r.code'

    module _ (i : ℕ) where
      -- a corner in the cell's lattice by a * b, and its weights over the cell's vertices; and in the child's lattice by b
      abbrev spot : List ℕ
      spot = corner d base-ab time-ab i

      abbrev ω : ℕ → ℕ
      ω = weigh r.k (weights (a * b) spot)

      abbrev s : List ℕ
      s = corner d r.base' r.time' i

      seen : i < suc d → (v : ℕ) → through n' outer inner (get_or w i 0) v ≡ ω v
      seen h v =
          through-is d a b n' r.base r.time r.base' r.time' r.code r.code' i r.k r.m outer inner (get_or w i 0)
          (complex.long r.k r.in_K) r.names.long (below r.m r.in_M) r.names.names (r.names'.names i h) v

      spot-falls : Falls (a * b) spot
      spot-falls = falls-corner d (a * b) base-ab time-ab code-ab i

      spot-long : length r.k ≡ suc (length spot)
      spot-long = complex.long r.k r.in_K ∙ sym (ap suc (length-tab d (λ j. base-ab j + step (time-ab j) i)))

      s-long : length s ≡ d
      s-long = length-tab d (λ j. r.base' j + step (r.time' j) i)

      total : sum n ω ≡ a * b
      total = total-weight n r.k spot (a * b) spot-long spot-falls (complex.below r.k r.in_K)

      positive : (v : ℕ) → 0 < ω v → 0 < occurrences r.k v
      positive v h =
          elim (dec_lt 0 (occurrences r.k v)) [
            | yes l ↦ l
            | no l ↦ omega (arith, weigh-absent r.k (weights (a * b) spot) v (omega arith))
          ]

      -- the shares of the corner of the child at a level
      middle-share : (η : ℕ) → η < b → (v : ℕ) → outer (get_or r.m (lead s η) 0) v ≡ value n r.k ω (shift b η) v
      middle-share η h v =
          r.names.names (lead s η) (omega (arith, lead-le s η, s-long)) v
          ∙ ap (λ (ws : List ℕ). weigh r.k ws v)
          (level-weights d a b r.base r.time r.base' r.time' r.code r.code' i η h)
          ∙ split-share n (shift b η) (shift_zero b η h) spot (a * b) r.k spot-long spot-falls
          (complex.plain r.k r.in_K) (complex.below r.k r.in_K) v

      -- the share of a child's vertex is the number of levels whose corner it is
      inner-share : i < suc d → (x : ℕ) → inner (get_or w i 0) x ≡ sum b (λ η. same x (get_or r.m (lead s η) 0))
      inner-share h x =
          r.names'.names i h x
          ∙ ap (dot (weights b s)) (map_is (same x) r.m (suc (length s)) (r.names.long ∙ sym (ap suc s-long)))
          ∙ level b s (λ l. same x (get_or r.m l 0)) (falls-corner d b r.base' r.time' r.code' i)

  forth : Within d W C (through n' outer inner) share
  unfolding Within
  forth w h =
      let r = tower w h in
      let (y, in-C, ns) = single.all r.k (corners d (base-ab w r) (time-ab w r)) r.in_K (to-child (code-ab w r)) in
      let nm : Named d (a * b) share r.k y (base-ab w r) (time-ab w r) = named refl ns in
      (y, in-C, λ i l v. seen w r i l v ∙ sym (nm.names i l v))

  back : Within d C W share (through n' outer inner)
  unfolding Within
  back y h =
      let (k, c, in_K, child, ns) = single.each y h in
      let (base, time, code, e) = of-child child in
      let s : Split d a b base time = split-code code in
      let (m, in_M, n₁) = first.all k (corners d s.base₁ s.time₁) in_K (to-child s.code₁) in
      let (w, in-W, n₂) = second.all m (corners d s.base₂ s.time₂) in_M (to-child s.code₂) in
      let nm : Named d (a * b) share k y base time = named e ns in
      let r : Tower w = record {
        k = k;
        m = m;
        in_K = in_K;
        in_M = in_M;
        base = s.base₁;
        time = s.time₁;
        base' = s.base₂;
        time' = s.time₂;
        code = s.code₁;
        code' = s.code₂;
        names = named refl n₁;
        names' = named refl n₂;
      } in
      (w, in-W, λ i l v. nm.names i l v ∙ ap (λ (p : List ℕ). weigh k (weights (a * b) p) v) (sym (s.again i)) ∙ sym (seen w r i l v))

  -- one point, seen as corner i of w and as corner j of z
  module _ (w z : List ℕ) (r : Tower w) (q : Tower z) (i j : ℕ) (e : (v : ℕ) → ω w r i v ≡ ω z q j v) where
    match : (t : Sequence b) × ((η : ℕ) → η < b → (v : ℕ)
        → value n r.k (ω w r i) (shift b η) v ≡ value n q.k (ω w r i) (shift b (t.turn η)) v)
    match =
        matched n r.k q.k (ω w r i) (positive w r i) (λ v h. positive z q j v (omega (arith, e v)))
        (complex.plain r.k r.in_K) (complex.plain q.k q.in_K) (agree r.k q.k r.in_K q.in_K) a b (total w r i)
        (λ v h. complex.below r.k r.in_K v (positive w r i v h))

    abbrev turned : ℕ → ℕ
    turned = match.0.turn

    one-corner : (η : ℕ) → η < b → get_or r.m (lead (s w r i) η) 0 ≡ get_or q.m (lead (s z q j) (turned η)) 0
    unfolding Apart
    one-corner η h =
        first.one r.m q.m r.in_M q.in_M (lead (s w r i) η) (lead (s z q j) (turned η))
        (omega (arith, lead-le (s w r i) η, s-long w r i)) (omega (arith, lead-le (s z q j) (turned η), s-long z q j))
        (λ v.
        middle-share w r i η h v
        ∙ match.1 η h v
        ∙ ap (λ (o : ℕ → ℕ). value n q.k o (shift b (turned η)) v) (fun_ext e)
        ∙ sym (middle-share z q j (turned η) (match.0.stays η h) v))

    inner-same : i < suc d → j < suc d → (x : ℕ) → inner (get_or w i 0) x ≡ inner (get_or z j 0) x
    inner-same h l x =
        inner-share w r i h x
        ∙ sum-ext b (λ η. same x (get_or r.m (lead (s w r i) η) 0)) (λ η. same x (get_or q.m (lead (s z q j) (turned η)) 0))
        (λ η g. ap (same x) (one-corner η g))
        ∙ sym (match.0.keeps (λ η. same x (get_or q.m (lead (s z q j) η) 0)))
        ∙ sym (inner-share z q j l x)

  apart : Apart d W (through n' outer inner)
  unfolding Apart
  apart w z h l i j g m e =
      let r = tower w h in
      let q = tower z l in
      second.one w z h l i j g m
      (inner-same w z r q i j (λ v. sym (seen w r i g v) ∙ e v ∙ seen z q j m v) g m)

  -- refining by a and then by b is refining by a * b
  pub alike : Alike d W C (through n' outer inner) share
  alike = record { forth = forth; back = back; apart = apart; apart' = single.one }
