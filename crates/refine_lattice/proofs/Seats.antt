-- Words of a refined complex in their cells: what a vertex's shares tell of its place. Assumes nothing.
use mathlib.Core.Path.{◌≡◌, refl, sym, ap, ◌∙◌, subst}
use mathlib.Core.List.{List, [], ◌∷◌, head-eq_of_cons-eq, tail-eq_of_cons-eq}
use Prim.Native.Nat.{ℕ, zero, suc, ◌+◌, ◌*◌, ◌-◌, ◌≤◌, ◌<◌, suc-le-suc}
use native.Mathlib.Nat.{not-suc-le-zero, le_of_suc-le-suc, suc_inj}
use native.Mathlib.Decide.{ℕ_discrete, dec_lt}
use native.Mathlib.Omega.{arith}
use lib.ListN.{length, get_or}
use lib.Seq.{ext_get_or}
use Rattle.lists.specs.Tables.{sum}
use Rattle.refine_lattice.specs.Lattice.{Falls, weights, Child}
use Rattle.lists.specs.Words.{same}
use Rattle.refine_lattice.specs.Complex.{occurrences, weigh, Names}
use Rattle.lists.proofs.Tables.{length-tab, get_or-tab}
use Rattle.refine_lattice.proofs.Tab.{step}
use Rattle.refine_lattice.proofs.Perms.{sum_lt, Undoes}
use Rattle.lists.proofs.Words.{same_self, same-no}
use Rattle.lists.proofs.Sums.{sum-ext, sum-add, sum-zero, sum-pick}
use Rattle.refine_lattice.proofs.Codes.{Code, corner, corners, falls-corner, of-child, of-order}
use Rattle.refine_lattice.proofs.Weights.{length-weights}
use Rattle.refine_lattice.proofs.After.{weigh-absent}
use Rattle.refine_lattice.proofs.Enumerate.{times-at, place-of, once-of-apart}
use Rattle.refine_lattice.proofs.Span.{load, weighs}
use Rattle.refine_lattice.proofs.Mirror.{Spot, spot-level}

pub one_word : (k l : List ℕ) → Dec (k ≡ l)
one_word [] [] = yes refl
one_word [] (y ∷ l) = no (λ e. omega (arith, ap length e))
one_word (x ∷ k) [] = no (λ e. omega (arith, ap length e))
one_word (x ∷ k) (y ∷ l) =
    elim (ℕ_discrete x y) [
      | yes e ↦ elim (one_word k l) [ yes f ↦ yes (cc (e, f)) | no n ↦ no (λ q. n (tail-eq_of_cons-eq q)) ]
      | no n ↦ no (λ q. n (head-eq_of_cons-eq q))
    ]

-- the weight at a place is the vertex's
pub weigh-at : (k ws : List ℕ) → ((v : ℕ) → occurrences k v ≤ 1) → (l : ℕ) → l < length k → l < length ws → weigh k ws (get_or k l 0) ≡ get_or ws l 0
weigh-at [] ws p l h b = absurd (not-suc-le-zero h)
weigh-at (x ∷ k) [] p l h b = absurd (not-suc-le-zero b)
weigh-at (x ∷ k) (w ∷ ws) p zero h b =
    omega (
      arith,
      ap (λ (y : ℕ). w * y) (same_self x),
      weigh-absent k ws x (omega (arith, p x, same_self x)),
    )
weigh-at (x ∷ k) (w ∷ ws) p (suc l) h b =
    let v : ℕ = get_or k l 0 in
    let n : same v x ≡ 0 = omega (arith, p v, times-at k l (le_of_suc-le-suc h)) in
    omega (
      arith,
      ap (λ (y : ℕ). w * y) n,
      weigh-at k ws (λ u. omega (arith, p u)) l (le_of_suc-le-suc h) (le_of_suc-le-suc b),
    )

-- a point is told by its weights
pub by_weights : (R : ℕ) (s r : List ℕ) → length s ≡ length r → Falls R s → Falls R r
    → ((l : ℕ) → l < length s → get_or (weights R s) l 0 ≡ get_or (weights R r) l 0) → s ≡ r
by_weights R [] [] e f g h = refl
by_weights R [] (y ∷ r) e f g h = absurd (omega arith)
by_weights R (x ∷ s) [] e f g h = absurd (omega arith)
by_weights R (x ∷ s) (y ∷ r) e f g h =
    let q : x ≡ y = omega (arith, h 0 (omega arith), f.0, g.0) in
    cc (
      q,
      by_weights x s r (suc_inj e) f.1 (subst (λ (z : ℕ). Falls z r) (sym q) g.1)
          (λ l b. h (suc l) (suc-le-suc b) ∙ ap (λ (z : ℕ). get_or (weights z r) l 0) (sym q)),
    )

-- a list's length by the counts of its entries
length-sum : (n : ℕ) (k : List ℕ) → ((v : ℕ) → 0 < occurrences k v → v < n) → sum n (occurrences k) ≡ length k
length-sum n [] h = sum-zero n
length-sum n (x ∷ k) h =
    sum-ext n (λ v. same v x + occurrences k v) (λ v. same v x * 1 + occurrences k v) (λ v l. omega arith)
    ∙ sum-add n (λ v. same v x * 1) (occurrences k)
    ∙ omega (
      arith,
      sum-pick n x (λ v. 1) (h x (omega (arith, same_self x))),
      length-sum n k (λ v l. h v (omega arith)),
    )

-- words of one length: where the one holds the other they have the same vertices
pub holds-all : (n : ℕ) (k l : List ℕ) → ((v : ℕ) → 0 < occurrences k v → v < n) → ((v : ℕ) → 0 < occurrences l v → v < n)
    → length l ≤ length k → ((v : ℕ) → occurrences k v ≤ occurrences l v) → (v : ℕ) → occurrences k v ≡ occurrences l v
holds-all n k l bk bl e h v =
    elim (dec_lt (occurrences k v) (occurrences l v)) [
      | yes m ↦
          absurd (omega (arith, sum_lt n (occurrences k) (occurrences l) (λ u b. h u) v (bl v (omega arith)) m, length-sum n k bk, length-sum n l bl))
      | no m ↦ omega (arith, h v)
    ]

-- a vertex of the one word that is not in the other, where not all are
pub stray : (k l : List ℕ) → (((v : ℕ) → 0 < occurrences k v → 0 < occurrences l v) → ⊥) → (v : ℕ) × (0 < occurrences k v) × (occurrences l v ≡ 0)
stray [] l h = absurd (h (λ v m. omega arith))
stray (x ∷ k) l h =
    elim (dec_lt 0 (occurrences l x)) [
      | yes m ↦
          let (v, a, b) =
          stray k l (λ f. h (λ v a. elim (ℕ_discrete v x) [
            | yes e ↦ omega (arith, ap (occurrences l) e)
            | no e ↦ f v (omega (arith, same-no v x e))
          ])) in
          (v, omega arith, b)
      | no m ↦ (x, omega (arith, same_self x), omega arith)
    ]

-- `m` is the word of a child of the cell with word `k`, with its code
pub record Sits (d R : ℕ) (share : ℕ → ℕ → ℕ) (k m : List ℕ) : Type 0 where
  pub base : ℕ → ℕ
  pub time : ℕ → ℕ
  pub code : Code d R base time
  pub long : length m ≡ suc d
  pub names : (i : ℕ) → i < suc d → (v : ℕ) → share (get_or m i 0) v ≡ weigh k (weights R (corner d base time i)) v

pub sits : {d R : ℕ} {share : ℕ → ℕ → ℕ} {k m : List ℕ} {c : List (List ℕ)} → Child d R c → Names R share k c m → Sits d R share k m
sits {d} {R} {share} {k} {m} {c} child n =
    let (base, t, code, e) = of-child child in
    let size : length c ≡ suc d = ap length e ∙ length-tab (suc d) (corner d base t) in
    record {
      base = base;
      time = t;
      code = code;
      long = n.long ∙ size;
      names = λ i h v.
          n.shares i (omega arith) v
          ∙ ap (λ (s : List ℕ). weigh k (weights R s) v)
          (ap (λ (w : List (List ℕ)). get_or w i []) e ∙ get_or-tab (suc d) (corner d base t) i [] h);
    }

pub sits-is : {d R : ℕ} {share : ℕ → ℕ → ℕ} {k m : List ℕ} {c : List (List ℕ)} (child : Child d R c) (n : Names R share k c m)
    → c ≡ corners d (sits child n).base (sits child n).time
unfolding sits
sits-is child n = (of-child child).3

pub sits-order : {d R : ℕ} {share : ℕ → ℕ → ℕ} {k m : List ℕ} {c : List (List ℕ)} (child : Child d R c) (n : Names R share k c m)
    → Undoes d (λ i. get_or child.order i 0) (sits child n).time
unfolding sits
sits-order child n = of-order child

module _ (d R : ℕ) (share : ℕ → ℕ → ℕ) (k : List ℕ) (long : length k ≡ suc d) (plain : (v : ℕ) → occurrences k v ≤ 1) where
  module _ (m : List ℕ) (s : Sits d R share k m) where
    length-corner : (i : ℕ) → length (corner d s.base s.time i) ≡ d
    length-corner i = length-tab d (λ j. s.base j + step (s.time j) i)

    pub share-at : (i l : ℕ) → i < suc d → l < suc d → share (get_or m i 0) (get_or k l 0) ≡ load d R s.base s.time s.code l i
    share-at i l h b =
        s.names i h (get_or k l 0)
        ∙ weigh-at k (weights R (corner d s.base s.time i)) plain l (omega arith)
        (omega (arith, length-weights R (corner d s.base s.time i), length-corner i))

    pub share-out : (i v : ℕ) → i < suc d → occurrences k v ≡ 0 → share (get_or m i 0) v ≡ 0
    share-out i v h e = s.names i h v ∙ weigh-absent k (weights R (corner d s.base s.time i)) v e

    -- each vertex of the cell has a share in some vertex of the child
    pub spans : 0 < R → (v : ℕ) → 0 < occurrences k v → (i : ℕ) × (i < suc d) × (0 < share (get_or m i 0) v)
    spans r v h =
        let (l, b, e) = place-of k v h in
        let (i, a, w) = weighs d R s.base s.time s.code r l (omega arith) in
        (i, a, subst (λ (u : ℕ). 0 < share (get_or m i 0) u) e (omega (arith, share-at i l a (omega arith))))

  -- one vertex is one point
  pub spot_of : (m m' : List ℕ) (s : Sits d R share k m) (s' : Sits d R share k m') (x y : ℕ) → x < suc d → y < suc d
      → get_or m x 0 ≡ get_or m' y 0 → Spot d s.base s.time x s'.base s'.time y
  spot_of m m' s s' x y h b e l g =
      sym (get_or-tab d (λ j. s.base j + step (s.time j) x) l 0 g)
      ∙ ap (λ (w : List ℕ). get_or w l 0) point
      ∙ get_or-tab d (λ j. s'.base j + step (s'.time j) y) l 0 g
    where
      point : corner d s.base s.time x ≡ corner d s'.base s'.time y
      point =
          by_weights R (corner d s.base s.time x) (corner d s'.base s'.time y)
          (length-corner m s x ∙ sym (length-corner m' s' y))
          (falls-corner d R s.base s.time s.code x)
          (falls-corner d R s'.base s'.time s'.code y)
          (λ l g.
          let a : l < suc d = omega (arith, length-corner m s x) in
          sym (share-at m s x l h a) ∙ ap (λ (z : ℕ). share z (get_or k l 0)) e ∙ share-at m' s' y l b a)

  -- no vertex stands twice in a word
  pub plain_word : (m : List ℕ) → Sits d R share k m → (v : ℕ) → occurrences m v ≤ 1
  plain_word m s =
      once-of-apart m
      (λ i j h b e.
      let l : length m ≡ suc d = s.long in
      omega (
        arith,
        spot-level s.code.perm s.code.perm s.base s.base i j (omega arith) (omega arith)
            (spot_of m m s s i j (omega arith) (omega arith) e),
      ))

  -- two words of one cell with the same vertices are one
  pub word-of-set : (m m' : List ℕ) → Sits d R share k m → Sits d R share k m' → ((v : ℕ) → occurrences m v ≡ occurrences m' v) → m ≡ m'
  word-of-set m m' s s' e =
      ext_get_or 0 m m' (s.long ∙ sym s'.long)
      (λ x h.
      let (y, b, q, w) = goes x (omega (arith, s.long)) in
      let (x₀, b₀, q₀, w₀) = comes 0 (omega arith) in
      let (y₀, b₁, q₁, w₁) = goes 0 (omega arith) in
      let z : y ≡ x = omega arith in
      sym q ∙ ap (λ (u : ℕ). get_or m' u 0) z)
    where
      goes : (x : ℕ) → x < suc d
          → (y : ℕ) × (y < suc d) × (get_or m' y 0 ≡ get_or m x 0) × (sum d s.base + x ≡ sum d s'.base + y)
      goes x h =
          let (y, b, q) = place-of m' (get_or m x 0) (omega (arith, e (get_or m x 0), times-at m x (omega (arith, s.long)))) in
          let b' : y < suc d = omega (arith, s'.long) in (
            y,
            b',
            q,
            spot-level s.code.perm s'.code.perm s.base s'.base x y (omega arith) (omega arith)
                (spot_of m m' s s' x y h b' (sym q)),
          )

      comes : (y : ℕ) → y < suc d
          → (x : ℕ) × (x < suc d) × (get_or m x 0 ≡ get_or m' y 0) × (sum d s.base + x ≡ sum d s'.base + y)
      comes y h =
          let (x, b, q) = place-of m (get_or m' y 0) (omega (arith, e (get_or m' y 0), times-at m' y (omega (arith, s'.long)))) in
          let b' : x < suc d = omega (arith, s.long) in (
            x,
            b',
            q,
            spot-level s.code.perm s'.code.perm s.base s'.base x y (omega arith) (omega arith)
                (spot_of m m' s s' x y b' h q),
          )
