-- The determinant of a child's Jacobian is the product of the signs of the parent's word, of the order of the axes, and of the child's word. Assumes nothing.
use mathlib.Core.Path.{◌≡◌, sym, ap, ◌∙◌}
use mathlib.Core.List.{List, [], ◌∷◌}
use Prim.Native.Nat.{ℕ, zero, suc, ◌+◌, ◌*◌, ◌-◌, ◌≤◌, ◌<◌, suc-le-suc}
use native.Mathlib.Nat.{not-suc-le-zero, le_of_suc-le-suc, suc_inj}
use native.Mathlib.Decide.{ℕ_discrete, dec_lt}
use native.Mathlib.Omega.{arith}
use lib.ListN.{length, get_or}
use lib.IntN.{ℤ, pos, neg_ℤ, ◌+ℤ◌, ◌-ℤ◌, +ℤ_assoc, +ℤ_comm, +ℤ_idr, +ℤ-neg_ℤ_cancel}
use Rattle.refine_lattice.specs.Lattice.{Perm, Child}
use Rattle.lists.specs.Tables.{sum}
use Rattle.lists.specs.Words.{same}
use Rattle.refine_lattice.specs.Complex.{occurrences, Names, Rises}
use Rattle.multiindex.specs.Sort.{inversions}
use Rattle.refine_lattice.specs.Signs.{less}
use Rattle.refine_lattice.specs.Jacobian.{Matrix, Determinant, flips, Sorted, jacobian}
use Rattle.refine_lattice.proofs.Perms.{Undoes, back, undoes, one_place}
use Rattle.lists.proofs.Words.{same-yes, same-no}
use Rattle.refine_lattice.proofs.Codes.{Code}
use Rattle.refine_lattice.proofs.Enumerate.{times-at, place-of}
use Rattle.refine_lattice.proofs.Span.{low, high, load, low-in, low-out, load_is, step-next}
use Rattle.refine_lattice.proofs.Seats.{Sits, sits, sits-order, share-at, plain_word}
use Rattle.refine_lattice.proofs.Conform.{apart-at}
use Rattle.refine_lattice.proofs.Inversions.{inversions-sum}
use Rattle.refine_lattice.proofs.Parity.{less-step, inverse, falling, sum-2, undone, same-inverse}
use Rattle.refine_lattice.proofs.Columns.{Point, flips-add, permuted, chained, fanned, chained-alternates, fanned-chained, columns-alternate}

-- the place of a vertex
abbrev find : List ℕ → ℕ → ℕ
find [] v = 0
find (x ∷ l) v = (1 - same v x) * suc (find l v)

find_at : (l : List ℕ) (v : ℕ) → 0 < occurrences l v → (find l v < length l) × (get_or l (find l v) 0 ≡ v)
find_at [] v h = absurd (omega arith)
find_at (x ∷ l) v h =
    elim (ℕ_discrete v x) [
      | yes e ↦
          let z : find (x ∷ l) v ≡ 0 = ap (λ (y : ℕ). (1 - y) * suc (find l v)) (same-yes v x e) ∙ omega arith in
          (omega arith, ap (λ (y : ℕ). get_or (x ∷ l) y 0) z ∙ sym e)
      | no e ↦
          let z : find (x ∷ l) v ≡ suc (find l v) = ap (λ (y : ℕ). (1 - y) * suc (find l v)) (same-no v x e) ∙ omega arith in
          let (b, w) = find_at l v (omega (arith, same-no v x e)) in
          (omega arith, ap (λ (y : ℕ). get_or (x ∷ l) y 0) z ∙ w)
    ]

rises-at : (l : List ℕ) → Rises l → (i j : ℕ) → i < j → j < length l → get_or l i 0 < get_or l j 0
rises-at [] h i j a b = absurd (not-suc-le-zero b)
rises-at (x ∷ l) h i zero a b = absurd (not-suc-le-zero a)
rises-at (x ∷ l) h zero (suc j) a b = h.0 (get_or l j 0) (times-at l j (le_of_suc-le-suc b))
rises-at (x ∷ l) h (suc i) (suc j) a b = rises-at l h.1 i j (le_of_suc-le-suc a) (le_of_suc-le-suc b)

inversions-of : (d : ℕ) (k : List ℕ) → length k ≡ d → inversions k ≡ inverse d (λ a. get_or k a 0)
inversions-of d k h =
    let t : ℕ → ℕ = λ a. get_or k a 0 in
    inversions-sum k
    ∙ ap (λ (n : ℕ). sum n (λ a. sum n (λ b. less a b * less (t b) (t a)))) h
    ∙ sum-2 d d (λ a b. less a b * less (t b) (t a)) (falling t) (λ a b f g. cc (less-step a b, less-step (t b) (t a)))

-- a word and its vertices sorted
module _ (n : ℕ) (k l : List ℕ) (long : length k ≡ n) (plain : (v : ℕ) → occurrences k v ≤ 1) (s : Sorted k l) where
  pub to : ℕ → ℕ
  to a = find l (get_or k a 0)

  there : (a : ℕ) → a < n → (find l (get_or k a 0) < length l) × (get_or l (find l (get_or k a 0)) 0 ≡ get_or k a 0)
  there a h = find_at l (get_or k a 0) (omega (arith, s.counts (get_or k a 0), times-at k a (omega arith)))

  pub to_at : (a : ℕ) → a < n → get_or l (to a) 0 ≡ get_or k a 0
  unfolding to
  to_at a h = (there a h).1

  pub to-perm : Perm n to
  unfolding to
  to-perm = record {
    below = λ a h. omega (arith, (there a h).0, s.long);
    apart = λ a b h g e.
        omega (
          arith,
          apart-at k plain a b (omega arith) (omega arith)
              (sym (there a (omega arith)).1 ∙ ap (λ (y : ℕ). get_or l y 0) e ∙ (there b g).1),
        );
  }

  pub to-inversions : inverse n to ≡ inversions k
  unfolding to
  to-inversions =
      sym
      (inversions-of n k long
      ∙ same-inverse n (λ a. get_or k a 0) to (λ a b h g q e. q (apart-at k plain a b (omega arith) (omega arith) e))
      (λ a b h g w.
      elim (dec_lt (to b) (to a)) [
        | yes y ↦ y
        | no y ↦
            let u : get_or k a 0 ≤ get_or k b 0 =
            elim (dec_lt (to a) (to b)) [
              | yes z ↦ omega (arith, rises-at l s.rises (to a) (to b) z (there b g).0, (there a h).1, (there b g).1)
              | no z ↦
                  let e : to a ≡ to b = omega arith in
                  omega (arith, ap (λ (x : ℕ). get_or l x 0) e, (there a h).1, (there b g).1)
            ] in
            absurd (omega arith)
      ]))

  pub from : ℕ → ℕ
  from = back n to to-perm

  from-undoes : Undoes n to from
  unfolding from
  from-undoes = undoes n to to-perm

  pub from-perm : Perm n from
  from-perm = from-undoes.perm

  pub from_at_lem : (i : ℕ) → i < n → get_or l i 0 ≡ get_or k (from i) 0
  from_at_lem i h = ap (λ (y : ℕ). get_or l y 0) (sym (from-undoes.right i h)) ∙ to_at (from i) (from-perm.below i h)

  pub from-inversions : inverse n from ≡ inversions k
  from-inversions = undone n to from from-perm from-undoes.right ∙ to-inversions

  pub plain-sorted : (v : ℕ) → occurrences l v ≤ 1
  plain-sorted v = omega (arith, s.counts v, plain v)

-- differences of whole numbers
cross : (x y x' y' : ℕ) → x + y' ≡ x' + y → pos x -ℤ pos y ≡ pos x' -ℤ pos y'
cross x y x' y' e =
    sym (+ℤ-neg_ℤ_cancel (pos x -ℤ pos y) (pos y'))
    ∙ ap (λ (z : ℤ). z -ℤ pos y')
    (+ℤ_assoc (pos x) (neg_ℤ (pos y)) (pos y')
    ∙ ap (λ (z : ℤ). pos x +ℤ z) (+ℤ_comm (neg_ℤ (pos y)) (pos y'))
    ∙ sym (+ℤ_assoc (pos x) (pos y') (neg_ℤ (pos y)))
    ∙ ap (λ (z : ℕ). pos z -ℤ pos y) e
    ∙ +ℤ-neg_ℤ_cancel (pos x') (pos y))

-- one step along an axis: its place loses one, the next gains one
module _ (d R : ℕ) (base t : ℕ → ℕ) (c : Code d R base t) (i a : ℕ) (h : a < d) (e : t a ≡ i) where
  low-next : (l : ℕ) → low d R base t c l (suc i) ≡ low d R base t c l i + same l a
  low-next l =
      elim (dec_lt l d) [
        | yes b ↦
            let z : same (t l) i ≡ same l a =
            elim (ℕ_discrete l a) [
              | yes q ↦ same-yes (t l) i (ap t q ∙ e) ∙ sym (same-yes l a q)
              | no q ↦ same-no (t l) i (λ w. q (one_place c.perm l a b h (w ∙ sym e))) ∙ sym (same-no l a q)
            ] in
            omega (arith, low-in d R base t c l i b, low-in d R base t c l (suc i) b, step-next (t l) i)
        | no b ↦
            omega (
              arith,
              low-out d R base t c l i (omega arith),
              low-out d R base t c l (suc i) (omega arith),
              same-no l a (omega arith),
            )
      ]

  high-next : (l : ℕ) → high d R base t c l (suc i) ≡ high d R base t c l i + same l (suc a)
  high-next zero = omega arith
  high-next (suc l) = low-next l

  pub load-next : (l : ℕ) → load d R base t c l (suc i) + same l a ≡ load d R base t c l i + same l (suc a)
  load-next l =
      omega (arith, load_is d R base t c l i, load_is d R base t c l (suc i), low-next l, high-next l)

module _ (d R : ℕ) (share : ℕ → ℕ → ℕ) (k m : List ℕ) (long : length k ≡ suc d) (plain : (v : ℕ) → occurrences k v ≤ 1)
    (c : List (List ℕ)) (child : Child d R c) (names : Names R share k c m) (sk sm : List ℕ) (ks : Sorted k sk) (ms : Sorted m sm)
    (det : Matrix → ℤ) (D : Determinant d det) where
  s : Sits d R share k m
  s = sits child names

  s-undoes : Undoes d (λ i. get_or child.order i 0) s.time
  unfolding s
  s-undoes = sits-order child names

  plain-m : (v : ℕ) → occurrences m v ≤ 1
  plain-m = plain_word d R share k long plain m s

  abbrev p : ℕ → ℕ
  p i = get_or child.order i 0

  -- the corners, in the sequence of the word and sorted
  abbrev u : ℕ → Point
  u i r = pos (share (get_or m i 0) (get_or sk (suc r) 0))

  abbrev y : ℕ → Point
  y i r = pos (share (get_or sm i 0) (get_or sk (suc r) 0))

  -- the cell's own vertices
  abbrev f : ℕ → Point
  f l r = pos (same (get_or sk (suc r) 0) (get_or k l 0))

  abbrev g : ℕ → Point
  g i r = pos (same (get_or sk (suc r) 0) (get_or sk i 0))

  abbrev E : (ℕ → Point) → ℤ
  E x = det (chained d det D x)

  -- the child's word
  sorted-corners : E y ≡ flips (inversions m) (E u)
  sorted-corners =
      let q : ℕ → ℕ = from (suc d) m sm s.long plain-m ms in
      (chained-alternates d det D).ext y (λ i. u (q i))
      (λ i b. ap {B = Point} (λ (x : ℕ). λ r. pos (share x (get_or sk (suc r) 0))) (from_at_lem (suc d) m sm s.long plain-m ms i b))
      ∙ permuted (suc d) E (chained-alternates d det D) q (from-perm (suc d) m sm s.long plain-m ms) u
      ∙ ap (λ (n : ℕ). flips n (E u)) (from-inversions (suc d) m sm s.long plain-m ms)

  -- the order of the axes
  one-step : (i r : ℕ) → i < d → r < d → chained d det D u i r ≡ chained d det D f (p i) r
  one-step i r hi hr =
      let v : ℕ = get_or sk (suc r) 0 in
      let in-k : 0 < occurrences k v = omega (arith, ks.counts v, times-at sk (suc r) (omega (arith, ks.long))) in
      let (l, b, w) = place-of k v in-k in
      let bl : l < suc d = omega arith in
      let a : ℕ = p i in
      let ha : a < d = child.axes.perm.below i hi in
      let ta : s.time a ≡ i = s-undoes.left i hi in
      let at : (x : ℕ) → x < suc d → share (get_or m x 0) v ≡ load d R s.base s.time s.code l x =
      λ x hx. ap (share (get_or m x 0)) (sym w) ∙ share-at d R share k long plain m s x l hx bl in
      let sm-at : (x : ℕ) → x < suc d → same v (get_or k x 0) ≡ same l x =
      λ x hx.
      elim (ℕ_discrete l x) [
        | yes q ↦ same-yes v (get_or k x 0) (sym w ∙ ap (λ (z : ℕ). get_or k z 0) q) ∙ sym (same-yes l x q)
        | no q ↦ same-no v (get_or k x 0) (λ z. q (apart-at k plain l x b (omega arith) (w ∙ z))) ∙ sym (same-no l x q)
      ] in
      cross (share (get_or m (suc i) 0) v) (share (get_or m i 0) v) (same v (get_or k (suc a) 0)) (same v (get_or k a 0))
      (omega (
        arith,
        at (suc i) (suc-le-suc hi),
        at i (omega arith),
        sm-at (suc a) (suc-le-suc ha),
        sm-at a (omega arith),
        load-next d R s.base s.time s.code i a ha ta l,
      ))

  by-axes : E u ≡ flips (inversions child.order) (E f)
  by-axes =
      D.reads (chained d det D u) (λ i. chained d det D f (p i)) one-step
      ∙ permuted d det (columns-alternate d det D) p child.axes.perm (chained d det D f)
      ∙ ap (λ (n : ℕ). flips n (E f)) (sym (inversions-of d child.order child.axes.long))

  -- the cell's word
  sorted-vertices : E f ≡ flips (inversions k) (E g)
  sorted-vertices =
      let q : ℕ → ℕ = to (suc d) k sk long plain ks in
      (chained-alternates d det D).ext f (λ l. g (q l))
      (λ l b. ap {B = Point} (λ (x : ℕ). λ r. pos (same (get_or sk (suc r) 0) x)) (sym (to_at (suc d) k sk long plain ks l b)))
      ∙ permuted (suc d) E (chained-alternates d det D) q (to-perm (suc d) k sk long plain ks) g
      ∙ ap (λ (n : ℕ). flips n (E g)) (to-inversions (suc d) k sk long plain ks)

  apart-sk : (x z : ℕ) → x < suc d → z < suc d → get_or sk x 0 ≡ get_or sk z 0 → x ≡ z
  apart-sk x z hx hz =
      apart-at sk (plain-sorted (suc d) k sk long plain ks) x z (omega (arith, ks.long, long)) (omega (arith, ks.long, long))

  entry : (c r : ℕ) → c < d → r < d → same (get_or sk (suc r) 0) (get_or sk (suc c) 0) ≡ same c r
  entry c r bc br =
      elim (ℕ_discrete c r) [
        | yes q ↦ same-yes (get_or sk (suc r) 0) (get_or sk (suc c) 0) (ap (λ (z : ℕ). get_or sk (suc z) 0) (sym q)) ∙ sym (same-yes c r q)
        | no q ↦
            same-no (get_or sk (suc r) 0) (get_or sk (suc c) 0)
            (λ z. q (sym (suc_inj (apart-sk (suc r) (suc c) (suc-le-suc br) (suc-le-suc bc) z))))
            ∙ sym (same-no c r q)
      ]

  origin-entry : (r : ℕ) → r < d → same (get_or sk (suc r) 0) (get_or sk 0 0) ≡ 0
  origin-entry r br =
      same-no (get_or sk (suc r) 0) (get_or sk 0 0) (λ z. omega (arith, apart-sk (suc r) 0 (suc-le-suc br) (omega arith) z))

  identity : E g ≡ pos 1
  identity =
      sym (fanned-chained d det D g)
      ∙ D.reads (fanned d det D g) (λ c r. pos (same c r)) (λ c r bc br.
      ap (λ (x : ℕ). pos x -ℤ pos (same (get_or sk (suc r) 0) (get_or sk 0 0))) (entry c r bc br)
      ∙ ap (λ (x : ℕ). pos (same c r) -ℤ pos x) (origin-entry r br)
      ∙ +ℤ_idr (pos (same c r)))
      ∙ D.unit

  -- THE DETERMINANT
  pub determinant : det (jacobian share sk sm) ≡ flips (inversions k + inversions child.order + inversions m) (pos 1)
  determinant =
      let q : inversions m + (inversions child.order + inversions k) ≡ inversions k + inversions child.order + inversions m = omega arith in
      fanned-chained d det D y
      ∙ sorted-corners
      ∙ ap (flips (inversions m)) (by-axes ∙ ap (flips (inversions child.order)) (sorted-vertices ∙ ap (flips (inversions k)) identity))
      ∙ ap (flips (inversions m)) (sym (flips-add (inversions child.order) (inversions k) (pos 1)))
      ∙ sym (flips-add (inversions m) (inversions child.order + inversions k) (pos 1))
      ∙ ap (λ (n : ℕ). flips n (pos 1)) q
