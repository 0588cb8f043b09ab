-- Two boxes of a grid where no axis with a non-empty set is itself reflected, and in each a chain of corners, such that the chains have the same vertices but for corner i
-- of the one and corner j of the other. Unless one corner is the first of its chain and the other the last, the same axes reflect at corners with one vertex, and these
-- are one point: first for the axes that reflect, since nothing reflects them, and then for all. So the boxes are one, i is j, and the chains are the same elsewhere.
-- Assumes nothing.
use Rattle.refusal.specs.Says.{fine}
use mathlib.Core.Path.{◌≡◌, refl, sym, ap, subst, ◌∙◌}
use mathlib.Core.Bool.{Bool, true, false, ◌&&◌, false≢true}
use mathlib.Core.Logic.{◌⊎◌, inl, inr, ⊎_elim}
use Prim.Native.Nat.{ℕ, ◌+◌, ◌≤◌, ◌<◌}
use native.Mathlib.Nat.{le_refl}
use native.Mathlib.Decide.{ℕ_discrete}
use native.Mathlib.Omega.{arith}
use lib.Dec.{eqb}
use Rattle.lists.specs.Tables.{sum}
use Rattle.lists.proofs.Sums.{sum-ext}
use Rattle.quotient.specs.declared.Grid.{Grid}
use Rattle.quotient.specs.Fold.{member}
use Rattle.quotient.specs.Shape.{cells_on, closed_at, mask_at, check_of}
use Rattle.quotient.specs.Reduce.{coord_at, wrapped_at, flips_at}
use Rattle.quotient.specs.Chain.{Untangled}
use Rattle.quotient.proofs.Taken.{taken-low}
use Rattle.quotient.proofs.Onto.{three-cells}
use Rattle.grid_mesh.proofs.Folding.{corner_by, vertex_by, Begins, corner-coord, fold-one, AtEnds, coord-ends}
use Rattle.grid_mesh.proofs.Facing.{Chain}

-- each corner of the one chain but i has the vertex of a corner of the other but j
pub record MatchedBut (g : Grid) (p q : ℕ → ℕ) (u w : ℕ → ℕ → ℕ) (i j : ℕ) : Type 0 where
  pub forth : (l : ℕ) → l ≤ g.d → (l ≡ i → ⊥) → (r : ℕ) × (r ≤ g.d) × (r ≡ j → ⊥) × (vertex_by g p (u l) ≡ vertex_by g q (w r))
  pub back : (r : ℕ) → r ≤ g.d → (r ≡ j → ⊥) → (l : ℕ) × (l ≤ g.d) × (l ≡ i → ⊥) × (vertex_by g p (u l) ≡ vertex_by g q (w r))

-- one box, and chains that differ at one corner at most
pub record AgreeBut (g : Grid) (p q : ℕ → ℕ) (u w : ℕ → ℕ → ℕ) (i j : ℕ) : Type 0 where
  pub box : (k : ℕ) → k < g.d → p k ≡ q k
  pub place : i ≡ j
  pub corner : (l k : ℕ) → l ≤ g.d → (l ≡ i → ⊥) → k < g.d → u l k ≡ w l k

and-false : (a : Bool) → (a && false) ≡ false
and-false true = refl
and-false false = refl

none_left : {T : Type 0} (n c e : ℕ) → (c ≡ e → ⊥) → (c ≡ 0 → e ≡ n → ⊥) → (c ≡ n → e ≡ 0 → ⊥) → (c ≡ e) ⊎ (T × AtEnds n c e) → ⊥
none_left n c e f low high (inl z) = f z
none_left n c e f low high (inr z) = ⊎_elim f (⊎_elim (λ (y : (c ≡ 0) × (e ≡ n)). low y.0 y.1) (λ (y : (c ≡ n) × (e ≡ 0)). high y.0 y.1)) z.1

module _ (g : Grid) (taken : check_of g ≡ fine) (untangled : Untangled g) (p q : ℕ → ℕ) (hp : Begins g p) (hq : Begins g q) (u w : ℕ → ℕ → ℕ) (cu : Chain g.d u) (cw : Chain g.d w)
    (i j : ℕ) (m : MatchedBut g p q u w i j) (first : i ≡ 0 → j ≡ g.d → ⊥) (last : j ≡ 0 → i ≡ g.d → ⊥) where
  abbrev Meets : ℕ → ℕ → Type 0
  Meets l r = vertex_by g p (u l) ≡ vertex_by g q (w r)

  -- the same axes reflect coordinate k at corners with one vertex
  abbrev Alike : ℕ → Type 0
  Alike k = (l r : ℕ) → Meets l r → (b : ℕ) → b < g.d → flips_at g (corner_by g p (u l)) b k ≡ flips_at g (corner_by g q (w r)) b k

  first-coord : (l k : ℕ) → k < g.d → coord_at g (corner_by g p (u l)) k ≡ p k + u l k
  first-coord l k h = corner-coord g p (u l) hp (cu.most l) k h

  second-coord : (r k : ℕ) → k < g.d → coord_at g (corner_by g q (w r)) k ≡ q k + w r k
  second-coord r k h = corner-coord g q (w r) hq (cw.most r) k h

  module _ (k : ℕ) (h : k < g.d) (a : Alike k) where
    -- one coordinate, or at one end and at the other
    ends : (l r : ℕ) → Meets l r → (p k + u l k ≡ q k + w r k) ⊎ ((closed_at g k ≡ true) × AtEnds (cells_on g k) (p k + u l k) (q k + w r k))
    ends l r v =
        subst (λ (c : ℕ). (c ≡ q k + w r k) ⊎ ((closed_at g k ≡ true) × AtEnds (cells_on g k) c (q k + w r k))) (first-coord l k h)
        (subst (λ (e : ℕ). (coord_at g (corner_by g p (u l)) k ≡ e) ⊎ ((closed_at g k ≡ true) × AtEnds (cells_on g k) (coord_at g (corner_by g p (u l)) k) e)) (second-coord r k h)
        (coord-ends g (corner_by g p (u l)) (corner_by g q (w r)) k (a l r v) (fold-one g taken p q (u l) (w r) hp hq (cu.most l) (cw.most r) v k h)))

    -- not n and 0: look at the first corner of the one chain, or at the last of the other
    not-down : closed_at g k ≡ true → (l r : ℕ) → p k + u l k ≡ cells_on g k → q k + w r k ≡ 0 → ⊥
    not-down c l r x y =
        let t : 3 ≤ cells_on g k = three-cells g taken k h c in
        let s : p k + 1 ≡ cells_on g k = omega (arith, hp k h, cu.most l k h) in
        elim (ℕ_discrete i 0) [
          | yes z ↦
              let (l', b, n, v) = m.back g.d (le_refl g.d) (λ e. first z (sym e)) in
              let o : w g.d k ≡ 1 = cw.each k h in
              none_left (cells_on g k) (p k + u l' k) (q k + w g.d k) (λ e. omega arith) (λ e f. omega arith) (λ e f. omega arith) (ends l' g.d v)
          | no z ↦
              let (r', b, n, v) = m.forth 0 (omega arith) (λ e. z (sym e)) in
              let o : u 0 k ≡ 0 = cu.none k h in
              let one : w r' k ≤ 1 = cw.most r' k h in
              none_left (cells_on g k) (p k + u 0 k) (q k + w r' k) (λ e. omega arith) (λ e f. omega arith) (λ e f. omega arith) (ends 0 r' v)
        ]

    not-up : closed_at g k ≡ true → (l r : ℕ) → p k + u l k ≡ 0 → q k + w r k ≡ cells_on g k → ⊥
    not-up c l r x y =
        let t : 3 ≤ cells_on g k = three-cells g taken k h c in
        let s : q k + 1 ≡ cells_on g k = omega (arith, hq k h, cw.most r k h) in
        elim (ℕ_discrete j 0) [
          | yes z ↦
              let (r', b, n, v) = m.forth g.d (le_refl g.d) (λ e. last z (sym e)) in
              let o : u g.d k ≡ 1 = cu.each k h in
              none_left (cells_on g k) (p k + u g.d k) (q k + w r' k) (λ e. omega arith) (λ e f. omega arith) (λ e f. omega arith) (ends g.d r' v)
          | no z ↦
              let (l', b, n, v) = m.back 0 (omega arith) (λ e. z (sym e)) in
              let o : w 0 k ≡ 0 = cw.none k h in
              let one : u l' k ≤ 1 = cu.most l' k h in
              none_left (cells_on g k) (p k + u l' k) (q k + w 0 k) (λ e. omega arith) (λ e f. omega arith) (λ e f. omega arith) (ends l' 0 v)
        ]

    axis-same : (l r : ℕ) → Meets l r → p k + u l k ≡ q k + w r k
    axis-same l r v =
        ⊎_elim
        (λ (e : p k + u l k ≡ q k + w r k). e)
        (λ (e : (closed_at g k ≡ true) × AtEnds (cells_on g k) (p k + u l k) (q k + w r k)).
        ⊎_elim
        (λ (z : p k + u l k ≡ q k + w r k). z)
        (⊎_elim
        (λ (z : (p k + u l k ≡ 0) × (q k + w r k ≡ cells_on g k)). absurd (not-up e.0 l r z.0 z.1))
        (λ (z : (p k + u l k ≡ cells_on g k) × (q k + w r k ≡ 0)). absurd (not-down e.0 l r z.0 z.1)))
        e.1)
        (ends l r v)

  -- an axis that nothing reflects
  still_alike : (k : ℕ) → ((b : ℕ) → b < g.d → member (mask_at g b) k ≡ false) → Alike k
  still_alike k s l r v b h = still (wrapped_at g (corner_by g p (u l)) b) ∙ sym (still (wrapped_at g (corner_by g q (w r)) b))
    where
      still : (t : Bool) → (t && member (mask_at g b) k) ≡ false
      still t = rw (s b h) (and-false t)

  -- nothing reflects an axis that reflects
  reflects-still : (b k : ℕ) → b < g.d → k < g.d → member (mask_at g b) k ≡ true → (a : ℕ) → a < g.d → member (mask_at g a) b ≡ false
  reflects-still b k hb hk e a ha = go (member (mask_at g a) b) refl
    where
      go : (t : Bool) → member (mask_at g a) b ≡ t → t ≡ false
      go true q = absurd (false≢true (sym (untangled a b k ha hb hk q) ∙ e))
      go false q = refl

  all_alike : (k : ℕ) → k < g.d → Alike k
  all_alike k hk l r v b hb = go (member (mask_at g b) k) refl
    where
      wraps : member (mask_at g b) k ≡ true → wrapped_at g (corner_by g p (u l)) b ≡ wrapped_at g (corner_by g q (w r)) b
      wraps e =
          ap (λ (c : ℕ). closed_at g b && eqb c (cells_on g b))
          (first-coord l b hb ∙ axis-same b hb (still_alike b (reflects-still b k hb hk e)) l r v ∙ sym (second-coord r b hb))

      go : (t : Bool) → member (mask_at g b) k ≡ t → (wrapped_at g (corner_by g p (u l)) b && t) ≡ (wrapped_at g (corner_by g q (w r)) b && t)
      go true e = ap (λ (t : Bool). t && true) (wraps e)
      go false e = and-false (wrapped_at g (corner_by g p (u l)) b) ∙ sym (and-false (wrapped_at g (corner_by g q (w r)) b))

  same_point : (l r : ℕ) → Meets l r → (k : ℕ) → k < g.d → p k + u l k ≡ q k + w r k
  same_point l r v k h = axis-same k h (all_alike k h) l r v

  -- ---- one box: its first corner is in both chains, or its last
  low-box : (i ≡ 0 → ⊥) → (j ≡ 0 → ⊥) → (k : ℕ) → k < g.d → p k ≡ q k
  low-box ni nj k h =
      let (r, b, n, v) = m.forth 0 (omega arith) (λ e. ni (sym e)) in
      let (l, b', n', v') = m.back 0 (omega arith) (λ e. nj (sym e)) in
      omega (arith, same_point 0 r v k h, same_point l 0 v' k h, cu.none k h, cw.none k h)

  high-box : (i ≡ g.d → ⊥) → (j ≡ g.d → ⊥) → (k : ℕ) → k < g.d → p k ≡ q k
  high-box ni nj k h =
      let (r, b, n, v) = m.forth g.d (le_refl g.d) (λ e. ni (sym e)) in
      let (l, b', n', v') = m.back g.d (le_refl g.d) (λ e. nj (sym e)) in
      omega (arith, same_point g.d r v k h, same_point l g.d v' k h, cu.each k h, cw.each k h, cw.most r k h, cu.most l k h)

  -- ---- in one box corners with one vertex have one number: so many axes are up
  module _ (lj : j ≤ g.d) (su : (l : ℕ) → l ≤ g.d → sum g.d (u l) ≡ l) (sw : (r : ℕ) → r ≤ g.d → sum g.d (w r) ≡ r) (box : (k : ℕ) → k < g.d → p k ≡ q k) where
    bits-same : (l r : ℕ) → Meets l r → (k : ℕ) → k < g.d → u l k ≡ w r k
    bits-same l r v k h = omega (arith, same_point l r v k h, box k h)

    place_same : (l r : ℕ) → l ≤ g.d → r ≤ g.d → Meets l r → r ≡ l
    place_same l r hl hr v = sym (sw r hr) ∙ sum-ext g.d (w r) (u l) (λ k h. sym (bits-same l r v k h)) ∙ su l hl

    agree-but : AgreeBut g p q u w i j
    agree-but =
        record {
          box = box;
          place =
              elim (ℕ_discrete i j) [
                | yes z ↦ z
                | no z ↦ let (r, b, n, v) = m.forth j lj (λ e. z (sym e)) in absurd (n (place_same j r lj b v))
              ];
          corner =
              λ l k hl n h.
              let (r, b, n', v) = m.forth l hl n in
              bits-same l r v k h ∙ ap (λ (s : ℕ). w s k) (place_same l r hl b v);
        }

-- one corner is the first and the other the last, or the chains agree
pub agree-or-across : (g : Grid) → check_of g ≡ fine → Untangled g → (p q : ℕ → ℕ) → Begins g p → Begins g q → (u w : ℕ → ℕ → ℕ) → Chain g.d u → Chain g.d w → (i j : ℕ) → MatchedBut g p q u w i j → j ≤ g.d
    → ((l : ℕ) → l ≤ g.d → sum g.d (u l) ≡ l) → ((r : ℕ) → r ≤ g.d → sum g.d (w r) ≡ r) → (((i ≡ 0) × (j ≡ g.d)) ⊎ ((j ≡ 0) × (i ≡ g.d))) ⊎ AgreeBut g p q u w i j
agree-or-across g taken untangled p q hp hq u w cu cw i j m lj su sw =
    let some : 1 ≤ g.d = taken-low g taken in
    elim (ℕ_discrete i 0) [
      | yes a ↦
          elim (ℕ_discrete j g.d) [
            | yes b ↦ inl (inl (a, b))
            | no b ↦
                let f : i ≡ 0 → j ≡ g.d → ⊥ = λ x y. b y in
                let l : j ≡ 0 → i ≡ g.d → ⊥ = λ x y. omega arith in
                inr (agree-but g taken untangled p q hp hq u w cu cw i j m f l lj su sw (high-box g taken untangled p q hp hq u w cu cw i j m f l (λ e. omega arith) b))
          ]
      | no a ↦
          elim (ℕ_discrete j 0) [
            | yes b ↦
                elim (ℕ_discrete i g.d) [
                  | yes c ↦ inl (inr (b, c))
                  | no c ↦
                      let f : i ≡ 0 → j ≡ g.d → ⊥ = λ x y. a x in
                      let l : j ≡ 0 → i ≡ g.d → ⊥ = λ x y. c y in
                      inr (agree-but g taken untangled p q hp hq u w cu cw i j m f l lj su sw (high-box g taken untangled p q hp hq u w cu cw i j m f l c (λ e. omega arith)))
                ]
            | no b ↦
                let f : i ≡ 0 → j ≡ g.d → ⊥ = λ x y. a x in
                let l : j ≡ 0 → i ≡ g.d → ⊥ = λ x y. b x in
                inr (agree-but g taken untangled p q hp hq u w cu cw i j m f l lj su sw (low-box g taken untangled p q hp hq u w cu cw i j m f l a b))
          ]
    ]
