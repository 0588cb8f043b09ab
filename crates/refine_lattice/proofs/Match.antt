-- One point seen from two cells: where the cells' words agree on the vertices of positive weight, its levels have the same shares, and where they are
-- opposite, as on an edge they may be, the same in the opposite sequence. Assumes nothing.
use mathlib.Core.Path.{◌≡◌, refl, sym, ap, ◌∙◌}
use mathlib.Core.Logic.{◌≢◌, ◌⊎◌, inl, inr, ⊎_elim}
use mathlib.Core.List.{List}
use Prim.Native.Nat.{ℕ, suc, ◌+◌, ◌*◌, ◌-◌, ◌%◌, ◌≤◌, ◌<◌}
use native.Mathlib.Nat.{mul-le-mul_right, div-add-mod, mod-lt, div-eq_of_lt-le}
use native.Mathlib.Decide.{dec_lt, ℕ_discrete}
use native.Mathlib.Omega.{arith}
use lib.ListN.{get_or}
use Rattle.lists.specs.Tables.{sum}
use Rattle.lists.specs.Words.{same}
use Rattle.refine_lattice.specs.Complex.{occurrences, common, Agree}
use Rattle.lists.proofs.Words.{same-yes, same-no}
use Rattle.lists.proofs.Sums.{sum-ext, sum-add, sum-pick, sum-reverse}
use Rattle.refine_lattice.proofs.Levels.{shift}
use Rattle.refine_lattice.proofs.After.{after, after-le, after-self, after_both, times-common, after-common, one_of_two, later}

-- g (w + l) - g l, w the weight of v and l that of what stands after it
abbrev pub value : ℕ → List ℕ → (ℕ → ℕ) → (ℕ → ℕ) → ℕ → ℕ
value n k ω g v = g (ω v + later n k ω v) - g (later n k ω v)

-- the levels below b in this or the opposite sequence
pub record Sequence (b : ℕ) : Type 0 where
  pub turn : ℕ → ℕ
  pub stays : (η : ℕ) → η < b → turn η < b
  pub keeps : (f : ℕ → ℕ) → sum b f ≡ sum b (λ η. f (turn η))

same_way : (b : ℕ) → Sequence b
same_way b = record { turn = λ η. η; stays = λ η h. h; keeps = λ f. refl }

other_way : (b : ℕ) → Sequence b
other_way b = record { turn = λ η. b - suc η; stays = λ η h. omega arith; keeps = sum-reverse b }

-- what a share by b is in the opposite sequence
opposite-by : (a b η y z q r : ℕ) → η < b → y + z ≡ a * b → b * q + r ≡ z + (b - suc η) → r < b → shift b (b - suc η) y ≡ a - q
opposite-by a b η y z q r h e f l =
    let small : q ≤ a =
    elim (dec_lt a q) [ yes m ↦ omega (arith, mul-le-mul_right b m) | no m ↦ omega arith ] in
    let p : (a - q) * b + q * b ≡ a * b = omega (arith, ap (λ (x : ℕ). x * b) {x = a - q + q} {y = a} (omega arith)) in
    div-eq_of_lt-le {k = a - q} b {m = y + (b - suc (b - suc η))} (omega arith) (omega arith)

opposite : (a b η y z : ℕ) → η < b → y + z ≡ a * b → shift b (b - suc η) y ≡ a - shift b η z
opposite a b η y z h e =
    opposite-by a b η y z (shift b η z) ((z + (b - suc η)) % b) h e (div-add-mod (z + (b - suc η)) b) (mod-lt (z + (b - suc η)) (omega arith))

shift_le : (a b η z : ℕ) → η < b → z ≤ a * b → shift b η z ≤ a
shift_le a b η z h l =
    elim (dec_lt a (shift b η z)) [
      | yes m ↦ omega (arith, mul-le-mul_right b m, div-add-mod (z + (b - suc η)) b)
      | no m ↦ omega arith
    ]

module _ (n : ℕ) (k k' : List ℕ) (ω : ℕ → ℕ)
    (in-k : (v : ℕ) → 0 < ω v → 0 < occurrences k v) (in-k' : (v : ℕ) → 0 < ω v → 0 < occurrences k' v)
    (plain : (v : ℕ) → occurrences k v ≤ 1) (plain' : (v : ℕ) → occurrences k' v ≤ 1) where
  Along : Type 0
  Along = (u v : ℕ) → 0 < ω u → 0 < ω v → after k v u ≡ after k' v u

  Against : Type 0
  Against = (u v : ℕ) → 0 < ω u → 0 < ω v → u ≢ v → after k v u + after k' v u ≡ 1

  -- where all vertices of positive weight are among two
  module _ (x y : ℕ) (two : (v : ℕ) → 0 < ω v → (v ≡ x) ⊎ (v ≡ y)) where
    pair : (u v : ℕ) → 0 < ω u → 0 < ω v → u ≢ v → ((v ≡ x) × (u ≡ y)) ⊎ ((v ≡ y) × (u ≡ x))
    pair u v h l n = go (two u h) (two v l)
      where
        go : (u ≡ x) ⊎ (u ≡ y) → (v ≡ x) ⊎ (v ≡ y) → ((v ≡ x) × (u ≡ y)) ⊎ ((v ≡ y) × (u ≡ x))
        go (inl p) (inl q) = absurd (n (p ∙ sym q))
        go (inl p) (inr q) = inr (q, p)
        go (inr p) (inl q) = inl (q, p)
        go (inr p) (inr q) = absurd (n (p ∙ sym q))

    ordered : (u v : ℕ) → 0 < ω u → 0 < ω v → u ≢ v
        → ((after k v u ≡ after k x y) × (after k' v u ≡ after k' x y))
        ⊎ ((after k v u + after k x y ≡ 1) × (after k' v u + after k' x y ≡ 1))
    ordered u v h l n =
        ⊎_elim
        (λ p. let q = p.0 in let r = p.1 in inl (cc, cc))
        (λ p.
        let q = p.0 in
        let r = p.1 in
        let e : after k x y ≡ after k u v = cc in
        let f : after k' x y ≡ after k' u v = cc in
        inr (
          omega (arith, after_both k plain v u (λ z. n (sym z)) (in-k v l) (in-k u h)),
          omega (arith, after_both k' plain' v u (λ z. n (sym z)) (in-k' v l) (in-k' u h)),
        ))
        (pair u v h l n)

    bit : after k x y ≤ 1
    bit = omega (arith, after-le k x y, plain y)

    bit' : after k' x y ≤ 1
    bit' = omega (arith, after-le k' x y, plain' y)

    decided : Along ⊎ Against
    unfolding Along Against
    decided =
        elim (ℕ_discrete (after k x y) (after k' x y)) [
          | yes e ↦
              inl (λ u v h l.
              elim (ℕ_discrete u v) [
                | yes q ↦
                    ap (after k v) q ∙ after-self k v (plain v) ∙ sym (ap (after k' v) q ∙ after-self k' v (plain' v))
                | no q ↦ ⊎_elim (λ p. omega arith) (λ p. omega arith) (ordered u v h l q)
              ])
          | no e ↦ inr (λ u v h l q. ⊎_elim (λ p. omega (arith, bit, bit')) (λ p. omega (arith, bit, bit')) (ordered u v h l q))
        ]

  along-or-against : Agree k k' → Along ⊎ Against
  unfolding Agree Along
  along-or-against (inl e) =
      inl (λ u v h l.
      sym (after-common k k' v u (in-k' v l) (in-k' u h))
      ∙ ap (λ (r : List ℕ). after r v u) e
      ∙ after-common k' k v u (in-k v l) (in-k u h))
  along-or-against (inr e) =
      decided (get_or (common k k') 0 0) (get_or (common k k') 1 0)
      (λ v h. one_of_two (common k k') e v (omega (arith, times-common k k' v (in-k' v h), in-k v h)))

  nothing : (y z : ℕ) → y ≡ 0 → y * z ≡ 0
  nothing y z e = ap (λ (x : ℕ). x * z) e ∙ omega arith

  later-along : Along → (v : ℕ) → 0 < ω v → later n k ω v ≡ later n k' ω v
  unfolding Along
  later-along f v h =
      sum-ext n (λ u. ω u * after k v u) (λ u. ω u * after k' v u)
      (λ u i.
      elim (dec_lt 0 (ω u)) [
        | yes l ↦ ap (λ (y : ℕ). ω u * y) (f u v l h)
        | no l ↦ nothing (ω u) (after k v u) (omega arith) ∙ sym (nothing (ω u) (after k' v u) (omega arith))
      ])

  void : (l : List ℕ) (g : ℕ → ℕ) (v : ℕ) → ω v ≡ 0 → value n l ω g v ≡ 0
  void l g v e = omega (arith, ap (λ (y : ℕ). g (y + later n l ω v)) e, ap g {x = 0 + later n l ω v} {y = later n l ω v} (omega arith))

  value-along : Along → (g : ℕ → ℕ) (v : ℕ) → value n k ω g v ≡ value n k' ω g v
  value-along f g v =
      elim (dec_lt 0 (ω v)) [
        | yes l ↦ ap (λ (y : ℕ). g (ω v + y) - g y) (later-along f v l)
        | no l ↦ void k g v (omega arith) ∙ sym (void k' g v (omega arith))
      ]

  later-against : Against → (v : ℕ) → v < n → 0 < ω v → ω v + later n k ω v + later n k' ω v ≡ sum n ω
  unfolding Against
  later-against f v h l =
      omega (
        arith,
        sum-pick n v ω h,
        sum-add n (λ u. same u v * ω u) (λ u. ω u * after k v u),
        sum-add n (λ u. same u v * ω u + ω u * after k v u) (λ u. ω u * after k' v u),
        sum-ext n (λ u. same u v * ω u + ω u * after k v u + ω u * after k' v u) ω (λ u i. each u),
      )
    where
      each : (u : ℕ) → same u v * ω u + ω u * after k v u + ω u * after k' v u ≡ ω u
      each u =
          elim (dec_lt 0 (ω u)) [
            | yes m ↦
                elim (ℕ_discrete u v) [
                  | yes e ↦
                      omega (
                        arith,
                        ap (λ (y : ℕ). y * ω u) (same-yes u v e),
                        ap (λ (y : ℕ). ω u * y) (ap (after k v) e ∙ after-self k v (plain v)),
                        ap (λ (y : ℕ). ω u * y) (ap (after k' v) e ∙ after-self k' v (plain' v)),
                      )
                  | no e ↦
                      omega (arith, ap (λ (y : ℕ). y * ω u) (same-no u v e), ap (λ (y : ℕ). ω u * y) (f u v m l e))
                ]
            | no m ↦
                let z : ω u ≡ 0 = omega arith in
                omega (
                  arith,
                  ap (λ (y : ℕ). same u v * y) z,
                  nothing (ω u) (after k v u) z,
                  nothing (ω u) (after k' v u) z,
                )
          ]

  value-against : Against → (a b η : ℕ) → sum n ω ≡ a * b → ((v : ℕ) → 0 < ω v → v < n) → η < b → (v : ℕ)
      → value n k ω (shift b η) v ≡ value n k' ω (shift b (b - suc η)) v
  value-against f a b η s i h v =
      elim (dec_lt 0 (ω v)) [
        | yes l ↦
            let e = later-against f v (i v l) l in
            omega (
              arith,
              opposite a b η (ω v + later n k' ω v) (later n k ω v) h (omega arith),
              opposite a b η (later n k' ω v) (ω v + later n k ω v) h (omega arith),
              shift_le a b η (ω v + later n k ω v) h (omega arith),
              shift_le a b η (later n k ω v) h (omega arith),
            )
        | no l ↦ void k (shift b η) v (omega arith) ∙ sym (void k' (shift b (b - suc η)) v (omega arith))
      ]

  pub matched : Agree k k' → (a b : ℕ) → sum n ω ≡ a * b → ((v : ℕ) → 0 < ω v → v < n)
      → (q : Sequence b) × ((η : ℕ) → η < b → (v : ℕ) → value n k ω (shift b η) v ≡ value n k' ω (shift b (q.turn η)) v)
  unfolding same_way other_way
  matched g a b s i =
      ⊎_elim
      (λ f. (same_way b, λ η h v. value-along f (shift b η) v))
      (λ f. (other_way b, λ η h v. value-against f a b η s i h v))
      (along-or-against g)
