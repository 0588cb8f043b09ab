-- Two children of one cell with a common facet: their other corners are the same, or lie opposite each other across the middle of two corners of the facet.
-- Assumes nothing.
use mathlib.Core.Path.{◌≡◌, sym, ap, ◌∙◌, subst}
use mathlib.Core.Logic.{◌≢◌, ◌⊎◌, inl, inr, ⊎_elim}
use Prim.Native.Nat.{ℕ, zero, suc, ◌+◌, ◌-◌, ◌≤◌, ◌<◌}
use native.Mathlib.Decide.{ℕ_discrete, dec_lt}
use native.Mathlib.Omega.{arith}
use Rattle.refine_lattice.specs.Lattice.{Perm}
use Rattle.lists.specs.Tables.{sum}
use Rattle.refine_lattice.proofs.Tab.{step, step-yes, step-no, step-one}
use Rattle.refine_lattice.proofs.Perms.{one_place, onto}
use Rattle.lists.proofs.Sums.{sum-ext}
use Rattle.refine_lattice.proofs.Span.{level-of}

-- corner x of the one and corner y of the other are one point
abbrev pub Spot : ℕ → (ℕ → ℕ) → (ℕ → ℕ) → ℕ → (ℕ → ℕ) → (ℕ → ℕ) → ℕ → Type 0
Spot d base t x base' t' y = (l : ℕ) → l < d → base l + step (t l) x ≡ base' l + step (t' l) y

-- the one without corner i and the other without corner j have the same corners
pub record Facing (d : ℕ) (base t : ℕ → ℕ) (i : ℕ) (base' t' : ℕ → ℕ) (j : ℕ) : Type 0 where
  pub forth : (x : ℕ) → x < suc d → x ≢ i → (y : ℕ) × (y < suc d) × (y ≢ j) × Spot d base t x base' t' y
  pub back : (y : ℕ) → y < suc d → y ≢ j → (x : ℕ) × (x < suc d) × (x ≢ i) × Spot d base t x base' t' y

pub spot-level : {d : ℕ} {t t' : ℕ → ℕ} → Perm d t → Perm d t' → (base base' : ℕ → ℕ) (x y : ℕ) → x ≤ d → y ≤ d
    → Spot d base t x base' t' y → sum d base + x ≡ sum d base' + y
spot-level {d} {t} {t'} p p' base base' x y h l s =
    sym (level-of d t p base x h)
    ∙ sum-ext d (λ j. base j + step (t j) x) (λ j. base' j + step (t' j) y) s
    ∙ level-of d t' p' base' y l

-- how the corners lie
pub data Lie (d : ℕ) (base t : ℕ → ℕ) (i : ℕ) (base' t' : ℕ → ℕ) (j : ℕ) : Type 0 where
  alike : i ≡ j → ((x : ℕ) → x < suc d → x ≢ i → Spot d base t x base' t' x) → Lie d base t i base' t' j
  above : i ≡ d → j ≡ 0 → ((x : ℕ) → x < d → Spot d base t x base' t' (suc x)) → Lie d base t i base' t' j
  under : i ≡ 0 → j ≡ d → ((x : ℕ) → x < d → Spot d base t (suc x) base' t' x) → Lie d base t i base' t' j

module _ (d : ℕ) (base t base' t' : ℕ → ℕ) (p : Perm d t) (p' : Perm d t') (i j : ℕ) (bi : i < suc d) (bj : j < suc d)
    (f : Facing d base t i base' t' j) (pos : 0 < d) where
  abbrev σ : ℕ
  σ = sum d base

  abbrev σ' : ℕ
  σ' = sum d base'

  goes : (x : ℕ) → x < suc d → x ≢ i → (y : ℕ) × (y < suc d) × (y ≢ j) × (σ + x ≡ σ' + y) × Spot d base t x base' t' y
  goes x h n =
      let (y, b, m, s) = f.forth x h n in
      (y, b, m, spot-level p p' base base' x y (omega arith) (omega arith) s, s)

  comes : (y : ℕ) → y < suc d → y ≢ j → (x : ℕ) × (x < suc d) × (x ≢ i) × (σ + x ≡ σ' + y) × Spot d base t x base' t' y
  comes y h n =
      let (x, b, m, s) = f.back y h n in
      (x, b, m, spot-level p p' base base' x y (omega arith) (omega arith) s, s)

  lie-alike : σ ≡ σ' → Lie d base t i base' t' j
  lie-alike e =
      alike
      (elim (ℕ_discrete i j) [
        | yes q ↦ q
        | no q ↦ let (y, b, m, a, s) = goes j bj (λ w. q (sym w)) in absurd (m (omega arith))
      ])
      (λ x h n.
      let (y, b, m, a, s) = goes x h n in
      let w : y ≡ x = omega arith in
      subst (Spot d base t x base' t') w s)

  lie-above : σ' < σ → Lie d base t i base' t' j
  lie-above e =
      let u : i ≡ d =
      elim (ℕ_discrete i d) [ yes q ↦ q | no q ↦ let (y, b, m, a, s) = goes d (omega arith) (λ w. q (sym w)) in omega arith ] in
      let v : j ≡ 0 =
      elim (ℕ_discrete j 0) [ yes q ↦ q | no q ↦ let (x, b, m, a, s) = comes 0 (omega arith) (λ w. q (sym w)) in omega arith ] in
      above u v
      (λ x h.
      let (y, b, m, a, s) = goes x (omega arith) (omega arith) in
      let (y₁, b₁, m₁, a₁, s₁) = goes (d - 1) (omega arith) (omega arith) in
      let w : y ≡ suc x = omega arith in
      subst (Spot d base t x base' t') w s)

  lie-under : σ < σ' → Lie d base t i base' t' j
  lie-under e =
      let u : i ≡ 0 =
      elim (ℕ_discrete i 0) [ yes q ↦ q | no q ↦ let (y, b, m, a, s) = goes 0 (omega arith) (λ w. q (sym w)) in omega arith ] in
      let v : j ≡ d =
      elim (ℕ_discrete j d) [ yes q ↦ q | no q ↦ let (x, b, m, a, s) = comes d (omega arith) (λ w. q (sym w)) in omega arith ] in
      under u v
      (λ y h.
      let (x, b, m, a, s) = comes y (omega arith) (omega arith) in
      let (x₁, b₁, m₁, a₁, s₁) = comes (d - 1) (omega arith) (omega arith) in
      let w : x ≡ suc y = omega arith in
      subst (λ (z : ℕ). Spot d base t z base' t' y) w s)

  pub lie : Lie d base t i base' t' j
  lie =
      elim (ℕ_discrete σ σ') [
        | yes e ↦ lie-alike e
        | no e ↦ elim (dec_lt σ σ') [ yes m ↦ lie-under m | no m ↦ lie-above (omega arith) ]
      ]

-- times that are alike but at corner p + 1
near : (a b p : ℕ) → step a p ≡ step b p → step a (suc (suc p)) ≡ step b (suc (suc p))
    → ((a < p) × (b < p)) ⊎ (((suc p < a) × (suc p < b)) ⊎ (((p ≤ a) × (a ≤ suc p)) × ((p ≤ b) × (b ≤ suc p))))
near a b p e f =
    elim (dec_lt a p) [
      | yes h ↦ inl (h, step-one b p (omega (arith, step-yes a p h)))
      | no h ↦
          let u : p ≤ b = elim (dec_lt b p) [ yes l ↦ omega (arith, step-yes b p l, step-no a p (omega arith)) | no l ↦ omega arith ] in
          elim (dec_lt (suc p) a) [
            | yes l ↦
                inr (inl (
                  l,
                  elim (dec_lt (suc p) b) [
                    | yes m ↦ m
                    | no m ↦ absurd (omega (arith, step-yes b (suc (suc p)) (omega arith), step-no a (suc (suc p)) l))
                  ],
                ))
            | no l ↦
                inr (inr (
                  (omega arith, omega arith),
                  (
                    u,
                    elim (dec_lt (suc p) b) [
                      | yes m ↦ omega (arith, step-yes a (suc (suc p)) (omega arith), step-no b (suc (suc p)) m)
                      | no m ↦ omega arith
                    ],
                  ),
                ))
          ]
    ]

module _ (d : ℕ) (t t' : ℕ → ℕ) (p : Perm d t) (p' : Perm d t') (q : ℕ) (h : suc q < d)
    (e : (l : ℕ) → l < d → step (t l) q ≡ step (t' l) q) (f : (l : ℕ) → l < d → step (t l) (suc (suc q)) ≡ step (t' l) (suc (suc q))) where
  -- the axes that are stepped then trade times, or keep them
  traded : ((l : ℕ) → l < d → step (t l) (suc q) ≡ step (t' l) (suc q))
      ⊎ ((l : ℕ) → l < d → step (t l) (suc q) + step (t' l) (suc q) ≡ step (t l) q + step (t l) (suc (suc q)))
  traded =
      let (a, b, w) = onto d t p q (omega arith) in
      elim (ℕ_discrete (t' a) q) [ yes s ↦ inl (kept a b w s) | no s ↦ inr (moved a b w s) ]
    where
      kept : (a : ℕ) → a < d → t a ≡ q → t' a ≡ q → (l : ℕ) → l < d → step (t l) (suc q) ≡ step (t' l) (suc q)
      kept a b w s l m =
          ⊎_elim
          (λ (c : (t l < q) × (t' l < q)). step-yes (t l) (suc q) (omega arith) ∙ sym (step-yes (t' l) (suc q) (omega arith)))
          (⊎_elim
          (λ (c : (suc q < t l) × (suc q < t' l)). step-no (t l) (suc q) (omega arith) ∙ sym (step-no (t' l) (suc q) (omega arith)))
          (λ (c : ((q ≤ t l) × (t l ≤ suc q)) × ((q ≤ t' l) × (t' l ≤ suc q))).
          elim (ℕ_discrete l a) [
            | yes g ↦
                step-yes (t l) (suc q) (omega (arith, ap t g)) ∙ sym (step-yes (t' l) (suc q) (omega (arith, ap t' g)))
            | no g ↦
                let x : t l ≢ q = λ y. g (one_place p l a m b (y ∙ sym w)) in
                let z : t' l ≢ q = λ y. g (one_place p' l a m b (y ∙ sym s)) in
                step-no (t l) (suc q) (omega arith) ∙ sym (step-no (t' l) (suc q) (omega arith))
          ]))
          (near (t l) (t' l) q (e l m) (f l m))

      at_a : (a : ℕ) → a < d → t a ≡ q → t' a ≢ q → t' a ≡ suc q
      at_a a b w s =
          ⊎_elim
          (λ (c : (t a < q) × (t' a < q)). omega arith)
          (⊎_elim
          (λ (c : (suc q < t a) × (suc q < t' a)). omega arith)
          (λ (c : ((q ≤ t a) × (t a ≤ suc q)) × ((q ≤ t' a) × (t' a ≤ suc q))). omega arith))
          (near (t a) (t' a) q (e a b) (f a b))

      moved : (a : ℕ) → a < d → t a ≡ q → t' a ≢ q
          → (l : ℕ) → l < d → step (t l) (suc q) + step (t' l) (suc q) ≡ step (t l) q + step (t l) (suc (suc q))
      moved a b w s l m =
          ⊎_elim
          (λ (c : (t l < q) × (t' l < q)).
          omega (
            arith,
            step-yes (t l) (suc q) (omega arith),
            step-yes (t' l) (suc q) (omega arith),
            step-yes (t l) q (omega arith),
            step-yes (t l) (suc (suc q)) (omega arith),
          ))
          (⊎_elim
          (λ (c : (suc q < t l) × (suc q < t' l)).
          omega (
            arith,
            step-no (t l) (suc q) (omega arith),
            step-no (t' l) (suc q) (omega arith),
            step-no (t l) q (omega arith),
            step-no (t l) (suc (suc q)) (omega arith),
          ))
          (λ (c : ((q ≤ t l) × (t l ≤ suc q)) × ((q ≤ t' l) × (t' l ≤ suc q))).
          let r : step (t l) q + step (t l) (suc (suc q)) ≡ 1 =
          omega (arith, step-no (t l) q (omega arith), step-yes (t l) (suc (suc q)) (omega arith)) in
          elim (ℕ_discrete l a) [
            | yes g ↦
                omega (
                  arith,
                  step-yes (t l) (suc q) (omega (arith, ap t g)),
                  step-no (t' l) (suc q) (omega (arith, ap t' g, at_a a b w s)),
                )
            | no g ↦
                let x : t l ≢ q = λ y. g (one_place p l a m b (y ∙ sym w)) in
                let z : t' l ≢ suc q = λ y. g (one_place p' l a m b (y ∙ sym (at_a a b w s))) in
                omega (arith, step-no (t l) (suc q) (omega arith), step-yes (t' l) (suc q) (omega arith))
          ]))
          (near (t l) (t' l) q (e l m) (f l m))

-- corner u and v of the facet, across whose middle the other corner of any other child lies
pub record Mirror (d : ℕ) (base t : ℕ → ℕ) (i : ℕ) : Type 0 where
  pub u : ℕ
  pub v : ℕ
  pub u-below : u < suc d
  pub v_below : v < suc d
  pub u-kept : u ≢ i
  pub v-kept : v ≢ i
  pub sends : (base' t' : ℕ → ℕ) (j : ℕ) → Perm d t' → j < suc d → Facing d base t i base' t' j
      → Spot d base t i base' t' j
      ⊎ ((l : ℕ) → l < d → (base l + step (t l) i) + (base' l + step (t' l) j) ≡ (base l + step (t l) u) + (base l + step (t l) v))

module _ (d : ℕ) (base t : ℕ → ℕ) (p : Perm d t) (pos : 0 < d) where
  abbrev full : (t : ℕ → ℕ) → Perm d t → (l : ℕ) → l < d → step (t l) d ≡ 1
  full t p l h = step-yes (t l) d (p.below l h)

  first : Mirror d base t 0
  first = record {
    u = 1;
    v = d;
    u-below = omega arith;
    v_below = omega arith;
    u-kept = omega arith;
    v-kept = omega arith;
    sends = λ base' t' j p' b f.
        elim (lie d base t base' t' p p' 0 j (omega arith) b f pos) [
          | alike e s ↦
              inl (λ l h.
              omega (
                arith,
                s d (omega arith) (omega arith) l h,
                full t p l h,
                full t' p' l h,
                ap (step (t' l)) (sym e),
              ))
          | above e g s ↦ absurd (omega arith)
          | under e g s ↦
              inr (λ l h.
              omega (
                arith,
                s 0 pos l h,
                full t p l h,
                full t' p' l h,
                ap (step (t' l)) g,
              ))
        ];
  }

  last : (q : ℕ) → suc q ≡ d → Mirror d base t (suc q)
  last q w = record {
    u = 0;
    v = q;
    u-below = omega arith;
    v_below = omega arith;
    u-kept = omega arith;
    v-kept = omega arith;
    sends = λ base' t' j p' b f.
        elim (lie d base t base' t' p p' (suc q) j (omega arith) b f pos) [
          | alike e s ↦
              inl (λ l h.
              omega (
                arith,
                s 0 (omega arith) (omega arith) l h,
                full t p l h,
                full t' p' l h,
                ap (step (t l)) w,
                ap (step (t' l)) (sym e ∙ w),
              ))
          | above e g s ↦
              inr (λ l h.
              omega (
                arith,
                s q (omega arith) l h,
                full t p l h,
                full t' p' l h,
                ap (step (t l)) w,
                ap (step (t' l)) w,
                ap (step (t' l)) g,
              ))
          | under e g s ↦ absurd (omega arith)
        ];
  }

  between : (q : ℕ) → suc q < d → Mirror d base t (suc q)
  between q w = record {
    u = q;
    v = suc (suc q);
    u-below = omega arith;
    v_below = omega arith;
    u-kept = omega arith;
    v-kept = omega arith;
    sends = λ base' t' j p' b f.
        elim (lie d base t base' t' p p' (suc q) j (omega arith) b f pos) [
          | alike e s ↦
              let same_base : (l : ℕ) → l < d → base l ≡ base' l = λ l h. omega (arith, s 0 (omega arith) (omega arith) l h) in
              ⊎_elim
              (λ g. inl (λ l h. omega (arith, g l h, same_base l h, ap (step (t' l)) e)))
              (λ g. inr (λ l h. omega (arith, g l h, same_base l h, ap (step (t' l)) e)))
              (traded d t t' p p' q w
              (λ l h. omega (arith, s q (omega arith) (omega arith) l h, same_base l h))
              (λ l h. omega (arith, s (suc (suc q)) (omega arith) (omega arith) l h, same_base l h)))
          | above e g s ↦ absurd (omega arith)
          | under e g s ↦ absurd (omega arith)
        ];
  }

  pub mirror : (i : ℕ) → i < suc d → Mirror d base t i
  mirror zero h = first
  mirror (suc q) h = elim (dec_lt (suc q) d) [ yes m ↦ between q m | no m ↦ last q (omega arith) ]
