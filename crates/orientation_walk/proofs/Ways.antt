-- What the links of a table force on coherent signs, and that oriented signs are determined. Assumes nothing.
use Prim.Native.Nat.{ℕ, zero, suc, ◌-◌, ◌<◌, ◌≤◌}
use mathlib.Core.Path.{◌≡◌, refl, sym, ap, subst, ◌∙◌}
use mathlib.Core.List.{List}
use native.Mathlib.Omega.{arith}
use native.Mathlib.Decide.{ℕ_discrete, dec_lt}
use Rattle.orientation_walk.specs.WorkSigns.{turned, Sign, Table, CoherentMarks, Way, Lowest, OrientedMarks}
use Rattle.orientation_walk.specs.WorkSigns.Way.{here, on}
use Rattle.orientation_walk.proofs.Lemmas.{turned-sign}

-- the sign s at a way's end, where x stands at its start, turns x by s - 1
compose : (f s x : ℕ) → Sign s → Sign x → turned f (turned (s - 1) x) ≡ turned (turned f s - 1) x
unfolding turned
compose zero s x a b = refl
compose (suc f) zero x a b = absurd (omega (arith, a.some))
compose (suc f) (suc zero) x a b = refl
compose (suc f) (suc (suc zero)) x a b = omega (arith, b.small)
compose (suc f) (suc (suc (suc s))) x a b = absurd (omega (arith, a.small))

turned-inj : (f x y : ℕ) → x ≤ 2 → y ≤ 2 → turned f x ≡ turned f y → x ≡ y
unfolding turned
turned-inj zero x y a b e = e
turned-inj (suc f) x y a b e = omega arith

pub same_sign_lem : (s t x : ℕ) → Sign s → Sign t → Sign x → turned (s - 1) x ≡ turned (t - 1) x → s ≡ t
unfolding turned
same_sign_lem zero t x a b c e = absurd (omega (arith, a.some))
same_sign_lem (suc zero) zero x a b c e = absurd (omega (arith, b.some))
same_sign_lem (suc zero) (suc zero) x a b c e = refl
same_sign_lem (suc zero) (suc (suc zero)) x a b c e = absurd (omega (arith, c.small))
same_sign_lem (suc zero) (suc (suc (suc t))) x a b c e = absurd (omega (arith, b.small))
same_sign_lem (suc (suc zero)) zero x a b c e = absurd (omega (arith, b.some))
same_sign_lem (suc (suc zero)) (suc zero) x a b c e = absurd (omega (arith, c.small))
same_sign_lem (suc (suc zero)) (suc (suc zero)) x a b c e = refl
same_sign_lem (suc (suc zero)) (suc (suc (suc t))) x a b c e = absurd (omega (arith, b.small))
same_sign_lem (suc (suc (suc s))) t x a b c e = absurd (omega (arith, a.small))

module _ {n k : ℕ} {o fl : List ℕ} where
  pub way-sign : {r c s : ℕ} → Way n k o fl r c s → Sign s
  way-sign (here e) = record { some = omega arith; small = omega arith }
  way-sign (on {s = s} {f = f} w l e) = rw e (turned-sign f s (way-sign w))

  pub way_end : {r c s : ℕ} → r < n → Way n k o fl r c s → c < n
  way_end h (here e) = h
  way_end h (on w l e) = l.cell

  -- a coherent σ is forced along a way
  pub forced : {σ : ℕ → ℕ} → CoherentMarks n k o fl σ → {r c s : ℕ} → r < n → Way n k o fl r c s → σ c ≡ turned (s - 1) (σ r)
  unfolding turned
  forced {σ} q {r} h (here e) = rw e
  forced {σ} q {r} h (on {c = c} {j = j} {s = s} {f = f} w l e) =
      rw e
      (q.agree c j f l ∙ ap (turned f) (forced q h w) ∙ compose f s (σ r) (way-sign w) (q.signs r h))

  way-trans : {a b c s t : ℕ} → Way n k o fl a b s → Way n k o fl b c t → (u : ℕ) × Way n k o fl a c u
  way-trans {s = s} v (here e) = (s, v)
  way-trans v (on {f = f} w l e) = let m = way-trans v w in (turned f m.0, on m.1 l refl)

  way_back : Table n k o fl → {r c s : ℕ} → Way n k o fl r c s → (u : ℕ) × Way n k o fl c r u
  way_back t (here e) = (1, here refl)
  way_back t (on {c = c} {j = j} {f = f} w l e) = way-trans (on (here refl) (t.back c j f l) refl) (way_back t w).1

  -- the lowest cell of a piece has + where its sign is that of a way from a cell not above it
  pub lowest-plus : Table n k o fl → {σ : ℕ → ℕ} → CoherentMarks n k o fl σ → (c r : ℕ) → c < n → r ≤ c → Way n k o fl r c (σ c) → Lowest n k o fl c → σ c ≡ 1
  unfolding turned
  lowest-plus t {σ} q c r h l w low =
      let b = way_back t w in
      let e : c ≤ r = low r b.0 b.1 in
      let e' : r ≡ c = omega arith in
      let w' : Way n k o fl c c (σ c) = subst (λ x. Way n k o fl x c (σ c)) e' w in
      last (σ c) (q.signs c h) (forced q h w')
    where
      last : (x : ℕ) → Sign x → x ≡ turned (x - 1) x → x ≡ 1
      last zero a e = absurd (omega (arith, a.some))
      last (suc zero) a e = refl
      last (suc (suc zero)) a e = absurd (omega arith)
      last (suc (suc (suc x))) a e = absurd (omega (arith, a.small))

  -- two oriented assignments are equal at each cell
  module _ {σ τ : ℕ → ℕ} (p : OrientedMarks n k o fl σ) (q : OrientedMarks n k o fl τ) where
    below : (m c : ℕ) → c < m → c < n → σ c ≡ τ c
    below zero c l h = absurd (omega arith)
    below (suc m) c l h = here-too c l h (λ j a b. below m j a b)
      where
        here-too : (c : ℕ) → c < suc m → c < n → ((j : ℕ) → j < m → j < n → σ j ≡ τ j) → σ c ≡ τ c
        here-too c l h before = elim (ℕ_discrete (σ c) (τ c)) [ yes e ↦ e | no f ↦ absurd (f (p.lowest c h (low f) ∙ sym (q.lowest c h (low f)))) ]
          where
            low : (σ c ≡ τ c → ⊥) → Lowest n k o fl c
            low f j s w = elim (dec_lt j c) [ yes g ↦ absurd (f (back g)) | no g ↦ omega arith ]
              where
                back : j < c → σ c ≡ τ c
                back g =
                    turned-inj (s - 1) (σ c) (τ c) (p.coherent.signs c h).small (q.coherent.signs c h).small
                    (sym (forced p.coherent h w) ∙ before j (omega arith) (way_end h w) ∙ forced q.coherent h w)

    pub unique : (c : ℕ) → c < n → σ c ≡ τ c
    unique c h = below (suc c) c (omega arith) h
