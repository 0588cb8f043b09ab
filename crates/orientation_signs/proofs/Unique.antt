-- Oriented signs are determined, and with them all that the call comes to. Assumes nothing.
use mathlib.Core.List.{List}
use mathlib.Core.Path.{◌≡◌, refl, sym, ap, ◌∙◌}
use Prim.Native.Nat.{ℕ, zero, suc, ◌<◌}
use native.Mathlib.Decide.{dec_lt}
use native.Mathlib.Omega.{arith}
use lib.ListN.{length}
use Rattle.multiindex.specs.Sign.{Sign, plus, minus, opposite, times, induced}
use Rattle.orientation_signs.specs.Signs.{Coherent, Joined, here, across, Lowest, Oriented, sign_list}

-- ---- signs
pub double : (a : Sign) → opposite (opposite a) ≡ a
double plus = refl
double minus = refl

pub cancel : (a p : Sign) → times (times a p) p ≡ a
cancel plus plus = refl
cancel plus minus = refl
cancel minus plus = refl
cancel minus minus = refl

pub sign-cases : (a b : Sign) → Dec (a ≡ b)
sign-cases plus plus = yes refl
sign-cases plus minus = no (λ e. let z : ◌≡◌ {A = ℕ} 0 1 = cc in omega arith)
sign-cases minus plus = no (λ e. let z : ◌≡◌ {A = ℕ} 0 1 = cc in omega arith)
sign-cases minus minus = yes refl

-- the sign of a mate's cell
pub forced : (a b p q : Sign) → times a p ≡ opposite (times b q) → b ≡ times (opposite (times a p)) q
forced a b p q e = sym (cancel b q) ∙ ap (λ (x : Sign). times x q) (sym (double (times b q)) ∙ ap opposite (sym e))

-- ---- two oriented lists are equal
module _ {d : ℕ} {cs : List (List ℕ)} where
  -- along a piece two coherent lists are equal at the end where they are equal at the start, and back
  along : {σ τ : ℕ → Sign} → Coherent d cs σ → Coherent d cs τ → {c j : ℕ} → Joined d cs c j → σ j ≡ τ j → σ c ≡ τ c
  along p q here e = e
  along {σ} {τ} p q (across {c' = c'} {i = i} {c'' = c''} {i' = i'} w m) e =
      along p q w
      (sym (cancel (σ c') (induced i)) ∙ ap (λ (x : Sign). times x (induced i)) (p.opposed c' i c'' i' m ∙ ap (λ (x : Sign). opposite (times x (induced i'))) e ∙ sym (q.opposed c' i c'' i' m)) ∙ cancel (τ c') (induced i))

  joined_end : {c j : ℕ} → c < length cs → Joined d cs c j → j < length cs
  joined_end h here = h
  joined_end h (across w m) = m.that.cell

  module _ {σ τ : ℕ → Sign} (p : Oriented d cs σ) (q : Oriented d cs τ) where
    step : (m c : ℕ) → c < suc m → c < length cs → ((j : ℕ) → j < m → j < length cs → σ j ≡ τ j) → σ c ≡ τ c
    step m c l h before = elim (sign-cases (σ c) (τ c)) [ yes e ↦ e | no f ↦ absurd (f (p.lowest c h (low f) ∙ sym (q.lowest c h (low f)))) ]
      where
        low : (σ c ≡ τ c → ⊥) → Lowest d cs c
        low f j w = elim (dec_lt j c) [ yes g ↦ absurd (f (along p.coherent q.coherent w (before j (omega arith) (joined_end h w)))) | no g ↦ omega arith ]

    below : (m c : ℕ) → c < m → c < length cs → σ c ≡ τ c
    below zero c l h = absurd (omega arith)
    below (suc m) c l h = step m c l h (λ j a b. below m j a b)

    pub unique : (c : ℕ) → c < length cs → σ c ≡ τ c
    unique c h = below (suc c) c (omega arith) h

pub sign-lists : (σ τ : ℕ → Sign) (n : ℕ) → ((c : ℕ) → c < n → σ c ≡ τ c) → sign_list σ n ≡ sign_list τ n
sign-lists σ τ zero e = refl
sign-lists σ τ (suc n) e =
    let h : σ zero ≡ τ zero = e zero (omega arith) in
    let t : sign_list (λ c. σ (suc c)) n ≡ sign_list (λ c. τ (suc c)) n = sign-lists (λ c. σ (suc c)) (λ c. τ (suc c)) n (λ c l. e (suc c) (omega arith)) in
    cc

-- the sign list that orientation hands out is determined
pub one_list : (d : ℕ) (cs : List (List ℕ)) (σ τ : ℕ → Sign) → Oriented d cs σ → Oriented d cs τ → sign_list σ (length cs) ≡ sign_list τ (length cs)
one_list d cs σ τ p q = sign-lists σ τ (length cs) (unique p q)
