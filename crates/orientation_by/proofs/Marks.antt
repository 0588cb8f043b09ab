-- A caller's signs as marks. Assumes nothing.
use mathlib.Core.List.{List, [], ◌∷◌}
use mathlib.Core.Path.{◌≡◌, refl, sym, ap, ◌∙◌, subst}
use Prim.Native.Nat.{ℕ, zero, suc, ◌+◌, ◌<◌}
use native.Mathlib.Decide.{dec_lt}
use native.Mathlib.Omega.{arith}
use lib.IntN.{ℤ, pos, negsuc}
use mir.Val.{SFits, to_z, of_z}
use mir.Facts.{to_z-of_z}
use mir.Syntax.{w32}
use lib.ListN.{length, get_or, set}
use lib.Seq.{get_or-set_same, get_or-set_other}
use Rattle.orientation_walk.specs.WorkSigns as walk
use Rattle.multiindex.specs.Sign.{Sign, plus, minus, sign_number}
use Rattle.orientation_signs.specs.Signs.{sign_list}
use Rattle.orientation_signs.specs.WorkFound.{sign_of}
use Rattle.orientation.proofs.Steps.{length-signs}
use Rattle.orientation_by.specs.Promise.{Given}
use Rattle.orientation_by.specs.WorkTest.{mark_of, TakenOver}

sign-mark : (z : ℤ) → (mark_of z ≡ 0 → ⊥) → sign_number (sign_of (mark_of z)) ≡ z
sign-mark (pos zero) h = absurd (h refl)
sign-mark (pos (suc zero)) h = refl
sign-mark (pos (suc (suc n))) h = absurd (h refl)
sign-mark (negsuc zero) h = refl
sign-mark (negsuc (suc n)) h = absurd (h refl)

mark-fits : (z : ℤ) → (mark_of z ≡ 0 → ⊥) → walk.Sign (mark_of z)
mark-fits (pos zero) h = absurd (h refl)
mark-fits (pos (suc zero)) h = record { some = omega arith; small = omega arith }
mark-fits (pos (suc (suc n))) h = absurd (h refl)
mark-fits (negsuc zero) h = record { some = omega arith; small = omega arith }
mark-fits (negsuc (suc n)) h = absurd (h refl)

number-marked : (a : Sign) → mark_of (sign_number a) ≡ 0 → ⊥
number-marked plus e = omega arith
number-marked minus e = omega arith

-- neither +1 nor -1
no-mark : (z : ℤ) → (z ≡ pos 1 → ⊥) → (z ≡ negsuc 0 → ⊥) → 0 ≡ mark_of z
no-mark (pos zero) f g = refl
no-mark (pos (suc zero)) f g = absurd (f refl)
no-mark (pos (suc (suc n))) f g = refl
no-mark (negsuc zero) f g = absurd (g refl)
no-mark (negsuc (suc n)) f g = refl

-- an i32 is told by its bits
pub plus-mark : (z : ℤ) → SFits w32 z → of_z w32 z ≡ 1 → 1 ≡ mark_of z
plus-mark z f e = ap mark_of (ap (to_z w32) (sym e) ∙ to_z-of_z f)

pub minus-mark : (z : ℤ) → SFits w32 z → of_z w32 z ≡ 4294967295 → 2 ≡ mark_of z
minus-mark z f e = ap mark_of (ap (to_z w32) (sym e) ∙ to_z-of_z f)

pub other-mark : (z : ℤ) → (of_z w32 z ≡ 1 → ⊥) → (of_z w32 z ≡ 4294967295 → ⊥) → 0 ≡ mark_of z
other-mark z f g = no-mark z (λ e. f (ap (of_z w32) e)) (λ e. g (ap (of_z w32) e))

sign_at_lem : (σ : ℕ → Sign) (n c : ℕ) → c < n → get_or (sign_list σ n) c (pos 0) ≡ sign_number (σ c)
sign_at_lem σ zero c h = absurd (omega arith)
sign_at_lem σ (suc n) zero h = refl
sign_at_lem σ (suc n) (suc c) h = sign_at_lem (λ c. σ (suc c)) n c (omega arith)

given-of : (signs : List ℤ) (σ : ℕ → Sign) → ((c : ℕ) → c < length signs → get_or signs c (pos 0) ≡ sign_number (σ c)) → Given signs (length signs) σ
given-of [] σ f = refl
given-of (x ∷ xs) σ f =
    let h : x ≡ sign_number (σ zero) = f 0 (omega arith) in
    let t : xs ≡ sign_list (λ c. σ (suc c)) (length xs) = given-of xs (λ c. σ (suc c)) (λ c l. f (suc c) (omega arith)) in
    cc

-- mark c is that of sign c, which has one
abbrev pub Marked : List ℤ → List ℕ → ℕ → Type 0
Marked signs marks c = (get_or marks c 0 ≡ mark_of (get_or signs c (pos 0))) × (mark_of (get_or signs c (pos 0)) ≡ 0 → ⊥)

pub marked_more : (signs : List ℤ) (marks : List ℕ) (c v : ℕ) → c < length marks → ((j : ℕ) → j < c → Marked signs marks j) → v ≡ mark_of (get_or signs c (pos 0)) → (v ≡ 0 → ⊥) → (j : ℕ) → j < c + 1 → Marked signs (set marks c v) j
marked_more signs marks c v h old e f j l =
    elim (dec_lt j c) [
      | yes q ↦ let o = old j q in (get_or-set_other marks c j v 0 (λ s. omega arith) ∙ o.0, o.1)
      | no q ↦ let s : c ≡ j = omega arith in subst (λ (z : ℕ). Marked signs (set marks c v) z) s (get_or-set_same marks c v 0 h ∙ e, λ z. f (e ∙ z))
    ]

pub taken : (m : ℕ) (signs : List ℤ) (marks : List ℕ) → length signs ≡ m → ((j : ℕ) → j < length signs → Marked signs marks j) → TakenOver m signs marks
taken m signs marks e f =
    record {
      given =
          subst (λ (n : ℕ). Given signs n (λ c. sign_of (get_or marks c 0))) e
          (given-of signs (λ c. sign_of (get_or marks c 0)) (λ c h. sym (ap (λ (n : ℕ). sign_number (sign_of n)) (f c h).0 ∙ sign-mark (get_or signs c (pos 0)) (f c h).1)));
      fit = λ c h. let l : c < length signs = omega arith in subst walk.Sign (sym (f c l).0) (mark-fits (get_or signs c (pos 0)) (f c l).1);
    }

-- 14: another length, or a number that is no sign
pub unfit-length : (m : ℕ) (signs : List ℤ) → (length signs ≡ m → ⊥) → (σ : ℕ → Sign) → Given signs m σ → ⊥
unfit-length m signs f σ g = f (ap length g ∙ length-signs σ m)

pub unfit-at : (m : ℕ) (signs : List ℤ) (c : ℕ) → c < length signs → mark_of (get_or signs c (pos 0)) ≡ 0 → (σ : ℕ → Sign) → Given signs m σ → ⊥
unfit-at m signs c h z σ g =
    let l : c < m = omega (arith, ap length g, length-signs σ m) in
    number-marked (σ c) (ap mark_of (sym (sign_at_lem σ m c l) ∙ ap (λ (s : List ℤ). get_or s c (pos 0)) (sym g)) ∙ z)

-- two signs of one list are equal on its cells
pub given-one : (signs : List ℤ) (n : ℕ) (σ τ : ℕ → Sign) → Given signs n σ → Given signs n τ → (c : ℕ) → c < n → σ c ≡ τ c
given-one signs n σ τ g g' c h = signs-one (σ c) (τ c) (sym (sign_at_lem σ n c h) ∙ ap (λ (s : List ℤ). get_or s c (pos 0)) (sym g ∙ g') ∙ sign_at_lem τ n c h)
  where
    signs-one : (a b : Sign) → sign_number a ≡ sign_number b → a ≡ b
    signs-one plus plus e = refl
    signs-one plus minus e = let z : ◌≡◌ {A = ℕ} 0 1 = cc in absurd (omega arith)
    signs-one minus plus e = let z : ◌≡◌ {A = ℕ} 0 1 = cc in absurd (omega arith)
    signs-one minus minus e = refl
