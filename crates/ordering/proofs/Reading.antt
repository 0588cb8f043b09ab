-- Reading words and marks out of flat lists. Assumes nothing.
use mathlib.Core.List.{List}
use mathlib.Core.Path.{◌≡◌, sym, ◌∙◌, subst}
use Prim.Native.Nat.{ℕ, ◌+◌, ◌-◌, ◌*◌, ◌/◌, ◌%◌, ◌<◌, ◌≤◌}
use native.Mathlib.Nat.{add-sub_cancel_left, mod-lt, mul-le-mul_left}
use native.Mathlib.Decide.{dec_lt}
use native.Mathlib.Omega.{arith}
use lib.ListN.{length, get_or, take, drop, set}
use lib.Seq.{get_or-set_same, get_or-set_other}
use Rattle.refusal.specs.Limits.{many_corners}
use Rattle.sorting.proofs.Rows.{pos-room}
use Rattle.complex.specs.Facets.{slots}
use Rattle.lists.proofs.Rows.{row-cell-below, slots-some}
use Rattle.complex_mates.proofs.Meeting.{slots-most}
use Rattle.lists.specs.Words.{same_word, without, none}
use Rattle.ordering.specs.WorkAgree.{row_word, Reading, Agreeing, AgreesAt, Clash}

-- where the words of rows x and y stand
pub record Placed (d k m : ℕ) (list : List ℕ) (x y : ℕ) : Type 0 where
  pub word : x / k * (d + 1) + (d + 1) ≤ m * (d + 1)
  pub other : y / k * (d + 1) + (d + 1) ≤ m * (d + 1)
  pub slot : x % k ≤ d
  pub other-slot : y % k ≤ d

pub placed : (d k m : ℕ) (list : List ℕ) (x y : ℕ) → Reading d k m list x y → Placed d k m list x y
placed d k m list x y r =
    record {
      word = pos-room (x / k) m (d + 1) r.cell;
      other = pos-room (y / k) m (d + 1) r.other;
      slot = omega (arith, mod-lt x r.some, r.few);
      other-slot = omega (arith, mod-lt y r.some, r.few);
    }

pub reread : (list : List ℕ) (a b n v t : ℕ) → same_word (without v (take (a + n - a) (drop a list))) (without t (take (b + n - b) (drop b list))) ≡ same_word (without v (take n (drop a list))) (without t (take n (drop b list)))
reread list a b n v t = rw (add-sub_cancel_left a n, add-sub_cancel_left b n)

-- what the test asks, with the number of slots as the code has it
module _ (d m : ℕ) (mates list : List ℕ) (w : Agreeing d m mates list) (k : ℕ) (e : k ≡ slots d) where
  rows_few : m * k ≤ m * (d + 1)
  rows_few = mul-le-mul_left m (omega (arith, slots-most d))

  pub total-small : m * k < many_corners
  total-small = omega (arith, rows_few, w.short)

  pub mates-room : m * k ≤ length mates
  mates-room = subst (λ (z : ℕ). m * z ≤ length mates) (sym e) w.mates_long

  pub mate-row : (x : ℕ) → x < m * k → (get_or mates x 0 ≡ none → ⊥) → get_or mates x 0 < m * k
  mate-row = subst (λ (z : ℕ). (x : ℕ) → x < m * z → (get_or mates x 0 ≡ none → ⊥) → get_or mates x 0 < m * z) (sym e) w.below

  pub reading : (x y : ℕ) → x < m * k → y < m * k → Reading d k m list x y
  reading x y hx hy =
      record {
        some = slots-some x m k hx;
        few = omega (arith, slots-most d);
        cell = row-cell-below x m k hx;
        other = row-cell-below y m k hy;
        long = w.long;
        short = w.short;
        dim = w.dim;
      }

  pub all-agree : ((x : ℕ) → x < m * k → (get_or mates x 0 ≡ none → ⊥) → row_word d k m list x ≡ row_word d k m list (get_or mates x 0)) → (x : ℕ) → x < m * slots d → AgreesAt d m mates list x
  all-agree = subst (λ (z : ℕ). ((x : ℕ) → x < m * z → (get_or mates x 0 ≡ none → ⊥) → row_word d z m list x ≡ row_word d z m list (get_or mates x 0)) → (x : ℕ) → x < m * slots d → AgreesAt d m mates list x) (sym e) (λ f. f)

  pub clashes : (x : ℕ) → x < m * k → (get_or mates x 0 ≡ none → ⊥) → (row_word d k m list x ≡ row_word d k m list (get_or mates x 0) → ⊥) → Clash d m mates list
  clashes = subst (λ (z : ℕ). (x : ℕ) → x < m * z → (get_or mates x 0 ≡ none → ⊥) → (row_word d z m list x ≡ row_word d z m list (get_or mates x 0) → ⊥) → Clash d m mates list) (sym e) (λ x h s f. record { at = x; below = h; other = λ g. f (g s) })

-- one number more is stored
pub store-more : (l : List ℕ) (c v : ℕ) (f : ℕ → ℕ) → c < length l → ((j : ℕ) → j < c → get_or l j 0 ≡ f j) → v ≡ f c → (j : ℕ) → j < c + 1 → get_or (set l c v) j 0 ≡ f j
store-more l c v f h old e j q =
    elim (dec_lt j c) [
      | yes p ↦ get_or-set_other l c j v 0 (λ s. omega arith) ∙ old j p
      | no p ↦ let s : c ≡ j = omega arith in subst (λ (z : ℕ). get_or (set l c v) z 0 ≡ f z) s (get_or-set_same l c v 0 h ∙ e)
    ]
