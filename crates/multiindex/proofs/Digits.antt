-- Digits raised, one digit at a time; and the list of all digits, by number: each is the one before it, raised. Assumes nothing.
use mathlib.Core.Path.{◌≡◌, refl, sym, ap, ◌∙◌}
use mathlib.Core.Bool.{Bool, true, false}
use mathlib.Core.List.{List, [], ◌∷◌, ◌++◌}
use Prim.Native.Nat.{ℕ, suc, ◌+◌, ◌*◌, ◌^◌, ◌≤◌, ◌<◌}
use native.Mathlib.Numerals.{add-one}
use native.Mathlib.Nat.{pow-suc, pow-le-pow_left, pow-le-pow_right, le_trans, le_of_eq}
use native.Mathlib.Omega.{arith}
use lib.ListN.{length, get_or, drop, set, replicate, length-append, length-drop, length-replicate, replicate-append-replicate, drop_of_length-le}
use lib.Seq.{drop-cons, append_snoc, get_or_at}
use borrow.Author.Tests.{lt-ltb, le-ltb}
use lib.Dec.{ltb}
use Rattle.lists.proofs.Front.{put}
use Rattle.refusal.specs.Limits.{most_dimension}
use Rattle.multiindex.specs.Cartesian.{most_base, carry, raised}

-- the digits from place j on, where the first of them goes up, or is the last digit
pub raised-up : (n : ℕ) (s : List ℕ) (j : ℕ) → j < length s → get_or s j 0 + 1 < n → raised n (drop j s) ≡ (get_or s j 0 + 1) ∷ drop (j + 1) s
raised-up n s j h l =
    rw (drop-cons s j 0 h, lt-ltb (suc (get_or s j 0)) n (omega arith), add-one (get_or s j 0), add-one j)

pub raised-over : (n : ℕ) (s : List ℕ) (j : ℕ) → j < length s → n ≤ get_or s j 0 + 1 → raised n (drop j s) ≡ 0 ∷ raised n (drop (j + 1) s)
raised-over n s j h l = rw (drop-cons s j 0 h, le-ltb (suc (get_or s j 0)) n (omega arith), add-one j)

-- The digits w, of which the first j are raised past the last digit: they are 0 again, and the rest stands as in s.
pub record Carried (n : ℕ) (s : List ℕ) (j : ℕ) (w : List ℕ) : Type 0 where
  pub within : j ≤ length s
  pub stands : w ≡ replicate j 0 ++ drop j s
  pub left : raised n s ≡ replicate j 0 ++ raised n (drop j s)

module _ (n : ℕ) (s : List ℕ) (j : ℕ) (w : List ℕ) (k : Carried n s j w) where
  pub carried-length : length w ≡ length s
  carried-length =
      ap length k.stands ∙ length-append (replicate j 0) (drop j s) ∙ omega (arith, length-replicate {A = ℕ} j 0, length-drop j s, k.within)

  pub carried-at : j < length s → get_or w j 0 ≡ get_or s j 0
  carried-at h =
      ap (λ (l : List ℕ). get_or l j 0) (k.stands ∙ ap (λ (l : List ℕ). replicate j 0 ++ l) (drop-cons s j 0 h))
      ∙ get_or_at (replicate j 0) (get_or s j 0) (drop (suc j) s) 0 j (length-replicate {A = ℕ} j 0)

  pub carried-put : (a : ℕ) → j < length s → set w j a ≡ replicate j 0 ++ (a ∷ drop (j + 1) s)
  carried-put a h =
      ap (λ (l : List ℕ). set l j a) k.stands ∙ put (replicate j 0) s j a (length-replicate {A = ℕ} j 0) h ∙ append_snoc (replicate j 0) a (drop (j + 1) s)

  pub carried-up : j < length s → get_or w j 0 + 1 < n → set w j (get_or w j 0 + 1) ≡ raised n s
  carried-up h l =
      let e : get_or w j 0 ≡ get_or s j 0 = carried-at h in
      carried-put (get_or w j 0 + 1) h
      ∙ ap (λ (x : ℕ). replicate j 0 ++ ((x + 1) ∷ drop (j + 1) s)) e
      ∙ ap (λ (l : List ℕ). replicate j 0 ++ l) (sym (raised-up n s j h (omega arith)))
      ∙ sym k.left

  pub carried-over : j < length s → n ≤ get_or w j 0 + 1 → Carried n s (j + 1) (set w j 0)
  carried-over h l =
      let e : get_or w j 0 ≡ get_or s j 0 = carried-at h in
      let m : replicate {A = ℕ} (j + 1) 0 ≡ replicate j 0 ++ (0 ∷ []) = sym (replicate-append-replicate {A = ℕ} j 1 0) in
      record {
        within = omega arith;
        stands = carried-put 0 h ∙ sym (append_snoc (replicate j 0) 0 (drop (j + 1) s)) ∙ ap (λ (l : List ℕ). l ++ drop (j + 1) s) (sym m);
        left =
            k.left
            ∙ ap (λ (l : List ℕ). replicate j 0 ++ l) (raised-over n s j h (omega arith))
            ∙ sym (append_snoc (replicate j 0) 0 (raised n (drop (j + 1) s)))
            ∙ ap (λ (l : List ℕ). l ++ raised n (drop (j + 1) s)) (sym m);
      }

  pub carried-end : length s ≤ j → w ≡ raised n s
  carried-end h =
      let e : drop j s ≡ [] = drop_of_length-le s h in
      k.stands ∙ ap (λ (l : List ℕ). replicate j 0 ++ l) e ∙ sym (k.left ∙ ap (λ (l : List ℕ). replicate j 0 ++ raised n l) e)

pub carried_none : (n : ℕ) (s : List ℕ) → Carried n s 0 s
carried_none n s = record { within = omega arith; stands = refl; left = refl }

-- powers to the dimensions fit
top : (j : ℕ) → j ≤ most_dimension → most_base ^ j ≤ 281474976710656
top j h = le_trans (pow-le-pow_right (omega arith) h) (omega arith)

pub power-most : (d n : ℕ) → d ≤ most_dimension → n ≤ most_base → n ^ d ≤ 281474976710656
power-most d n h l = le_trans (pow-le-pow_left l d) (top d h)

pub power-fits : (j n : ℕ) → j < most_dimension → n ≤ most_base → n ^ j * n ≤ 281474976710656
power-fits j n h l = le_trans (le_of_eq (sym (pow-suc n j))) (power-most (suc j) n h l)

carry-length : (b : Bool) (x : ℕ) (s t : List ℕ) → length s ≡ length t → length (carry b x s t) ≡ suc (length s)
carry-length true x s t e = refl
carry-length false x s t e = ap suc (sym e)

pub raised-length : (n : ℕ) (s : List ℕ) → length (raised n s) ≡ length s
raised-length n [] = refl
raised-length n (x ∷ s) = carry-length (ltb (suc x) n) x s (raised n s) (sym (raised-length n s))
