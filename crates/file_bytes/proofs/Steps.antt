-- One turn of each loop, and lists written from the front part by part. Assumes nothing.
use mathlib.Core.Path.{◌≡◌, refl, sym, ap, subst, ◌∙◌}
use mathlib.Core.List.{List, [], ◌∷◌, ◌++◌, append-nil}
use Prim.Native.Nat.{ℕ, zero, suc, ◌+◌, ◌*◌, ◌-◌, ◌^◌, ◌≤◌, ◌<◌}
use native.Mathlib.Nat.{pow-succ', mul_assoc}
use native.Mathlib.Numerals.{add-one}
use native.Mathlib.Omega.{arith}
use lib.ListN.{length, take, drop, get_or, set, length-append, length-drop, drop_of_length-le}
use lib.Seq.{drop-cons, drop-drop, take-add, length-take-le}
use Rattle.refusal.specs.Lent.{onto}
use Rattle.lists.proofs.Front.{put}
use Rattle.refine_pattern.proofs.Written.{Written, written-tail, written-room}
use Rattle.file_bytes.specs.Bytes.{little, said, fours, fours_of}
use Rattle.file_bytes.proofs.Laws.{fours_of-length}

-- ---- reading

pub two_said : (bs : List ℕ) (at : ℕ) → at + 2 ≤ length bs → get_or bs at 0 + 256 * get_or bs (at + 1) 0 ≡ said (take 2 (drop at bs))
unfolding said
two_said bs at h =
    let a : at < length bs = omega arith in
    let b : suc at < length bs = omega arith in
    rw (add-one at, drop-cons bs at 0 a, drop-cons bs (suc at) 0 b) (omega arith)

said-append : (xs ys : List ℕ) → said (xs ++ ys) ≡ said xs + 256 ^ length xs * said ys
unfolding said
said-append [] ys = omega arith
said-append (x ∷ xs) ys =
    let p : 256 ^ suc (length xs) * said ys ≡ 256 * (256 ^ length xs * said ys) =
    ap (λ (n : ℕ). n * said ys) (pow-succ' 256 (length xs)) ∙ mul_assoc 256 (256 ^ length xs) (said ys) in
    ap (λ (n : ℕ). x + 256 * n) (said-append xs ys) ∙ omega arith

pub four-said : (bs : List ℕ) (at : ℕ) → at + 4 ≤ length bs → said (take 2 (drop at bs)) + 65536 * said (take 2 (drop (at + 2) bs)) ≡ said (take 4 (drop at bs))
four-said bs at h =
    let l : length (take 2 (drop at bs)) ≡ 2 = length-take-le 2 (drop at bs) (omega (arith, length-drop at bs)) in
    sym
    (ap said (take-add 2 2 (drop at bs))
    ∙ said-append (take 2 (drop at bs)) (take 2 (drop 2 (drop at bs)))
    ∙ ap (λ (n : ℕ). said (take 2 (drop at bs)) + 256 ^ n * said (take 2 (drop 2 (drop at bs)))) l
    ∙ ap (λ (x : List ℕ). said (take 2 (drop at bs)) + 65536 * said (take 2 x)) (drop-drop 2 at bs))

fours_of-more : (i : ℕ) (bs : List ℕ) → fours_of (suc i) bs ≡ fours_of i bs ++ (said (take 4 (drop (i * 4) bs)) ∷ [])
unfolding fours_of
fours_of-more zero bs = refl
fours_of-more (suc i) bs =
    let e : drop (i * 4) (drop 4 bs) ≡ drop (suc i * 4) bs = drop-drop (i * 4) 4 bs ∙ ap (λ (n : ℕ). drop n bs) {x = 4 + i * 4} {y = suc i * 4} (omega arith) in
    ap (λ (l : List ℕ). said (take 4 bs) ∷ l) (fours_of-more i (drop 4 bs) ∙ ap (λ (x : List ℕ). fours_of i (drop 4 bs) ++ (said (take 4 x) ∷ [])) e)

pub read_more : (bs to₀ : List ℕ) (i v : ℕ) → i < length to₀ → v ≡ said (take 4 (drop (i * 4) bs)) →
    set (fours_of i bs ++ drop i to₀) i v ≡ fours_of (i + 1) bs ++ drop (i + 1) to₀
read_more bs to₀ i v h e =
    put (fours_of i bs) to₀ i v (fours_of-length i bs) h
    ∙ ap (λ (x : ℕ). (fours_of i bs ++ (x ∷ [])) ++ drop (i + 1) to₀) e
    ∙ ap (λ (l : List ℕ). l ++ drop (i + 1) to₀) (sym (fours_of-more i bs) ∙ ap (λ (n : ℕ). fours_of n bs) (sym (add-one i)))

pub read-end : (bs to₀ : List ℕ) (i : ℕ) → i ≡ length to₀ → fours_of i bs ++ drop i to₀ ≡ fours_of (length to₀) bs
read-end bs to₀ i e =
    ap (λ (n : ℕ). fours_of n bs ++ drop n to₀) e
    ∙ ap (λ (l : List ℕ). fours_of (length to₀) bs ++ l) (drop_of_length-le to₀ {i = length to₀} (omega arith))
    ∙ append-nil (fours_of (length to₀) bs)

-- ---- writing

pub put_two : (to : List ℕ) (a b : ℕ) → 2 ≤ length to → set (set to 0 a) 1 b ≡ a ∷ (b ∷ drop 2 to)
put_two [] a b h = absurd (omega arith)
put_two (x ∷ []) a b h = absurd (omega arith)
put_two (x ∷ (y ∷ to)) a b h = refl

pub put_four : (to : List ℕ) (a b c d : ℕ) → 4 ≤ length to → set (set (set (set to 0 a) 1 b) 2 c) 3 d ≡ a ∷ (b ∷ (c ∷ (d ∷ drop 4 to)))
put_four [] a b c d h = absurd (omega arith)
put_four (x ∷ []) a b c d h = absurd (omega arith)
put_four (x ∷ (y ∷ [])) a b c d h = absurd (omega arith)
put_four (x ∷ (y ∷ (z ∷ []))) a b c d h = absurd (omega arith)
put_four (x ∷ (y ∷ (z ∷ (w ∷ to)))) a b c d h = refl

-- the front of a list was written
pub written-front : (whole before x rest to : List ℕ) → whole ≡ x ++ rest → to ≡ onto x before → Written whole before rest (length x) to
written-front whole before x rest to e q = record { done = x; split = e; counted = refl; stands = q }

module _ (whole before rest : List ℕ) (at : ℕ) (to : List ℕ) (fits : length whole ≤ length before) (w : Written whole before rest at to) (x rest' : List ℕ) (e : rest ≡ x ++ rest') where
  -- there is room for the next part
  pub next-room : at + length x ≤ length to
  next-room = omega (arith, written-room whole before rest at to fits w, ap length e, length-append x rest')

  pub tail-room : length x ≤ length (take (length to - at) (drop at to))
  tail-room =
      let l : length (take (length to - at) (drop at to)) ≡ length to - at = length-take-le (length to - at) (drop at to) (omega (arith, length-drop at to)) in
      omega (arith, next-room)

  -- the next part was written
  pub tail_more : (next : ℕ) → at + length x ≡ next → (k : ℕ) (ys : List ℕ) → length to ≤ at + k → ys ≡ onto x (take k (drop at to)) →
      Written whole before rest' next (take at to ++ (ys ++ drop k (drop at to)))
  tail_more next n k ys h q =
      subst (λ (j : ℕ). Written whole before rest' j (take at to ++ (ys ++ drop k (drop at to)))) n (written-tail whole before rest at to fits w x rest' e k ys h q)

pub fours-next : (from : List ℕ) (i : ℕ) → i < length from → fours (drop i from) ≡ little 4 (get_or from i 0) ++ fours (drop (i + 1) from)
unfolding fours
fours-next from i h = rw (add-one i) (ap fours (drop-cons from i 0 h))

pub fours-end : (from : List ℕ) (i : ℕ) → length from ≤ i → fours (drop i from) ≡ []
unfolding fours
fours-end from i h = ap fours (drop_of_length-le from {i = i} h)
