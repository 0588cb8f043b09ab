-- Words one after the other: how long they are, each of them, and cut again. Assumes nothing.
use mathlib.Core.List.Memᴰ
use mathlib.Core.List.{List, [], ◌∷◌, ◌++◌, append_assoc, append-nil, Memᴰ}
use mathlib.Core.Path.{◌≡◌, refl, sym, ap, ◌∙◌}
use mathlib.Core.Logic.{⊎_elim}
use Prim.Native.Nat.{ℕ, zero, suc, ◌+◌, ◌*◌, ◌/◌, ◌%◌, ◌<◌}
use native.Mathlib.Nat.{suc-mul, zero-mul, not-suc-le-zero, le_of_suc-le-suc, mul-mod_left, div-eq_of_eq-mul_left}
use native.Mathlib.Omega.{arith}
use lib.ListN.{length, get_or, take, drop, length-append}
use lib.Seq.{take_at, drop_at, drop-drop, take-add}
use Rattle.lists.specs.Rows.{flat, cut, rows}

-- words that are as long by place are as long
pub each_long : (n : ℕ) (ws : List (List ℕ)) → ((c : ℕ) → c < length ws → length (get_or ws c []) ≡ n) → (w : List ℕ) → Memᴰ w ws → length w ≡ n
each_long n [] f w m = absurd (Memᴰ.not-nil m)
each_long n (v ∷ ws) f w m = ⊎_elim (λ e. ap length e ∙ f 0 (omega arith)) (λ q. each_long n ws (λ c h. f (suc c) (omega arith)) w q) (Memᴰ.cases_cons m)

pub flat_append : (vs ws : List (List ℕ)) → flat (vs ++ ws) ≡ flat vs ++ flat ws
flat_append [] ws = refl
flat_append (v ∷ vs) ws = ap (λ (l : List ℕ). v ++ l) (flat_append vs ws) ∙ sym (append_assoc v (flat vs) (flat ws))

-- the words of a flat list, joined again
pub flat-cut : (n m : ℕ) (l : List ℕ) → flat (cut n m l) ≡ take (m * n) l
unfolding cut
flat-cut n zero l = ap (λ (k : ℕ). take k l) (sym (zero-mul n))
flat-cut n (suc m) l =
    let e : n + m * n ≡ suc m * n = omega (arith, suc-mul m n) in
    ap (λ (t : List ℕ). take n l ++ t) (flat-cut n m (drop n l)) ∙ sym (take-add n (m * n) l) ∙ ap (λ (k : ℕ). take k l) e

-- ---- words of n numbers
pub flat-length : (n : ℕ) (ws : List (List ℕ)) → ((w : List ℕ) → Memᴰ w ws → length w ≡ n) → length (flat ws) ≡ length ws * n
flat-length n [] f = sym (zero-mul n)
flat-length n (w ∷ ws) f =
    length-append w (flat ws)
    ∙ omega (arith, f w (Memᴰ.head refl), flat-length n ws (λ v m. f v (Memᴰ.tail m)), suc-mul (length ws) n)

-- word c
pub flat-at : (n : ℕ) (ws : List (List ℕ)) → ((w : List ℕ) → Memᴰ w ws → length w ≡ n) → (c : ℕ) → c < length ws → take n (drop (c * n) (flat ws)) ≡ get_or ws c []
flat-at n [] f c h = absurd (not-suc-le-zero h)
flat-at n (w ∷ ws) f zero h = ap (λ (o : ℕ). take n (drop o (w ++ flat ws))) (zero-mul n) ∙ take_at w (flat ws) n (f w (Memᴰ.head refl))
flat-at n (w ∷ ws) f (suc c) h =
    ap (λ (o : ℕ). take n (drop o (w ++ flat ws))) {x = suc c * n} {y = n + c * n} (omega (arith, suc-mul c n))
    ∙ ap (take n) (sym (drop-drop (c * n) n (w ++ flat ws)))
    ∙ ap (λ (l : List ℕ). take n (drop (c * n) l)) (drop_at w (flat ws) n (f w (Memᴰ.head refl)))
    ∙ flat-at n ws (λ v m. f v (Memᴰ.tail m)) c (le_of_suc-le-suc h)

-- cut again, from a list that begins with the words
pub cut-before : (n : ℕ) (ws : List (List ℕ)) (rest : List ℕ) → ((w : List ℕ) → Memᴰ w ws → length w ≡ n) → cut n (length ws) (flat ws ++ rest) ≡ ws
unfolding cut
cut-before n [] rest f = refl
cut-before n (w ∷ ws) rest f =
    let e : length w ≡ n = f w (Memᴰ.head refl) in
    let a : (w ++ flat ws) ++ rest ≡ w ++ (flat ws ++ rest) = append_assoc w (flat ws) rest in
    let g : take n ((w ++ flat ws) ++ rest) ≡ w = ap (take n) a ∙ take_at w (flat ws ++ rest) n e in
    let h : drop n ((w ++ flat ws) ++ rest) ≡ flat ws ++ rest = ap (drop n) a ∙ drop_at w (flat ws ++ rest) n e in
    let i : cut n (length ws) (drop n ((w ++ flat ws) ++ rest)) ≡ ws = ap (cut n (length ws)) h ∙ cut-before n ws rest (λ v m. f v (Memᴰ.tail m)) in
    cc (g, i)

pub cut-flat : (n : ℕ) (ws : List (List ℕ)) → ((w : List ℕ) → Memᴰ w ws → length w ≡ n) → cut n (length ws) (flat ws) ≡ ws
cut-flat n ws f = ap (cut n (length ws)) (sym (append-nil (flat ws))) ∙ cut-before n ws [] f

-- ---- words of at least one number
pub flat-count : (d : ℕ) (ws : List (List ℕ)) → ((w : List ℕ) → Memᴰ w ws → length w ≡ suc d) → length (flat ws) / suc d ≡ length ws
flat-count d ws f = div-eq_of_eq-mul_left {n = suc d} {m = length (flat ws)} {k = length ws} (omega arith) (flat-length (suc d) ws f)

pub flat-whole : (d : ℕ) (ws : List (List ℕ)) → ((w : List ℕ) → Memᴰ w ws → length w ≡ suc d) → length (flat ws) % suc d ≡ 0
flat-whole d ws f = ap (λ (m : ℕ). m % suc d) (flat-length (suc d) ws f) ∙ mul-mod_left (length ws) (suc d)

pub rows-flat : (d : ℕ) (ws : List (List ℕ)) → ((w : List ℕ) → Memᴰ w ws → length w ≡ suc d) → rows (suc d) (flat ws) ≡ ws
rows-flat d ws f = ap (λ (m : ℕ). cut (suc d) m (flat ws)) (flat-count d ws f) ∙ cut-flat (suc d) ws f
